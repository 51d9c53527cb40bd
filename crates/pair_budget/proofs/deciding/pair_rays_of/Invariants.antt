use Rattle.std.proofs.Common.{◌≡◌, take}
use Rattle.pair_budget.specs.PairRays.{KeepsOneEach, all_rays}
use Rattle.pair_budget.proofs.deciding.pair_rays_of.Given as goal

abbrev pub invariant-loop-walked : goal.invariant-loop-walked
invariant-loop-walked l = (l.pair_rays.sectors ≡ l.plan.sectors) × KeepsOneEach (all_rays (take l.walked-index l.results)) l.pair_rays.rays
