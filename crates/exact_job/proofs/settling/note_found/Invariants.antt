use Rattle.std.proofs.Common.{◌≡◌, ◌++◌, map, take}
use Rattle.pair_budget.specs.PairRays.{toward}
use Rattle.exact_job.proofs.settling.note_found.Given as goal

abbrev pub invariant-loop-reached : goal.invariant-loop-reached
invariant-loop-reached l = l.rays.items ≡ l.initial.rays.items ++ map (toward l.source) (take l.reached-index l.found)
