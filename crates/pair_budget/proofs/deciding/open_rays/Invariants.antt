use Rattle.sight_names.specs.declared.names.PairRay.{PairRay}
use Rattle.pair_budget.specs.Opened.{OpensBefore}
use Rattle.pair_budget.proofs.deciding.open_rays.Given as goal

abbrev pub invariant-loop-ray : goal.invariant-loop-ray
invariant-loop-ray l = OpensBefore PairRay (λ r. r.pair) l.rays l.ray-index l.initial.seen l.seen
