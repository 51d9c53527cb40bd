use Rattle.std.proofs.Common.{ℕ, ◌<◌, get_or}
use Rattle.sight_names.specs.declared.names.PairRay.{PairRay}
use Rattle.found_rays.proofs.judged.have_ordered_pairs.Given as goal

abbrev pub invariant-loop-one : goal.invariant-loop-one
invariant-loop-one l = (k : ℕ) (d : PairRay) → k < l.one-index → (get_or l.rays k d).pair.a < (get_or l.rays k d).pair.b
