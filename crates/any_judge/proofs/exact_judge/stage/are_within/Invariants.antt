use Rattle.std.proofs.Common.{ℕ, ◌<◌, get_or}
use Rattle.sight_names.specs.declared.names.PairRay.{PairRay}
use Rattle.cert_checker.specs.Pairs.{IsPairWithin}
use Rattle.any_judge.proofs.exact_judge.stage.are_within.Given as goal

abbrev pub invariant-loop-one : goal.invariant-loop-one
invariant-loop-one l = (k : ℕ) (d : PairRay) → k < l.one-index → IsPairWithin l.count (get_or l.rays k d).pair
