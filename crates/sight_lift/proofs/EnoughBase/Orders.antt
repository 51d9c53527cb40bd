-- Lists of sequences that ascend have no repetition.
use Rattle.std.proofs.Common.{◌≡◌, sym, subst, List, [], ◌∷◌}
use Rattle.sight_names.specs.Sequence.{Sequence}
use Rattle.sight_names.specs.Found.{SequenceBefore}
use Rattle.sight_names.proofs.Lists.{ascends_tail, ascends_head}
use Rattle.sight_names.specs.Order.{Ascends}
use Rattle.sight_names.proofs.OnePlace.{before_irreflexive}
use Rattle.sight_lift.proofs.EnoughBase.Few.{Differ}
use Rattle.math_base.proofs.Lists.{all_of}

pub ascending_differ : (xs : List Sequence) → Ascends SequenceBefore xs → Differ xs
ascending_differ [] h = tt
ascending_differ (x ∷ xs) h = (
  all_of (λ y. ¬ (x ≡ y)) xs (λ y c e. before_irreflexive x (subst (SequenceBefore x) (sym e) (ascends_head SequenceBefore x y xs h c))),
  ascending_differ xs (ascends_tail SequenceBefore x xs h),
)
