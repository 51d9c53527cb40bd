use Rattle.std.proofs.Common.{List}
use Rattle.sight_names.specs.declared.names.PairRay.{PairRay}
use Rattle.exact_checker.specs.Owning.{owning_of, IsOwnedBit, KnowsOwning}
use Rattle.exact_checker.proofs.Owned.{WordsBelow}
use Rattle.exact_checker.proofs.owning.put_owned.Given as goal

abbrev pub invariant-loop-place : goal.invariant-loop-place
invariant-loop-place l = (rays : List PairRay) → KnowsOwning rays (owning_of l.known) → WordsBelow (IsOwnedBit rays l.known.components.now l.known.count l.source) l.place l.words
