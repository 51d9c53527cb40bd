-- How many stabbable sequences a source has.
use Rattle.std.specs.Prelude.{◌≡◌, ℕ, max, List, [], ◌∷◌, Option, length}
use Rattle.sight_names.specs.declared.names.Triangle.{Triangle}
use Rattle.sight_names.specs.Map.{Map}
use Rattle.sight_names.specs.Sequence.{Sequence}
use Rattle.sight_lift.specs.SequenceLaws.InOrder.{AreAllOf}

-- the list of all stabbable sequences of the source has this length
abbrev pub HasSequences : Map → List Triangle → List (Option ℕ) → ℕ → ℕ → Type 0
HasSequences m ts ls a n = (all : List Sequence) × AreAllOf m ts ls a all × (length all ≡ n)

-- the greatest of the numbers, 0 where there is none
abbrev pub greatest : List ℕ → ℕ
greatest [] = 0
greatest (n ∷ ns) = max n (greatest ns)
