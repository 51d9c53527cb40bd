-- The first tree of which a wrong node was found.
use Rattle.std.specs.Prelude.{◌≡◌, ℕ, ◌<◌, List, Option, None, Some, MatchOption, slice_get}
use Rattle.exact_checker.specs.declared.trees.WrongNode.{WrongNode}

-- nothing was found of each of the first trees
abbrev pub HasNone : List (Option ℕ) → ℕ → Type 0
HasNone found n = (f : ℕ) (o : Option ℕ) → f < n → slice_get found f ≡ Some o → o ≡ None

-- nothing was found of any tree, or it is told of which first, and what
abbrev pub IsFirstFound : List (Option ℕ) → Option WrongNode → Type 0
IsFirstFound found wrong = MatchOption wrong ((n : ℕ) → HasNone found n) (λ w. (slice_get found w.source ≡ Some (Some w.node)) × HasNone found w.source)
