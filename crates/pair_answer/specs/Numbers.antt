-- Lists of numbers.
use Rattle.std.specs.Prelude.{◌≡◌, ℕ, ◌<◌, List, [], ◌∷◌, ◌++◌, Bool, true, false, Some, slice_get, Contains}

-- the number behind the others, if it is added
abbrev pub added : Bool → ℕ → List ℕ → List ℕ
added true x xs = xs ++ x ∷ []
added false x xs = xs

-- each is below this number
abbrev pub AreBelow : ℕ → List ℕ → Type 0
AreBelow n xs = (x : ℕ) → Contains xs x → x < n

-- one of the first n
abbrev pub IsAmongFirst : ℕ → List ℕ → ℕ → Type 0
IsAmongFirst n xs x = (i : ℕ) × (i < n) × (slice_get xs i ≡ Some x)
