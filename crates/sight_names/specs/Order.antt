-- Lists in order.
use Rattle.std.specs.Prelude.{◌≡◌, ℕ, ◌<◌, ◌⊎◌, List, Some, slice_get}
use Rattle.sight_names.specs.declared.names.Pair.{Pair}

-- each element is related to each later one
abbrev pub Ascends : {X : Type 0} → (X → X → Type 0) → List X → Type 0
Ascends {X} R xs = (i j : ℕ) (x y : X) → i < j → slice_get xs i ≡ Some x → slice_get xs j ≡ Some y → R x y

-- by the first sector, then by the second
abbrev pub PairBefore : Pair → Pair → Type 0
PairBefore p q = (p.a < q.a) ⊎ ((p.a ≡ q.a) × (p.b < q.b))
