-- The bits of pairs, set one pair after the other.
use Rattle.std.specs.Prelude.{◌≡◌, ℕ, ◌<◌, ◌⊎◌, ◌↔◌, List, Some, Bool, slice_get}
use Rattle.sight_names.specs.declared.names.Pair.{Pair}
use Rattle.reject_bits.specs.Parts.{TableParts, Rejects}
use Rattle.pair_budget.specs.Rows.{IsSectorMarked}

-- the pair is of these two, in the one order or in the other
abbrev pub IsPairOfTwo : Pair → ℕ → ℕ → Type 0
IsPairOfTwo p c d = ((c ≡ p.a) × (d ≡ p.b)) ⊎ ((c ≡ p.b) × (d ≡ p.a))

-- both bits of the pair are set too, and no others
pub record OpensPair (p : Pair) (old new : TableParts) : Type 0 where
  pub sectors : new.n ≡ old.n
  pub bits : (c d : ℕ) → c < old.n → d < old.n → Rejects new c d ↔ (Rejects old c d ⊎ IsPairOfTwo p c d)

-- one of the first n of these has a pair of the two
abbrev pub HasBefore : (X : Type 0) (pair : X → Pair) → List X → ℕ → ℕ → ℕ → Type 0
HasBefore X pair xs n c d = (k : ℕ) × (x : X) × (k < n) × (slice_get xs k ≡ Some x) × IsPairOfTwo (pair x) c d

-- both bits of the pairs of the first n are set too, and no others
pub record OpensBefore (X : Type 0) (pair : X → Pair) (xs : List X) (n : ℕ) (old new : TableParts) : Type 0 where
  pub sectors : new.n ≡ old.n
  pub bits : (c d : ℕ) → c < old.n → d < old.n → Rejects new c d ↔ (Rejects old c d ⊎ HasBefore X pair xs n c d)

-- of a table without a bit those of the first n marked sectors with themselves are set
pub record OpensNamed (named : List Bool) (n : ℕ) (old new : TableParts) : Type 0 where
  pub sectors : new.n ≡ old.n
  pub bits : (c d : ℕ) → c < old.n → d < old.n → Rejects new c d ↔ ((c ≡ d) × (c < n) × IsSectorMarked named c)
