-- Rows out of which bits were taken, and what is still to be asked by a walk with such rows.
use Rattle.std.specs.Prelude.{◌≡◌, ℕ, ◌⊎◌, List, [], ◌∷◌, length, slice_index, true}
use Rattle.std.specs.Int.{bit_at}
use Rattle.gate_floods.specs.declared.row_judge.walk.RowWalk.{RowWalk}
use Rattle.gate_floods.specs.RowJudge.Asked.{Pending}
use Rattle.gate_floods.specs.RowJudge.Words.{is_in, row_in_words}

-- each bit of the one word is set in the other
abbrev pub IsPartOf : ℕ → ℕ → Type 0
IsPartOf x y = (k : ℕ) → bit_at x k ≡ 1 → bit_at y k ≡ 1

-- each number of the one row is in the other
abbrev pub IsRowWithin : List ℕ → List ℕ → Type 0
IsRowWithin xs ys = (c : ℕ) → is_in xs c ≡ true → is_in ys c ≡ true

-- so many words, without any new bit
pub record AreThinner (old new : List ℕ) : Type 0 where
  pub len : length new ≡ length old
  pub words : (j : ℕ) → IsPartOf (slice_index new j) (slice_index old j)

-- the walk, but for its rows
pub record SameButRows (old new : RowWalk) : Type 0 where
  pub source : new.source ≡ old.source
  pub path : new.path ≡ old.path
  pub waits : new.waits ≡ old.waits
  pub follow : new.follow ≡ old.follow

-- the walk's present row has nothing that its first one doesn't have
abbrev pub IsPresent : ℕ → RowWalk → Type 0
IsPresent width w = IsRowWithin (row_in_words w.rows.items width w.follow.row) (row_in_words w.rows.items width 0)

-- one half-edge with a row that has no more
pub record IsThinned (p q : Pending) : Type 0 where
  pub path : q.path ≡ p.path
  pub edge : q.edge ≡ p.edge
  pub row : IsRowWithin q.row p.row

-- some of these half-edges in order, with rows that have no more
abbrev pub AreThinned : List Pending → List Pending → Type 0
AreThinned [] qs = qs ≡ []
AreThinned (p ∷ ps) qs = ((q : Pending) × (rest : List Pending) × (qs ≡ q ∷ rest) × IsThinned p q × AreThinned ps rest) ⊎ AreThinned ps qs
