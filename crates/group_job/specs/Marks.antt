-- Bits that are set beside those that a table has.
use Rattle.std.specs.Prelude.{◌≡◌, ℕ, ◌<◌, ◌⊎◌, ◌↔◌}
use Rattle.reject_bits.specs.Parts.{TableParts, Rejects}

-- the bits of these pairs are set too, and no others
pub record SetsMore (these : ℕ → ℕ → Type 0) (old new : TableParts) : Type 0 where
  pub sectors : new.n ≡ old.n
  pub bits : (a b : ℕ) → a < old.n → b < old.n → Rejects new a b ↔ (Rejects old a b ⊎ these a b)

-- the pairs of the first so many steps
abbrev pub OfSteps : (ℕ → ℕ → ℕ → Type 0) → ℕ → ℕ → ℕ → Type 0
OfSteps step n a b = (i : ℕ) × (i < n) × step i a b

-- a table of so many sectors has the bits of the pairs of the first so many steps, and no others
pub record HasStepBits (step : ℕ → ℕ → ℕ → Type 0) (n sectors : ℕ) (t : TableParts) : Type 0 where
  pub sectors_are : t.n ≡ sectors
  pub bits : (a b : ℕ) → a < sectors → b < sectors → Rejects t a b ↔ OfSteps step n a b
