-- Eight columns of a table beside each other.
use Rattle.std.specs.Prelude.{◌≡◌, ℕ, ◌+◌, ◌<◌, ◌≤◌, ◌↔◌, List, length, slice_index}
use Rattle.std.specs.Int.{bit_at}
use Rattle.reject_bits.specs.Parts.{TableParts, Rejects}
use Rattle.cert_checker.specs.declared.columns.Columns.{Columns}

-- a byte for each row; in the rows from the first column on bit i is that of column first + i
pub record AreColumnsFrom (t : TableParts) (first : ℕ) (bytes : List ℕ) : Type 0 where
  pub len : length bytes ≡ t.n
  pub bits : (b i : ℕ) → first ≤ b → b < t.n → i < 8 → (bit_at (slice_index bytes b) i ≡ 1) ↔ Rejects t b (first + i)

abbrev pub AreColumns : TableParts → Columns → Type 0
AreColumns t c = AreColumnsFrom t c.first c.bytes.items

-- the column is among them
abbrev pub HasColumn : Columns → ℕ → Type 0
HasColumn c column = (c.first ≤ column) × (column < c.first + 8)
