-- The REJECT that a map has in its WAD, as a table.
use Rattle.std.specs.Prelude.{◌≡◌, ℕ, ◌<◌, ◌≤◌, List, length}
use Rattle.reject_bits.specs.Parts.{HasSameBits, IsTableWhole, TableParts}
use Rattle.whole_wad.specs.Rejects.{table_len}
use Rattle.table_verdicts.specs.declared.own.OwnTable.{OwnTable}
use Rattle.table_verdicts.specs.declared.own.OwnTable.TheVariants as own

-- the bytes are too few for a table of so many sectors: so many in place of so many
pub record IsRejectShort (n : ℕ) (reject : List ℕ) (found expected : ℕ) : Type 0 where
  pub are : found ≡ length reject
  pub asked : expected ≡ table_len n
  pub fewer : found < expected

-- The table of so many sectors at the front of the bytes. What stands behind it isn't read.
pub record IsAtFront (n : ℕ) (reject : List ℕ) (table : TableParts) : Type 0 where
  pub enough : table_len n ≤ length reject
  pub sectors : table.n ≡ n
  pub bits : HasSameBits n reject table.bytes
  pub whole : IsTableWhole table

abbrev pub IsOwnTable : ℕ → List ℕ → OwnTable → Type 0
IsOwnTable n reject (own.Whole table) = IsAtFront n reject table
IsOwnTable n reject (own.Short found expected) = IsRejectShort n reject found expected
