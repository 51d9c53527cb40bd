-- What contracts see of a table, and what its calls answer.
use Rattle.std.specs.Prelude.{◌≡◌, ◌≢◌, ℕ, ◌+◌, ◌*◌, ◌<◌, ◌⊎◌, ◌↔◌, List, Result, Ok, Err, length, ⊤}
use Rattle.std.specs.Int.{div_ceil}
use Rattle.sight_names.specs.declared.faults.TableFault.{TableFault}
use Rattle.sight_names.specs.declared.faults.TableFault.TheVariants.{WrongLength, Memory}
use Rattle.sight_names.specs.Table.{table_bit, IsTable, Rejected, HasNoSpareBit}

-- a number of sectors, and the bytes of their table
pub record TableParts : Type 0 where
  pub n : ℕ
  pub bytes : List ℕ

-- a table has the length that its sectors ask, and its spare bits are zero
pub record IsTableWhole (t : TableParts) : Type 0 where
  pub len : IsTable t.n t.bytes
  pub no_spare : HasNoSpareBit t.n t.bytes

-- the bit of the pair is set
abbrev pub Rejects : TableParts → ℕ → ℕ → Type 0
Rejects t a b = Rejected t.n t.bytes a b

-- the bytes t has the bits of the pairs as the bytes s
abbrev pub HasSameBits : ℕ → List ℕ → List ℕ → Type 0
HasSameBits n s t = (k : ℕ) → k < n * n → table_bit t k ≡ table_bit s k

-- bytes are taken as a table exactly where their length is that of a table; the fault has both lengths
abbrev pub TakesBytes : ℕ → List ℕ → Result TableParts TableFault → Type 0
TakesBytes n bytes (Ok t) = (t.n ≡ n) × HasSameBits n bytes t.bytes × IsTable n bytes
TakesBytes n bytes (Err (WrongLength found expected)) = (found ≡ length bytes) × (expected ≡ div_ceil (n * n) 8) × (found ≢ expected)
TakesBytes n bytes (Err (Memory _)) = ⊤

-- the bit of the pair is set, and every other bit is as before
pub record SetsPair (old new : TableParts) (a b : ℕ) : Type 0 where
  pub sectors : new.n ≡ old.n
  pub set : Rejects new a b
  pub others : (k : ℕ) → k ≢ a * old.n + b → table_bit new.bytes k ≡ table_bit old.bytes k

-- pairs of sectors other than (a, b) are rejected as before
abbrev pub KeepsOtherPairs : TableParts → TableParts → ℕ → ℕ → Type 0
KeepsOtherPairs old new a b = (c d : ℕ) → c < old.n → d < old.n → (c ≢ a) ⊎ (d ≢ b) → (Rejects new c d ↔ Rejects old c d)

-- a table of the same sectors, with the bits that the other hasn't
pub record HasOtherBits (marks t : TableParts) : Type 0 where
  pub sectors_are : t.n ≡ marks.n
  pub bits : (a b : ℕ) → a < marks.n → b < marks.n → Rejects t a b ↔ (¬ Rejects marks a b)
