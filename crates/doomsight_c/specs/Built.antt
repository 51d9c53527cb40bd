-- What the build of four lumps gives.
use Rattle.std.specs.Prelude.{◌≡◌, ◌≢◌, ◌<◌, ◌-◌, ◌*◌, ◌^◌, ◌⊎◌, ℕ, List, Option, Some, None, Result, Ok, Err, take, drop, min, length, ⊤}
use Rattle.std.specs.Int.{div_ceil}
use Rattle.sight_names.specs.declared.names.Method.{Method}
use Rattle.sight_names.specs.Map.{Map}
use Rattle.certificates.specs.declared.certificate.Certificate.{Certificate}
use Rattle.certificates.specs.Grammar.{Spells, sizes_of_certificate}
use Rattle.map_answers.specs.declared.counts.Counts.{Counts}
use Rattle.map_answers.specs.Counts.{counts_with}
use Rattle.map_answers.specs.Sound.{IsAuditRefusal}
use Rattle.map_answers.specs.declared.sight_status.status.Status.{Status}
use Rattle.map_answers.specs.declared.sight_status.status.Status.TheVariants as status
use Rattle.whole_wad.specs.declared.building.Built.{Built}
use Rattle.whole_wad.specs.Built.{IsBuiltOf}
use Rattle.doomsight_c.specs.declared.fault.DoomsightFault.{DoomsightFault}
use Rattle.doomsight_c.specs.declared.counts.DoomsightCounts.{DoomsightCounts}
use Rattle.doomsight_c.specs.Faults.{fault_view, wide}
use Rattle.doomsight_c.specs.Lines.{status_in}

-- how many bytes the table of so many sectors has
abbrev pub table_size : ℕ → ℕ
table_size n = div_ceil (n * n) 8

-- the front of the spelling stands at the front of the buffer, as far as it goes; what is behind it stays; and the number is that of
-- the bytes of the spelling, unless there are as many as the greatest number of 64 bits
pub record SpellsInto (cert : Certificate) (before after : List ℕ) (size : ℕ) : Type 0 where
  pub bytes : List ℕ
  pub spells : Spells (sizes_of_certificate cert) bytes cert
  pub front : take (min (length before) (length bytes)) after ≡ take (min (length before) (length bytes)) bytes
  pub rest : drop (min (length before) (length bytes)) after ≡ drop (min (length before) (length bytes)) before
  pub counted : length bytes < 2 ^ 64 - 1 → size ≡ length bytes
  pub not_more : size < 2 ^ 64 - 1 → size ≡ length bytes

-- the counts of a table as C reads them, and the size of its certificate
abbrev pub counts_view : Counts → ℕ → DoomsightCounts
counts_view c size = record { sectors = c.sectors; set = c.set; clear = c.clear; listed = c.listed; cert_size = size }

-- what was built stands in the buffers
pub record IsPutInBuffers (b : Built) (reject cert_before cert_after : List ℕ) (counts : DoomsightCounts) : Type 0 where
  pub table : reject ≡ b.table.bytes
  pub cert : SpellsInto b.cert cert_before cert_after counts.cert_size
  pub counted : counts ≡ counts_view (counts_with b.table (length b.listed)) counts.cert_size

-- the table, the counts and, as far as there is room, the certificate of the map that was read
pub record IsGiven (read : Result Map Status) (by : Method) (reject cert_before cert_after : List ℕ) (counts : DoomsightCounts) : Type 0 where
  pub map : Map
  pub is_read : read ≡ Ok map
  pub built : Built
  pub is_built : IsBuiltOf map by built
  pub put : IsPutInBuffers built reject cert_before cert_after counts

-- the lumps call for this refusal: they are no map, or the map isn't sound
abbrev pub Refuses : Result Map Status → Status → Type 0
Refuses (Ok m) s = IsAuditRefusal m s
Refuses (Err r) (status.Memory _) = ⊤
Refuses (Err r) s = s ≡ r

-- the buffer for the table has another length than the table of the map that was read
pub record IsUnfit (read : Result Map Status) (size : ℕ) (fault : DoomsightFault) : Type 0 where
  pub map : Map
  pub is_read : read ≡ Ok map
  pub other : size ≢ table_size map.sectors
  -- the numbers have the length of the table
  pub is : fault ≡ wide 2 15 (table_size map.sectors) 0

-- the numbers are those of a refusal for which the lumps call, and tell it; the buffer has the length of the table
pub record IsBuildRefused (read : Result Map Status) (size : ℕ) (fault : DoomsightFault) : Type 0 where
  pub refusal : Status
  pub is : fault ≡ fault_view refusal
  pub told : status_in fault ≡ refusal
  pub called : Refuses read refusal
  pub fits : (m : Map) → read ≡ Ok m → (refusal ≡ status.Memory tt) ⊎ (size ≡ table_size m.sectors)

-- why the lumps get no table in a buffer of this length
abbrev pub IsNoTable : Result Map Status → ℕ → DoomsightFault → Type 0
IsNoTable read size fault = IsUnfit read size fault ⊎ IsBuildRefused read size fault

-- why there is no table: a number of the call is out of order, or else what the lumps call for
abbrev pub IsNotBuilt : Option DoomsightFault → Result Map Status → ℕ → DoomsightFault → Type 0
IsNotBuilt (Some wrong) read size fault = fault ≡ wrong
IsNotBuilt None read size fault = IsNoTable read size fault

-- ---- parts of it

-- what was built of the map that was read, for a buffer of this length
pub record IsBuiltFor (read : Result Map Status) (by : Method) (size : ℕ) (b : Built) : Type 0 where
  pub map : Map
  pub is_read : read ≡ Ok map
  pub is_built : IsBuiltOf map by b
  pub fits : size ≡ table_size b.table.n
