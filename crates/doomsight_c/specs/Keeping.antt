-- What a build that is kept gives, and what is copied out of it.
use Rattle.std.specs.Prelude.{◌≡◌, ℕ, List, [], Option, Some, None, Result, Ok}
use Rattle.sight_names.specs.declared.names.Method.{Method}
use Rattle.sight_names.specs.Map.{Map}
use Rattle.map_answers.specs.declared.sight_status.status.Status.{Status}
use Rattle.whole_wad.specs.declared.building.Built.{Built}
use Rattle.whole_wad.specs.Built.{IsBuiltOf}
use Rattle.doomsight_c.specs.declared.fault.DoomsightFault.{DoomsightFault}
use Rattle.doomsight_c.specs.declared.counts.DoomsightCounts.{DoomsightCounts}
use Rattle.doomsight_c.specs.declared.kept.Kept.{Kept}
use Rattle.doomsight_c.specs.Built.{IsGiven, Refuses}
use Rattle.doomsight_c.specs.Faults.{fault_view}
use Rattle.doomsight_c.specs.Lines.{status_in}
use Rattle.doomsight_c.specs.Piece.{CopiesFrom}
use Rattle.doomsight_c.specs.Whole.{IsWholeOf}

-- the bytes of the table that a handle keeps, and of the certificate; none where it keeps nothing
abbrev pub table_of : Option Kept → List ℕ
table_of None = []
table_of (Some kept) = kept.table.bytes

abbrev pub kept_cert : Option Kept → List ℕ
kept_cert None = []
kept_cert (Some kept) = kept.cert.items

-- the handle keeps something, and that is the whole of what was built
pub record HoldsWhole (b : Built) (held : Option Kept) (counts : DoomsightCounts) : Type 0 where
  pub kept : Kept
  pub is_held : held ≡ Some kept
  pub whole : IsWholeOf b kept.table.bytes kept.cert.items counts

-- the handle keeps the table and the whole certificate of the map that was read, and these are their counts
pub record IsKept (read : Result Map Status) (by : Method) (held : Option Kept) (counts : DoomsightCounts) : Type 0 where
  pub map : Map
  pub is_read : read ≡ Ok map
  pub built : Built
  pub is_built : IsBuiltOf map by built
  pub holds : HoldsWhole built held counts

-- the numbers are those of a refusal for which the lumps call, and tell it
pub record IsCalledFor (read : Result Map Status) (fault : DoomsightFault) : Type 0 where
  pub refusal : Status
  pub is : fault ≡ fault_view refusal
  pub told : status_in fault ≡ refusal
  pub called : Refuses read refusal

-- why nothing is kept: a number of the call is out of order, or else what the lumps call for
abbrev pub IsNotKept : Option DoomsightFault → Result Map Status → DoomsightFault → Type 0
IsNotKept (Some wrong) read fault = fault ≡ wrong
IsNotKept None read fault = IsCalledFor read fault

-- What is copied out of a kept build, the whole table and the front of the certificate, is what the build into buffers gives. So that
-- is a build that is kept, copied and freed.
abbrev pub KeptIsGiven : Type 0
KeptIsGiven = (read : Result Map Status) (by : Method) (held : Option Kept) (counts : DoomsightCounts) → IsKept read by held counts
    → (reject before after : List ℕ) (count : ℕ) → reject ≡ table_of held → CopiesFrom (kept_cert held) 0 before after count → IsGiven read by reject before after counts
