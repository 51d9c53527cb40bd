-- The four lumps of a text of UDMF in the buffers of C.
use Rattle.std.specs.Prelude.{◌≡◌, ℕ, List, Result, Ok, min, length, take, drop}
use Rattle.udmf_map.specs.declared.faults.TextFault.{TextFault}
use Rattle.udmf_map.specs.declared.faults.TextFault.TheVariants as text
use Rattle.udmf_map.specs.Lumps.{LumpBytes}
use Rattle.udmf_map.specs.Reading.{FailsText}
use Rattle.map_answers.specs.declared.sight_status.status.Bound.TheVariants as bound
use Rattle.map_answers.specs.declared.sight_status.status.Status.{Status}
use Rattle.map_answers.specs.declared.sight_status.status.Status.TheVariants as status
use Rattle.doomsight_c.specs.declared.fault.DoomsightFault.{DoomsightFault}
use Rattle.doomsight_c.specs.declared.udmf.DoomsightLumpSizes.{DoomsightLumpSizes}
use Rattle.doomsight_c.specs.Faults.{fault_view}
use Rattle.doomsight_c.specs.Lines.{status_in}

-- how the program ends with a text that is no map
abbrev pub status_of_text : TextFault → Status
status_of_text (text.Text at) = status.BadText (text.Text at)
status_of_text (text.Namespace at) = status.BadText (text.Namespace at)
status_of_text (text.Value at) = status.BadText (text.Value at)
status_of_text (text.TooManyVertices count) = status.Limit bound.Vertices
status_of_text (text.TooManySides count) = status.Limit bound.Sides
status_of_text (text.Portal line) = status.BadText (text.Portal line)
status_of_text (text.OffGrid vertex) = status.BadText (text.OffGrid vertex)
status_of_text (text.Memory _) = status.Memory tt

-- the bytes stand at the front of the buffer, as many as there are and as there is room for; what is behind them stays
pub record PutsBytes (bytes before after : List ℕ) : Type 0 where
  pub front : take (min (length before) (length bytes)) after ≡ take (min (length before) (length bytes)) bytes
  pub rest : drop (min (length before) (length bytes)) after ≡ drop (min (length before) (length bytes)) before

abbrev pub sizes_of_lumps : LumpBytes → DoomsightLumpSizes
sizes_of_lumps l = record { linedefs = length l.linedefs; sidedefs = length l.sidedefs; vertexes = length l.vertexes; sectors = length l.sectors }

-- the four lumps that were read of a text, each in its buffer, with the buffers as they were before and as they are, and their sizes
pub record IsSpelledOut (read : Result LumpBytes TextFault) (linedefs_before linedefs_after sidedefs_before sidedefs_after vertexes_before vertexes_after sectors_before sectors_after : List ℕ) (sizes : DoomsightLumpSizes) : Type 0 where
  pub lumps : LumpBytes
  pub is_read : read ≡ Ok lumps
  pub linedefs : PutsBytes lumps.linedefs linedefs_before linedefs_after
  pub sidedefs : PutsBytes lumps.sidedefs sidedefs_before sidedefs_after
  pub vertexes : PutsBytes lumps.vertexes vertexes_before vertexes_after
  pub sectors : PutsBytes lumps.sectors sectors_before sectors_after
  pub sized : sizes ≡ sizes_of_lumps lumps

-- the numbers are those of the first fault of the text, or of want of memory, and tell it
pub record IsNoText (read : Result LumpBytes TextFault) (fault : DoomsightFault) : Type 0 where
  pub refusal : TextFault
  pub is : fault ≡ fault_view (status_of_text refusal)
  pub told : status_in fault ≡ status_of_text refusal
  pub called : FailsText refusal read
