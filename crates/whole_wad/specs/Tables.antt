-- What a map gets: a table and the list of the pairs whose budgets ran out, or the flaw for which it gets none.
use Rattle.std.specs.Prelude.{◌≡◌, Result, Ok, Err, ⊤}
use Rattle.sight_names.specs.declared.names.Method.{Method}
use Rattle.sight_names.specs.Map.{Map}
use Rattle.sight_names.specs.Sound.{LinesMeetAtEnds}
use Rattle.map_audit.specs.Audit.{IsLineFault}
use Rattle.certificates.specs.declared.certificate.Certificate.{Certificate}
use Rattle.map_answers.specs.declared.sight_status.status.Flaw.TheVariants as flaw
use Rattle.map_answers.specs.declared.sight_status.status.Status.{Status}
use Rattle.map_answers.specs.declared.sight_status.status.Status.TheVariants as status
use Rattle.map_answers.specs.Sound.{HasOpenSide}
use Rattle.whole_wad.specs.declared.building.Built.{Built}
use Rattle.whole_wad.specs.declared.tables.MapTable.{MapTable}
use Rattle.whole_wad.specs.Built.{IsBuiltOf}

-- what was built, where this was its certificate
abbrev pub built_with : MapTable → Certificate → Built
built_with made cert = record { table = made.table; listed = made.listed; cert = cert }

-- This is the table of the map by this method, and its list: some certificate was built with them.
pub record IsTableOfMap (m : Map) (by : Method) (made : MapTable) : Type 0 where
  pub cert : Certificate
  pub is_built : IsBuiltOf m by (built_with made cert)

-- The first flaw for which the map gets no table.
abbrev pub IsFlawOf : Map → Status → Type 0
IsFlawOf m (status.BadMap (flaw.Line fault)) = IsLineFault m fault
IsFlawOf m (status.BadMap (flaw.Open side)) = LinesMeetAtEnds m × HasOpenSide m side
IsFlawOf m other = ⊥

-- what a map gets that was read, or why none was read
abbrev pub Gets : Result Map Status → Method → Result MapTable Status → Type 0
Gets (Ok m) by (Ok made) = IsTableOfMap m by made
Gets (Ok m) by (Err refusal) = IsFlawOf m refusal
Gets (Err refusal) by made = made ≡ Err refusal

-- .. unless memory ran out
abbrev pub GetsOrMemory : Result Map Status → Method → Result MapTable Status → Type 0
GetsOrMemory said by (Err (status.Memory _)) = ⊤
GetsOrMemory said by made = Gets said by made
