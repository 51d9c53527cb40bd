-- What a reader of the four lumps answers.
use Rattle.std.specs.Prelude.{◌≡◌, ℕ, ◌/◌, ◌%◌, ◌≤◌, ◌==◌, not, if◌then◌else◌, List, Option, Some, None, Result, Ok, Err, length, ⊤}
use Rattle.sight_names.specs.declared.faults.Lump.{Lump}
use Rattle.sight_names.specs.declared.faults.Lump.TheVariants.{Linedefs, Sidedefs, Vertexes, Sectors}
use Rattle.sight_names.specs.declared.faults.LumpFault.{LumpFault}
use Rattle.sight_names.specs.declared.faults.LumpFault.TheVariants.{Memory}
use Rattle.sight_names.specs.declared.names.MapFormat.{MapFormat}
use Rattle.sight_names.specs.declared.names.Reading.{Reading}
use Rattle.sight_names.specs.Limits.{most_lines, most_sectors}
use Rattle.sight_names.specs.Lumps.{linedef_len, vertex_len, count_linedefs}
use Rattle.sight_names.specs.Plan.{PlanParts}
use Rattle.map_lumps.specs.Records.{AllSound}

-- a plan comes exactly where no check fails, and a fault is that of the first check that does; want of memory is free
abbrev pub AnswersFirstFault : Result PlanParts LumpFault → Option LumpFault → Type 0
AnswersFirstFault (Ok plan) first = first ≡ None
AnswersFirstFault (Err (Memory _)) first = ⊤
AnswersFirstFault (Err fault) first = first ≡ Some fault

-- the checks that need no memory have passed
pub record PassesChecks (reading : Reading) (linedefs sidedefs vertexes sectors : List ℕ) : Type 0 where
  pub whole_linedefs : length linedefs % linedef_len reading.format ≡ 0
  pub whole_sidedefs : length sidedefs % 30 ≡ 0
  pub whole_vertexes : length vertexes % vertex_len reading.format ≡ 0
  pub whole_sectors : length sectors % 26 ≡ 0
  pub few_sectors : length sectors / 26 ≤ most_sectors reading.large
  pub few_lines : count_linedefs reading.format linedefs ≤ most_lines reading.large
  pub each : AllSound reading.format linedefs sidedefs vertexes sectors

-- the first lump whose size is no multiple of its record
abbrev pub cut_lump : MapFormat → List ℕ → List ℕ → List ℕ → List ℕ → Option Lump
cut_lump format linedefs sidedefs vertexes sectors =
    if not (length linedefs % linedef_len format == 0) then Some Linedefs
    else if not (length sidedefs % 30 == 0) then Some Sidedefs
    else if not (length vertexes % vertex_len format == 0) then Some Vertexes
    else if not (length sectors % 26 == 0) then Some Sectors
    else None
