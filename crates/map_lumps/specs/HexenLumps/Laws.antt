-- What holds of a map in both formats. Each is the contract of a function of this crate.
use Rattle.std.specs.Prelude.{◌≡◌, ◌⊎◌, ℕ, ◌%◌, Bool, List, Result, Ok, Err, IfOk, length}
use Rattle.sight_names.specs.declared.faults.LumpFault.{LumpFault}
use Rattle.sight_names.specs.declared.faults.LumpFault.TheVariants.{Memory}
use Rattle.sight_names.specs.declared.names.Reading.{Reading}
use Rattle.sight_names.specs.declared.names.MapFormat.TheVariants.{Doom, Hexen}
use Rattle.sight_names.specs.Lumps.{lump_fault, map_of_lumps}
use Rattle.sight_names.specs.Map.{map_of}
use Rattle.sight_names.specs.Plan.{PlanParts, IsPlan}
use Rattle.map_lumps.specs.Answers.{AnswersFirstFault}
use Rattle.map_lumps.specs.HexenLumps.Turned.{hexen_of}

-- the reading of a map in each format, by these limits
abbrev pub as_doom : Bool → Reading
as_doom large = record { format = Doom; large = large }

abbrev pub as_hexen : Bool → Reading
as_hexen large = record { format = Hexen; large = large }

abbrev pub SpellsTheSame : Type 0
SpellsTheSame = (large : Bool) (linedefs sidedefs vertexes sectors : List ℕ) → length linedefs % 14 ≡ 0 →
    (map_of_lumps Hexen (hexen_of linedefs) sidedefs vertexes sectors ≡ map_of_lumps Doom linedefs sidedefs vertexes sectors)
    × (lump_fault (as_hexen large) (hexen_of linedefs) sidedefs vertexes sectors ≡ lump_fault (as_doom large) linedefs sidedefs vertexes sectors)

-- what the clauses of `read_lumps` say of its answer to four lumps
pub record IsReadOf (reading : Reading) (linedefs sidedefs vertexes sectors : List ℕ) (answer : Result PlanParts LumpFault) : Type 0 where
  pub map : IfOk answer (λ plan. map_of plan ≡ map_of_lumps reading.format linedefs sidedefs vertexes sectors)
  pub plan : IfOk answer IsPlan
  pub fault : AnswersFirstFault answer (lump_fault reading linedefs sidedefs vertexes sectors)

abbrev pub IsReadTheSame : Type 0
IsReadTheSame = (large : Bool) (linedefs sidedefs vertexes sectors : List ℕ) (plan : PlanParts) (answer : Result PlanParts LumpFault)
    → IsReadOf (as_doom large) linedefs sidedefs vertexes sectors (Ok plan) → IsReadOf (as_hexen large) (hexen_of linedefs) sidedefs vertexes sectors answer → (answer ≡ Ok plan) ⊎ (answer ≡ Err (Memory tt))
