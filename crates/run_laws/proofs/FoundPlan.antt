-- A map that was found is that of a plan.
use Rattle.std.proofs.Common.{◌≡◌, ℕ, List, Bool, true, false, Err, Result, Ok, subst}
use Rattle.sight_names.specs.declared.faults.LumpFault.TheVariants as lump
use Rattle.sight_names.specs.declared.names.Reading.{Reading}
use Rattle.sight_names.specs.Lumps.{lump_fault, map_of_lumps}
use Rattle.udmf_map.specs.declared.faults.TextFault.{TextFault}
use Rattle.udmf_map.specs.declared.faults.TextFault.TheVariants as text
use Rattle.udmf_map.specs.Lumps.{LumpBytes, lumps_of_text}
use Rattle.sight_names.specs.Map.{Map, map_of}
use Rattle.sight_names.specs.Plan.{IsPlan, PlanParts}
use Rattle.wad_dir.specs.declared.parts.MapSpot.{MapSpot}
use Rattle.wad_dir.specs.Wad.{WadFile}
use Rattle.run_laws.proofs.Planned.{HasPlan, lumps_have_plan}
use Rattle.map_answers.specs.Input.{lump_at, map_at, of_four_lumps, of_text, reading_at, spelled_map}
use Rattle.map_answers.specs.SightStatus.Answer.{◌>>=◌}
use Rattle.map_answers.proofs.Linedefs.{no_fault}

four_plan : (reading : Reading) (linedefs sidedefs vertexes sectors : List ℕ) (m : Map) → of_four_lumps reading linedefs sidedefs vertexes sectors ≡ Ok m → HasPlan m
four_plan reading linedefs sidedefs vertexes sectors m e =
    let t = no_fault (lump_fault reading linedefs sidedefs vertexes sectors) (map_of_lumps reading.format linedefs sidedefs vertexes sectors) m e in
    subst HasPlan t.1 (lumps_have_plan reading linedefs sidedefs vertexes sectors t.0)

text_plan : (reading : Reading) (r : Result LumpBytes TextFault) (m : Map) → of_text r >>= (λ (l : LumpBytes). of_four_lumps reading l.linedefs l.sidedefs l.vertexes l.sectors) ≡ Ok m → HasPlan m
text_plan reading (Ok l) m e = four_plan reading l.linedefs l.sidedefs l.vertexes l.sectors m e
text_plan reading (Err (text.TooManyVertices count)) m e = absurd cc
text_plan reading (Err (text.TooManySides count)) m e = absurd cc
text_plan reading (Err (text.Memory _)) m e = absurd cc
text_plan reading (Err fault) m e = absurd cc

spelled_plan : (t : Bool) (reading : Reading) (linedefs sidedefs vertexes sectors : List ℕ) (m : Map) → spelled_map t reading linedefs sidedefs vertexes sectors ≡ Ok m → HasPlan m
spelled_plan true reading linedefs sidedefs vertexes sectors m e = text_plan reading (lumps_of_text linedefs) m e
spelled_plan false reading linedefs sidedefs vertexes sectors m e = four_plan reading linedefs sidedefs vertexes sectors m e

pub map_at_plan : (large : Bool) (w : WadFile) (spot : MapSpot) (m : Map) → map_at large w spot ≡ Ok m → HasPlan m
map_at_plan large w spot m e = spelled_plan spot.text (reading_at large spot) (lump_at w spot.linedefs) (lump_at w spot.sidedefs) (lump_at w spot.vertexes) (lump_at w spot.sectors) m e

-- what holds of the map of each plan holds of a map that has one
pub of_plan : (P : Map → Type 0) (m : Map) → HasPlan m → ((p : PlanParts) → IsPlan p → P (map_of p)) → P m
of_plan P m h each = subst P h.is (each h.parts h.is_plan)
