-- The lines that block sound are read once for each line of the map.
use Rattle.std.proofs.Common.{◌≡◌, ℕ, List, Bool, Ok, length, sym, ap, ◌∙◌}
use Rattle.std.proofs.lemmas.List.FromFn.{length-map-range_with_len}
use Rattle.std.specs.Prelude.{◌/◌}
use Rattle.sight_names.specs.declared.names.Reading.{Reading}
use Rattle.sight_names.specs.Lumps.{linedef_len}
use Rattle.sight_names.specs.Map.{map_of}
use Rattle.sight_names.specs.Plan.{PlanParts}
use Rattle.sound_reach.specs.Dampers.{dampers_of, is_damper}
use Rattle.map_answers.specs.Input.{of_four_lumps}
use Rattle.map_answers.proofs.Linedefs.{linedefs_fit}

pub one_each : (reading : Reading) (linedefs sidedefs vertexes sectors : List ℕ) (p : PlanParts) (read : List Bool) → of_four_lumps reading linedefs sidedefs vertexes sectors ≡ Ok (map_of p) → read ≡ dampers_of reading.format linedefs → length read ≡ length p.lines
one_each reading linedefs sidedefs vertexes sectors p read spelled is =
    let fit = linedefs_fit reading linedefs sidedefs vertexes sectors p spelled in
    ap length is ∙ length-map-range_with_len (is_damper reading.format linedefs) 0 (length linedefs / linedef_len reading.format) ∙ sym fit.1
