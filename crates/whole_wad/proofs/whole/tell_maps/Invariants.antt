use Rattle.std.proofs.Common.{◌≡◌, drop, map, string_bytes, take, None}
use Rattle.std.specs.List.{AllByRecursion}
use Rattle.wad_dir.specs.Wad.{file_of}
use Rattle.map_answers.specs.declared.sight_status.status.Status.{Status}
use Rattle.whole_wad.specs.declared.outcomes.MapOutcome.{MapOutcome}
use Rattle.whole_wad.specs.Outcomes.{ComesOf, stop_of_all}
use Rattle.whole_wad.specs.Report.{outcomes_report}
use Rattle.whole_wad.specs.Stop.{StopsAt}
use Rattle.whole_wad.proofs.whole.tell_maps.Given as goal

abbrev pub invariant-loop-name : goal.invariant-loop-name
invariant-loop-name g l = record {
  each : map (λ (o : MapOutcome). o.name) l.outcomes.items ≡ take l.name-index l.names;
  comes : AllByRecursion (ComesOf (file_of l.bytes l.wad) l.large l.method l.refused) l.outcomes.items;
  goes_on : AllByRecursion (λ (o : MapOutcome). stop_of_all l.refused o.made ≡ None) l.outcomes.items;
  ahead : (s : Status) → StopsAt (file_of l.bytes l.wad) l.large l.method l.refused s (drop l.name-index l.names) → StopsAt (file_of l.bytes l.wad) l.large l.method l.refused s l.names;
  report : string_bytes l.report ≡ outcomes_report l.spelling l.outcomes.items;
}
