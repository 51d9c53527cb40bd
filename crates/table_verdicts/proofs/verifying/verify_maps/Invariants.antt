use Rattle.std.proofs.Common.{◌≡◌, map, string_bytes, take}
use Rattle.std.specs.List.{AllByRecursion}
use Rattle.wad_dir.specs.Wad.{file_of}
use Rattle.table_verdicts.specs.declared.verdict.MapVerdict.{MapVerdict}
use Rattle.table_verdicts.specs.Report.{verdicts_report}
use Rattle.table_verdicts.specs.Verdicts.{SaysOf}
use Rattle.table_verdicts.proofs.verifying.verify_maps.Given as goal

abbrev pub invariant-loop-name : goal.invariant-loop-name
invariant-loop-name g l = record {
  each : map (λ (v : MapVerdict). v.name) l.verdicts.items ≡ take l.name-index l.names;
  says : AllByRecursion (SaysOf (file_of l.bytes l.wad) l.large) l.verdicts.items;
  report : string_bytes l.report ≡ verdicts_report l.spelling l.verdicts.items;
}
