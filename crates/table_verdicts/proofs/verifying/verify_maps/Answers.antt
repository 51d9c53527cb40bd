use Rattle.std.proofs.Common.{◌++◌, ℕ, List, ap, ◌∙◌, string_bytes}
use Rattle.wad_dir.specs.Wad.{file_of}
use Rattle.table_verdicts.proofs.Telling.{comes_more, name_more, report_more}
use Rattle.table_verdicts.specs.declared.verdict.MapVerdict.{MapVerdict}
use Rattle.table_verdicts.specs.Report.{verdict_row}
use Rattle.table_verdicts.specs.Verdicts.{SaysOf}
use Rattle.table_verdicts.proofs.verifying.verify_maps.Goals as goal

pub loop-name-preserved : goal.loop-name-preserved
loop-name-preserved g c =
    let pushed = c.in_ok-push.ensures.items in
    let written = c.in_ok-push_str.ensures.bytes ∙ ap (λ (xs : List ℕ). string_bytes c.loop-name.report ++ xs) c.deref-in-loop-name.ensures in
    record {
      each = name_more (λ (v : MapVerdict). v.name) c.args.names.now c.loop-name.name-index _ c.loop-name.verdicts.items c.push.new.self.items c.in_ok-verdict.verdict c.loop-name-test.true c.loop-name.invariant.each c.in_ok-verdict.ensures.name pushed;
      says = comes_more (SaysOf (file_of c.args.bytes.now c.args.wad.now) c.args.large) c.loop-name.verdicts.items c.push.new.self.items c.in_ok-verdict.verdict c.loop-name.invariant.says c.in_ok-verdict.ensures.says pushed;
      report = report_more (verdict_row c.args.spelling) c.loop-name.verdicts.items c.push.new.self.items c.in_ok-verdict.verdict (string_bytes c.loop-name.report) (string_bytes c.in_ok-row.row) (string_bytes c.push_str.new.self) c.loop-name.invariant.report c.in_ok-row.ensures written pushed;
    }
