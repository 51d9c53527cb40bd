use Rattle.std.proofs.Common.{◌∙◌, ◌++◌, ℕ, List, ap, codes}
use Rattle.fault_report.specs.Rows.{kind_text, sideless_row}
use Rattle.fault_report.proofs.report.sideless_text.Goals as goal

pub returns : goal.returns
returns c =
    let spelled = c.args.spelling in
    let line = sideless_row spelled c.args.plan.now in
    record {
      lines = c.in_ok-lines.lines.items;
      are = c.in_ok-lines.ensures;
      is = c.in_ok-push_kind.ensures ∙ ap (λ (ys : List ℕ). ys ++ kind_text spelled line (codes "lines without a side") c.as_slice.result.now) c.new-text.ensures.bytes ∙ ap (kind_text spelled line (codes "lines without a side")) c.as_slice.ensures.value;
    }
