use Rattle.std.proofs.Common.{◌∙◌, ◌++◌, ℕ, List, ap, codes}
use Rattle.fault_report.specs.Rows.{kind_text, nameless_row}
use Rattle.fault_report.proofs.report.nameless_text.Goals as goal

pub returns : goal.returns
returns c =
    let spelled = c.args.spelling in
    let line = nameless_row spelled c.args.plan.now in
    record {
      sectors = c.in_ok-sectors.sectors.items;
      are = c.in_ok-sectors.ensures;
      is = c.in_ok-push_kind.ensures ∙ ap (λ (ys : List ℕ). ys ++ kind_text spelled line (codes "sectors without a side") c.as_slice.result.now) c.new-text.ensures.bytes ∙ ap (kind_text spelled line (codes "sectors without a side")) c.as_slice.ensures.value;
    }
