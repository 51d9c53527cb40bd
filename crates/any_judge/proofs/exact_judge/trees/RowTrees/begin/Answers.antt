use Rattle.std.proofs.Common.{◌+◌, [], true, refl, sym, ◌∙◌, subst, arith}
use Rattle.math_base.proofs.Options.{none_where_not_some}
use Rattle.gate_floods.specs.RowJudge.Masks.{MaskRows}
use Rattle.gate_floods.specs.RowJudge.Judged.{tree_with, IsTreeWalkedInRow}
use Rattle.any_judge.specs.ExactJudge.Trees.{all_begun}
use Rattle.any_judge.proofs.ExactJudge.Begun.{counted_none}
use Rattle.any_judge.proofs.ExactJudge.Walked.{own_row, wrong_begins, ended_where, tree_begins, all_there}
use Rattle.any_judge.proofs.exact_judge.trees.RowTrees.begin.Goals as goal
use Rattle.any_judge.proofs.exact_judge.trees.RowTrees.begin.Goals.{then-is_some-via-then-is_some, then-is_some-via-else-is_some+then-self, then-is_some-via-else-is_some+else-self+then-not-is_sized}

pub returns-then-is_some-clause-heard : goal.returns-then-is_some-clause-heard
returns-then-is_some-clause-heard c = λ b w.
    let s = c.end.new.self in
    let w1 = c.end.ensures.heard b w in
    record {
      sized = w1.sized;
      judged = λ counted.
          let before = w1.judged (counted_none s.ground b counted) in
          elim c.then-is_some.branch [
            | then-is_some-via-then-is_some v ↦ wrong_begins b s.wrong s (sym c.is_some.ensures ∙ v.if-is_some.true) before
            | then-is_some-via-else-is_some+then-self v ↦ absurd (
                let e = ended_where (all_begun b) s.wrong s (sym c.is_some.ensures ∙ v.if-is_some.false) before in
                all_there s.ground b (omega (arith, v.if-self.true, e.begun)) counted
                )
            | then-is_some-via-else-is_some+else-self+then-not-is_sized v ↦ absurd (let yes = v.is_sized.ensures.1 w1.sized in let no_ = v.if-not-is_sized.true in cc)
          ];
    }

pub returns-clause-heard : goal.returns-clause-heard
returns-clause-heard c = λ b w.
    let s = c.end.new.self in
    let g = s.ground in
    let w1 = c.end.ensures.heard b w in
    record {
      sized = w1.sized;
      judged = λ counted.
          let before = w1.judged (counted_none g b counted) in
          let fine = sym c.is_some.ensures ∙ c.if-is_some.false in
          let e = ended_where (all_begun b) s.wrong s fine before in
          let row = c.as_slice-4.result.now in
          let own = own_row g s.begun c.as_slice.result.now c.as_slice-2.result.now c.in_ok-row.row.items row c.as_slice-3.result.now c.as_slice.ensures.value c.as_slice-2.ensures.value c.as_slice-3.ensures.value c.as_slice-4.ensures.value c.in_ok-row.ensures.bits in
          let same = c.mask_rows-masks.ensures in
          let walked = subst (λ (ms : MaskRows). IsTreeWalkedInRow g.edges ms row g.roots.roots.items g.roots.first.items (tree_with s.begun []) c.begin.new.self) same c.in_ok-begin.ensures in
          tree_begins b s (record s { walk = c.begin.new.self; begun = s.begun + 1; under_way = true; source = s.begun; nodes = 0 }) row e refl refl refl refl refl (none_where_not_some s.wrong (sym fine)) own walked;
    }
