use Rattle.std.proofs.Common.{None, false, length, refl, sym, subst}
use Rattle.gate_floods.specs.RowJudge.Masks.{MaskRows}
use Rattle.gate_floods.specs.RowJudge.Judged.{tree_with, IsFirstWrongFrom, IsTreeWalkedInRow, IsWholeFrom}
use Rattle.any_judge.specs.declared.exact_judge.ground.Ground.{Ground}
use Rattle.any_judge.specs.ExactJudge.Ground.{IsSizedGround}
use Rattle.any_judge.specs.ExactJudge.Trees.{all_begun, AreTreesCountable}
use Rattle.any_judge.proofs.ExactJudge.Begun.{counted_ended}
use Rattle.any_judge.proofs.ExactJudge.Walked.{not_under_way, under_way, ended_whole, ended_wrong}
use Rattle.any_judge.proofs.exact_judge.trees.RowTrees.end.Goals as goal

pub returns-then-not-self-clause-heard : goal.returns-then-not-self-clause-heard
returns-then-not-self-clause-heard c = λ b w. record { sized = w.sized; judged = λ counted. not_under_way b.0 b.1 c.args.self.now.wrong c.args.self.now c.if-not-self.true (w.judged (counted_ended c.args.self.now.ground b counted)) }

pub returns-then-is_done-clause-heard : goal.returns-then-is_done-clause-heard
returns-then-is_done-clause-heard c = λ b w. record {
  sized = w.sized;
  judged = λ counted.
      let j = c.args.self.now in
      let g = j.ground in
      let o = under_way b.0 b.1 j.wrong j c.if-not-self.false (w.judged (counted_ended g b counted)) in
      let same = c.mask_rows-masks.ensures in
      let row = o.followed.row in
      let tree = tree_with (length b.0) o.nodes in
      let walked = subst (λ (ms : MaskRows). IsTreeWalkedInRow g.edges ms row g.roots.roots.items g.roots.first.items tree j.walk) (sym same) o.followed.walked in
      let whole = subst (λ (ms : MaskRows). IsWholeFrom g.edges ms row g.roots.roots.items g.roots.first.items tree) same (c.is_done.ensures.whole row tree walked c.if-is_done.true) in
      ended_whole b j.wrong j (record j { under_way = false }) o refl refl refl refl whole;
}

pub returns-else-is_done-clause-heard : goal.returns-else-is_done-clause-heard
returns-else-is_done-clause-heard c = λ b w. record {
  sized = subst IsSizedGround (sym c.stop.ensures.ground) w.sized;
  judged = λ enough.
      let j = c.args.self.now in
      let g = j.ground in
      let counted = subst (λ (k : Ground). AreTreesCountable k (all_begun b, None)) c.stop.ensures.ground enough in
      let o = under_way b.0 b.1 j.wrong j c.if-not-self.false (w.judged (counted_ended g b counted)) in
      let same = c.mask_rows-masks.ensures in
      let row = o.followed.row in
      let tree = tree_with (length b.0) o.nodes in
      let walked = subst (λ (ms : MaskRows). IsTreeWalkedInRow g.edges ms row g.roots.roots.items g.roots.first.items tree j.walk) (sym same) o.followed.walked in
      let first = subst (λ (ms : MaskRows). IsFirstWrongFrom g.edges ms row g.roots.roots.items g.roots.first.items tree (length o.nodes)) same (c.is_done.ensures.missing row tree walked c.if-is_done.false) in
      ended_wrong b j.wrong j c.stop.new.self o c.stop.ensures.ground c.stop.ensures.ended c.stop.ensures.wrong first;
}
