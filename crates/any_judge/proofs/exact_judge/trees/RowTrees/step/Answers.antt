use Rattle.std.proofs.Common.{[], ◌∷◌, length, refl, sym, subst, arith}
use Rattle.gate_floods.specs.RowJudge.Masks.{MaskRows}
use Rattle.gate_floods.specs.RowJudge.Judged.{tree_with, IsFirstWrongFrom, IsTreeWalkedInRow}
use Rattle.any_judge.proofs.ExactJudge.Begun.{counted_less}
use Rattle.any_judge.proofs.ExactJudge.Walked.{node_not_under_way, under_way, few, nodes_followed, nodes_refused}
use Rattle.any_judge.specs.ExactJudge.Ground.{IsSizedGround}
use Rattle.any_judge.specs.ExactJudge.Trees.{one_node, put_node, AreTreesCountable}
use Rattle.any_judge.specs.declared.exact_judge.ground.Ground.{Ground}
use Rattle.any_judge.proofs.exact_judge.trees.RowTrees.step.Goals as goal

pub returns-then-not-self-clause-heard : goal.returns-then-not-self-clause-heard
returns-then-not-self-clause-heard c = λ b w. record {
  sized = w.sized;
  judged = λ counted. node_not_under_way b.0 b.1 c.args.self.now.wrong c.args.node c.args.self.now c.if-not-self.true (w.judged (counted_less c.args.self.now.ground b.0 b.1 c.args.node counted));
}

pub returns-then-branch-clause-heard : goal.returns-then-branch-clause-heard
returns-then-branch-clause-heard c = λ b w. record {
  sized = w.sized;
  judged = λ counted.
      let j = c.args.self.now in
      let g = j.ground in
      let n = c.args.node in
      let o = under_way b.0 b.1 j.wrong j c.if-not-self.false (w.judged (counted_less g b.0 b.1 n counted)) in
      let same = c.mask_rows-masks.ensures in
      let row = o.followed.row in
      let tree = tree_with (length b.0) o.nodes in
      let longer = tree_with (length b.0) (one_node n o.nodes) in
      let walked = subst (λ (ms : MaskRows). IsTreeWalkedInRow g.edges ms row g.roots.roots.items g.roots.first.items tree j.walk) (sym same) o.followed.walked in
      let after = subst (λ (ms : MaskRows). IsTreeWalkedInRow g.edges ms row g.roots.roots.items g.roots.first.items longer c.step.new.self) same (c.in_ok-step.ensures.answered row tree walked c.if-branch.true) in
      nodes_followed b j.wrong j o (n ∷ []) (record j { walk = c.step.new.self; nodes = c.saturating_add-self.result }) refl refl o.followed.going refl refl
      (omega (arith, c.saturating_add-self.ensures, o.followed.number, few b j.wrong j o (n ∷ []) counted)) after;
}

pub returns-clause-heard : goal.returns-clause-heard
returns-clause-heard c = λ b w. record {
  sized = subst IsSizedGround (sym c.stop.ensures.ground) w.sized;
  judged = λ enough.
      let j = c.args.self.now in
      let g = j.ground in
      let n = c.args.node in
      let counted = subst (λ (k : Ground). AreTreesCountable k (put_node n b)) c.stop.ensures.ground enough in
      let o = under_way b.0 b.1 j.wrong j c.if-not-self.false (w.judged (counted_less g b.0 b.1 n counted)) in
      let same = c.mask_rows-masks.ensures in
      let row = o.followed.row in
      let tree = tree_with (length b.0) o.nodes in
      let longer = tree_with (length b.0) (one_node n o.nodes) in
      let walked = subst (λ (ms : MaskRows). IsTreeWalkedInRow g.edges ms row g.roots.roots.items g.roots.first.items tree j.walk) (sym same) o.followed.walked in
      let first = subst (λ (ms : MaskRows). IsFirstWrongFrom g.edges ms row g.roots.roots.items g.roots.first.items longer (length o.nodes)) same (c.in_ok-step.ensures.refused row tree walked c.if-branch.false) in
      nodes_refused b j.wrong j o (n ∷ []) c.stop.new.self c.stop.ensures.ground (length o.nodes) j.nodes o.followed.number (omega arith) c.stop.ensures.ended c.stop.ensures.wrong first;
}
