use Rattle.std.proofs.Common.{subst, arith}
use Rattle.certificates.proofs.CertParts.Stretches.{takes_none, takes_then}
use Rattle.gate_floods.specs.RowJudge.Masks.{MaskRows}
use Rattle.gate_floods.specs.RowJudge.Judged.{FollowsNodesInRow}
use Rattle.any_judge.proofs.ExactJudge.Nodes.{all_answer, last_refused}
use Rattle.any_judge.proofs.exact_judge.trees.RowTrees.hear_nodes.Goals as goal

pub returns-then-not-self-clause-heard : goal.returns-then-not-self-clause-heard
returns-then-not-self-clause-heard c = takes_none c.args.bytes.now c.args.count _ (λ b w. w)

pub returns-then-followed-clause-heard : goal.returns-then-followed-clause-heard
returns-then-followed-clause-heard c = takes_then c.args.bytes.now c.args.count _ _ _ _ (λ ns counted told b w.
    let j = c.args.self.now in
    let g = j.ground in
    let wrong = c.in_ok-followed.followed.wrong in
    let follows = subst (λ (ms : MaskRows). FollowsNodesInRow g.edges ms g.roots.roots.items g.roots.first.items j.walk c.follow.new.self wrong ns) c.mask_rows-masks.ensures told in
    last_refused c.args.source ns b j c.if-not-self.false c.if-source-self.false w c.follow.new.self wrong follows c.stop.new.self c.saturating_add.result c.if-followed.true
    (λ few. omega (arith, c.saturating_add.ensures, few, counted, follows.1.some c.if-followed.true)) c.stop.ensures.ground c.stop.ensures.ended c.stop.ensures.wrong) c.in_ok-followed.ensures

pub returns-clause-heard : goal.returns-clause-heard
returns-clause-heard c = takes_then c.args.bytes.now c.args.count _ _ _ _ (λ ns counted told b w.
    let j = c.args.self.now in
    let g = j.ground in
    let wrong = c.in_ok-followed.followed.wrong in
    let follows = subst (λ (ms : MaskRows). FollowsNodesInRow g.edges ms g.roots.roots.items g.roots.first.items j.walk c.follow.new.self wrong ns) c.mask_rows-masks.ensures told in
    all_answer c.args.source ns b j c.if-not-self.false c.if-source-self.false w c.follow.new.self wrong follows c.saturating_add-self.result c.if-followed.false
    (λ few. omega (arith, c.saturating_add-self.ensures, few, counted))) c.in_ok-followed.ensures
