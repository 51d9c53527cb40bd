use Rattle.std.proofs.Common.{◌≡◌, ◌+◌, ◌-◌, [], ◌∷◌, length, arith, refl, subst}
use Rattle.cert_checker.specs.TreeJudge.Roots.{first_at}
use Rattle.cert_checker.specs.TreeJudge.Walked.{with_node}
use Rattle.cert_checker.specs.TreeJudge.Whole.{IsFirstWrongFrom}
use Rattle.cert_checker.proofs.TreeJudge.TreesSoFar.{stays_with_nodes, hear_right, hear_wrong}
use Rattle.cert_checker.proofs.tree_judge.hearing.TreeJudge.hear.Goals as goal

pub returns-then-not-self : goal.returns-then-not-self
returns-then-not-self c = λ m ts front tree h. stays_with_nodes m ts c.args.edges.now front tree (c.args.node ∷ []) c.args.self.now c.if-not-self.true h

pub returns-then-branch : goal.returns-then-branch
returns-then-branch c = λ m ts front tree h. hear_right m ts c.args.edges.now front tree (c.args.node ∷ []) c.args.self.now _ h c.if-not-self.false
    (λ t old w. c.in_ok-step.ensures.answered t old w c.if-branch.true) (λ n e few. omega (arith, c.saturating_add-self.ensures, e, few)) refl refl refl c.if-not-self.false refl

pub returns : goal.returns
returns c = λ m ts front tree h.
    let roots = c.args.self.now.roots in
    hear_wrong m ts c.args.edges.now front tree (c.args.node ∷ []) c.args.self.now _ c.source-source.result c.args.self.now.number h c.if-not-self.false (omega arith)
    (λ t old w. let k : length t.nodes ≡ length t.nodes + 1 - 1 = omega arith in
    subst (IsFirstWrongFrom c.args.edges.now roots.roots.items (first_at roots.first.items t.source) (with_node c.args.node t)) k (c.in_ok-step.ensures.refused t old w c.if-branch.false)) c.source-source.ensures (λ n e few. omega (arith, e)) refl refl refl refl
