use Rattle.std.proofs.Common.{ℕ, arith, refl, sym, ◌∙◌, subst}
use Rattle.certificates.proofs.CertParts.Stretches.{takes_weaker, takes_then}
use Rattle.cert_checker.specs.TreeJudge.Steps.{AreSteps}
use Rattle.cert_checker.specs.TreeJudge.Walked.{with_nodes, IsWalkedAt}
use Rattle.cert_checker.proofs.TreeJudge.TreesSoFar.{stays_with_nodes, hear_right, hear_wrong}
use Rattle.cert_checker.proofs.tree_judge.hearing.TreeJudge.hear_nodes.Goals as goal

pub returns-then-not-self : goal.returns-then-not-self
returns-then-not-self c = takes_weaker c.args.bytes.now c.args.count _ _ _ _ (λ ns _ m ts front tree h. stays_with_nodes m ts c.args.edges.now front tree ns c.args.self.now c.if-not-self.true h) c.pass_nodes.ensures

pub returns-then-followed : goal.returns-then-followed
returns-then-followed c = takes_then c.args.bytes.now c.args.count _ _ _ _ (λ ns counted all m ts front tree h. let w = all.1 c.args.edges.now (subst (AreSteps c.args.edges.now) (sym c.as_slice.ensures.value) h.steps) in hear_wrong m ts c.args.edges.now front tree ns c.args.self.now _ c.source.result c.saturating_add-number.result h c.if-not-self.false (w.1.some c.if-followed.true)
    (λ t old v. w.1.refused c.if-followed.true t old v) (c.source.ensures ∙ w.0) (λ n e few. omega (arith, c.saturating_add-number.ensures, e, few, counted, w.1.some c.if-followed.true)) refl refl refl refl) c.follow-followed.ensures

pub returns : goal.returns
returns c =
    let roots = c.args.self.now.roots in
    let new = c.follow-followed.new.self in
    takes_then c.args.bytes.now c.args.count _ _ _ _ (λ ns counted all m ts front tree h. let w = all.1 c.args.edges.now (subst (AreSteps c.args.edges.now) (sym c.as_slice.ensures.value) h.steps) in hear_right m ts c.args.edges.now front tree ns c.args.self.now _ h c.if-not-self.false
    (λ t old v. subst (λ (s : ℕ). IsWalkedAt c.args.edges.now roots.roots.items roots.first.items (with_nodes ns t) old c.follow-followed.new.reached s new.path.items new.waits.items new.follow) (sym w.0) (w.1.on c.if-followed.false t old v))
    (λ n e few. omega (arith, c.saturating_add-self.ensures, e, few, counted)) refl refl refl c.if-not-self.false refl) c.follow-followed.ensures
