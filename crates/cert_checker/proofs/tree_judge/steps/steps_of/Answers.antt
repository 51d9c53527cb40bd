use Rattle.std.proofs.Common.{◌≡◌, ℕ, ◌+◌, Some, sym, subst, arith}
use Rattle.std.specs.List.{slice_get}
use Rattle.cert_checker.proofs.TreeJudge.Stepping.{AreStepsBelow, steps_none, steps_more, steps_all}
use Rattle.cert_checker.proofs.tree_judge.steps.steps_of.Goals as goal

pub loop-number-init : goal.loop-number-init
loop-number-init c = steps_none c.args.edges.now c.new-steps.result.items c.new-steps.ensures.items

pub loop-number-preserved : goal.loop-number-preserved
loop-number-preserved c =
    let xs = c.args.edges.now in
    let n = c.loop-number.number in
    let edge = c.in-Some.edge.now in
    subst (AreStepsBelow xs (n + 1)) (sym c.in_ok-push.ensures.items)
    (steps_more xs n c.loop-number.steps.items edge c.step_of.result c.loop-number.invariant (λ few. subst (λ (k : ℕ). slice_get xs k ≡ Some edge) (omega (arith, few)) (sym c.in-Some.ensures)) c.step_of.ensures)

pub returns : goal.returns
returns c = steps_all c.args.edges.now c.loop-number.number c.loop-number.steps.items (omega arith) c.loop-number.invariant
