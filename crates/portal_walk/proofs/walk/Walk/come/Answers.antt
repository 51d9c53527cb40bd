use Rattle.std.proofs.Common.{Some, arith, sym, ap, ◌∙◌}
use Rattle.portal_walk.specs.declared.path.Frame.{Frame}
use Rattle.portal_walk.specs.Walk.{WalkParts}
use Rattle.portal_walk.proofs.Steps.{on_err, rests_both, same_walk_both, comes_after}
use Rattle.portal_walk.proofs.Paths.{ready_top}
use Rattle.portal_walk.proofs.Weights.{no_top}
use Rattle.portal_walk.proofs.walk.Walk.come.Goals as goal

pub enter_root-requires : goal.enter_root-requires
enter_root-requires c = sym (ap (λ (w : WalkParts). w.frames) c.self.view_is) ∙ no_top c.self.inside.path.frames (sym c.in-None.ensures)

pub returns-in_err-enter_root-in-None-clause-memory : goal.returns-in_err-enter_root-in-None-clause-memory
returns-in_err-enter_root-in-None-clause-memory c =
    let i = c.loop-self.invariant in
    on_err c.from_residual.result (rests_both c.args.self.now c.loop-self.self c.enter_root.new.self i.walk i.rests c.in_err-enter_root-in-None.ensures.tries.0)

pub returns-in-Some-taken_apart-clause-came : goal.returns-in-Some-taken_apart-clause-came
returns-in-Some-taken_apart-clause-came c =
    let i = c.loop-self.invariant in
    comes_after c.args.self.now c.loop-self.self c.enter_root.new.self c.in-Some-taken_apart.came i.walk i.rests (rw (sym c.taken_apart.ensures ∙ c.in-Some-taken_apart.is) at c.in_ok-enter_root-in-None.ensures.tries)

pub loop-self-preserved-in_default : goal.loop-self-preserved-in_default
loop-self-preserved-in_default c =
    let i = c.loop-self.invariant in
    let tries = rw (sym c.taken_apart.ensures ∙ c.in_default.is) at c.in_ok-enter_root-in-None.ensures.tries in
    record {
      walk = same_walk_both c.args.self.now c.loop-self.self c.enter_root.new.self i.walk c.in_ok-enter_root-in-None.ensures.walk;
      rests = rests_both c.args.self.now c.loop-self.self c.enter_root.new.self i.walk i.rests tries.0;
    }

pub returns-in_err-left_first-in-Some-clause-memory : goal.returns-in_err-left_first-in-Some-clause-memory
returns-in_err-left_first-in-Some-clause-memory c =
    let i = c.loop-self.invariant in
    on_err c.from_residual-in_err-left_first-in-Some.result (rests_both c.args.self.now c.loop-self.self c.left_first.new.self i.walk i.rests c.in_err-left_first-in-Some.ensures.tries.0)

pub returns-in-Some-taken_apart-2-clause-came : goal.returns-in-Some-taken_apart-2-clause-came
returns-in-Some-taken_apart-2-clause-came c =
    let i = c.loop-self.invariant in
    comes_after c.args.self.now c.loop-self.self c.left_first.new.self c.in-Some-taken_apart-2.came i.walk i.rests (rw (sym c.taken_apart-in-Some.ensures ∙ c.in-Some-taken_apart-2.is) at c.in_ok-left_first-in-Some.ensures.tries)

pub left_first-requires-clause-ready : goal.left_first-requires-clause-ready
left_first-requires-clause-ready c = ready_top c.self.inside.path.frames c.in-Some.frame c.self.invariant.ready (sym c.in-Some.ensures)

pub try_right-requires-clause-top : goal.try_right-requires-clause-top
try_right-requires-clause-top c =
    let left = rw (sym c.taken_apart-in-Some.ensures ∙ c.in_default-taken_apart.is) at c.in_ok-left_first-in-Some.ensures.tries in
    left.2 ∙ ap (λ (f : Frame). Some f) (sym c.right_only.ensures)

pub returns-in_err-try_right-in-Some-clause-memory : goal.returns-in_err-try_right-in-Some-clause-memory
returns-in_err-try_right-in-Some-clause-memory c =
    let i = c.loop-self.invariant in
    let left = rw (sym c.taken_apart-in-Some.ensures ∙ c.in_default-taken_apart.is) at c.in_ok-left_first-in-Some.ensures.tries in
    let walk = same_walk_both c.args.self.now c.loop-self.self c.left_first.new.self i.walk c.in_ok-left_first-in-Some.ensures.walk in
    let rests = rests_both c.args.self.now c.loop-self.self c.left_first.new.self i.walk i.rests left.0 in
    on_err c.from_residual-in_err-try_right-in-Some.result (rests_both c.args.self.now c.left_first.new.self c.try_right.new.self walk rests c.in_err-try_right-in-Some.ensures.tries.0)

pub returns-in-Some-taken_apart-3-clause-came : goal.returns-in-Some-taken_apart-3-clause-came
returns-in-Some-taken_apart-3-clause-came c =
    let i = c.loop-self.invariant in
    let left = rw (sym c.taken_apart-in-Some.ensures ∙ c.in_default-taken_apart.is) at c.in_ok-left_first-in-Some.ensures.tries in
    let walk = same_walk_both c.args.self.now c.loop-self.self c.left_first.new.self i.walk c.in_ok-left_first-in-Some.ensures.walk in
    let rests = rests_both c.args.self.now c.loop-self.self c.left_first.new.self i.walk i.rests left.0 in
    comes_after c.args.self.now c.left_first.new.self c.try_right.new.self c.in-Some-taken_apart-3.came walk rests (rw (sym c.taken_apart-in-Some-2.ensures ∙ c.in-Some-taken_apart-3.is) at c.in_ok-try_right-in-Some.ensures.tries)

pub loop-self-preserved : goal.loop-self-preserved
loop-self-preserved c =
    let i = c.loop-self.invariant in
    let left = rw (sym c.taken_apart-in-Some.ensures ∙ c.in_default-taken_apart.is) at c.in_ok-left_first-in-Some.ensures.tries in
    let walk = same_walk_both c.args.self.now c.loop-self.self c.left_first.new.self i.walk c.in_ok-left_first-in-Some.ensures.walk in
    let rests = rests_both c.args.self.now c.loop-self.self c.left_first.new.self i.walk i.rests left.0 in
    let right = rw (sym c.taken_apart-in-Some-2.ensures ∙ c.in_default-taken_apart-2.is) at c.in_ok-try_right-in-Some.ensures.tries in
    record {
      walk = same_walk_both c.args.self.now c.left_first.new.self c.try_right.new.self walk c.in_ok-try_right-in-Some.ensures.walk;
      rests = rests_both c.args.self.now c.left_first.new.self c.try_right.new.self walk rests right.0;
    }

pub loop-self-smaller : goal.loop-self-smaller
loop-self-smaller c =
    let left = rw (sym c.taken_apart-in-Some.ensures ∙ c.in_default-taken_apart.is) at c.in_ok-left_first-in-Some.ensures.tries in
    let right = rw (sym c.taken_apart-in-Some-2.ensures ∙ c.in_default-taken_apart-2.is) at c.in_ok-try_right-in-Some.ensures.tries in
    let less = right.1 in
    let no_more = left.1 in
    omega (arith, less, no_more)
