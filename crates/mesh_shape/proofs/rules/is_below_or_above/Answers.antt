use Rattle.mesh_shape.proofs.RuleLemmas.{under_apart, over_apart}
use Rattle.mesh_shape.proofs.RuleLemmas.{heights_under, heights_over, OnTrue_if}
use Rattle.mesh_shape.proofs.rules.is_below_or_above.Goals as goal

pub returns-then-all : goal.returns-then-all
returns-then-all c = let a = c.all.ensures.0 c.if-all.true in
    under_apart c.args.plan.now c.place-a.ensures.plan c.args.t c.args.line (heights_under c.args.plan.now c.args.t c.args.line.a _ _ _ _ c.place-a.ensures.place c.place-p.ensures.place c.place-q.ensures.place c.place-r.ensures.place (c.is_under.ensures.0 a.0))
    (heights_under c.args.plan.now c.args.t c.args.line.b _ _ _ _ c.place-b.ensures.place c.place-p.ensures.place c.place-q.ensures.place c.place-r.ensures.place (c.is_under-2.ensures.0 a.1))

pub returns : goal.returns
returns c = OnTrue_if _ _ (λ h. let a = c.all-2.ensures.0 h in
    over_apart c.args.plan.now c.place-a.ensures.plan c.args.t c.args.line (heights_over c.args.plan.now c.args.t c.args.line.a _ _ _ _ c.place-a.ensures.place c.place-p.ensures.place c.place-q.ensures.place c.place-r.ensures.place (c.is_over.ensures.0 a.0))
    (heights_over c.args.plan.now c.args.t c.args.line.b _ _ _ _ c.place-b.ensures.place c.place-p.ensures.place c.place-q.ensures.place c.place-r.ensures.place (c.is_over-2.ensures.0 a.1)))
