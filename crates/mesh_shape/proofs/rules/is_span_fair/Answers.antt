use Rattle.mesh_shape.proofs.SweepRules.{fair_under, fair_over}
use Rattle.mesh_shape.proofs.rules.is_span_fair.Goals as goal

pub returns-then-ends_below : goal.returns-then-ends_below
returns-then-ends_below c = λ w. fair_under c.args.plan.now c.requires.plan c.args.t c.args.span c.args.band c.requires.span c.requires.band (c.ends_below.ensures.0 c.if-ends_below.true)

pub returns-then-ends_below-2 : goal.returns-then-ends_below-2
returns-then-ends_below-2 c = λ w. fair_over c.args.plan.now c.requires.plan c.args.t c.args.span c.args.band c.requires.span c.requires.band (c.ends_below-2.ensures.0 c.if-ends_below-2.true)
