use Rattle.std.proofs.Common.{length, Some, None, ap, ◌∙◌, arith}
use Rattle.mesh_shape.proofs.RuleLemmas.{no_side_fits, no_line_there}
use Rattle.std.proofs.Common.{Option}
use Rattle.sight_names.specs.declared.plan.Line.{Line}
use Rattle.mesh_shape.proofs.RuleLemmas.{unfit_side_of}
use Rattle.mesh_shape.proofs.rules.unfit_side_at.Goals as goal
use Rattle.math_base.proofs.Lists.{item_there}

pub returns-in-Some : goal.returns-in-Some
returns-in-Some c = let there = item_there c.lines.result.now c.args.plan.now.lines c.args.i None c.lines.ensures.list (let e = ap length c.lines.ensures.list in let lt = c.requires.record in omega arith) ∙ ap (λ (o : Option Line). Some o) (c.in-Some.is) in
    unfit_side_of c.args.plan.now c.lines.ensures.plan c.args.mesh.now.triangles c.args.labels.now c.args.i c.in-Some.line _ there c.unfit_side.ensures

pub returns-in-None : goal.returns-in-None
returns-in-None c = let there = item_there c.lines.result.now c.args.plan.now.lines c.args.i None c.lines.ensures.list (let e = ap length c.lines.ensures.list in let lt = c.requires.record in omega arith) ∙ ap (λ (o : Option Line). Some o) (c.in-None.is) in
    λ left. no_side_fits c.args.plan.now c.args.mesh.now.triangles c.args.labels.now c.args.i left (no_line_there c.args.plan.now c.args.i there)
