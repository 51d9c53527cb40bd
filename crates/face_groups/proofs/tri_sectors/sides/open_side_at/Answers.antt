use Rattle.std.proofs.Common.{length, Some, None, Option, ap, ◌∙◌, arith}
use Rattle.sight_names.specs.declared.plan.Line.{Line}
use Rattle.mesh_shape.proofs.RuleLemmas.{no_line_there}
use Rattle.face_groups.proofs.TriSectors.SideLemmas.{open_of_line, no_side_open}
use Rattle.face_groups.proofs.tri_sectors.sides.open_side_at.Goals as goal
use Rattle.math_base.proofs.Lists.{item_there}

pub returns-in-Some : goal.returns-in-Some
returns-in-Some c = let there = item_there c.lines.result.now c.args.plan.now.lines c.args.i None c.lines.ensures.list (let e = ap length c.lines.ensures.list in let lt = c.requires.record in omega arith) ∙ ap (λ (o : Option Line). Some o) c.in-Some.is in
    open_of_line c.args.plan.now c.lines.ensures.plan c.args.mesh.now.triangles c.args.faces.now c.args.marks.now c.args.i c.in-Some.line _ there c.open_side.ensures

pub returns-in-None : goal.returns-in-None
returns-in-None c = let there = item_there c.lines.result.now c.args.plan.now.lines c.args.i None c.lines.ensures.list (let e = ap length c.lines.ensures.list in let lt = c.requires.record in omega arith) ∙ ap (λ (o : Option Line). Some o) c.in-None.is in
    λ left. no_side_open c.args.plan.now c.args.mesh.now.triangles c.args.faces.now c.args.marks.now c.args.i left (no_line_there c.args.plan.now c.args.i there)
