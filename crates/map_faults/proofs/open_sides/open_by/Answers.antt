use Rattle.std.proofs.Common.{◌+◌, ◌<◌, length, Some, None, Option, sym, ap, ◌∙◌, subst, arith, Vec, Global}
use Rattle.sight_names.specs.declared.names.Side.{Side}
use Rattle.sight_names.specs.declared.plan.Line.{Line}
use Rattle.sight_names.specs.Map.{map_of}
use Rattle.face_groups.specs.TriSectors.Sides.{IsSealedAt}
use Rattle.math_base.proofs.Lists.{item_there}
use Rattle.map_faults.specs.OpenSides.{AreSidesAgainst}
use Rattle.map_faults.proofs.OpenOnes.{line_added, no_line_added, all_added}
use Rattle.map_faults.proofs.open_sides.open_by.Goals as goal
use Rattle.map_faults.proofs.open_sides.open_by.Goals.{in-Some+in_ok-add_sides, in_default}

pub loop-i-preserved : goal.loop-i-preserved
loop-i-preserved c =
    let item = item_there c.lines-line-items.result.now c.args.plan.now.lines c.loop-i.i None c.lines-line-items.ensures.list c.loop-i-test.true in
    elim c.match-line.branch [
      | in-Some+in_ok-add_sides w ↦ subst (λ (v : Vec Side Global). AreSidesAgainst (λ s. s.line < c.loop-i.i + 1) (IsSealedAt (map_of c.args.plan.now) c.args.mesh.now.triangles c.args.faces.now c.args.marks.now) v.items) (sym w.found-is)
          (line_added c.args.plan.now c.lines-line-items.ensures.plan c.args.mesh.now.triangles c.args.faces.now c.args.marks.now c.loop-i.i w.in-Some.line c.loop-i.found.items _ (item ∙ ap (λ (o : Option Line). Some o) w.in-Some.is) w.in_ok-add_sides.ensures c.loop-i.invariant)
      | in_default w ↦ subst (λ (v : Vec Side Global). AreSidesAgainst (λ s. s.line < c.loop-i.i + 1) (IsSealedAt (map_of c.args.plan.now) c.args.mesh.now.triangles c.args.faces.now c.args.marks.now) v.items) (sym w.found-is)
          (no_line_added c.args.plan.now c.lines-line-items.ensures.plan c.args.mesh.now.triangles c.args.faces.now c.args.marks.now c.loop-i.i c.loop-i.found.items (item ∙ ap (λ (o : Option Line). Some o) w.in_default.is) c.loop-i.invariant)
    ]

pub returns-clause-sides : goal.returns-clause-sides
returns-clause-sides c = all_added c.args.plan.now c.lines-line-items.ensures.plan c.args.mesh.now.triangles c.args.faces.now c.args.marks.now c.loop-i.i c.loop-i.found.items (let e = ap length c.lines-line-items.ensures.list in let f = c.loop-i-test.false in omega (arith, e, f)) c.loop-i.invariant
