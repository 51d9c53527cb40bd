use Rattle.std.proofs.Common.{◌+◌, ◌<◌, length, Some, None, Option, sym, ap, ◌∙◌, subst, arith, Vec, Global}
use Rattle.sight_names.specs.declared.plan.Line.{Line}
use Rattle.sight_names.specs.Map.{map_of}
use Rattle.face_groups.specs.declared.tri_sectors.sides.FacedSide.{FacedSide}
use Rattle.face_groups.specs.TriSectors.Sides.{AreFacedOf}
use Rattle.face_groups.proofs.TriSectors.SideLemmas.{line_added, no_line_added, all_added, faced_below}
use Rattle.face_groups.proofs.tri_sectors.sides.faced_sides.Goals as goal
use Rattle.face_groups.proofs.tri_sectors.sides.faced_sides.Goals.{in-Some+in_ok-add_sides, in_default}
use Rattle.math_base.proofs.Lists.{item_there}

pub loop-i-preserved : goal.loop-i-preserved
loop-i-preserved c =
    let item = item_there c.lines-line-items.result.now c.args.plan.now.lines c.loop-i.i None c.lines-line-items.ensures.list c.loop-i-test.true in
    elim c.match-line.branch [
      | in-Some+in_ok-add_sides w ↦ subst (λ (v : Vec FacedSide Global). AreFacedOf (λ s. s.line < c.loop-i.i + 1) (map_of c.args.plan.now) c.args.mesh.now.triangles c.args.faces.now v.items) (sym w.sides-is)
          (line_added c.args.plan.now c.lines-line-items.ensures.plan c.args.mesh.now.triangles c.args.faces.now c.loop-i.sides.items _ c.loop-i.i w.in-Some.line (item ∙ ap (λ (o : Option Line). Some o) w.in-Some.is) w.in_ok-add_sides.ensures c.loop-i.invariant)
      | in_default w ↦ subst (λ (v : Vec FacedSide Global). AreFacedOf (λ s. s.line < c.loop-i.i + 1) (map_of c.args.plan.now) c.args.mesh.now.triangles c.args.faces.now v.items) (sym w.sides-is)
          (no_line_added c.args.plan.now c.args.mesh.now.triangles c.args.faces.now c.loop-i.sides.items c.loop-i.i (item ∙ ap (λ (o : Option Line). Some o) w.in_default.is) c.loop-i.invariant)
    ]

pub returns-clause-faced : goal.returns-clause-faced
returns-clause-faced c = all_added c.args.plan.now c.args.mesh.now.triangles c.args.faces.now c.loop-i.sides.items c.loop-i.i (let e = ap length c.lines-line-items.ensures.list in let f = c.loop-i-test.false in omega (arith, e, f)) c.loop-i.invariant

pub returns-clause-range : goal.returns-clause-range
returns-clause-range c = faced_below (map_of c.args.plan.now) c.args.mesh.now.triangles c.args.faces.now c.loop-i.sides.items c.requires.len c.requires.range
    (all_added c.args.plan.now c.args.mesh.now.triangles c.args.faces.now c.loop-i.sides.items c.loop-i.i (let e = ap length c.lines-line-items.ensures.list in let f = c.loop-i-test.false in omega (arith, e, f)) c.loop-i.invariant)
