use Rattle.std.proofs.Common.{◌+◌, List, length, Some, None, Option, sym, ap, ◌∙◌, subst, arith}
use Rattle.sight_names.specs.declared.plan.Line.{Line}
use Rattle.sight_names.specs.Map.{map_of}
use Rattle.face_groups.specs.declared.tri_sectors.faces.Walls.{Walls}
use Rattle.face_groups.specs.TriSectors.Faces.{AreWallsMarked, IsWallBefore}
use Rattle.face_groups.proofs.TriSectors.FaceLemmas.{none_marked, line_marked, no_line_marked, walls_done}
use Rattle.face_groups.proofs.tri_sectors.faces.mark_lines.Goals as goal
use Rattle.face_groups.proofs.tri_sectors.faces.mark_lines.Goals.{in-Some, in_default}
use Rattle.math_base.proofs.Lists.{item_there}

pub loop-line-init : goal.loop-line-init
loop-line-init c = none_marked (map_of c.args.plan.now) c.args.mesh.now.triangles c.args.walls.now c.requires.none

pub loop-line-preserved : goal.loop-line-preserved
loop-line-preserved c =
    let item = item_there c.lines-line-items.result.now c.args.plan.now.lines c.loop-line.line-index None c.lines-line-items.ensures.list c.loop-line-test.true in
    elim c.match-line.branch [
      | in-Some w ↦ subst (λ (ws : List Walls). AreWallsMarked (IsWallBefore (map_of c.args.plan.now) c.args.mesh.now.triangles (c.loop-line.line-index + 1)) c.args.mesh.now.triangles ws) (sym w.walls-is)
          (line_marked c.args.plan.now c.lines-line-items.ensures.plan c.args.mesh.now.triangles c.loop-line.line-index w.in-Some.line c.loop-line.walls w.put_wall.new.walls w.put_wall-in-Some.new.walls (item ∙ ap (λ (o : Option Line). Some o) w.in-Some.is) c.loop-line.invariant w.put_wall.ensures w.put_wall-in-Some.ensures)
      | in_default w ↦ subst (λ (ws : List Walls). AreWallsMarked (IsWallBefore (map_of c.args.plan.now) c.args.mesh.now.triangles (c.loop-line.line-index + 1)) c.args.mesh.now.triangles ws) (sym w.walls-is)
          (no_line_marked c.args.plan.now c.args.mesh.now.triangles c.loop-line.line-index c.loop-line.walls (item ∙ ap (λ (o : Option Line). Some o) w.in_default.is) c.loop-line.invariant)
    ]

pub returns : goal.returns
returns c = walls_done c.args.plan.now c.args.mesh.now.triangles c.loop-line.line-index c.loop-line.walls (let e = ap length c.lines-line-items.ensures.list in let f = c.loop-line-test.false in omega (arith, e, f)) c.loop-line.invariant
