use Rattle.std.proofs.Common.{length, ap, arith, below_more}
use Rattle.sight_names.specs.Map.{map_of}
use Rattle.mesh_shape.proofs.RuleLemmas.{first_side, sides_everywhere, no_line_behind}
use Rattle.face_groups.specs.TriSectors.Sides.{IsSealedAt}
use Rattle.face_groups.proofs.TriSectors.SideLemmas.{no_side_open}
use Rattle.face_groups.proofs.tri_sectors.sides.first_open.Goals as goal

pub returns-in-Some-clause-search : goal.returns-in-Some-clause-search
returns-in-Some-clause-search c = first_side (IsSealedAt (map_of c.args.plan.now) c.args.mesh.now.triangles c.args.faces.now c.args.marks.now) c.loop-i.i c.in-Some.left c.loop-i.invariant c.in-Some.ensures

pub loop-i-preserved : goal.loop-i-preserved
loop-i-preserved c = below_more _ _ c.loop-i.invariant c.in_default.ensures

pub returns-clause-search : goal.returns-clause-search
returns-clause-search c = sides_everywhere (IsSealedAt (map_of c.args.plan.now) c.args.mesh.now.triangles c.args.faces.now c.args.marks.now) c.loop-i.i c.loop-i.invariant
    (λ j le left. no_side_open c.args.plan.now c.args.mesh.now.triangles c.args.faces.now c.args.marks.now j left (no_line_behind c.args.plan.now j (let e = ap length c.lines-i-end.ensures.list in omega arith)))
