use Rattle.std.proofs.Common.{length, sym, ap, subst, arith}
use Rattle.std.proofs.lemmas.Option.{slice_get-get_or}
use Rattle.mesh_shape.proofs.IndexLemmas.{any_triangle}
use Rattle.face_groups.specs.TriSectors.Faces.{AreFaces}
use Rattle.face_groups.specs.TriSectors.Forest.{classes_in}
use Rattle.face_groups.proofs.TriSectors.FaceLemmas.{any_walls, none_linked, triangle_linked, all_linked}
use Rattle.face_groups.proofs.TriSectors.Forests.{singles_alone, singles_forest, forest_named}
use Rattle.face_groups.proofs.tri_sectors.faces.link_all.Goals as goal
use Rattle.math_base.proofs.Lists.{item_there}

pub loop-k-init : goal.loop-k-init
loop-k-init c = let n = length c.args.mesh.now.triangles in record {
  forest = singles_forest n c.args.faces.now c.requires.alone;
  len = c.requires.alone.len;
  linked = none_linked c.args.mesh.now.triangles c.args.walls.now (classes_in c.args.faces.now) (singles_alone n c.args.faces.now c.requires.alone);
}

pub loop-k-preserved : goal.loop-k-preserved
loop-k-preserved c = let w = c.link.ensures in record {
  forest = w.forest;
  len = let e = w.len in let h = c.loop-k.invariant.len in omega (arith, e, h);
  linked = triangle_linked c.args.mesh.now.triangles c.args.walls.now c.loop-k.k _ _ (classes_in c.loop-k.faces) (classes_in c.link.new.parents) (item_there c.triangles-t-items.result.now c.args.mesh.now.triangles c.loop-k.k any_triangle c.triangles-t-items.ensures.list c.loop-k-test.true) (slice_get-get_or c.args.walls.now c.loop-k.k any_walls (let e = ap length c.triangles-t-items.ensures.list in let l = c.requires.walls in let f = c.loop-k-test.true in omega (arith, e, l, f))) c.loop-k.invariant.linked w.crossed (forest_named c.link.new.parents w.forest);
}

pub returns : goal.returns
returns c = subst (AreFaces c.args.mesh.now.triangles c.args.walls.now) (sym c.name_all.ensures)
    (all_linked c.args.mesh.now.triangles c.args.walls.now c.loop-k.k (classes_in c.loop-k.faces) (let e = ap length c.triangles-t-items.ensures.list in let f = c.loop-k-test.false in omega (arith, e, f)) c.loop-k.invariant.linked)
