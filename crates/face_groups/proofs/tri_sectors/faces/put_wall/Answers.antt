use Rattle.std.proofs.Common.{length, sym, ap, ◌∙◌, arith}
use Rattle.mesh_shape.proofs.IndexLemmas.{any_triangle}
use Rattle.face_groups.proofs.TriSectors.FaceLemmas.{put_some}
use Rattle.face_groups.proofs.tri_sectors.faces.put_wall.Goals as goal
use Rattle.math_base.proofs.Lists.{item_there}
use Rattle.sight_names.proofs.Portals.{triangle_within}

pub returns : goal.returns
returns c = put_some _ c.args.mesh.now.triangles (record { from = c.args.u; to = c.args.v }) c.in-Some.k c.args.walls.now _ c.marked.result _ c.triangles.ensures.triangles (sym c.triangle_at.ensures ∙ c.in-Some.is) c.requires
    (item_there c.triangles.result.now c.args.mesh.now.triangles c.in-Some.k any_triangle c.triangles.ensures.list (let lt = triangle_within c.args.mesh.now.triangles (record { from = c.args.u; to = c.args.v }) c.in-Some.k (sym c.triangle_at.ensures ∙ c.in-Some.is) in let e = ap length c.triangles.ensures.list in omega (arith, lt, e))) c.marked.ensures
