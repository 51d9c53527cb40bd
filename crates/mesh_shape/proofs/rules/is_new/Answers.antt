use Rattle.mesh_shape.proofs.RuleLemmas.{new_if, new_only}
use Rattle.mesh_shape.proofs.rules.is_new.Goals as goal
use Rattle.mesh_base.proofs.CleanMesh.{edge_rp, edge_qr, edge_pq}

pub returns : goal.returns
returns c = (
  λ h. let a = c.all.ensures.0 h in new_if c.args.mesh.now.triangles c.args.k c.args.t c.requires (c.is_first_with.ensures.0 a.0) (c.is_first_with-2.ensures.0 a.1) (c.is_first_with-3.ensures.0 a.2),
  λ h. c.all.ensures.1 (c.is_first_with.ensures.1 (new_only c.args.mesh.now.triangles c.args.k c.args.t _ c.requires (edge_pq c.args.t) h), c.is_first_with-2.ensures.1 (new_only c.args.mesh.now.triangles c.args.k c.args.t _ c.requires (edge_qr c.args.t) h), c.is_first_with-3.ensures.1 (new_only c.args.mesh.now.triangles c.args.k c.args.t _ c.requires (edge_rp c.args.t) h)),
)
