use Rattle.std.proofs.Common.{sym}
use Rattle.sight_names.specs.Map.{map_of}
use Rattle.mesh_shape.proofs.RuleLemmas.{mates_if, mates_only}
use Rattle.mesh_shape.proofs.rules.has_mates.Goals as goal
use Rattle.mesh_base.proofs.CleanMesh.{edge_rp, edge_qr, edge_pq}

pub returns-in-Some : goal.returns-in-Some
returns-in-Some c = (
  λ h. let a = c.all.ensures.0 h in mates_if (map_of c.args.plan.now) c.args.mesh.now.triangles c.args.labels.now c.args.k c.in-Some.label c.args.t c.requires.here (sym c.in-Some.ensures) (c.is_tied.ensures.0 a.0) (c.is_tied-in-Some.ensures.0 a.1) (c.is_tied-in-Some-2.ensures.0 a.2),
  λ h. c.all.ensures.1 (
    mates_only (map_of c.args.plan.now) c.args.mesh.now.triangles c.args.labels.now c.args.k c.in-Some.label c.args.t _ c.is_tied.result c.requires.here (sym c.in-Some.ensures) (edge_pq c.args.t) c.is_tied.ensures.0 c.is_tied.ensures.1 h,
    mates_only (map_of c.args.plan.now) c.args.mesh.now.triangles c.args.labels.now c.args.k c.in-Some.label c.args.t _ c.is_tied-in-Some.result c.requires.here (sym c.in-Some.ensures) (edge_qr c.args.t) c.is_tied-in-Some.ensures.0 c.is_tied-in-Some.ensures.1 h,
    mates_only (map_of c.args.plan.now) c.args.mesh.now.triangles c.args.labels.now c.args.k c.in-Some.label c.args.t _ c.is_tied-in-Some-2.result c.requires.here (sym c.in-Some.ensures) (edge_rp c.args.t) c.is_tied-in-Some-2.ensures.0 c.is_tied-in-Some-2.ensures.1 h,
  ),
)
