use Rattle.std.proofs.Common.{ℕ, ◌≤◌, List, length, sym, subst}
use Rattle.sight_names.specs.declared.limits.TheConstants.{MOST_TRIANGLES}
use Rattle.sight_names.specs.Mesh.{AreTriangles}
use Rattle.cert_format.specs.declared.cert.Labelled.{Labelled}
use Rattle.cert_format.proofs.LimitLaws.{few_of}
use Rattle.cert_checker.specs.Apart.{triangles_in}
use Rattle.cert_checker.proofs.judge.mesh_of.Goals as goal

pub mesh_over-requires-clause-triangles : goal.mesh_over-requires-clause-triangles
mesh_over-requires-clause-triangles c =
    let cert = c.args.cert.now in
    subst (λ (n : ℕ). AreTriangles n (triangles_in c.triangles.result.now)) c.requires
    (subst (λ (ls : List Labelled). AreTriangles cert.sizes.points (triangles_in ls)) (sym c.triangles.ensures.list) c.triangles.ensures.in_order.triangles)

pub mesh_over-requires-clause-few : goal.mesh_over-requires-clause-few
mesh_over-requires-clause-few c =
    let cert = c.args.cert.now in
    subst (λ (ls : List Labelled). length ls ≤ MOST_TRIANGLES) (sym c.triangles.ensures.list) (few_of cert.sizes.points (length cert.triangles) c.triangles.ensures.in_order.few)
