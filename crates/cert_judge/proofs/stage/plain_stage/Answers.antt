use Rattle.std.proofs.Common.{length, refl}
use Rattle.cert_format.proofs.LimitLaws.{few_of}
use Rattle.cert_judge.specs.Stage.{AreTrianglesInOrder}
use Rattle.cert_judge.proofs.Grounds.{first_of_labelled, plain_fault}
use Rattle.cert_judge.proofs.stage.plain_stage.Goals as goal

pub mesh_over-requires-clause-few : goal.mesh_over-requires-clause-few
mesh_over-requires-clause-few c =
    let points = length c.points.result.now in
    let are : AreTrianglesInOrder points c.args.labelled.now = c.if-not-are_in_order.ensures.0 refl in
    few_of points (length c.args.labelled.now) are.few

pub returns-in-Some : goal.returns-in-Some
returns-in-Some c = plain_fault c.args.plan.now c.args.labelled.now c.in-Some.fault (first_of_labelled c.args.plan.now c.args.labelled.now c.in_ok-mesh.mesh _ c.in_ok-mesh.labels c.in-Some.fault c.in_ok-mesh.ensures.triangles c.in_ok-mesh.ensures.labels c.in-Some.ensures)
