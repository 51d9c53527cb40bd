use Rattle.std.proofs.Common.{length, ap, arith}
use Rattle.group_job.proofs.LabelledLaws.{few_of, ascending_of}
use Rattle.group_job.proofs.certificate.labelled.Goals as goal

pub returns-clause-few : goal.returns-clause-few
returns-clause-few c = few_of c.args.mesh.now.triangles c.triangles-triangles.result.now c.as_slice-labels.result.now c.loop-number.number c.loop-number.found.items c.triangles-triangles.ensures.list c.loop-number.invariant c.loop-number-test.false (let e = ap length c.triangles-triangles.ensures.list in let f = ap length c.as_slice-labels.ensures in let g = c.requires in let h = c.loop-number-test.false in omega arith)

pub returns-clause-ascend : goal.returns-clause-ascend
returns-clause-ascend c = ascending_of c.args.mesh.now.points c.args.mesh.now.triangles c.triangles-triangles.result.now c.as_slice-labels.result.now c.loop-number.number c.loop-number.found.items c.triangles-triangles.ensures.list c.triangles-triangles.ensures.triangles c.loop-number.invariant c.loop-number-test.false (let e = ap length c.triangles-triangles.ensures.list in let f = ap length c.as_slice-labels.ensures in let g = c.requires in let h = c.loop-number-test.false in omega arith)
