use Rattle.std.proofs.Common.{Some, ap, sym, refl}
use Rattle.mesh_shape.specs.HalfEdges.HalfEdges.{way_outside}
use Rattle.cert_checker.proofs.TreeJudge.Stepping.{leads_nowhere, leads_by, nothing_there}
use Rattle.cert_checker.proofs.tree_judge.steps.way_of.Goals as goal

pub returns-in_default : goal.returns-in_default
returns-in_default c = leads_nowhere c.args.edges.now c.args.way 65536 (λ source. ap (way_outside c.args.edges.now source) c.in_default.is)

pub returns-in-Some-get : goal.returns-in-Some-get
returns-in-Some-get c = leads_by c.args.edges.now c.in-Some.number c.in-Some-get.edge.now c.args.way (Some c.in-Some.number) _ (sym c.in-Some-get.ensures) c.in-Some.is refl c.code_of.ensures.value

pub returns-in-None : goal.returns-in-None
returns-in-None c = nothing_there c.args.edges.now c.in-Some.number c.args.way 65536 (sym c.in-None.ensures) c.in-Some.is
