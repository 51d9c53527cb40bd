use Rattle.std.proofs.Common.{List, false}
use Rattle.block_evidence.specs.declared.sight_tree.Node.{Node}
use Rattle.mesh_shape.specs.declared.half_edges.table.HalfEdge.{HalfEdge}
use Rattle.certificates.specs.CertParts.Nodes.{TakesNodes}
use Rattle.cert_checker.specs.TreeJudge.Path.{with_asked}
use Rattle.cert_checker.specs.TreeJudge.Steps.{code_told, AreSeenNoted, AreSteps}
use Rattle.cert_checker.specs.TreeJudge.Walked.{FollowsAt}
use Rattle.cert_checker.proofs.tree_judge.walk.follow_nodes.Given as goal

abbrev pub decreases-rest : goal.decreases-rest
decreases-rest l = l.left

abbrev pub invariant-rest : goal.invariant-rest
invariant-rest l = record {
  so_far : TakesNodes l.bytes l.count l.rest l.left (λ (ns : List Node). (xs : List HalfEdge) → AreSteps xs l.steps → FollowsAt xs l.roots.roots.items l.roots.first.items l.source l.fn.path l.fn.waits l.fn.follow l.fn.reached l.path l.waits (with_asked l.at (code_told l.asked)) l.reached false ns);
  seen : AreSeenNoted l.source l.seen l.reached;
}
