use Rattle.std.proofs.Common.{false}
use Rattle.certificates.specs.CertParts.Nodes.{TakesNodes}
use Rattle.gate_floods.specs.RowJudge.Judged.{FollowsAt}
use Rattle.gate_floods.specs.RowJudge.Masks.{rows_of}
use Rattle.gate_floods.proofs.row_judge.walk.follow_nodes.Given as goal

abbrev pub decreases-rest : goal.decreases-rest
decreases-rest l = l.left

abbrev pub invariant-rest : goal.invariant-rest
invariant-rest l = TakesNodes l.bytes l.count l.rest l.left (FollowsAt l.terrain.edges.now (rows_of l.masks) l.terrain.roots.now.roots.items l.terrain.roots.now.first.items l.source l.initial.path l.initial.rows.items l.initial.waits.items l.initial.at l.path l.rows.items l.waits.items l.at false)
