use Rattle.cert_checker.proofs.TreeJudge.Chains.{HasRootsFrom}
use Rattle.cert_checker.proofs.tree_judge.roots.Roots.of.Given as goal

abbrev pub invariant-loop-k : goal.invariant-loop-k
invariant-loop-k l = HasRootsFrom l.mesh.triangles l.edges l.plan l.k l.roots.items l.first.items
