use Rattle.std.proofs.Common.{◌≡◌, ◌+◌, length}
use Rattle.cert_checker.specs.TreeJudge.Roots.{first_at}
use Rattle.cert_checker.proofs.TreeJudge.Answering.{IsFollowed}
use Rattle.cert_checker.proofs.tree_judge.trees.first_wrong.Given as goal

abbrev pub invariant-loop-number : goal.invariant-loop-number
invariant-loop-number l = record {
  sectors : l.reached.n ≡ l.fn.reached.n;
  counted : l.number + length l.node-iterator ≡ length l.tree.nodes;
  followed : IsFollowed l.terrain.edges.now l.terrain.roots.now.roots.items (first_at l.terrain.roots.now.first.items l.tree.source) l.tree.source l.tree.nodes l.node-iterator l.number l.path l.waits l.follow l.fn.reached l.reached;
}
