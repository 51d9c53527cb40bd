use Rattle.std.proofs.Common.{◌≡◌, List}
use Rattle.sight_names.specs.declared.names.Triangle.{Triangle}
use Rattle.sight_names.specs.Map.{Map}
use Rattle.cert_checker.specs.TreeJudge.Roots.{AreRootChains}
use Rattle.cert_checker.specs.TreeJudge.Whole.{HaveSourcesBelow}
use Rattle.cert_checker.proofs.TreeJudge.AllTrees.{AreWholeBelow}
use Rattle.cert_checker.proofs.tree_judge.judge.wrong_tree.Given as goal

abbrev pub invariant-loop-tree : goal.invariant-loop-tree
invariant-loop-tree l = record {
  sectors : l.reached.n ≡ l.fn.reached.n;
  whole : (m : Map) (ts : List Triangle) → AreRootChains m ts l.terrain.edges.now l.terrain.roots.now.roots.items l.terrain.roots.now.first.items → HaveSourcesBelow m.sectors l.trees
      → AreWholeBelow m ts l.terrain.edges.now l.trees l.fn.walked l.fn.reached l.tree-index l.walked l.reached;
}
