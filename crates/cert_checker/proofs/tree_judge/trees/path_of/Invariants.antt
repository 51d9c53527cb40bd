use Rattle.std.proofs.Common.{◌≡◌, take}
use Rattle.cert_checker.specs.TreeJudge.Path.{longest_of}
use Rattle.cert_checker.proofs.tree_judge.trees.path_of.Given as goal

abbrev pub invariant-loop-tree : goal.invariant-loop-tree
invariant-loop-tree l = l.longest ≡ longest_of (take l.tree-index l.trees)
