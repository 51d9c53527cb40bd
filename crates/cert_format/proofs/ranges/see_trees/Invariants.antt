use Rattle.std.proofs.Common.{take}
use Rattle.std.specs.List.{AllByRecursion}
use Rattle.cert_format.specs.Grammar.{FitsTree}
use Rattle.cert_format.proofs.ranges.see_trees.Given as goal

abbrev pub invariant-loop-tree : goal.invariant-loop-tree
invariant-loop-tree l = AllByRecursion FitsTree (take l.tree-index l.trees)
