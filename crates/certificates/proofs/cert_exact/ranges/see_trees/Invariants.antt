use Rattle.std.proofs.Common.{◌<◌, ◌^◌, List, length, take}
use Rattle.std.specs.List.{AllByRecursion}
use Rattle.block_evidence.specs.declared.sight_tree.Node.{Node}
use Rattle.block_evidence.specs.SightTree.Spelling.{FitsNode}
use Rattle.certificates.specs.CertExact.Grammar.{nodes_bytes}
use Rattle.certificates.proofs.cert_exact.ranges.see_trees.Given as goal

abbrev pub invariant-loop-tree : goal.invariant-loop-tree
invariant-loop-tree l =
    record {
      lengths : AllByRecursion (λ (ns : List Node). length (nodes_bytes ns) < 2 ^ 64) (take l.tree-index l.trees);
      fit : AllByRecursion (λ (ns : List Node). AllByRecursion FitsNode ns) (take l.tree-index l.trees);
    }
