use Rattle.std.proofs.Common.{◌≡◌, ◌+◌, length, max, take, arith}
use Rattle.cert_checker.specs.TreeJudge.Path.{longest_of}
use Rattle.cert_checker.proofs.TreeJudge.Ways.{longest_step}
use Rattle.cert_checker.proofs.tree_judge.trees.path_of.Goals as goal

pub loop-tree-preserved : goal.loop-tree-preserved
loop-tree-preserved c =
    let ts = c.args.trees.now in
    let h : longest_of (take (c.loop-tree.tree-index + 1) ts) ≡ max (longest_of (take c.loop-tree.tree-index ts)) (length c.tree-item.result.nodes) = longest_step ts c.loop-tree.tree-index c.tree-item.result c.loop-tree-test.true c.tree-item.is in
    let n : c.len.result ≡ length c.tree-item.result.nodes = c.len.ensures in
    omega (arith, h, n, c.max-longest.ensures, c.loop-tree.invariant)
