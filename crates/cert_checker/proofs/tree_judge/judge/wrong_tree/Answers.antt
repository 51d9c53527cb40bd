use Rattle.std.proofs.Common.{◌≡◌, ◌≤◌, ◌∙◌, ap, sym, refl, Some, length, arith}
use Rattle.std.specs.List.{slice_get}
use Rattle.std.proofs.lemmas.Option.{slice_get-get_or}
use Rattle.cert_checker.proofs.TreeJudge.AllTrees.{none_yet, one_more, wrong_tree, all_whole, longest_has}
use Rattle.cert_checker.specs.TreeJudge.Path.{longest_of}
use Rattle.cert_checker.proofs.tree_judge.judge.wrong_tree.Goals as goal

pub loop-tree-init : goal.loop-tree-init
loop-tree-init c = record {
  sectors = refl;
  whole = λ m ts are low. none_yet m ts c.args.terrain.now.edges.now c.args.trees.now c.args.walked.now c.args.reached.now;
}

pub loop-tree-preserved : goal.loop-tree-preserved
loop-tree-preserved c =
    let l = c.loop-tree in
    let t = c.tree-item.result in
    let trees = c.args.trees.now in
    record {
      sectors = c.in_default.ensures.sectors ∙ l.invariant.sectors;
      whole = λ m ts are low. one_more m ts c.args.terrain.now.edges.now trees c.args.walked.now c.args.reached.now l.tree-index t c.args.terrain.now.roots.now.roots.items c.args.terrain.now.roots.now.first.items
          l.walked c.mark.new.flags l.reached c.first_wrong.new.reached are (low t (l.tree-index, c.loop-tree-test.true, sym c.tree-item.is)) (slice_get-get_or trees l.tree-index t c.loop-tree-test.true ∙ ap Some (sym c.tree-item.is)) (l.invariant.whole m ts are low) c.in_default.ensures.whole c.mark.ensures;
    }

pub returns-clause-whole : goal.returns-clause-whole
returns-clause-whole c = λ m ts are low. all_whole m ts c.args.terrain.now.edges.now c.args.trees.now c.args.walked.now c.args.reached.now c.loop-tree.tree-index c.loop-tree.walked c.loop-tree.reached (omega arith) (c.loop-tree.invariant.whole m ts are low)

pub returns-in-Some-clause-wrong : goal.returns-in-Some-clause-wrong
returns-in-Some-clause-wrong c = λ long wide m ts are low.
    let l = c.loop-tree in
    let t = c.tree-item.result in
    let trees = c.args.trees.now in
    let here : slice_get trees l.tree-index ≡ Some t = slice_get-get_or trees l.tree-index t c.loop-tree-test.true ∙ ap Some (sym c.tree-item.is) in
    let same : length l.path ≡ length c.args.path.now = l.auto.path in
    let equal : length l.waits ≡ length c.args.waits.now = l.auto.waits in
    let few : length t.nodes ≤ longest_of trees = longest_has trees l.tree-index t here in
    wrong_tree m ts c.args.terrain.now.edges.now trees c.args.walked.now c.args.reached.now l.tree-index c.in-Some.node t c.args.terrain.now.roots.now.roots.items c.args.terrain.now.roots.now.first.items
    l.walked l.reached are (low t (l.tree-index, c.loop-tree-test.true, sym c.tree-item.is)) here (l.invariant.whole m ts are low) (c.in-Some.ensures.wrong (omega (arith, long, same, few)) (omega (arith, wide, equal, few)))
