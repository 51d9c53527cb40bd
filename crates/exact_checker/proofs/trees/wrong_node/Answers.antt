use Rattle.std.proofs.Common.{Some, None, sym, arith}
use Rattle.std.proofs.lemmas.Option.{slice_get_read, slice_get_within}
use Rattle.exact_checker.specs.Judged.{AnswersFor}
use Rattle.exact_checker.proofs.Judging.{answers_for, tree_more}
use Rattle.gate_floods.specs.RowJudge.Masks.{rows_of}
use Rattle.exact_checker.specs.Owning.{owning_of}
use Rattle.exact_checker.proofs.trees.wrong_node.Goals as goal

pub returns-in-Some : goal.returns-in-Some
returns-in-Some c =
    let at = slice_get_read c.args.trees.now c.args.known.count c.loop-number.number c.index-trees-number.result (sym c.requires.one_each) (omega arith) c.index-trees-number.is in
    let right = answers_for c.args.terrain.now.edges.now (rows_of c.args.masks.now) c.args.terrain.now.roots.now.roots.items c.args.terrain.now.roots.now.first.items (owning_of c.args.known) c.loop-number.number c.in_ok-row.row.items c.as_slice-row.result.now c.as_slice-row.ensures.value c.in_ok-row.ensures.bits
    c.index-trees-number.result c.in_ok-node.field-0 (Some c.in-Some.node) c.in-Some.is c.in_ok-node.ensures in
    ((c.index-trees-number.result, at, right), c.loop-number.invariant)

pub loop-number-preserved : goal.loop-number-preserved
loop-number-preserved c =
    let at = slice_get_read c.args.trees.now c.args.known.count c.loop-number.number c.index-trees-number.result (sym c.requires.one_each) (omega arith) c.index-trees-number.is in
    let right = answers_for c.args.terrain.now.edges.now (rows_of c.args.masks.now) c.args.terrain.now.roots.now.roots.items c.args.terrain.now.roots.now.first.items (owning_of c.args.known) c.loop-number.number c.in_ok-row.row.items c.as_slice-row.result.now c.as_slice-row.ensures.value c.in_ok-row.ensures.bits
    c.index-trees-number.result c.in_ok-node.field-0 None c.in_default.is c.in_ok-node.ensures in
    tree_more (λ f ns. AnswersFor c.args.terrain.now.edges.now (rows_of c.args.masks.now) c.args.terrain.now.roots.now.roots.items c.args.terrain.now.roots.now.first.items (owning_of c.args.known) f ns None) c.args.trees.now c.loop-number.number c.index-trees-number.result at c.loop-number.invariant right

pub returns : goal.returns
returns c = λ f ns at. c.loop-number.invariant f ns (let l = slice_get_within c.args.trees.now f ns at in omega (arith, l)) at
