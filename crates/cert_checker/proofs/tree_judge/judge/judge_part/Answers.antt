use Rattle.std.proofs.Common.{◌≡◌, ◌≤◌, ◌∙◌, length, ap, sym, subst, arith}
use Rattle.cert_checker.specs.TreeJudge.Marks.{HasNoMark}
use Rattle.cert_checker.specs.TreeJudge.Path.{longest_of}
use Rattle.cert_checker.proofs.TreeJudge.Noting.{stored}
use Rattle.cert_checker.proofs.TreeJudge.PartsTold.{part_noted}
use Rattle.cert_checker.proofs.tree_judge.judge.judge_part.Goals as goal

pub returns-in-Some : goal.returns-in-Some
returns-in-Some c = λ m ts size are low.
    let trees = c.args.trees.now in
    let long : longest_of trees ≤ length c.as_mut_slice-path.result.now = let e : length c.as_mut_slice-path.result.now ≡ length c.in_ok-path.path.items = ap length c.as_mut_slice-path.ensures.value in omega (arith, e, c.in_ok-path.ensures) in
    let wide : longest_of trees ≤ length c.as_mut_slice-waits.result.now = let e : length c.as_mut_slice-waits.result.now ≡ length c.in_ok-waits.waits.items = ap length c.as_mut_slice-waits.ensures.value in omega (arith, e, c.in_ok-path.ensures, c.in_ok-waits.ensures) in
    c.in-Some.ensures.wrong long wide m ts are low

pub returns : goal.returns
returns c = λ m ts size are low.
    let trees = c.args.trees.now in
    let over = c.in-None.ensures.whole m ts are low in
    let none : HasNoMark m.sectors c.in_ok-walked.walked.items = subst (λ n. HasNoMark n c.in_ok-walked.walked.items) (sym size) c.in_ok-walked.ensures in
    let back = stored c.wrong_tree.new.walked _ c.in_ok-walked.walked.len (let e : length c.wrong_tree.new.walked ≡ length c.as_mut_slice.result.now = c.wrong_tree.auto.walked in e ∙ c.as_mut_slice.ensures.len) in
    part_noted m ts c.args.terrain.now.edges.now trees c.in_ok-walked.walked.items c.as_mut_slice.result.now c.wrong_tree.new.walked _ c.in_ok-reached.reached c.wrong_tree.new.reached
    none c.as_mut_slice.ensures.value c.in_ok-reached.ensures.clear (c.in_ok-reached.ensures.sectors ∙ sym size) back c.wrong_tree.auto.walked c.in-None.ensures.sectors over
