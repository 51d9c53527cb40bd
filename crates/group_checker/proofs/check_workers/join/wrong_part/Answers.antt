use Rattle.std.proofs.Common.{◌+◌, List, drop, subst, arith}
use Rattle.std.proofs.lemmas.List.{drop_all}
use Rattle.cert_checker.specs.declared.tree_judge.judge.TreeVerdict.{TreeVerdict}
use Rattle.cert_checker.specs.declared.tree_judge.judge.TreeVerdict.TheVariants.{Whole, Wrong}
use Rattle.group_checker.proofs.CheckWorkers.Joining.{AreJoined, all_joined, none_joined, one_joined, next_left, wrong_joined}
use Rattle.group_checker.proofs.check_workers.join.wrong_part.Goals as goal

pub loop-part-init : goal.loop-part-init
loop-part-init c = λ m ts xs lists told noted. none_joined m ts xs lists c.args.parts.now c.args.walked.now c.args.reached.now told noted

pub loop-part-preserved : goal.loop-part-preserved
loop-part-preserved c = λ m ts xs lists told noted.
    let l = c.loop-part in
    let left = next_left c.args.parts.now l.part-index c.part-item.result (Whole c.in-Whole.reach) c.loop-part-test.true c.part-item.is c.in-Whole.is in
    one_joined m ts xs lists c.in-Whole.reach (drop (l.part-index + 1) c.args.parts.now) l.walked c.take_in.new.walked l.reached c.take_in.new.reached
    (subst (λ (ps : List TreeVerdict). AreJoined m ts xs lists ps l.walked l.reached) left (l.invariant m ts xs lists told noted)) c.take_in.ensures

pub returns-in-Wrong : goal.returns-in-Wrong
returns-in-Wrong c = λ m ts xs lists told noted.
    let l = c.loop-part in
    let left = next_left c.args.parts.now l.part-index c.part-item.result (Wrong c.in-Wrong.source c.in-Wrong.node) c.loop-part-test.true c.part-item.is c.in-Wrong.is in
    wrong_joined m ts xs lists c.in-Wrong.source c.in-Wrong.node (drop (l.part-index + 1) c.args.parts.now) l.walked l.reached
    (subst (λ (ps : List TreeVerdict). AreJoined m ts xs lists ps l.walked l.reached) left (l.invariant m ts xs lists told noted))

pub returns : goal.returns
returns c = λ m ts xs lists told noted.
    let l = c.loop-part in
    all_joined m ts xs lists l.walked l.reached
    (subst (λ (ps : List TreeVerdict). AreJoined m ts xs lists ps l.walked l.reached) (drop_all l.part-index c.args.parts.now (omega arith)) (l.invariant m ts xs lists told noted))
