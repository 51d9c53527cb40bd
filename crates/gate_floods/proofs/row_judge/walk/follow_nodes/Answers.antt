use Rattle.std.proofs.Common.{◌≡◌, true, false, rules}
use Rattle.certificates.proofs.CertParts.Stretches.{takes_none, takes_more}
use Rattle.gate_floods.proofs.RowJudge.Nodes.{follows_none, follows_step, answered_over, refused_over}
use Rattle.gate_floods.proofs.row_judge.walk.follow_nodes.Goals as goal
use Rattle.gate_floods.proofs.row_judge.walk.follow_nodes.Goals.{in-Open+in_ok-answers-in-Open, in-Blocked}

pub rest-init : goal.rest-init
rest-init c = takes_none c.args.bytes.now c.args.count _ (follows_none _ _ _ _ _ _ _ _ _)

pub rest-preserved : goal.rest-preserved
rest-preserved c =
    let yes : c.match-node.answers ≡ true = search (rules, c.if-not-answers.false) in
    takes_more c.args.bytes.now c.args.count c.rest.rest.now c.in-Some.behind.now c.rest.left c.in-Some.node _ _ c.rest.invariant c.rest-test.true c.in-Some.ensures.read
    (λ ns v. elim c.match-node.branch [
      | in-Open+in_ok-answers-in-Open w ↦ rw w.in-Open.is (follows_step _ _ _ _ _ _ _ _ _ ns _ _ _ _ _ v _ _ _ _ _ _ _ _ _ _ true w.path-is (λ i. (w.rows-is i).items) (λ i. (w.waits-is i).items) w.at-is w.answers-is yes c.if-at-path.true w.in_ok-answers-in-Open.ensures.answered w.in_ok-answers-in-Open.ensures.refused)
      | in-Blocked w ↦ rw w.in-Blocked.is (follows_step _ _ _ _ _ _ _ _ _ ns _ _ _ _ _ v _ _ _ _ _ _ _ _ _ _ true w.path-is (λ i. (w.rows-is i).items) (λ i. (w.waits-is i).items) w.at-is w.answers-is yes c.if-at-path.true (answered_over _ _ _ _ _ _ _ _ _ _ _ w.as_slice.ensures.value _ _ _ w.answer_blocked-answers.ensures.answered) (refused_over _ _ _ _ _ _ _ _ _ _ _ w.as_slice.ensures.value w.answer_blocked-answers.ensures.refused))
    ])

pub returns-then-not-answers : goal.returns-then-not-answers
returns-then-not-answers c =
    let none : c.match-node.answers ≡ false = search (rules, c.if-not-answers.true) in
    takes_more c.args.bytes.now c.args.count c.rest.rest.now c.in-Some.behind.now c.rest.left c.in-Some.node _ _ c.rest.invariant c.rest-test.true c.in-Some.ensures.read
    (λ ns v. elim c.match-node.branch [
      | in-Open+in_ok-answers-in-Open w ↦ rw w.in-Open.is (follows_step _ _ _ _ _ _ _ _ _ ns _ _ _ _ _ v _ _ _ _ _ _ _ _ _ _ false w.path-is (λ i. (w.rows-is i).items) (λ i. (w.waits-is i).items) w.at-is w.answers-is none c.if-at-path.true w.in_ok-answers-in-Open.ensures.answered w.in_ok-answers-in-Open.ensures.refused)
      | in-Blocked w ↦ rw w.in-Blocked.is (follows_step _ _ _ _ _ _ _ _ _ ns _ _ _ _ _ v _ _ _ _ _ _ _ _ _ _ false w.path-is (λ i. (w.rows-is i).items) (λ i. (w.waits-is i).items) w.at-is w.answers-is none c.if-at-path.true (answered_over _ _ _ _ _ _ _ _ _ _ _ w.as_slice.ensures.value _ _ _ w.answer_blocked-answers.ensures.answered) (refused_over _ _ _ _ _ _ _ _ _ _ _ w.as_slice.ensures.value w.answer_blocked-answers.ensures.refused))
    ])
