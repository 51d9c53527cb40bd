use Rattle.std.proofs.Common.{◌≡◌, ◌+◌, ◌∷◌, ◌++◌, [], Some, length, refl, sym, ◌∙◌, ap, arith}
use Rattle.std.specs.List.{slice_get}
use Rattle.std.proofs.lemmas.List.{length_push}
use Rattle.std.proofs.lemmas.Option.{slice_get-get_or}
use Rattle.certificates.proofs.CertParts.Stretches.{takes_more}
use Rattle.cert_checker.proofs.TreeJudge.StepAnswers.{opened_by_step, blocked_by_step, refused_by_step, follows_answered, follows_refused}
use Rattle.cert_checker.proofs.tree_judge.walk.follow_nodes.Goals as goal

pub rest-preserved-in-Open : goal.rest-preserved-in-Open
rest-preserved-in-Open c =
    let l = c.rest in
    let roots = c.args.roots.now in
    let s = c.in-Some.step.now in
    let found = c.in-Some.ensures.lookup in
    let there : slice_get c.args.steps.now l.asked ≡ Some s = slice_get-get_or c.args.steps.now l.asked s found.3.0 ∙ ap Some (sym found.1) in
    let equal : length l.waits ≡ length l.path = omega (arith, l.auto.path, l.auto.waits, c.requires.waits) in
    let entered = c.enter_step-asked in
    record {
      so_far = takes_more c.args.bytes.now c.args.count l.rest.now c.in-Some-usual_node.behind.now l.left c.in-Some-usual_node.node _ _ l.invariant.so_far c.rest-test.true c.in-Some-usual_node.ensures.read
          (λ ns v xs are. rw c.in-Open.is (follows_answered xs roots.roots.items roots.first.items c.args.source _ _ _ _ ns _ l.path l.waits _ l.reached (v xs are) c.if-at-path.true equal c.put_step.new.path entered.new.waits _ c.note_code.new.reached
          entered.ensures.within entered.ensures.room
          (opened_by_step xs roots.roots.items c.args.source c.args.steps.now l.path c.put_step.new.path l.waits l.at l.asked s are c.requires.steps there c.put_step.ensures entered.new.waits entered.new.follow entered.result l.reached c.note_code.new.reached
          (λ x is. entered.ensures.enters xs x is) c.note_code.ensures.noted)));
      seen = c.note_code.ensures.seen;
    }

pub rest-preserved : goal.rest-preserved
rest-preserved c =
    let l = c.rest in
    let roots = c.args.roots.now in
    let s = c.in-Some.step.now in
    let found = c.in-Some.ensures.lookup in
    let there : slice_get c.args.steps.now l.asked ≡ Some s = slice_get-get_or c.args.steps.now l.asked s found.3.0 ∙ ap Some (sym found.1) in
    let equal : length l.waits ≡ length l.path = omega (arith, l.auto.path, l.auto.waits, c.requires.waits) in
    let put = c.put_step-in-Blocked in
    let next = c.next_place-asked in
    record {
      so_far = takes_more c.args.bytes.now c.args.count l.rest.now c.in-Some-usual_node.behind.now l.left c.in-Some-usual_node.node _ _ l.invariant.so_far c.rest-test.true c.in-Some-usual_node.ensures.read
          (λ ns v xs are. rw c.in-Blocked.is (follows_answered xs roots.roots.items roots.first.items c.args.source _ _ _ _ ns _ l.path l.waits _ l.reached (v xs are) c.if-at-path.true equal put.new.path l.waits _ l.reached
          next.ensures.within next.ensures.room
          (blocked_by_step xs roots.roots.items c.args.source c.args.steps.now l.path put.new.path l.waits l.at l.asked s are c.requires.steps there put.ensures next.new.follow next.result c.in-Blocked.evidence l.reached
          (c.if-not-is_shown.ensures.0 refl) next.ensures.next)));
      seen = l.invariant.seen;
    }

pub returns-then-not-is_shown : goal.returns-then-not-is_shown
returns-then-not-is_shown c =
    let l = c.rest in
    let roots = c.args.roots.now in
    let s = c.in-Some.step.now in
    let found = c.in-Some.ensures.lookup in
    let there : slice_get c.args.steps.now l.asked ≡ Some s = slice_get-get_or c.args.steps.now l.asked s found.3.0 ∙ ap Some (sym found.1) in
    let equal : length l.waits ≡ length l.path = omega (arith, l.auto.path, l.auto.waits, c.requires.waits) in
    let put = c.put_step-in-Blocked in
    takes_more c.args.bytes.now c.args.count l.rest.now c.in-Some-usual_node.behind.now l.left c.in-Some-usual_node.node _ _ l.invariant.so_far c.rest-test.true c.in-Some-usual_node.ensures.read
    (λ ns v. (
      λ _. let h : length (ns ++ c.in-Some-usual_node.node ∷ []) ≡ length ns + 1 = length_push ns c.in-Some-usual_node.node in omega (arith, h),
      λ xs are. rw c.in-Blocked.is (follows_refused xs roots.roots.items roots.first.items c.args.source _ _ _ _ ns _ l.path l.waits _ l.reached (v xs are) c.if-at-path.true equal put.new.path l.waits c.args.follow.now l.reached
          (refused_by_step xs roots.roots.items c.args.source c.args.steps.now l.path put.new.path l.waits l.at l.asked s are c.requires.steps there put.ensures c.in-Blocked.evidence c.if-not-is_shown.ensures)),
    ))
