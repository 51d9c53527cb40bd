use Rattle.std.proofs.Common.{◌≤◌, ◌++◌, Option, length, arith, subst}
use Rattle.std.specs.Prelude.{IfSome}
use Rattle.std.proofs.lemmas.List.{length-append}
use Rattle.std.proofs.lemmas.Result.{IfOk-weaker}
use Rattle.any_judge.specs.declared.opening.Asked.{Asked}
use Rattle.any_judge.specs.Course.{IsAsked, IsOnCourse}
use Rattle.any_judge.proofs.course.Course.feed.Goals as goal

pub feed-requires-in-Told : goal.feed-requires-in-Told
feed-requires-in-Told c = let m = c.requires in record { plan = m.plan; table = m.table; bytes = m.bytes; taken = (subst (IsOnCourse m.plan m.table m.bytes) c.in-Told.is m.course).1; few = m.few }

pub returns-in-Told : goal.returns-in-Told
returns-in-Told c = λ p t bytes w.
    let h = subst (IsOnCourse p t bytes) c.in-Told.is w in
    IfOk-weaker c.feed-in-Told.result _ _ (λ x taken. (omega (arith, h.0, length-append bytes c.args.piece.now), taken)) (c.feed-in-Told.ensures p t bytes h.0 h.1)

pub returns-in-Some-Told : goal.returns-in-Some-Told
returns-in-Some-Told c = λ p t bytes w.
    let o = subst (IsOnCourse p t bytes) c.in-Opening.is w in
    let told = c.in_ok-versed-in-Opening.ensures in
    let x = c.in-Some-Told in
    let enough = subst (λ (a : Option Asked). IfSome a (λ _. 6 ≤ length (bytes ++ c.args.piece.now))) x.is (told.enough p t bytes o) in
    let taken = subst (λ (a : Option Asked). IfSome a (IsAsked p t (bytes ++ c.args.piece.now))) x.is (told.asked p t bytes o) in
    (enough, subst (IsAsked p t (bytes ++ c.args.piece.now)) x.field-0-is taken)
