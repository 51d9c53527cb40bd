use Rattle.std.proofs.Common.{[], Option, ◌++◌, ap, refl, sym, subst, ◌∙◌}
use Rattle.std.specs.Prelude.{MatchOption}
use Rattle.sight_names.specs.declared.faults.CertFault.{CertFault}
use Rattle.certificates.specs.declared.exact_parts.part.Part.{Part}
use Rattle.certificates.specs.ExactParts.Left.{parts_left, put_before}
use Rattle.any_judge.specs.ExactJudge.Intake.{AreRefusedExact, IsGoingOn}
use Rattle.any_judge.proofs.ExactJudge.Intakes.{all_taken, fault_taken, part_taken}
use Rattle.any_judge.proofs.exact_judge.intake.Intake.take_one.Goals as goal

pub returns-in_ok-hear-in-Ok-Some-default-clause-more : goal.returns-in_ok-hear-in-Ok-Some-default-clause-more
returns-in_ok-hear-in-Ok-Some-default-clause-more c = λ p t bytes w.
    let ahead = c.in_ok-rest in
    let on = ahead.ensures.heard p t bytes w in
    let x = c.in-Ok-Some-default in
    let new = record c.take_nodes.new.self { reader = c.next.new.self; judging = c.hear.new.self } in
    part_taken p t bytes ahead.rest.now c.take_nodes.new.self on x.part x.behind.now new
    (λ more. x.ensures.part ahead.ensures.countable more ∙ ap (λ (o : Option Part). put_before o (parts_left c.next.new.self (x.behind.now ++ more))) x.field-0-0-is) (x.ensures.given ahead.ensures.countable) (c.in_ok-hear-in-Ok-Some-default.ensures p t on.groups on.parts on.heard)

pub returns-in_ok-told-in-Err-clause-all : goal.returns-in_ok-told-in-Err-clause-all
returns-in_ok-told-in-Err-clause-all c = λ p t bytes w none.
    let ahead = c.in_ok-rest in
    fault_taken p t bytes ahead.rest.now c.take_nodes.new.self (ahead.ensures.heard p t bytes w) c.in_ok-told-in-Err.told
    (λ more. c.in_ok-told-in-Err.ensures (parts_left c.take_nodes.new.self.reader (ahead.rest.now ++ more)) (c.in-Err.ensures.fault ahead.ensures.countable more))

pub returns-in-Ok-None-default-clause-all : goal.returns-in-Ok-None-default-clause-all
returns-in-Ok-None-default-clause-all c = λ p t bytes w none.
    let ahead = c.in_ok-rest in
    let x = c.in-Ok-None-default in
    let new = record c.take_nodes.new.self { reader = c.next.new.self } in
    let on : IsGoingOn p t bytes [] new = all_taken p t bytes ahead.rest.now c.take_nodes.new.self (ahead.ensures.heard p t bytes w) x.field-0-1.now new
    (λ more. x.ensures.part ahead.ensures.countable more ∙ ap (λ (o : Option Part). put_before o (parts_left c.next.new.self (x.field-0-1.now ++ more))) x.field-0-0-is) (x.ensures.used x.field-0-0-is) (x.ensures.given ahead.ensures.countable) refl in
    subst (λ (o : Option CertFault). MatchOption o (IsGoingOn p t bytes [] new) (AreRefusedExact p bytes)) (sym (c.take_nodes.ensures.still ∙ c.requires.on)) on
