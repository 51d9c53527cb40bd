use Rattle.std.proofs.Common.{◌++◌, [], Option, ap, refl, sym, subst, ◌∙◌}
use Rattle.std.specs.Prelude.{MatchOption}
use Rattle.sight_names.specs.declared.faults.CertFault.{CertFault}
use Rattle.certificates.specs.declared.cert_parts.part.Part.{Part}
use Rattle.certificates.specs.CertParts.Left.{parts_left, put_before}
use Rattle.cert_judge.specs.Intake.{AreRefusedListing, IsGoingOn}
use Rattle.cert_judge.proofs.Intakes.{all_taken, fault_taken, part_taken}
use Rattle.cert_judge.proofs.intake.Intake.take_one.Goals as goal

pub returns-in_ok-hear-in-Ok-Some-default-clause-more : goal.returns-in_ok-hear-in-Ok-Some-default-clause-more
returns-in_ok-hear-in-Ok-Some-default-clause-more c = λ p t bytes w.
    let behind_nodes = c.take_nodes-rest.ensures in
    let on = behind_nodes.heard p t bytes w in
    let x = c.in-Ok-Some-default in
    let new = record c.take_nodes-rest.new.self { reader = c.next.new.self; judging = c.hear.new.self } in
    part_taken p t bytes c.take_nodes-rest.result.now c.take_nodes-rest.new.self on x.part x.behind.now new
    (λ more. x.ensures.part behind_nodes.countable more ∙ ap (λ (o : Option Part). put_before o (parts_left c.next.new.self (x.behind.now ++ more))) x.field-0-0-is) (x.ensures.given behind_nodes.countable) (c.hear.ensures p t on.groups on.parts on.heard)

pub returns-in-Err-clause-all : goal.returns-in-Err-clause-all
returns-in-Err-clause-all c = λ p t bytes w none.
    let behind_nodes = c.take_nodes-rest.ensures in
    fault_taken p t bytes c.take_nodes-rest.result.now c.take_nodes-rest.new.self (behind_nodes.heard p t bytes w) c.in-Err.fault (c.in-Err.ensures.fault behind_nodes.countable)

pub returns-in-Ok-None-default-clause-all : goal.returns-in-Ok-None-default-clause-all
returns-in-Ok-None-default-clause-all c = λ p t bytes w none.
    let behind_nodes = c.take_nodes-rest.ensures in
    let x = c.in-Ok-None-default in
    let new = record c.take_nodes-rest.new.self { reader = c.next.new.self } in
    let on : IsGoingOn p t bytes [] new = all_taken p t bytes c.take_nodes-rest.result.now c.take_nodes-rest.new.self (behind_nodes.heard p t bytes w) x.field-0-1.now new
    (λ more. x.ensures.part behind_nodes.countable more ∙ ap (λ (o : Option Part). put_before o (parts_left c.next.new.self (x.field-0-1.now ++ more))) x.field-0-0-is) (x.ensures.used x.field-0-0-is) (x.ensures.given behind_nodes.countable) refl in
    subst (λ (o : Option CertFault). MatchOption o (IsGoingOn p t bytes [] new) (AreRefusedListing p bytes)) (sym (behind_nodes.still ∙ c.requires.on)) on
