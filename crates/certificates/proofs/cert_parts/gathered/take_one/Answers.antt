use Rattle.std.proofs.Common.{◌++◌, Option, ap, ◌∙◌}
use Rattle.certificates.specs.declared.cert_parts.part.Part.{Part}
use Rattle.certificates.specs.CertParts.Left.{parts_left, put_before}
use Rattle.certificates.proofs.CertParts.Gathering.{all_taken, fault_taken, part_taken}
use Rattle.certificates.proofs.cert_parts.gathered.take_one.Goals as goal

pub returns-in_ok-add-in-Ok-Some-default-clause-more : goal.returns-in_ok-add-in-Ok-Some-default-clause-more
returns-in_ok-add-in-Ok-Some-default-clause-more c =
    let x = c.in-Ok-Some-default in
    rw c.in_ok-add-in-Ok-Some-default.ensures (
    part_taken c.args.parts.now c.args.reader.now c.next.new.self c.args.rest.now x.part x.behind.now
    (λ more. x.ensures.part c.requires.countable more ∙ ap (λ (o : Option Part). put_before o (parts_left c.next.new.self (x.behind.now ++ more))) x.field-0-0-is)
    )

pub returns-in-Ok-None-default-clause-all : goal.returns-in-Ok-None-default-clause-all
returns-in-Ok-None-default-clause-all c = λ none.
    let x = c.in-Ok-None-default in
    all_taken c.args.parts.now c.args.reader.now c.next.new.self c.args.rest.now x.field-0-1.now
    (λ more. x.ensures.part c.requires.countable more ∙ ap (λ (o : Option Part). put_before o (parts_left c.next.new.self (x.field-0-1.now ++ more))) x.field-0-0-is) (x.ensures.used x.field-0-0-is)

pub returns-in-Err-clause-fault : goal.returns-in-Err-clause-fault
returns-in-Err-clause-fault c = fault_taken c.args.parts.now c.args.reader.now c.next.new.self c.args.rest.now c.in-Err.fault (c.in-Err.ensures.fault c.requires.countable)
