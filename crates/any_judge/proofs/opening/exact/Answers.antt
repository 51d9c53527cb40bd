use Rattle.std.proofs.Common.{subst, arith}
use Rattle.certificates.specs.ExactParts.Beginning.{BeginsAs}
use Rattle.any_judge.proofs.Courses.{exact_goes_on}
use Rattle.any_judge.proofs.opening.exact.Goals as goal

pub returns-in_ok-take_all-in-Ok-Read : goal.returns-in_ok-take_all-in-Ok-Read
returns-in_ok-take_all-in-Ok-Read c =
    let a = c.args in
    let x = c.in-Ok-Read in
    let begun = subst (BeginsAs c.sizes.result a.bytes.now) x.field-0-is x.ensures-1.begins in
    c.in_ok-take_all-in-Ok-Read.ensures a.plan.now a.table.now a.bytes.now
    (exact_goes_on a.plan.now a.table.now a.bytes.now x.rest.now (λ i. omega (arith, c.type_inv.bytes i)) c.sizes.result c.sizes.ensures.sizes c.sizes.ensures.small x.groups x.reader c.new-intake.result begun c.new-intake.ensures.heard c.new-intake.ensures.reader)
