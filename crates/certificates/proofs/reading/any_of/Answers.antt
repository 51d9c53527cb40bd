use Rattle.std.proofs.Common.{arith, rules, subst}
use Rattle.std.proofs.lemmas.Result.{err_from_is_err_and}
use Rattle.cert_format.specs.Grammar.{AreSmall}
use Rattle.cert_format.proofs.CertGroups.AnyLaws.{any_takes}
use Rattle.certificates.specs.CertParts.Beginning.{BeginsAs}
use Rattle.certificates.proofs.CertParts.Gathering.{any_gathered, any_faulty, begins_faulty, core_in_order, cut_read}
use Rattle.certificates.proofs.reading.any_of.Goals as goal

pub returns-in_err-at-clause-exact : goal.returns-in_err-at-clause-exact
returns-in_err-at-clause-exact c =
    let p = err_from_is_err_and c.from_residual.result c.from_residual.ensures.1 in
    rw (p.1, p.2) (begins_faulty c.args.sizes c.args.bytes.now c.in_err-at.field-0.0 c.in_err-at.ensures.fault)

pub returns-in-Cut-clause-exact : goal.returns-in-Cut-clause-exact
returns-in-Cut-clause-exact c = cut_read c.args.sizes c.args.bytes.now c.in-Cut.at (subst (BeginsAs c.args.sizes c.args.bytes.now) c.in-Cut.is c.in_ok-at.ensures.begins)

pub returns-in_err-parts-in-Read-clause-exact : goal.returns-in_err-parts-in-Read-clause-exact
returns-in_err-parts-in-Read-clause-exact c =
    let small : AreSmall c.args.sizes = search rules in
    let begun = subst (BeginsAs c.args.sizes c.args.bytes.now) c.in-Read.is c.in_ok-at.ensures.begins in
    let p = err_from_is_err_and c.from_residual-in_err-parts-in-Read.result c.from_residual-in_err-parts-in-Read.ensures.1 in
    rw (p.1, p.2) (any_faulty c.args.sizes c.args.bytes.now small (λ i. omega (arith, c.type_inv.bytes i)) c.in-Read.groups c.in-Read.reader c.in-Read.rest.now begun c.in_err-parts-in-Read.field-0.0 c.in_err-parts-in-Read.ensures)

pub into_cert-requires-clause-in_order : goal.into_cert-requires-clause-in_order
into_cert-requires-clause-in_order c =
    let small : AreSmall c.args.sizes = search rules in
    let begun = subst (BeginsAs c.args.sizes c.args.bytes.now) c.in-Read.is c.in_ok-at.ensures.begins in
    let read = any_gathered c.args.sizes c.args.bytes.now small (λ i. omega (arith, c.type_inv.bytes i)) c.in-Read.groups c.in-Read.reader c.in-Read.rest.now begun c.in_ok-parts-in-Read.parts c.in_ok-parts-in-Read.ensures in
    core_in_order c.args.sizes c.args.bytes.now c.in-Read.groups c.in_ok-parts-in-Read.parts (any_takes c.args.sizes c.args.bytes.now _ small (λ i. omega (arith, c.type_inv.bytes i)) read)

pub returns-in_ok-parts-in-Read-clause-exact : goal.returns-in_ok-parts-in-Read-clause-exact
returns-in_ok-parts-in-Read-clause-exact c =
    let small : AreSmall c.args.sizes = search rules in
    let begun = subst (BeginsAs c.args.sizes c.args.bytes.now) c.in-Read.is c.in_ok-at.ensures.begins in
    rw c.into_cert.ensures (any_gathered c.args.sizes c.args.bytes.now small (λ i. omega (arith, c.type_inv.bytes i)) c.in-Read.groups c.in-Read.reader c.in-Read.rest.now begun c.in_ok-parts-in-Read.parts c.in_ok-parts-in-Read.ensures)
