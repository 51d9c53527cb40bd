use Rattle.std.proofs.Common.{Ok, Err, Result, arith, subst, sym, ◌∙◌}
use Rattle.std.proofs.lemmas.Result.{err_from_is_err_and}
use Rattle.sight_names.specs.declared.faults.CertFault.{CertFault}
use Rattle.cert_format.specs.Reading.{FailsCert}
use Rattle.cert_format.specs.Parts.{CertParts}
use Rattle.cert_format.proofs.WholeLaws.{reading_takes, spells_again}
use Rattle.certificates.proofs.CertParts.Gathering.{one_read}
use Rattle.certificates.proofs.reading.read.Goals as goal

pub into_core-requires : goal.into_core-requires
into_core-requires c =
    let bytes = c.args.bytes.now in
    let small = c.parts_of.ensures.small in
    (reading_takes c.args.sizes.now bytes _ small (λ i. omega (arith, c.type_inv.bytes i)) (one_read c.args.sizes.now bytes small (λ i. omega (arith, c.type_inv.bytes i)) (Ok c.in_ok-parts.parts) c.in_ok-parts.ensures.all)).in_order

pub returns-clause-found : goal.returns-clause-found
returns-clause-found c =
    let bytes = c.args.bytes.now in
    let small = c.parts_of.ensures.small in
    rw c.into_core.ensures (reading_takes c.args.sizes.now bytes _ small (λ i. omega (arith, c.type_inv.bytes i)) (one_read c.args.sizes.now bytes small (λ i. omega (arith, c.type_inv.bytes i)) (Ok c.in_ok-parts.parts) c.in_ok-parts.ensures.all))

pub returns-clause-only : goal.returns-clause-only
returns-clause-only c = λ d s.
    let bytes = c.args.bytes.now in
    rw c.into_core.ensures (sym (spells_again c.args.sizes.now bytes d s) ∙ one_read c.args.sizes.now bytes c.parts_of.ensures.small (λ i. omega (arith, c.type_inv.bytes i)) (Ok c.in_ok-parts.parts) c.in_ok-parts.ensures.all)

pub returns-clause-exact : goal.returns-clause-exact
returns-clause-exact c =
    let bytes = c.args.bytes.now in
    rw c.into_core.ensures (one_read c.args.sizes.now bytes c.parts_of.ensures.small (λ i. omega (arith, c.type_inv.bytes i)) (Ok c.in_ok-parts.parts) c.in_ok-parts.ensures.all)

pub returns-in_err-parts-clause-only : goal.returns-in_err-parts-clause-only
returns-in_err-parts-clause-only c = λ d s.
    let bytes = c.args.bytes.now in
    let f = c.in_err-parts.field-0.0 in
    let p = err_from_is_err_and c.from_residual.result c.from_residual.ensures.1 in
    let read : FailsCert f _ = one_read c.args.sizes.now bytes c.parts_of.ensures.small (λ i. omega (arith, c.type_inv.bytes i)) (Err f) c.in_err-parts.ensures.all in
    rw (p.1, p.2) (subst (λ (r : Result CertParts CertFault). FailsCert f r) (spells_again c.args.sizes.now bytes d s) read)

pub returns-in_err-parts-clause-exact : goal.returns-in_err-parts-clause-exact
returns-in_err-parts-clause-exact c =
    let f = c.in_err-parts.field-0.0 in
    let p = err_from_is_err_and c.from_residual.result c.from_residual.ensures.1 in
    rw (p.1, p.2) (one_read c.args.sizes.now c.args.bytes.now c.parts_of.ensures.small (λ i. omega (arith, c.type_inv.bytes i)) (Err f) c.in_err-parts.ensures.all)
