use Rattle.std.proofs.Common.{◌≡◌, ◌+◌, ◌≤◌, length, ap, arith}
use Rattle.std.proofs.lemmas.Result.{err_from_is_err_and}
use Rattle.cert_format.proofs.FieldLaws.{IsBytes}
use Rattle.certificates.specs.CertParts.Left.{ReaderState}
use Rattle.certificates.proofs.CertParts.EitherVersion.{front_fault, front_cut, rest_within, two_begun}
use Rattle.certificates.proofs.cert_parts.beginning.behind_version.Goals as goal

pub overflow_sub-given : goal.overflow_sub-given
overflow_sub-given c =
    let all : IsBytes c.args.bytes.now = λ i. omega (arith, c.type_inv.bytes i) in
    let fits : IsBytes c.args.behind.now = λ i. omega (arith, c.type_inv.behind i) in
    rest_within c.args.sizes.now c.args.bytes.now c.args.behind.now c.requires c.in-Ok.front c.in-Ok.rest.now all fits c.in-Ok.ensures.exact

pub returns-in_err-at-in-Err-clause-fault : goal.returns-in_err-at-in-Err-clause-fault
returns-in_err-at-in-Err-clause-fault c =
    let p = err_from_is_err_and c.from_residual.result c.from_residual.ensures.1 in
    rw (p.1, p.2) (λ more. front_fault c.args.sizes.now c.args.bytes.now more c.args.behind.now c.requires c.in-Err.fault c.in_err-at-in-Err.field-0.0 c.in-Err.ensures.exact c.in_err-at-in-Err.ensures)

pub returns-in-Ok-clause-begins : goal.returns-in-Ok-clause-begins
returns-in-Ok-clause-begins c =
    let all : IsBytes c.args.bytes.now = λ i. omega (arith, c.type_inv.bytes i) in
    let fits : IsBytes c.args.behind.now = λ i. omega (arith, c.type_inv.behind i) in
    let rest = c.in-Ok.rest.now in
    let reader = c.behind_groups-reader.result in
    let within : length rest ≤ length c.args.bytes.now = rest_within c.args.sizes.now c.args.bytes.now c.args.behind.now c.requires c.in-Ok.front rest all fits c.in-Ok.ensures.exact in
    let given : reader.given + length rest ≡ length c.args.bytes.now = omega (arith, ap (λ (s : ReaderState). s.given) c.behind_groups-reader.ensures, within) in
    two_begun c.args.sizes.now c.args.bytes.now c.args.behind.now c.requires c.in-Ok.front rest reader fits c.in-Ok.ensures.exact (ap (λ (s : ReaderState). s.awaited) c.behind_groups-reader.ensures)
    (ap (λ (s : ReaderState). s.kept) c.behind_groups-reader.ensures) given

pub returns-in_ok-at-in-Err-clause-begins : goal.returns-in_ok-at-in-Err-clause-begins
returns-in_ok-at-in-Err-clause-begins c = front_cut c.args.sizes.now c.args.bytes.now c.args.behind.now c.requires c.in-Err.fault c.in_ok-at-in-Err.at c.in-Err.ensures.exact c.in_ok-at-in-Err.ensures
