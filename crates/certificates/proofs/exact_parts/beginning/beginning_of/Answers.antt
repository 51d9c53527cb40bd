use Rattle.std.proofs.Common.{arith}
use Rattle.std.proofs.lemmas.Result.{err_from_is_err_and}
use Rattle.cert_format.proofs.FieldLaws.{IsBytes}
use Rattle.certificates.proofs.ExactParts.FromFront.{fault_again, cut_told, rest_within, begun}
use Rattle.certificates.proofs.exact_parts.beginning.beginning_of.Goals as goal

pub overflow_sub-given : goal.overflow_sub-given
overflow_sub-given c =
    let fits : IsBytes c.args.bytes.now = λ i. omega (arith, c.type_inv.bytes i) in
    rest_within c.args.sizes.now c.args.bytes.now (c.in-Ok.front, c.in-Ok.rest.now) fits c.in-Ok.ensures.exact

pub returns-in-Ok-clause-begins : goal.returns-in-Ok-clause-begins
returns-in-Ok-clause-begins c =
    let fits : IsBytes c.args.bytes.now = λ i. omega (arith, c.type_inv.bytes i) in
    let within = rest_within c.args.sizes.now c.args.bytes.now (c.in-Ok.front, c.in-Ok.rest.now) fits c.in-Ok.ensures.exact in
    begun c.args.sizes.now c.args.bytes.now c.in-Ok.front c.in-Ok.rest.now c.behind_groups-reader.result _ c.in-Ok.ensures.exact c.behind_groups-reader.ensures (omega (arith, within))

pub returns-in_err-at-in-Err-clause-fault : goal.returns-in_err-at-in-Err-clause-fault
returns-in_err-at-in-Err-clause-fault c =
    let p = err_from_is_err_and c.from_residual.result c.from_residual.ensures.1 in
    rw (p.1, p.2) (λ more. fault_again c.args.sizes.now c.args.bytes.now more c.in-Err.fault c.in_err-at-in-Err.field-0.0 c.in_err-at-in-Err.ensures c.in-Err.ensures.exact)

pub returns-in_ok-at-in-Err-clause-begins : goal.returns-in_ok-at-in-Err-clause-begins
returns-in_ok-at-in-Err-clause-begins c = cut_told c.args.sizes.now c.args.bytes.now c.in-Err.fault c.in_ok-at-in-Err.at c.in-Err.ensures.exact c.in_ok-at-in-Err.ensures
