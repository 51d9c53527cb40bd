use Rattle.std.proofs.lemmas.Result.{err_from_is_err_and}
use Rattle.certificates.proofs.CertParts.EitherVersion.{version_fault, version_cut, one_begun}
use Rattle.certificates.proofs.cert_parts.beginning.beginning_of.Goals as goal

pub returns-in_err-at-in-Err-clause-fault : goal.returns-in_err-at-in-Err-clause-fault
returns-in_err-at-in-Err-clause-fault c =
    let p = err_from_is_err_and c.from_residual.result c.from_residual.ensures.1 in
    rw (p.1, p.2) (λ more. version_fault c.args.sizes.now c.args.bytes.now more c.in-Err.fault c.in_err-at-in-Err.field-0.0 c.in-Err.ensures c.in_err-at-in-Err.ensures)

pub returns-else-version-eq2-clause-begins : goal.returns-else-version-eq2-clause-begins
returns-else-version-eq2-clause-begins c =
    one_begun c.args.sizes.now c.args.bytes.now c.new.result c.in-Ok.version c.in-Ok.behind.now c.in-Ok.ensures c.if-version-eq2.false c.new.ensures.parts c.new.ensures.given

pub returns-in_ok-at-in-Err-clause-begins : goal.returns-in_ok-at-in-Err-clause-begins
returns-in_ok-at-in-Err-clause-begins c = version_cut c.args.sizes.now c.args.bytes.now c.in-Err.fault c.in_ok-at-in-Err.at c.in-Err.ensures c.in_ok-at-in-Err.ensures
