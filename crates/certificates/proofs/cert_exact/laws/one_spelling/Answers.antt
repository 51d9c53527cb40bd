use Rattle.std.proofs.Common.{◌≡◌, Result, Ok}
use Rattle.sight_names.specs.declared.faults.CertFault.{CertFault}
use Rattle.certificates.specs.declared.cert_exact.cert.ExactParts.{ExactParts}
use Rattle.certificates.proofs.CertExact.ExactLaws.{exact_again}
use Rattle.certificates.proofs.cert_exact.laws.one_spelling.Goals as goal

same_ok : (c d : ExactParts) (r : Result ExactParts CertFault) → r ≡ Ok c → r ≡ Ok d → c ≡ d
same_ok c d r p q = cc

pub returns-clause-certificate : goal.returns-clause-certificate
returns-clause-certificate c = λ sizes bytes d e p q. same_ok d e _ (exact_again sizes bytes d p) (exact_again sizes bytes e q)
