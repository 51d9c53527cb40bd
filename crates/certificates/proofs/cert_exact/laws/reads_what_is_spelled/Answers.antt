use Rattle.certificates.proofs.CertExact.ExactLaws.{exact_again, exact_takes}
use Rattle.certificates.proofs.cert_exact.laws.reads_what_is_spelled.Goals as goal

pub returns-clause-found : goal.returns-clause-found
returns-clause-found c = exact_takes

pub returns-clause-only : goal.returns-clause-only
returns-clause-only c = exact_again
