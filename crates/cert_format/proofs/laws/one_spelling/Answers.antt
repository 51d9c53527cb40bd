use Rattle.std.proofs.Common.{◌≡◌, Result, Ok, sym, ◌∙◌}
use Rattle.sight_names.specs.declared.faults.CertFault.{CertFault}
use Rattle.cert_format.specs.Parts.{CertParts}
use Rattle.cert_format.proofs.WholeLaws.{spells_again}
use Rattle.cert_format.proofs.laws.one_spelling.Goals as goal

same_ok : (c d : CertParts) (r : Result CertParts CertFault) → r ≡ Ok c → r ≡ Ok d → c ≡ d
same_ok c d r p q = cc

pub returns-clause-certificate : goal.returns-clause-certificate
returns-clause-certificate c = λ sizes bytes d e p q. same_ok d e _ (spells_again sizes bytes d p) (spells_again sizes bytes e q)

pub returns-clause-bytes : goal.returns-clause-bytes
returns-clause-bytes c = λ sizes other bytes more d p q. p.spelled ∙ sym q.spelled
