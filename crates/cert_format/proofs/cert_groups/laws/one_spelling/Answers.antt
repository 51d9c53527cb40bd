use Rattle.std.proofs.Common.{◌≡◌, ℕ, List, Result, Ok, sym, ◌∙◌, ap}
use Rattle.sight_names.specs.declared.faults.CertFault.{CertFault}
use Rattle.cert_format.specs.declared.cert.Sizes.{Sizes}
use Rattle.cert_format.specs.declared.cert_groups.cert.AnyCert.{AnyCert}
use Rattle.cert_format.specs.declared.cert_groups.cert.AnyCert.TheVariants.{One, Two}
use Rattle.cert_format.specs.CertGroups.Grammar.{SpellsAny, spelling}
use Rattle.cert_format.proofs.CertGroups.AnyLaws.{any_again}
use Rattle.cert_format.proofs.cert_groups.laws.one_spelling.Goals as goal

same_ok : (c d : AnyCert) (r : Result AnyCert CertFault) → r ≡ Ok c → r ≡ Ok d → c ≡ d
same_ok c d r p q = cc

one_text : (sizes other : Sizes) (bytes more : List ℕ) (c : AnyCert) → SpellsAny sizes bytes c → SpellsAny other more c → bytes ≡ more
one_text sizes other bytes more (One c) p q = p.spelled ∙ sym q.spelled
one_text sizes other bytes more (Two c own) p q = p.1.spelled ∙ ap (λ (s : Sizes). spelling s c) (sym p.0 ∙ q.0) ∙ sym q.1.spelled

pub returns-clause-certificate : goal.returns-clause-certificate
returns-clause-certificate c = λ sizes bytes d e p q. same_ok d e _ (any_again sizes bytes d p) (any_again sizes bytes e q)

pub returns-clause-bytes : goal.returns-clause-bytes
returns-clause-bytes c = λ sizes other bytes more d p q. one_text sizes other bytes more d p q
