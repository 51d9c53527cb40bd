use Rattle.std.proofs.Common.{ℕ, List, subst}
use Rattle.certificates.specs.declared.certificate.Certificate.{Certificate}
use Rattle.certificates.specs.Grammar.{Spells, sizes_of_certificate, spelling}
use Rattle.certificates.proofs.OneSpelling.{spelled_is}
use Rattle.sight_run.proofs.build.spellable.Goals as goal

pub returns-clause-spells : goal.returns-clause-spells
returns-clause-spells c =
    let spelled = subst (λ (bytes : List ℕ). Spells (sizes_of_certificate c.of-spellable.result) bytes c.of-spellable.result) (spelled_is c.of-spellable.result _ c.printer-printer.ensures) c.printer-printer.ensures in
    subst (λ (x : Certificate). Spells (sizes_of_certificate x) (spelling x) x) c.of-spellable.ensures spelled
