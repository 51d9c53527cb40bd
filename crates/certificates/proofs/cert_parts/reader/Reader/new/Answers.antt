use Rattle.std.proofs.Common.{◌<◌, length, List, ℕ, [], refl, sym, subst}
use Rattle.certificates.specs.CertParts.Steps.{width_at}
use Rattle.certificates.proofs.CertParts.First.{some_width}
use Rattle.certificates.proofs.CertParts.FromBeginning.{from_the_beginning}
use Rattle.certificates.proofs.cert_parts.reader.Reader.new.Goals as goal

pub invariant_of-result : goal.invariant_of-result
invariant_of-result c = subst (λ (t : List ℕ). length t < width_at c.new.result t) (sym c.new-2.ensures) (some_width c.new.result [])

pub returns-clause-parts : goal.returns-clause-parts
returns-clause-parts c = λ bytes. from_the_beginning (record { awaited = c.new.result; given = 0; kept = c.new-2.result }) c.args.sizes.now bytes c.new.ensures refl c.new-2.ensures
