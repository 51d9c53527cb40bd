use Rattle.std.proofs.Common.{◌<◌, length, List, ℕ, [], sym, subst}
use Rattle.certificates.specs.CertParts.Steps.{width_at}
use Rattle.certificates.proofs.CertParts.First.{some_width}
use Rattle.certificates.proofs.cert_parts.reader.Reader.behind_groups.Goals as goal

pub invariant_of-result : goal.invariant_of-result
invariant_of-result c = subst (λ (t : List ℕ). length t < width_at c.behind_groups.result t) (sym c.new.ensures) (some_width c.behind_groups.result [])
