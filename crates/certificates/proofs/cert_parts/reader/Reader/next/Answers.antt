use Rattle.std.proofs.Common.{List, ℕ, ◌++◌, sym, ap, ◌∙◌, append_assoc}
use Rattle.certificates.proofs.cert_parts.reader.Reader.next.Goals as goal

pub returns-clause-rest : goal.returns-clause-rest
returns-clause-rest c =
    let first = c.in_ok-rest.ensures.rest in
    let second = c.in_ok-part.ensures.rest in
    (first.0 ++ second.0, first.1 ∙ ap (λ (t : List ℕ). first.0 ++ t) second.1 ∙ sym (append_assoc first.0 second.0 c.in_ok-part.rest.now))
