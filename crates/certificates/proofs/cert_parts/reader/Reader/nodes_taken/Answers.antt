use Rattle.std.proofs.Common.{◌≡◌, ◌<◌, ℕ, List, [], length, sym, ap, subst, ◌∙◌}
use Rattle.certificates.specs.declared.cert_parts.awaited.Awaited.{Awaited}
use Rattle.certificates.specs.CertParts.Left.{ReaderState}
use Rattle.certificates.specs.CertParts.Steps.{width_at}
use Rattle.certificates.proofs.CertParts.First.{some_width}
use Rattle.certificates.proofs.cert_parts.reader.Reader.nodes_taken.Goals as goal

pub invariant_of-self : goal.invariant_of-self
invariant_of-self c =
    let i = c.self.inside in
    let none : i.kept ≡ [] = ap (λ (v : ReaderState). v.kept) c.self.view_is ∙ c.requires in
    let behind : Awaited = record i.awaited { nodes = c.args.left } in
    subst (λ (t : List ℕ). length t < width_at behind t) (sym none) (some_width behind [])
