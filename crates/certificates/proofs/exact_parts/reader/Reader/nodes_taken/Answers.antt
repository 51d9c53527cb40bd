use Rattle.std.proofs.Common.{◌≡◌, ◌<◌, ℕ, List, [], length, sym, ap, subst, ◌∙◌}
use Rattle.certificates.specs.ExactParts.Left.{ReaderState, TreesLeft, IsFirstTreeLeft}
use Rattle.certificates.specs.ExactParts.Steps.{width_at}
use Rattle.certificates.proofs.ExactParts.First.{some_width}
use Rattle.certificates.proofs.ExactParts.Settling.{settled_is}
use Rattle.certificates.proofs.exact_parts.reader.Reader.nodes_taken.Goals as goal

pub invariant_of-self : goal.invariant_of-self
invariant_of-self c =
    let i = c.self.inside in
    let none : i.kept.items ≡ [] = ap (λ (v : ReaderState). v.kept) c.self.view_is ∙ c.requires in
    let t = c.take.new.self in (
      subst (λ (kept : List ℕ). length kept < width_at i.awaited c.settle.new.self kept) (sym none) (some_width i.awaited c.settle.new.self []),
      subst (λ (behind : TreesLeft). IsFirstTreeLeft behind.lengths) (sym c.settle.ensures) (settled_is t.source t.lengths),
    )
