use Rattle.std.proofs.Common.{◌<◌, length, List, ℕ, [], sym, subst}
use Rattle.certificates.specs.ExactParts.Left.{TreesLeft, IsFirstTreeLeft}
use Rattle.certificates.specs.ExactParts.Steps.{all_awaited, width_at}
use Rattle.certificates.proofs.ExactParts.First.{some_width}
use Rattle.certificates.proofs.exact_parts.reader.Reader.behind_groups.Goals as goal

pub invariant_of-result : goal.invariant_of-result
invariant_of-result c =
    let a = all_awaited c.args.front.now in (
      subst (λ (t : List ℕ). length t < width_at a c.new.result t) (sym c.new-2.ensures.items) (some_width a c.new.result []),
      subst (λ (t : TreesLeft). IsFirstTreeLeft t.lengths) (sym c.new.ensures) tt,
    )
