use Rattle.std.proofs.Common.{inr, sym, ◌∙◌}
use Rattle.std.proofs.lemmas.Bool.{false≢true}
use Rattle.map_faults.proofs.open_sides.add_side.Goals as goal

pub returns : goal.returns
returns c = inr (λ s. false≢true (sym c.if-is_sealed_side.false ∙ c.is_sealed_side.ensures.1 s), c.in_ok-push.ensures.items)
