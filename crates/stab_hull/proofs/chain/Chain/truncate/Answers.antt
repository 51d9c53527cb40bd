use Rattle.std.proofs.Common.{List, take, sym, ap, ◌∙◌, subst}
use Rattle.std.proofs.lemmas.List.{take-map}
use Rattle.sight_names.specs.declared.names.EndAt.{EndAt}
use Rattle.stab_hull.specs.declared.chain.Kept.{Kept}
use Rattle.stab_hull.specs.Chains.{HasChainSteps, kept_ends}
use Rattle.stab_hull.proofs.Chains.{steps_take}
use Rattle.stab_hull.proofs.chain.Chain.truncate.Goals as goal

pub invariant_of-self : goal.invariant_of-self
invariant_of-self c = subst HasChainSteps (sym c.truncate.ensures.items) (steps_take c.args.count c.self.inside.kept.items c.self.invariant)

pub returns : goal.returns
returns c = ap kept_ends c.truncate.ensures.items ∙ sym (take-map (λ (k : Kept). k.end) c.args.count c.self.inside.kept.items) ∙ ap (λ (es : List EndAt). take c.args.count es) c.self.view_is
