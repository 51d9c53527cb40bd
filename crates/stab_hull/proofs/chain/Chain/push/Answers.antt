use Rattle.std.proofs.Common.{refl}
use Rattle.stab_hull.proofs.Chains.{steps_after}
use Rattle.stab_hull.proofs.chain.Chain.push.Goals as goal

pub mend-requires-clause-steps : goal.mend-requires-clause-steps
mend-requires-clause-steps c = steps_after c.self.inside.kept.items _ _ (record { end = c.args.end; step = 1 }) refl c.reserve.ensures.items c.push_reserved.ensures.items c.self.invariant

pub invariant_of-self-else-len-gt-FEW : goal.invariant_of-self-else-len-gt-FEW
invariant_of-self-else-len-gt-FEW c = steps_after c.self.inside.kept.items _ _ (record { end = c.args.end; step = 1 }) refl c.reserve.ensures.items c.push_reserved.ensures.items c.self.invariant
