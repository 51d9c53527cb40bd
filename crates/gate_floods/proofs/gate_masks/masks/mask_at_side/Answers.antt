use Rattle.std.proofs.Common.{refl}
use Rattle.sight_names.specs.Map.{map_of}
use Rattle.gate_floods.specs.GateMasks.Masks.{IsLeftOut}
use Rattle.gate_floods.proofs.GateMasks.Masking.{mask_absent, mask_there}
use Rattle.gate_floods.proofs.gate_masks.masks.mask_at_side.Goals as goal

pub mask_of-requires-clause-far : goal.mask_of-requires-clause-far
mask_of-requires-clause-far c = c.requires.indexed.within c.in-Some.gate ((c.requires.gates c.in-Some.gate).1 ((c.in-Some.ensures c.in-Some.gate).0 refl).0)

pub returns-in_ok-row-in-Some : goal.returns-in_ok-row-in-Some
returns-in_ok-row-in-Some c = mask_there (map_of c.args.plan.now) c.args.gates.now.gates.items c.requires.gates c.args.joined.now c.args.side c.in-Some.gate c.in-Some.ensures c.in_ok-row-in-Some.row c.in_ok-row-in-Some.ensures

pub returns-in-None : goal.returns-in-None
returns-in-None c = mask_absent (map_of c.args.plan.now) (IsLeftOut c.args.joined.now) c.args.side c.in-None.ensures
