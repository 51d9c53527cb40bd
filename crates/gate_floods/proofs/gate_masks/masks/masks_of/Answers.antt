use Rattle.std.proofs.Common.{◌≤◌, length, ap, arith}
use Rattle.sight_names.specs.Map.{map_of}
use Rattle.gate_floods.specs.GateMasks.Masks.{IsLeftOut}
use Rattle.gate_floods.proofs.GateMasks.Masking.{all_masks, masks_pushed, no_masks}
use Rattle.gate_floods.proofs.gate_masks.masks.masks_of.Goals as goal

pub loop-k-init : goal.loop-k-init
loop-k-init c = no_masks (map_of c.args.plan.now) (IsLeftOut c.args.joined.now) c.new-masks.result.items c.new-masks.ensures.items

pub loop-k-preserved : goal.loop-k-preserved
loop-k-preserved c = masks_pushed (map_of c.args.plan.now) (IsLeftOut c.args.joined.now) c.loop-k.k c.in_ok-right.right c.in_ok-left.left c.loop-k.masks.items c.push.new.self.items c.push-in-loop-k.new.self.items c.in_ok-push.ensures.items c.in_ok-push-2.ensures.items c.in_ok-right.ensures c.in_ok-left.ensures c.loop-k.invariant

pub returns : goal.returns
returns c = let past : length c.args.plan.now.lines ≤ c.loop-k.k = omega (arith, ap length c.lines-k-end.ensures.list) in all_masks c.args.plan.now (IsLeftOut c.args.joined.now) c.loop-k.k c.loop-k.masks.items past c.loop-k.invariant
