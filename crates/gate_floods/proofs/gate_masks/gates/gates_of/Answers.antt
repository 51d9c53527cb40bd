use Rattle.std.proofs.Common.{◌≤◌, length, ap, arith}
use Rattle.sight_names.specs.Map.{map_of}
use Rattle.gate_floods.proofs.GateMasks.Gathering.{all_gates, gates_added, no_gates}
use Rattle.gate_floods.proofs.gate_masks.gates.gates_of.Goals as goal

pub loop-k-init : goal.loop-k-init
loop-k-init c = no_gates (map_of c.args.plan.now) c.new-gates.result.items c.new-gates.ensures.items

pub loop-k-preserved : goal.loop-k-preserved
loop-k-preserved c = gates_added (map_of c.args.plan.now) c.loop-k.k c.gate_at-right.result c.gate_at-left.result c.loop-k.gates.items c.add_gate.new.gates.items c.add_gate-in-loop-k.new.gates.items c.gate_at-right.ensures c.gate_at-left.ensures c.in_ok-add_gate.ensures c.in_ok-add_gate-2.ensures c.loop-k.invariant

pub returns : goal.returns
returns c = let past : length c.args.plan.now.lines ≤ c.loop-k.k = omega (arith, ap length c.lines-k-end.ensures.list) in all_gates c.args.plan.now c.loop-k.k c.loop-k.gates.items past c.loop-k.invariant
