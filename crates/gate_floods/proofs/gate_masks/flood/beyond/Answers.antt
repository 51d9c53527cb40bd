use Rattle.std.proofs.Common.{arith}
use Rattle.gate_floods.specs.GateMasks.Words.{HasBit}
use Rattle.gate_floods.proofs.GateMasks.Flooding.{flooded, queue_within}
use Rattle.gate_floods.proofs.gate_masks.flood.beyond.Goals as goal

pub loop-head-init : goal.loop-head-init
loop-head-init c = record { len = c.in_ok-flood.ensures.len; flood = c.in_ok-flood.ensures.flood c.args.gates.now.gates.items c.args.seen.now }

pub returns-clause-within : goal.returns-clause-within
returns-clause-within c = λ k there.
    let i = c.loop-head.invariant in
    let lt = queue_within c.args.gates.now.gates.items (HasBit c.args.seen.now) c.args.gate c.loop-head.flood.marks.items c.loop-head.flood.queue.items c.loop-head.head i.flood k there in
    let len = i.len in
    omega (arith, lt, len)

pub returns-clause-beyond : goal.returns-clause-beyond
returns-clause-beyond c = let i = c.loop-head.invariant in flooded c.args.gates.now.gates.items (HasBit c.args.seen.now) c.args.gate c.loop-head.flood.marks.items c.loop-head.flood.queue.items c.loop-head.head i.flood (omega arith)
