use Rattle.std.proofs.Common.{◌≡◌, ◌<◌, length, slice_get, Some, refl, sym, ap, ◌∙◌, arith}
use Rattle.std.proofs.lemmas.Option.{slice_get-get_or, slice_get_read}
use Rattle.sight_names.proofs.Lists.{contains_of_get}
use Rattle.gate_floods.specs.declared.gate_masks.gate.Gate.{Gate}
use Rattle.gate_floods.specs.GateMasks.Words.{HasBit}
use Rattle.gate_floods.proofs.GateMasks.Flooding.{all_settled, marked_within, settling_begun, settling_step}
use Rattle.gate_floods.proofs.gate_masks.flood.Flood.settle.Goals as goal

pub ways_on-next-items-requires-clause-within : goal.ways_on-next-items-requires-clause-within
ways_on-next-items-requires-clause-within c =
    let at : slice_get c.args.self.now.queue.items c.args.head ≡ Some c.index-sector.result.now = slice_get-get_or c.args.self.now.queue.items c.args.head c.index-sector.result.now c.requires.head ∙ ap Some (sym c.index-sector.ensures) in
    let lt = marked_within c.args.self.now.marks.items c.index-sector.result.now (c.requires.flood.marked c.args.head c.index-sector.result.now at) in
    let len = c.requires.len in
    omega (arith, lt, len)

pub loop-next-init : goal.loop-next-init
loop-next-init c =
    let at : slice_get c.args.self.now.queue.items c.args.head ≡ Some c.index-sector.result.now = slice_get-get_or c.args.self.now.queue.items c.args.head c.index-sector.result.now c.requires.head ∙ ap Some (sym c.index-sector.ensures) in
    settling_begun c.args.gates.now.gates.items (HasBit c.args.seen.now) c.args.gate c.args.self.now.marks.items c.args.self.now.queue.items c.args.head c.index-sector.result.now c.ways_on-next-items.result.now c.requires.flood at

pub step-requires : goal.step-requires
step-requires c =
    let e : Gate = c.next-item.result in
    let got = slice_get_read c.ways_on-next-items.result.now (length c.ways_on-next-items.result.now) c.loop-next.next-index c.next-item.result refl c.loop-next-test.true c.next-item.is in
    let own = (c.ways_on-next-items.ensures e).0 (contains_of_get c.ways_on-next-items.result.now e c.loop-next.next-index got) in
    let lt : e.far < c.args.gates.now.sectors = c.requires.indexed.within e own.0 in
    let len = c.requires.len in
    let same = c.loop-next.invariant.len in
    omega (arith, lt, len, same)

pub loop-next-preserved : goal.loop-next-preserved
loop-next-preserved c =
    let e : Gate = c.next-item.result in
    let got = slice_get_read c.ways_on-next-items.result.now (length c.ways_on-next-items.result.now) c.loop-next.next-index c.next-item.result refl c.loop-next-test.true c.next-item.is in
    let own = (c.ways_on-next-items.ensures e).0 (contains_of_get c.ways_on-next-items.result.now e c.loop-next.next-index got) in
    let lt : e.far < c.args.gates.now.sectors = c.requires.indexed.within e own.0 in
    let len = c.requires.len in
    let same = c.loop-next.invariant.len in
    settling_step c.args.gates.now.gates.items (HasBit c.args.seen.now) c.args.gate c.args.self.now.marks.items c.loop-next.self.marks.items c.step.new.self.marks.items c.loop-next.self.queue.items c.step.new.self.queue.items c.args.head c.index-sector.result.now c.ways_on-next-items.result.now c.loop-next.next-index e
    c.ways_on-next-items.ensures got (omega (arith, lt, len, same)) c.in_ok-step.ensures c.loop-next.invariant

pub returns-clause-len : goal.returns-clause-len
returns-clause-len c = c.loop-next.invariant.len

pub returns-clause-flood : goal.returns-clause-flood
returns-clause-flood c = all_settled c.args.gates.now.gates.items (HasBit c.args.seen.now) c.args.gate c.args.self.now.marks.items c.loop-next.self.marks.items c.loop-next.self.queue.items c.args.head c.index-sector.result.now c.ways_on-next-items.result.now c.loop-next.next-index
    c.ways_on-next-items.ensures c.loop-next-test.false c.loop-next.invariant
