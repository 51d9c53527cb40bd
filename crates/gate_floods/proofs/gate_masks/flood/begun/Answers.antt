use Rattle.std.proofs.Common.{rules}
use Rattle.gate_floods.specs.GateMasks.Words.{HasBit}
use Rattle.gate_floods.proofs.GateMasks.Flooding.{begun_put}
use Rattle.gate_floods.proofs.gate_masks.flood.begun.Goals as goal

pub returns-clause-flood : goal.returns-clause-flood
returns-clause-flood c = λ es seen. begun_put es (HasBit seen) c.args.gate c.args.sectors c.in_ok-marks.marks.items c.put.new.self.marks.items c.in_ok-queue.queue.items c.put.new.self.queue.items c.requires (c.in_ok-marks.ensures.items_if_clones_equal (λ y h. search rules)) c.in_ok-queue.ensures.items c.in_ok-put.ensures
