use Rattle.std.proofs.Common.{ltb, rules}
use Rattle.std.proofs.lemmas.List.Sorted.{IsPartitionPoint-from_clause, IsPartitionedBy-ltb}
use Rattle.gate_floods.specs.declared.gate_masks.gate.Gate.{Gate}
use Rattle.gate_floods.proofs.GateMasks.Gathering.{start_at}
use Rattle.gate_floods.proofs.gate_masks.gates.start_of.Goals as goal

pub returns : goal.returns
returns c =
    let parted = IsPartitionedBy-ltb (λ (e : Gate). e.near) _ c.args.sector c.requires in
    let point = IsPartitionPoint-from_clause (λ (e : Gate). ltb e.near c.args.sector) _ _ c.partition_point.ensures.partitioned parted (λ a r q k. search rules) in
    start_at c.args.gates.now c.args.sector c.partition_point.result c.partition_point.ensures.bound point
