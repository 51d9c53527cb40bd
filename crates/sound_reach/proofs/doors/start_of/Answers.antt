use Rattle.std.proofs.Common.{ltb, rules}
use Rattle.std.proofs.lemmas.List.Sorted.{IsPartitionPoint-from_clause, IsPartitionedBy-ltb}
use Rattle.sound_reach.specs.declared.doors.Door.{Door}
use Rattle.sound_reach.proofs.Adding.{start_at}
use Rattle.sound_reach.proofs.doors.start_of.Goals as goal

pub returns : goal.returns
returns c =
    let parted = IsPartitionedBy-ltb (λ (e : Door). e.from) _ c.args.sector c.requires in
    let point = IsPartitionPoint-from_clause (λ (e : Door). ltb e.from c.args.sector) _ _ c.partition_point.ensures.partitioned parted (λ a r q k. search rules) in
    start_at c.args.doors.now c.args.sector c.partition_point.result c.partition_point.ensures.bound point
