use Rattle.std.proofs.Common.{ltb, rules}
use Rattle.std.proofs.lemmas.List.Sorted.{IsPartitionPoint-from_clause, IsPartitionedBy-ltb}
use Rattle.face_groups.specs.declared.namings.Naming.{Naming}
use Rattle.face_groups.proofs.Runs.{start_at}
use Rattle.face_groups.proofs.namings.start_of.Goals as goal

pub returns : goal.returns
returns c =
    let parted = IsPartitionedBy-ltb (λ (n : Naming). n.face) _ c.args.face c.requires in
    let point = IsPartitionPoint-from_clause (λ (n : Naming). ltb n.face c.args.face) _ _ c.partition_point.ensures.partitioned parted (λ a r q k. search rules) in
    start_at c.args.namings.now c.args.face c.partition_point.result c.partition_point.ensures.bound point
