use Rattle.sight_names.specs.Map.{map_of}
use Rattle.fault_marks.proofs.Clashes.{each_at, few_at}
use Rattle.fault_marks.proofs.marks.marks_of_clashes.Goals as goal

pub clashes_at-requires : goal.clashes_at-requires
clashes_at-requires c = each_at (map_of c.args.plan.now) _ _ c.in_ok-clashes.clashes.count c.as_slice-pairs.ensures c.in_ok-clashes.ensures.clashes

pub overflow_sub-result : goal.overflow_sub-result
overflow_sub-result c = few_at (map_of c.args.plan.now) _ _ c.in_ok-clashes.clashes.count c.as_slice-pairs.ensures c.in_ok-clashes.ensures.clashes
