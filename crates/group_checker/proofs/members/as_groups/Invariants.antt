use Rattle.std.proofs.Common.{◌≡◌, ◌++◌}
use Rattle.std.specs.Vec.Iter.{into_iter_items}
use Rattle.group_checker.proofs.Placing.{items_of}
use Rattle.group_checker.proofs.members.as_groups.Given as goal

abbrev pub invariant-loop-list : goal.invariant-loop-list
invariant-loop-list l = l.groups.items ++ items_of (into_iter_items l.list-iterator) ≡ items_of l.fn.lists.items
