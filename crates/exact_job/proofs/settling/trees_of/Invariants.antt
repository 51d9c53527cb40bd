use Rattle.std.proofs.Common.{◌≡◌, ◌++◌}
use Rattle.std.specs.Vec.Iter.{into_iter_items}
use Rattle.exact_job.specs.Trees.{nodes_of_walks}
use Rattle.exact_job.proofs.settling.trees_of.Given as goal

abbrev pub invariant-loop-made : goal.invariant-loop-made
invariant-loop-made l = l.trees.items ++ nodes_of_walks (into_iter_items l.made-iterator) ≡ nodes_of_walks l.fn.walks.items
