use Rattle.std.proofs.Common.{◌≡◌, ℕ, ◌<◌, List, Some, None}
use Rattle.std.specs.List.{slice_get}
use Rattle.block_evidence.specs.declared.sight_tree.Node.{Node}
use Rattle.exact_checker.specs.Judged.{AnswersFor}
use Rattle.gate_floods.specs.RowJudge.Masks.{rows_of}
use Rattle.exact_checker.specs.Owning.{owning_of}
use Rattle.exact_checker.proofs.trees.wrong_node.Given as goal

abbrev pub invariant-loop-number : goal.invariant-loop-number
invariant-loop-number l = (f : ℕ) (ns : List Node) → f < l.number → slice_get l.trees f ≡ Some ns → AnswersFor l.terrain.edges.now (rows_of l.masks) l.terrain.roots.now.roots.items l.terrain.roots.now.first.items (owning_of l.known) f ns None
