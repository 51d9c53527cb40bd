-- From what was found of each tree to the first wrong one.
use Rattle.std.proofs.Common.{◌≡◌, ℕ, suc, ◌<◌, List, [], Option, None, Some, length, subst, arith}
use Rattle.std.specs.List.{slice_get}
use Rattle.std.specs.Prelude.{get_or}
use Rattle.std.proofs.lemmas.Option.{slice_get-get_or, slice_get_within}
use Rattle.block_evidence.specs.declared.sight_tree.Node.{Node}
use Rattle.mesh_shape.specs.declared.half_edges.table.HalfEdge.{HalfEdge}
use Rattle.cert_checker.specs.declared.tree_judge.roots.Root.{Root}
use Rattle.gate_floods.specs.RowJudge.Masks.{MaskRows}
use Rattle.exact_checker.specs.declared.trees.WrongNode.{WrongNode}
use Rattle.exact_checker.specs.Owning.{OwningParts}
use Rattle.exact_checker.specs.Judged.{AnswersFor, AnswersForEach}
use Rattle.task_crew.specs.Done.{AreTasksDone}
use Rattle.exact_checker.specs.ExactWorkers.Found.{HasNone, IsFirstFound}

module _ (xs : List HalfEdge) (ms : MaskRows) (roots : List Root) (firsts : List (Option ℕ)) (known : OwningParts) (trees : List (List Node)) (found : List (Option ℕ)) (one_each : length trees ≡ known.count) (count : ℕ) (same : count ≡ known.count)
    (all : AreTasksDone (λ i o. (ns : List Node) → slice_get trees i ≡ Some ns → AnswersFor xs ms roots firsts known i ns o) count found) where
  right : (n : ℕ) → HasNone found n → (f : ℕ) (ns : List Node) → f < n → slice_get trees f ≡ Some ns → AnswersFor xs ms roots firsts known f ns None
  right n none f ns lt at =
      let l : f < length found = (let a = slice_get_within trees f ns at in let b = all.len in omega (arith, a, b, one_each, same)) in
      let there = slice_get-get_or found f None l in
      subst (AnswersFor xs ms roots firsts known f ns) (none f (get_or found f None) lt there) (all.each f (get_or found f None) there ns at)

  pub answers_each : (wrong : Option WrongNode) → IsFirstFound found wrong → AnswersForEach xs ms roots firsts known trees wrong
  answers_each None none = λ f ns at. right (suc f) (none (suc f)) f ns (omega arith) at
  answers_each (Some w) h =
      let l : w.source < length trees = (let a = slice_get_within found w.source (Some w.node) h.0 in let b = all.len in omega (arith, a, b, one_each, same)) in
      let ns = get_or trees w.source [] in
      let at = slice_get-get_or trees w.source [] l in
      ((ns, at, all.each w.source (Some w.node) h.0 ns at), (λ f us lt there. right w.source h.1 f us lt there))
