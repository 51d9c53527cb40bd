-- What walks of all groups make.
use Rattle.std.proofs.Common.{◌≡◌, ◌≢◌, ℕ, ◌<◌, ◌/◌, ◌%◌, List, Option, None, true, false, refl, subst, slice_index, arith}
use Rattle.std.specs.Int.{bit_at}
use Rattle.std.specs.Prelude.{All, IfOk, Result, Ok, Err}
use Rattle.std.proofs.lemmas.List.Elements.{All-contains, All-from_recursion}
use Rattle.math_base.proofs.Bools.{false_of_not, second_true}
use Rattle.math_base.proofs.Lists.{all_of}
use Rattle.math_base.proofs.Numbers.{is_told_same}
use Rattle.std.specs.Global.{Vec}
use Rattle.std.proofs.lemmas.Option.{slice_get_within}
use Rattle.sight_names.specs.declared.names.Memory.{Memory}
use Rattle.sight_names.specs.declared.names.PairRay.{PairRay}
use Rattle.block_evidence.specs.declared.sight_tree.Node.{Node}
use Rattle.sight_names.specs.Map.{map_of}
use Rattle.mesh_shape.specs.declared.half_edges.table.HalfEdge.{HalfEdge}
use Rattle.cert_checker.specs.declared.tree_judge.roots.Root.{Root}
use Rattle.pair_budget.specs.declared.results.Reached.{Reached}
use Rattle.gate_floods.specs.Bits.{is_joined}
use Rattle.gate_floods.specs.Exact.{IsClaimedBlind, IsOwned}
use Rattle.gate_floods.specs.GateMasks.Words.{AreBitsOf}
use Rattle.gate_floods.specs.RowJudge.Masks.{MaskRows}
use Rattle.gate_floods.specs.RowJudge.Judged.{tree_with, IsWholeFrom}
use Rattle.gate_floods.proofs.RowJudge.Telling.{tells_by_rows}
use Rattle.gate_floods.specs.RowJudge.Words.{is_in}
use Rattle.portal_walk.specs.Nodes.{IsNodeAnswered}
use Rattle.row_trees.specs.declared.made.Made.{Made}
use Rattle.row_trees.specs.Made.{AreFoundSeen, AreWanted, AreNodesMade}
use Rattle.row_trees.specs.Walkable.{Ground, IsWalkable}
use Rattle.task_crew.specs.Done.{AreTasksDone}
use Rattle.exact_job.specs.Trees.{AreWalksOf, IsOwnedWalk}
use Rattle.exact_checker.specs.Owning.{IsOwnedBit, KnowsOwning, OwningParts}
use Rattle.exact_checker.specs.Judged.{AnswersFor}
use Rattle.exact_checker.proofs.Judging.{answers_for}

-- nodes of a walk with what the group owns that found nothing answer for all that is asked
pub whole_answers : (xs : List HalfEdge) (ms : MaskRows) (roots : List Root) (firsts : List (Option ℕ)) (known : OwningParts) (f : ℕ) (owned row : List ℕ) → row ≡ owned → ((rays : List PairRay) → KnowsOwning rays known → AreBitsOf owned (IsOwnedBit rays known.components known.count f))
    → (ns : List Node) → IsWholeFrom xs ms row roots firsts (tree_with f ns) → AnswersFor xs ms roots firsts known f ns None
whole_answers xs ms roots firsts known f owned row same bits ns whole = answers_for xs ms roots firsts known f owned row same bits ns None None refl
    (λ p ts ls rank cert g low. tells_by_rows p ts ls xs roots firsts ms (IsClaimedBlind (map_of p) cert) (IsOwned rank (IsClaimedBlind (map_of p) cert) f) row g (tree_with f ns) low None whole)

-- what a walk found with what the group owns is owned
pub owned_found : (rays : List PairRay) (known : OwningParts) (f : ℕ) (owned row : List ℕ) (found : List Reached) → row ≡ owned → AreBitsOf owned (IsOwnedBit rays known.components known.count f) → AreWanted row f found → All (λ (r : Reached). IsOwnedBit rays known.components known.count f r.to) found
owned_found rays known f owned row found same bits wanted = All-from_recursion _ found (all_of (λ (r : Reached). IsOwnedBit rays known.components known.count f r.to) found (λ r c.
    let h = (All-contains (λ (x : Reached). (is_in row x.to ≡ true) × (x.to ≢ f)) found r wanted.each c).0 in
    (bits r.to).0 (is_told_same (bit_at (slice_index owned (r.to / 64)) (r.to % 64)) 1 (subst (λ (ws : List ℕ). is_in ws r.to ≡ true) same h))))

-- what is owned isn't joined
pub unjoined : (rays : List PairRay) (known : OwningParts) (f : ℕ) (found : List Reached) → All (λ (r : Reached). IsOwnedBit rays known.components known.count f r.to) found → All (λ (r : Reached). is_joined rays f r.to ≡ false) found
unjoined rays known f found owned = All-from_recursion _ found (all_of (λ (r : Reached). is_joined rays f r.to ≡ false) found (λ r c.
    let o = (All-contains (λ (x : Reached). IsOwnedBit rays known.components known.count f x.to) found r owned c).1 in
    false_of_not (is_joined rays f r.to) (second_true _ _ (second_true _ _ o))))

-- what a walk with what the group owns made
pub owned_walk : (xs : List HalfEdge) (ms : MaskRows) (roots : List Root) (firsts : List (Option ℕ)) (known : OwningParts) (f : ℕ) (owned row : List ℕ) → row ≡ owned → ((rays : List PairRay) → KnowsOwning rays known → AreBitsOf owned (IsOwnedBit rays known.components known.count f))
    → (r : Result Made Memory) → IfOk r (λ (m : Made). All IsNodeAnswered m.nodes) → IfOk r (AreNodesMade xs ms row roots firsts f) → ((g : Ground) → IsWalkable g xs roots firsts f → IfOk r (λ (m : Made). AreFoundSeen g.plan f m.found.items)) → IfOk r (λ (m : Made). AreWanted row f m.found.items)
    → IfOk r (IsOwnedWalk xs ms roots firsts known f)
owned_walk xs ms roots firsts known f owned row same bits (Ok m) answered made seen wanted = λ g h. record {
  nodes = answered;
  answer = λ none. whole_answers xs ms roots firsts known f owned row same bits m.nodes (made none);
  seen = seen g h;
  owned = λ rays knows. owned_found rays known f owned row m.found.items same (bits rays knows) wanted;
}
owned_walk xs ms roots firsts known f owned row same bits (Err e) answered made seen wanted = answered

-- what walks of all groups with what they own made, over ground on which each can be walked
pub owned_walks : (g : Ground) (xs : List HalfEdge) (ms : MaskRows) (roots : List Root) (firsts : List (Option ℕ)) (known : OwningParts) → ((f : ℕ) → f < known.count → IsWalkable g xs roots firsts f) → (r : Result (Vec Made) Memory)
    → IfOk r (λ (v : Vec Made). AreTasksDone (IsOwnedWalk xs ms roots firsts known) known.count v.items) → IfOk r (λ (v : Vec Made). AreWalksOf g.plan xs ms roots firsts known v.items)
owned_walks g xs ms roots firsts known here (Ok v) all = record {
  one_each = all.len;
  each = λ f w at. all.each f w at g (here f (let l = slice_get_within v.items f w at in let e = all.len in omega (arith, l, e)));
}
owned_walks g xs ms roots firsts known here (Err e) all = all
