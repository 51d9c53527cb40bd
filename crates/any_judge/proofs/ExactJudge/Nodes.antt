-- Nodes of a tree that are heard one behind the other.
use Rattle.std.proofs.Common.{◌≡◌, ℕ, suc, ◌+◌, ◌-◌, ◌<◌, ◌^◌, List, [], ◌∷◌, ◌++◌, Option, Some, None, Bool, length, true, false, refl, sym, ◌∙◌, ap, subst, append_assoc, arith}
use Rattle.std.proofs.lemmas.List.{append-nil, length-append}
use Rattle.block_evidence.specs.declared.sight_tree.Node.{Node}
use Rattle.sight_names.specs.Plan.{PlanParts}
use Rattle.certificates.specs.ExactParts.Parts.{node_parts}
use Rattle.cert_checker.specs.TreeJudge.Walked.{with_nodes}
use Rattle.gate_floods.specs.declared.row_judge.walk.RowWalk.{RowWalk}
use Rattle.gate_floods.specs.RowJudge.Judged.{tree_with, IsTreeWalkedInRow, IsWalkedAt, FollowsNodesInRow}
use Rattle.any_judge.specs.declared.exact_judge.ground.Ground.{Ground}
use Rattle.any_judge.specs.declared.exact_judge.stage.Stage.TheVariants.{Walking}
use Rattle.any_judge.specs.declared.exact_judge.trees.RowTrees.{RowTrees}
use Rattle.any_judge.specs.ExactJudge.Ground.{IsSizedGround, masks_in}
use Rattle.any_judge.specs.ExactJudge.Heard.{Groups, ExactHeard, closed_at, heard_from, with_node_of}
use Rattle.any_judge.specs.ExactJudge.Stage.{IsStage, IsRightOver}
use Rattle.any_judge.specs.ExactJudge.Trees.{Begun, all_begun, many_begun, begun_all, put_node, at_source, heard_nodes, IsExactTreeJudged, AreTreesCountable, HasHeardRowTrees}
use Rattle.any_judge.proofs.ExactJudge.Begun.{counted_many, counted_less}
use Rattle.any_judge.proofs.ExactJudge.Walked.{IsOpen, few, nodes_followed, nodes_refused, put_nodes, under_way}

-- ---- trees that have begun

same_many : (b : Begun) (n : Node) → length (all_begun (put_node n b)) ≡ length (all_begun b)
same_many (front, None) n = refl
same_many (front, Some os) n = length-append front ((os ++ n ∷ []) ∷ []) ∙ sym (length-append front (os ∷ []))

at_last : (f : ℕ) (n : Node) (b : Begun) → length (all_begun b) ≡ suc f → at_source f n b ≡ put_node n b
at_last f n b e = let none : suc f - length (all_begun b) ≡ 0 = omega (arith, e) in ap (λ (k : ℕ). put_node n (many_begun k b)) none

put_none : (b : Begun) → b ≡ put_nodes [] b
put_none (front, None) = refl
put_none (front, Some os) = ap (λ (us : List Node). let b : Begun = (front, Some us) in b) (sym (append-nil os))

put_more : (n : Node) (ns : List Node) (b : Begun) → put_nodes ns (put_node n b) ≡ put_nodes (n ∷ ns) b
put_more n ns (front, None) = refl
put_more n ns (front, Some os) = ap (λ (us : List Node). let b : Begun = (front, Some us) in b) (append_assoc os (n ∷ []) ns)

-- nodes of the last tree come behind its own
put_heard : (f : ℕ) (ns : List Node) (b : Begun) → length (all_begun b) ≡ suc f → heard_nodes f ns b ≡ put_nodes ns b
put_heard f [] b e = put_none b
put_heard f (n ∷ ns) b e = ap (heard_nodes f ns) (at_last f n b e) ∙ put_heard f ns (put_node n b) (same_many b n ∙ e) ∙ put_more n ns b

counted_nodes : (g : Ground) (f : ℕ) (ns : List Node) (b : Begun) → AreTreesCountable g (heard_nodes f ns b) → AreTreesCountable g b
counted_nodes g f [] b c = c
counted_nodes g f (n ∷ ns) b c =
    let begun = begun_all (suc f) b in
    counted_many g (suc f - length (all_begun b)) b (counted_less g begun.0 begun.1 n (counted_nodes g f ns (at_source f n b) c))

-- ---- the judge

-- the walk of the open tree has followed nodes of its group
module _ (f : ℕ) (ns : List Node) (b : Begun) (j : RowTrees) (going : j.under_way ≡ true) (there : f ≡ j.source) (w : HasHeardRowTrees b j) (walk : RowWalk) (wrong : Bool)
    (follows : FollowsNodesInRow j.ground.edges (masks_in j.ground) j.ground.roots.roots.items j.ground.roots.first.items j.walk walk wrong ns) where
  module _ (all : AreTreesCountable j.ground (heard_nodes f ns b)) where
    open_one : IsOpen b j.wrong j
    open_one = under_way b.0 b.1 j.wrong j going (w.judged (counted_nodes j.ground f ns b all))

    behind : heard_nodes f ns b ≡ put_nodes ns b
    behind = put_heard f ns b (ap (λ (o : Option (List Node)). let c : Begun = (b.0, o) in length (all_begun c)) open_one.is ∙ length-append b.0 (open_one.nodes ∷ []) ∙ (let e : length b.0 + 1 ≡ suc f = omega (arith, there, open_one.followed.source) in e))

    short : length open_one.nodes + length ns < 2 ^ 64
    short = few b j.wrong j open_one ns (subst (AreTreesCountable j.ground) behind all)

    walked : IsWalkedAt j.ground.edges (masks_in j.ground) open_one.followed.row j.ground.roots.roots.items j.ground.roots.first.items (tree_with (length b.0) open_one.nodes) j.walk.source j.walk.path.items j.walk.rows.items j.walk.waits.items j.walk.follow
    walked = record { source_is = open_one.followed.walked.source_is; each = open_one.followed.walked.each }

  -- all of them answer
  pub all_answer : (at : ℕ) → wrong ≡ false → (j.nodes + length ns < 2 ^ 64 → at ≡ j.nodes + length ns) → HasHeardRowTrees (heard_nodes f ns b) (record j { walk = walk; nodes = at })
  all_answer at right number = record {
    sized = w.sized;
    judged = λ all.
        let o = open_one all in
        let count : at ≡ length o.nodes + length ns = number (omega (arith, short all, o.followed.number)) ∙ ap (λ (n : ℕ). n + length ns) o.followed.number in
        let h = follows.1.on right o.followed.row (tree_with (length b.0) o.nodes) (walked all) in
        let k = record j { walk = walk; nodes = at } in
        let on : IsTreeWalkedInRow j.ground.edges (masks_in j.ground) o.followed.row j.ground.roots.roots.items j.ground.roots.first.items (with_nodes ns (tree_with (length b.0) o.nodes)) walk = record { source_is = follows.0 ∙ h.source_is; each = h.each } in
        subst (λ (c : Begun). IsExactTreeJudged c j.wrong k) (sym (behind all)) (nodes_followed b j.wrong j o ns k refl refl o.followed.going refl refl count on);
  }

  -- the last of them doesn't
  pub last_refused : (k : RowTrees) (node : ℕ) → wrong ≡ true → (j.nodes + length ns < 2 ^ 64 → node ≡ j.nodes + length ns - 1) → k.ground ≡ j.ground → k.under_way ≡ false → k.wrong ≡ Some (record { source = j.source; node = node })
      → HasHeardRowTrees (heard_nodes f ns b) k
  last_refused k node refused number ground ended found = record {
    sized = subst IsSizedGround (sym ground) w.sized;
    judged = λ enough.
        let all = subst (λ (g : Ground). AreTreesCountable g (heard_nodes f ns b)) ground enough in
        let o = open_one all in
        let some = follows.1.some refused in
        let count : node ≡ length o.nodes + length ns - 1 = number (omega (arith, short all, o.followed.number)) ∙ ap (λ (n : ℕ). n + length ns - 1) o.followed.number in
        let first = follows.1.refused refused o.followed.row (tree_with (length b.0) o.nodes) (walked all) in
        subst (λ (c : Begun). IsExactTreeJudged c k.wrong k) (sym (behind all)) (nodes_refused b j.wrong j o ns k ground (length o.nodes + length ns - 1) node count (omega (arith, some)) ended found first);
  }

-- ---- the stage

walking_on : (p over : PlanParts) (gs : Groups) (f : ℕ) (ns : List Node) (h : ExactHeard) (new : RowTrees) → h.closed ≡ true → IsRightOver p over gs h.triangles h.rays new.ground → HasHeardRowTrees (heard_nodes f ns h.trees) new → IsStage p gs (heard_from h (node_parts f ns)) (Walking new)
walking_on p over gs f [] h new closed right heard = (closed, record { over = over; right = right; heard = heard })
walking_on p over gs f (n ∷ ns) h new closed right heard = walking_on p over gs f ns (with_node_of f n (closed_at h)) new refl right heard

pub nodes_walked : (p : PlanParts) (gs : Groups) (f : ℕ) (ns : List Node) (h : ExactHeard) (j new : RowTrees) → IsStage p gs h (Walking j) → new.ground ≡ j.ground → HasHeardRowTrees (heard_nodes f ns h.trees) new → IsStage p gs (heard_from h (node_parts f ns)) (Walking new)
nodes_walked p gs f ns h j new k same heard = walking_on p k.1.over gs f ns h new k.0 (subst (λ (g : Ground). IsRightOver p k.1.over gs h.triangles h.rays g) (sym same) k.1.right) heard
