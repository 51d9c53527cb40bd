-- The walks of sources one by one, and what they have marked.
use Rattle.std.proofs.Common.{◌≡◌, ℕ, ◌+◌, ◌<◌, ◌≤◌, ◌⊎◌, inl, inr, List, Bool, true, Option, Some, slice_get, length, sym, ap, ◌∙◌, subst, arith}
use Rattle.std.specs.Prelude.{Result, IfOk}
use Rattle.std.proofs.lemmas.Option.{same_Some}
use Rattle.math_base.proofs.Numbers.{below_or_last}
use Rattle.sight_names.specs.declared.names.Budget.{Budget}
use Rattle.sight_names.specs.declared.names.Memory.{Memory}
use Rattle.sight_names.specs.declared.names.Triangle.{Triangle}
use Rattle.sight_names.specs.Found.{Spent}
use Rattle.sight_names.specs.Map.{Map, map_of}
use Rattle.sight_names.specs.Plan.{PlanParts}
use Rattle.sight_names.proofs.Lists.{contains_of_get, get_of_contains}
use Rattle.mesh_shape.specs.Shape.{MeshParts}
use Rattle.portal_walk.specs.Walk.{WalkParts}
use Rattle.pair_answer.specs.EnteredTriangles.Entered.{Enters, IsEntered}
use Rattle.pair_answer.specs.EnteredTriangles.Marks.{IsNumberMarked}
use Rattle.pair_answer.specs.EnteredTriangles.Walks.{AllEnded, EndedBelow, IsMarkedByWalk}

-- over the map, mesh and labels of the walk
pub walked_at : (w : WalkParts) (p : PlanParts) (mesh : MeshParts) (ls : List (Option ℕ)) (a : ℕ) (budget : Budget) (old new : List Bool) (r : Result Bool Memory) → w.plan ≡ p → w.mesh ≡ mesh → w.labels ≡ ls → w.source ≡ a → IfOk r (IsMarkedByWalk (map_of w.plan) w.mesh.triangles w.labels budget w.source old new)
    → IfOk r (IsMarkedByWalk (map_of p) mesh.triangles ls budget a old new)
walked_at w p mesh ls a budget old new r e f g h x = rw (sym e, sym f, sym g, sym h) x

module _ (m : Map) (ts : List Triangle) (ls : List (Option ℕ)) (budget : Budget) where
  pub ended_more : (n x : ℕ) (sources : List ℕ) (old new : List Bool) (b : Bool) → slice_get sources n ≡ Some x → EndedBelow m ts ls budget n sources old → length new ≡ length old → IsMarkedByWalk m ts ls budget x old new b → b ≡ true → EndedBelow m ts ls budget (n + 1) sources new
  ended_more n x sources old new b at h len walked ended = by (subst (IsMarkedByWalk m ts ls budget x old new) ended walked)
    where
      by : IsMarkedByWalk m ts ls budget x old new true → EndedBelow m ts ls budget (n + 1) sources new
      by w = record {
        each = len ∙ h.each;
        unspent = λ i a l e. unspent i a e (below_or_last i n l);
        marked = λ k. (λ c. to k ((w.1 k).0 c), λ c. (w.1 k).1 (back k c));
      }
        where
          unspent : (i a : ℕ) → slice_get sources i ≡ Some a → (i < n) ⊎ (i ≡ n) → ¬ Spent m ts ls a budget
          unspent i a e (inl l) = h.unspent i a l e
          unspent i a e (inr q) = subst (λ (y : ℕ). ¬ Spent m ts ls y budget) (same_Some x a (sym at ∙ ap (slice_get sources) (sym q) ∙ e)) w.0

          to : (k : ℕ) → IsNumberMarked old k ⊎ Enters m ts ls x k → (i a : ℕ) × (i < n + 1) × (slice_get sources i ≡ Some a) × Enters m ts ls a k
          to k (inl c) = let d = (h.marked k).0 c in let l = d.2 in (d.0, d.1, omega (arith, l), d.3, d.4)
          to k (inr e) = (n, x, omega arith, at, e)

          cases : (k i a : ℕ) → (i < n) ⊎ (i ≡ n) → slice_get sources i ≡ Some a → Enters m ts ls a k → IsNumberMarked old k ⊎ Enters m ts ls x k
          cases k i a (inl l) f e = inl ((h.marked k).1 (i, a, l, f, e))
          cases k i a (inr q) f e = inr (subst (λ (y : ℕ). Enters m ts ls y k) (same_Some a x (sym f ∙ ap (slice_get sources) q ∙ at)) e)

          back : (k : ℕ) → (i a : ℕ) × (i < n + 1) × (slice_get sources i ≡ Some a) × Enters m ts ls a k → IsNumberMarked old k ⊎ Enters m ts ls x k
          back k c = cases k c.0 c.1 (below_or_last c.0 n c.2) c.3 c.4

  pub ended_all : (n : ℕ) (sources : List ℕ) (marks : List Bool) → length sources ≤ n → EndedBelow m ts ls budget n sources marks → AllEnded m ts ls budget sources marks
  ended_all n sources marks le h = record {
    each = h.each;
    unspent = λ a c. h.unspent c.0 a (let l = c.1 in omega (arith, l, le)) (get_of_contains sources a c.0 c.1 c.2);
    marked = λ k. (λ c. to k ((h.marked k).0 c), λ c. (h.marked k).1 (back k c));
  }
    where
      to : (k : ℕ) → (i a : ℕ) × (i < n) × (slice_get sources i ≡ Some a) × Enters m ts ls a k → IsEntered m ts ls sources k
      to k d = (d.1, contains_of_get sources d.1 d.0 d.3, d.4)

      back : (k : ℕ) → IsEntered m ts ls sources k → (i a : ℕ) × (i < n) × (slice_get sources i ≡ Some a) × Enters m ts ls a k
      back k (a, c, e) = (c.0, a, (let l = c.1 in omega (arith, l, le)), get_of_contains sources a c.0 c.1 c.2, e)
