-- The segments through which one could pass out of marked triangles, gathered triangle by triangle.
use Rattle.std.proofs.Common.{◌≡◌, ℕ, ◌+◌, ◌<◌, ◌≤◌, ◌⊎◌, ◌↔◌, inl, inr, List, [], ◌∷◌, ◌++◌, Option, Some, slice_get, length, Contains, sym, ap, ◌∙◌, subst, arith}
use Rattle.std.specs.Prelude.{Result, Ok, Err, OnOk}
use Rattle.std.proofs.lemmas.List.Elements.{Contains-append_left, Contains-push, Contains-push_cases}
use Rattle.std.proofs.lemmas.Option.{same_Some, slice_get_within}
use Rattle.math_base.proofs.Numbers.{below_or_last}
use Rattle.sight_names.specs.declared.names.Triangle.{Triangle}
use Rattle.sight_names.specs.Map.{Map}
use Rattle.sight_names.specs.Mesh.{IsGoodMesh, triangle_at}
use Rattle.sight_names.specs.Points.{Edge, reverse_of}
use Rattle.mesh_shape.proofs.RuleLemmas.{edge_cases}
use Rattle.mesh_base.proofs.CleanMesh.{edge_pq, edge_qr, edge_rp}
use Rattle.mesh_base.proofs.GoodMesh.{found_at}
use Rattle.mesh_shape.specs.HalfEdges.Numbers.{edge}
use Rattle.sight_lift.proofs.Behind.{there}
use Rattle.map_picture.specs.declared.pair.Stop.{Stop}
use Rattle.pair_answer.specs.EnteredTriangles.Stops.{AreStopsInOrder, ArePut, AreStopsOf, IsOneOf, IsStopPut, IsStop, LeavesAt, segment}

module _ (m : Map) (ts : List Triangle) (Inside : ℕ → Type 0) where
  -- ---- one segment more

  pub one_put : (from to : ℕ) (old new : List Stop) (v : Stop) → new ≡ old ++ v ∷ [] → v ≡ segment from to → LeavesAt m ts Inside (edge to from) → IsStopPut m ts Inside from to old new
  one_put from to old new v pushed is leaves s = (λ c. held (Contains-push_cases old v s (subst (λ (ss : List Stop). Contains ss s) pushed c)), λ h. subst (λ (ss : List Stop). Contains ss s) (sym pushed) (back h))
    where
      held : Contains old s ⊎ (v ≡ s) → Contains old s ⊎ ((s ≡ segment from to) × LeavesAt m ts Inside (edge to from))
      held (inl h) = inl h
      held (inr h) = inr (sym h ∙ is, leaves)

      back : Contains old s ⊎ ((s ≡ segment from to) × LeavesAt m ts Inside (edge to from)) → Contains (old ++ v ∷ []) s
      back (inl h) = Contains-append_left old (v ∷ []) s h
      back (inr h) = subst (Contains (old ++ v ∷ [])) (is ∙ sym h.0) (Contains-push old v)

  -- ---- those of one triangle

  pub three_put : (t : Triangle) (a b c d : List Stop) → IsStopPut m ts Inside t.p t.q a b → IsStopPut m ts Inside t.q t.r b c → IsStopPut m ts Inside t.r t.p c d → ArePut m ts Inside t a d
  three_put t a b c d f g h s = (λ x. first ((h s).0 x), back)
    where
      third : Contains a s ⊎ ((s ≡ segment t.p t.q) × LeavesAt m ts Inside (edge t.q t.p)) → Contains a s ⊎ IsOneOf m ts Inside t s
      third (inl x) = inl x
      third (inr x) = inr (inl x)

      second : Contains b s ⊎ ((s ≡ segment t.q t.r) × LeavesAt m ts Inside (edge t.r t.q)) → Contains a s ⊎ IsOneOf m ts Inside t s
      second (inl x) = third ((f s).0 x)
      second (inr x) = inr (inr (inl x))

      first : Contains c s ⊎ ((s ≡ segment t.r t.p) × LeavesAt m ts Inside (edge t.p t.r)) → Contains a s ⊎ IsOneOf m ts Inside t s
      first (inl x) = second ((g s).0 x)
      first (inr x) = inr (inr (inr x))

      back : Contains a s ⊎ IsOneOf m ts Inside t s → Contains d s
      back (inl x) = (h s).1 (inl ((g s).1 (inl ((f s).1 (inl x)))))
      back (inr (inl x)) = (h s).1 (inl ((g s).1 (inl ((f s).1 (inr x)))))
      back (inr (inr (inl x))) = (h s).1 (inl ((g s).1 (inr x)))
      back (inr (inr (inr x))) = (h s).1 (inr x)

  -- ---- those of the first n triangles

  pub record IsOfOne (n : ℕ) (s : Stop) : Type 0 where
    pub k : ℕ
    pub t : Triangle
    pub low : k < n
    pub inside : Inside k
    pub is : slice_get ts k ≡ Some t
    pub one : IsOneOf m ts Inside t s

  abbrev pub StopsBelow : ℕ → List Stop → Type 0
  StopsBelow n ss = (s : Stop) → Contains ss s ↔ IsOfOne n s

  longer : (n : ℕ) (s : Stop) → IsOfOne n s → IsOfOne (n + 1) s
  longer n s h = record { k = h.k; t = h.t; low = (let l = h.low in omega (arith, l)); inside = h.inside; is = h.is; one = h.one }

  pub below_more : (n : ℕ) (t : Triangle) (old new : List Stop) → slice_get ts n ≡ Some t → Inside n → StopsBelow n old → ArePut m ts Inside t old new → StopsBelow (n + 1) new
  below_more n t old new at inside h put s = (λ c. to ((put s).0 c), λ x. (put s).1 (back x (below_or_last x.k n x.low)))
    where
      to : Contains old s ⊎ IsOneOf m ts Inside t s → IsOfOne (n + 1) s
      to (inl c) = longer n s ((h s).0 c)
      to (inr one) = record { k = n; t = t; low = omega arith; inside = inside; is = at; one = one }

      back : (x : IsOfOne (n + 1) s) → (x.k < n) ⊎ (x.k ≡ n) → Contains old s ⊎ IsOneOf m ts Inside t s
      back x (inl l) = inl ((h s).1 (record { k = x.k; t = x.t; low = l; inside = x.inside; is = x.is; one = x.one }))
      back x (inr q) = inr (subst (λ (u : Triangle). IsOneOf m ts Inside u s) (same_Some x.t t (sym x.is ∙ ap (slice_get ts) q ∙ at)) x.one)

  pub below_skip : (n : ℕ) (old new : List Stop) → ¬ Inside n → new ≡ old → StopsBelow n old → StopsBelow (n + 1) new
  below_skip n old new none e h s = (λ c. longer n s ((h s).0 (subst (λ (xs : List Stop). Contains xs s) e c)), λ x. subst (λ (xs : List Stop). Contains xs s) (sym e) (back x (below_or_last x.k n x.low)))
    where
      back : (x : IsOfOne (n + 1) s) → (x.k < n) ⊎ (x.k ≡ n) → Contains old s
      back x (inl l) = (h s).1 (record { k = x.k; t = x.t; low = l; inside = x.inside; is = x.is; one = x.one })
      back x (inr q) = absurd (none (subst Inside q x.inside))

  -- ---- those of all triangles

  module _ (ls : List (Option ℕ)) (good : IsGoodMesh m ts ls) where
    stop_is : (n : ℕ) (s : Stop) → IsOfOne n s → IsStop m ts Inside s
    stop_is n s h = by h.one
      where
        with : (u v : ℕ) → triangle_at ts (edge u v) ≡ Some h.k → (s ≡ segment u v) × LeavesAt m ts Inside (edge v u) → IsStop m ts Inside s
        with u v at x = record { e = edge u v; is = x.0; near = h.k; at = at; inside = h.inside; leaves = x.1 }

        by : IsOneOf m ts Inside h.t s → IsStop m ts Inside s
        by (inl x) = with h.t.p h.t.q (there m ts ls good (edge h.t.p h.t.q) h.k h.t h.is (edge_pq h.t)) x
        by (inr (inl x)) = with h.t.q h.t.r (there m ts ls good (edge h.t.q h.t.r) h.k h.t h.is (edge_qr h.t)) x
        by (inr (inr x)) = with h.t.r h.t.p (there m ts ls good (edge h.t.r h.t.p) h.k h.t h.is (edge_rp h.t)) x

    stop_of : (s : Stop) → IsStop m ts Inside s → IsOfOne (length ts) s
    stop_of s h =
        let u = found_at ts h.e h.near h.at in
        record {
          k = h.near;
          t = u.0;
          low = slice_get_within ts h.near u.0 u.1;
          inside = h.inside;
          is = u.1;
          one = edge_cases u.0 h.e (λ (f : Edge). s ≡ segment f.from f.to → LeavesAt m ts Inside (reverse_of f) → IsOneOf m ts Inside u.0 s) (λ q l. inl (q, l)) (λ q l. inr (inl (q, l))) (λ q l. inr (inr (q, l))) u.2 h.is h.leaves;
        }

    pub below_all : (n : ℕ) (ss : List Stop) → length ts ≤ n → StopsBelow n ss → AreStopsOf m ts Inside ss
    below_all n ss le h s = (λ c. stop_is n s ((h s).0 c), λ x. (h s).1 (moved (stop_of s x)))
      where
        moved : IsOfOne (length ts) s → IsOfOne n s
        moved y = record { k = y.k; t = y.t; low = (let l = y.low in omega (arith, l, le)); inside = y.inside; is = y.is; one = y.one }

  pub stops_in_order : (all left : List Stop) → AreStopsInOrder all left → AreStopsOf m ts Inside all → AreStopsOf m ts Inside left
  stops_in_order all left h are s = (λ c. (are s).0 ((h.exactly s).0 c), λ x. (h.exactly s).1 ((are s).1 x))

-- where a call succeeds, what is known of it gives what is asked
pub on_ok : {A B : Type 0} (r : Result A B) (P Q : Type 0) → (P → Q) → OnOk r P → OnOk r Q
on_ok (Ok x) P Q f h = f h
on_ok (Err e) P Q f h = tt

-- ---- the same set of triangles in other words

module _ (m : Map) (ts : List Triangle) (A B : ℕ → Type 0) (same : (k : ℕ) → k < length ts → A k ↔ B k) where
  below_length : (e : Edge) (k : ℕ) → triangle_at ts e ≡ Some k → k < length ts
  below_length e k at = let u = found_at ts e k at in slice_get_within ts k u.0 u.1

  pub stop_so : (s : Stop) → IsStop m ts A s → IsStop m ts B s
  stop_so s h = record {
    e = h.e;
    is = h.is;
    near = h.near;
    at = h.at;
    inside = (same h.near (below_length h.e h.near h.at)).0 h.inside;
    leaves = record { beyond = h.leaves.beyond; is = h.leaves.is; outside = λ b. h.leaves.outside ((same h.leaves.beyond (below_length (reverse_of h.e) h.leaves.beyond h.leaves.is)).1 b); free = h.leaves.free };
  }

pub stops_so : (m : Map) (ts : List Triangle) (A B : ℕ → Type 0) → ((k : ℕ) → k < length ts → A k ↔ B k) → (ss : List Stop) → AreStopsOf m ts A ss → AreStopsOf m ts B ss
stops_so m ts A B same ss are s = (λ c. stop_so m ts A B same s ((are s).0 c), λ x. (are s).1 (stop_so m ts B A (λ k low. ((same k low).1, (same k low).0)) s x))
