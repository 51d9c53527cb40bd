-- Gaps, triangle after triangle, and that they are segments of the hull.
use Rattle.std.proofs.Common.{◌≡◌, ℕ, ◌+◌, ◌<◌, ◌≤◌, ◌⊎◌, inl, inr, List, [], ◌∷◌, ◌++◌, length, slice_get, option_and_then, Option, Some, None, Contains, Bool, true, false, ◌==◌, ◌&&◌, ◌||◌, refl, sym, ◌∙◌, ap, subst, arith}
use Rattle.std.proofs.lemmas.Bool.{false≢true}
use Rattle.std.proofs.lemmas.Option.{none-some, same_Some, slice_get_within}
use Rattle.math_base.proofs.Lists.{contains_none, contains_append, contains_left, contains_right, contains_one, contains_here}
use Rattle.math_base.proofs.Numbers.{below_or_last}
use Rattle.sight_names.specs.declared.names.Side.{Side}
use Rattle.sight_names.specs.declared.names.Triangle.{Triangle}
use Rattle.sight_names.specs.Map.{Map}
use Rattle.sight_names.specs.Points.{Edge}
use Rattle.sight_names.specs.Mesh.{HasEdge, IsLineEdge, IsPlainMesh, triangle_at}
use Rattle.sight_names.specs.Order.{Ascends}
use Rattle.mesh_shape.specs.Fills.{FillsSides}
use Rattle.mesh_shape.specs.HalfEdges.Numbers.{edge, half_edge_number}
use Rattle.mesh_shape.proofs.HalfEdges.Numbers.{number_at}
use Rattle.mesh_shape.proofs.RuleLemmas.{edge_cases}
use Rattle.face_groups.proofs.TriSectors.FaceRegion.{only_one}
use Rattle.map_faults.specs.declared.gaps.Gap.{Gap}
use Rattle.map_faults.specs.EdgeSides.{IsSideOfEdge, AreEdgeSides, side_by}
use Rattle.map_faults.specs.Gaps.{gap_at, IsMeshGap, IsGapBefore, AreHullGaps, IsFreeOut, IsGapBy, AreJustGaps, AreGapsBy, AddsGaps}
use Rattle.map_faults.proofs.Ordered.{one_behind}

-- ---- one more

added : (Q : Gap → Type 0) (P : Type 0) (g : Gap) (old new : List Gap) → AreJustGaps Q old → (P × (new ≡ old ++ g ∷ [])) ⊎ ((¬ P) × (new ≡ old)) → AreJustGaps (λ x. Q x ⊎ (P × (x ≡ g))) new
added Q P g old new h (inl a) = subst (AreJustGaps (λ x. Q x ⊎ (P × (x ≡ g)))) (sym a.1) (record {
  each = λ x c. elim (contains_append x old (g ∷ []) c) as (λ _. Q x ⊎ (P × (x ≡ g))) [ inl before ↦ inl (h.each x before) | inr one ↦ inr (a.0, sym (contains_one x g one)) ];
  all = λ x w. elim w as (λ _. Contains (old ++ g ∷ []) x) [ inl q ↦ contains_left x old (g ∷ []) (h.all x q) | inr e ↦ contains_right x old (g ∷ []) (subst (Contains (g ∷ [])) (sym e.1) (contains_here g [])) ];
})
added Q P g old new h (inr a) = subst (AreJustGaps (λ x. Q x ⊎ (P × (x ≡ g)))) (sym a.1) (record {
  each = λ x c. inl (h.each x c);
  all = λ x w. elim w as (λ _. Contains old x) [ inl q ↦ h.all x q | inr e ↦ absurd (a.0 e.0) ];
})

-- what is added stands behind all others
in_order : (R : Gap → Gap → Type 0) (P : Type 0) (g : Gap) (old new : List Gap) → Ascends R old → ((x : Gap) → Contains old x → P → R x g) → (P × (new ≡ old ++ g ∷ [])) ⊎ ((¬ P) × (new ≡ old)) → Ascends R new
in_order R P g old new up before (inl a) = subst (Ascends R) (sym a.1) (one_behind R old g up (λ x c. before x c a.0))
in_order R P g old new up before (inr a) = subst (Ascends R) (sym a.1) up

just_so : (Q R : Gap → Type 0) (gs : List Gap) → ((g : Gap) → Q g → R g) → ((g : Gap) → R g → Q g) → AreJustGaps Q gs → AreJustGaps R gs
just_so Q R gs f b h = record { each = λ g c. f g (h.each g c); all = λ g r. h.all g (b g r) }

-- ---- the edges of a triangle

same_ends : (u v : ℕ) → (u == u && v == v) ≡ true
same_ends u v = grind arith

first_of : (a b c : Bool) → a ≡ true → (a || b || c) ≡ true
first_of true b c e = refl
first_of false b c e = absurd (false≢true e)

second_of : (a b c : Bool) → b ≡ true → (a || b || c) ≡ true
second_of true true c e = refl
second_of false true c e = refl
second_of a false c e = absurd (false≢true e)

third_of : (a b c : Bool) → c ≡ true → (a || b || c) ≡ true
third_of true true true e = refl
third_of true false true e = refl
third_of false true true e = refl
third_of false false true e = refl
third_of a b false e = absurd (false≢true e)

has_pq : (t : Triangle) → HasEdge t (edge t.p t.q)
has_pq t = first_of (t.p == t.p && t.q == t.q) (t.q == t.p && t.r == t.q) (t.r == t.p && t.p == t.q) (same_ends t.p t.q)

has_qr : (t : Triangle) → HasEdge t (edge t.q t.r)
has_qr t = second_of (t.p == t.q && t.q == t.r) (t.q == t.q && t.r == t.r) (t.r == t.q && t.p == t.r) (same_ends t.q t.r)

has_rp : (t : Triangle) → HasEdge t (edge t.r t.p)
has_rp t = third_of (t.p == t.r && t.q == t.p) (t.q == t.r && t.r == t.p) (t.r == t.r && t.p == t.p) (same_ends t.r t.p)

module _ (ts : List Triangle) (ss : List (Option Side)) where
  -- those of the first n triangles
  abbrev pub Before : ℕ → Gap → Type 0
  Before n g = IsGapBy ts ss g × (g.triangle < n)

  pub none_before : AreJustGaps (Before 0) []
  none_before = record { each = λ g c. absurd (contains_none g c); all = λ g w. absurd (let lt = w.1 in omega arith) }

  -- and those of the first edges of the next one
  abbrev One : ℕ → Triangle → Gap → Type 0
  One n t x = Before n x ⊎ (IsFreeOut ts ss (edge t.p t.q) × (x ≡ gap_at n (edge t.p t.q)))

  abbrev Two : ℕ → Triangle → Gap → Type 0
  Two n t x = One n t x ⊎ (IsFreeOut ts ss (edge t.q t.r) × (x ≡ gap_at n (edge t.q t.r)))

  abbrev Three : ℕ → Triangle → Gap → Type 0
  Three n t x = Two n t x ⊎ (IsFreeOut ts ss (edge t.r t.p) × (x ≡ gap_at n (edge t.r t.p)))

  pub triangle_added : (n : ℕ) (t : Triangle) (old new : List Gap) → slice_get ts n ≡ Some t → AddsGaps ts ss n t old new → AreJustGaps (Before n) old → AreJustGaps (Before (n + 1)) new
  triangle_added n t old new at adds h = just_so (Three n t) (Before (n + 1)) new forth back
      (added (Two n t) (IsFreeOut ts ss (edge t.r t.p)) (gap_at n (edge t.r t.p)) adds.second new
      (added (One n t) (IsFreeOut ts ss (edge t.q t.r)) (gap_at n (edge t.q t.r)) adds.first adds.second
      (added (Before n) (IsFreeOut ts ss (edge t.p t.q)) (gap_at n (edge t.p t.q)) old adds.first h adds.pq) adds.qr) adds.rp)
    where
      here : (e : Edge) (g : Gap) → HasEdge t e → IsFreeOut ts ss e → g ≡ gap_at n e → Before (n + 1) g
      here e g has out same = subst (Before (n + 1)) (sym same) (record { t = t; at = at; has = has; out = out }, omega arith)

      forth : (g : Gap) → Three n t g → Before (n + 1) g
      forth g (inl (inl (inl w))) = (w.0, let lt = w.1 in omega arith)
      forth g (inl (inl (inr w))) = here (edge t.p t.q) g (has_pq t) w.0 w.1
      forth g (inl (inr w)) = here (edge t.q t.r) g (has_qr t) w.0 w.1
      forth g (inr w) = here (edge t.r t.p) g (has_rp t) w.0 w.1

      as_gap : (g : Gap) → g.triangle ≡ n → g ≡ gap_at n (edge g.from g.to)
      as_gap g e = joined g.triangle n g.from g.to e
        where
          joined : (a b c d : ℕ) → a ≡ b → gap_at a (edge c d) ≡ gap_at b (edge c d)
          joined a b c d e = ap (λ (x : ℕ). gap_at x (edge c d)) e

      back : (g : Gap) → Before (n + 1) g → Three n t g
      back g w = elim (below_or_last g.triangle n w.1) as (λ _. Three n t g) [
        | inl below ↦ inl (inl (inl (w.0, below)))
        | inr same ↦ subst (Three n t) (sym (as_gap g same)) (edge_cases t (edge g.from g.to) (λ (e : Edge). IsFreeOut ts ss e → Three n t (gap_at n e)) (λ out. inl (inl (inr (out, refl)))) (λ out. inl (inr (out, refl))) (λ out. inr (out, refl))
            (subst (λ (x : Triangle). HasEdge x (edge g.from g.to)) (same_Some w.0.t t (sym w.0.at ∙ ap (slice_get ts) same ∙ at)) w.0.has) w.0.out)
      ]

  pub triangle_ordered : (n : ℕ) (t : Triangle) (old new : List Gap) → slice_get ts n ≡ Some t → AddsGaps ts ss n t old new → AreJustGaps (Before n) old → Ascends (IsGapBefore ts) old → Ascends (IsGapBefore ts) new
  triangle_ordered n t old new at adds h up =
      let one = added (Before n) (IsFreeOut ts ss (edge t.p t.q)) (gap_at n (edge t.p t.q)) old adds.first h adds.pq in
      let two = added (One n t) (IsFreeOut ts ss (edge t.q t.r)) (gap_at n (edge t.q t.r)) adds.first adds.second one adds.qr in
      in_order R (IsFreeOut ts ss (edge t.r t.p)) (gap_at n (edge t.r t.p)) adds.second new
      (in_order R (IsFreeOut ts ss (edge t.q t.r)) (gap_at n (edge t.q t.r)) adds.first adds.second
      (in_order R (IsFreeOut ts ss (edge t.p t.q)) (gap_at n (edge t.p t.q)) old adds.first up (λ x c out. inl (h.each x c).1) adds.pq)
      (λ x c out. behind_first x (one.each x c)) adds.qr)
      (λ x c out. behind_second x (two.each x c)) adds.rp
    where
      R : Gap → Gap → Type 0
      R = IsGapBefore ts

      behind_first : (x : Gap) → One n t x → R x (gap_at n (edge t.q t.r))
      behind_first x (inl w) = inl w.1
      behind_first x (inr w) = subst (λ (g : Gap). R g (gap_at n (edge t.q t.r))) (sym w.1) (inr (refl, t, at, inl (refl, inl refl)))

      behind_second : (x : Gap) → Two n t x → R x (gap_at n (edge t.r t.p))
      behind_second x (inl (inl w)) = inl w.1
      behind_second x (inl (inr w)) = subst (λ (g : Gap). R g (gap_at n (edge t.r t.p))) (sym w.1) (inr (refl, t, at, inl (refl, inr refl)))
      behind_second x (inr w) = subst (λ (g : Gap). R g (gap_at n (edge t.r t.p))) (sym w.1) (inr (refl, t, at, inr (refl, refl)))

  pub all_before : (n : ℕ) (gs : List Gap) → length ts ≤ n → AreJustGaps (Before n) gs → AreJustGaps (IsGapBy ts ss) gs
  all_before n gs past h = just_so (Before n) (IsGapBy ts ss) gs (λ g w. w.0) (λ g w. (w, let lt = slice_get_within ts g.triangle w.t w.at in omega arith)) h

-- ---- as the map has it

pub hull_gaps : (m : Map) (ts : List Triangle) (ss : List (Option Side)) (gs : List Gap) → AreEdgeSides m ts ss → IsPlainMesh m ts → FillsSides m ts → AreGapsBy ts ss gs → AreHullGaps m ts gs
hull_gaps m ts ss gs sides plain filled h = record {
  each = λ g c. of_map g (h.0.each g c);
  ascend = h.1;
  hull = λ g c left. let w = h.0.each g c in none_there g w (filled.beyond g.triangle w.t (edge g.from g.to) w.at w.has left);
  all = λ g w. h.0.all g (of_code g w);
}
  where
    its_triangle : (g : Gap) (t : Triangle) → slice_get ts g.triangle ≡ Some t → HasEdge t (edge g.from g.to) → triangle_at ts (edge g.from g.to) ≡ Some g.triangle
    its_triangle g t at has = only_one m ts plain (edge g.from g.to) g.triangle t at has

    side_there : (e : Edge) (i : ℕ) (o : Option Side) → half_edge_number ts e ≡ Some i → slice_get ss i ≡ Some o → side_by ts ss e ≡ o
    side_there e i o f q = ap (option_and_then (λ i. option_and_then (λ (o : Option Side). o) (slice_get ss i))) f ∙ ap (option_and_then (λ (o : Option Side). o)) q

    of_map : (g : Gap) → IsGapBy ts ss g → IsMeshGap m ts g
    of_map g w =
        let e = edge g.from g.to in
        let f = number_at ts e g.triangle w.t (its_triangle g w.t w.at w.has) w.at in
        let s = sides.each e _ f in
        record { t = w.t; at = w.at; has = w.has; free = subst (IsSideOfEdge m e) (sym (side_there e _ s.0 f s.1) ∙ w.out.0) s.2; behind = w.out.1 }

    none_or_some : (e : Edge) (o : Option Side) → IsSideOfEdge m e o → ¬ IsLineEdge m e → o ≡ None
    none_or_some e None is free = refl
    none_or_some e (Some s) is free = absurd (free (s.line, is.0, s.left, is.1, sym is.2))

    of_code : (g : Gap) → IsMeshGap m ts g → IsGapBy ts ss g
    of_code g w =
        let e = edge g.from g.to in
        let f = number_at ts e g.triangle w.t (its_triangle g w.t w.at w.has) w.at in
        let s = sides.each e _ f in
        record { t = w.t; at = w.at; has = w.has; out = (side_there e _ s.0 f s.1 ∙ none_or_some e s.0 s.2 w.free, w.behind) }

    none_there : (g : Gap) → IsGapBy ts ss g → (k : ℕ) × (t : Triangle) × (slice_get ts k ≡ Some t) × HasEdge t (edge g.to g.from) → ⊥
    none_there g w (k, t, at, has) = none-some k (sym w.out.1 ∙ only_one m ts plain (edge g.to g.from) k t at has)
