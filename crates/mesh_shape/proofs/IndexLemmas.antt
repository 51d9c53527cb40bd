-- The index of a mesh finds the least triangle with a directed edge.
use Rattle.std.proofs.Common.{◌≡◌, ℕ, ◌+◌, ◌<◌, ◌≤◌, ◌⊎◌, inl, inr, List, length, get_or, set, Bool, true, false, ◌==◌, ◌&&◌, ◌||◌, cond, Some, None, refl, sym, ap, ◌∙◌, subst, arith, eqb-true}
use Rattle.std.proofs.lemmas.List.{get_or_default, get_or-set_same, get_or-set_other}
use Rattle.std.proofs.lemmas.Bool.{false≢true, true≢false, cases_eq}
use Rattle.std.proofs.lemmas.Option.{slice_get-get_or}
use Rattle.std.proofs.lemmas.List.Sums.{position_or_len_is}
use Rattle.std.specs.List.{position, position_or_len}
use Rattle.sight_names.specs.declared.limits.TheConstants.{MOST_TRIANGLES}
use Rattle.sight_names.specs.declared.names.Triangle.{Triangle}
use Rattle.sight_names.specs.Points.{Edge}
use Rattle.sight_names.specs.Mesh.{AreTriangles, IsTriangle, has_edge, triangle_at}
use Rattle.mesh_shape.specs.declared.mesh.Next.{Next}
use Rattle.mesh_shape.specs.Index.{has_corner, IsNextAround, IsNext, IsCornerPut, AreTrianglesIndexed, entry_at}
use Rattle.math_base.proofs.Bools.{by_value}

-- a triangle with the corner u is itself the next one
pub next_here : (ts : List Triangle) (u k : ℕ) (t : Triangle) → k < length ts → get_or ts k t ≡ t → has_corner u t ≡ true → IsNextAround ts u k k
next_here ts u k t lt at c = record {
  from = omega arith;
  within = omega arith;
  none = λ j d h i. absurd (omega arith);
  here = λ d h. ap (has_corner u) (get_or_default ts k d t lt ∙ at) ∙ c;
}

-- a triangle without the corner u is passed over
pub next_over : (ts : List Triangle) (u k j : ℕ) (t : Triangle) → k < length ts → get_or ts k t ≡ t → has_corner u t ≡ false → IsNextAround ts u (k + 1) j → IsNextAround ts u k j
next_over ts u k j t lt at c next = record {
  from = omega (arith, next.from);
  within = next.within;
  none = λ i d h e. elim (le_cases k i e) [
    | inl s ↦ ap (has_corner u) (ap (λ (z : ℕ). get_or ts z d) (sym s) ∙ get_or_default ts k d t lt ∙ at) ∙ c
    | inr s ↦ next.none i d h s
  ];
  here = next.here;
}
  where
    le_cases : (k i : ℕ) → k ≤ i → (k ≡ i) ⊎ (k + 1 ≤ i)
    le_cases k i h = grind arith

-- what holds while the triangles with the edge's first point are looked through: none before has the edge
pub record IsSearched (ts : List Triangle) (e : Edge) (at : ℕ) : Type 0 where
  pub within : at ≤ length ts
  pub none : (k : ℕ) → k < at → (d : Triangle) → has_edge e (get_or ts k d) ≡ false
  pub here : (d : Triangle) → at < length ts → has_corner e.from (get_or ts at d) ≡ true

no_corner_no_edge : (a b c u v : ℕ) → ((a == u) || (b == u) || (c == u)) ≡ false → ((a == u) && (b == v) || (b == u) && (c == v) || (c == u) && (a == v)) ≡ false
no_corner_no_edge a b c u v h = go (a == u) (b == u) (c == u) (a == v) (b == v) (c == v) h
  where
    go : (a b c x y z : Bool) → (a || b || c) ≡ false → (a && y || b && z || c && x) ≡ false
    go true b c x y z h = absurd (true≢false h)
    go false true c x y z h = absurd (true≢false h)
    go false false true x y z h = absurd (true≢false h)
    go false false false x y z h = refl

pub without_corner : (t : Triangle) (e : Edge) → has_corner e.from t ≡ false → has_edge e t ≡ false
without_corner t e h = no_corner_no_edge t.p t.q t.r e.from e.to h

pub search_step : (ts : List Triangle) (e : Edge) (at j : ℕ) (t : Triangle) → IsSearched ts e at → at < length ts → get_or ts at t ≡ t → has_edge e t ≡ false → IsNextAround ts e.from (at + 1) j → IsSearched ts e j
search_step ts e at j t s lt is none next = record {
  within = next.within;
  none = λ k h d. elim (cases k at) [
    | inl b ↦ s.none k b d
    | inr (inl b) ↦ ap (has_edge e) (ap (λ (z : ℕ). get_or ts z d) b ∙ get_or_default ts at d t lt ∙ is) ∙ none
    | inr (inr b) ↦ without_corner (get_or ts k d) e (next.none k d h b)
  ];
  here = next.here;
}
  where
    cases : (k i : ℕ) → (k < i) ⊎ ((k ≡ i) ⊎ (i + 1 ≤ k))
    cases k i = grind arith

-- the entry of the corner that the search goes round
pub entry_next : (ts : List Triangle) (k u : ℕ) (t : Triangle) (n : Next) → IsNext ts k t n → has_corner u t ≡ true → IsNextAround ts u (k + 1) (entry_at u t n)
entry_next ts k u t n next c = go (t.p == u) (t.q == u) (t.r == u) (eqb-true t.p u) (eqb-true t.q u) (eqb-true t.r u) c
  where
    Goal : ℕ → Type 0
    Goal j = IsNextAround ts u (k + 1) j

    go : (a b c : Bool) → (a ≡ true → t.p ≡ u) → (b ≡ true → t.q ≡ u) → (c ≡ true → t.r ≡ u) → (a || b || c) ≡ true → Goal (cond a n.p (cond b n.q n.r))
    go true b c f g h w = let e = f refl in subst (λ (z : ℕ). IsNextAround ts z (k + 1) n.p) e next.p
    go false true c f g h w = let e = g refl in subst (λ (z : ℕ). IsNextAround ts z (k + 1) n.q) e next.q
    go false false true f g h w = let e = h refl in subst (λ (z : ℕ). IsNextAround ts z (k + 1) n.r) e next.r
    go false false false f g h w = absurd (false≢true w)

position_at : {X : Type 0} (p : X → Bool) (xs : List X) (i : ℕ) (d : X) → i < length xs → ((k : ℕ) → k < i → p (get_or xs k d) ≡ false) → p (get_or xs i d) ≡ true → position p xs ≡ Some i
position_at p xs i d lt before here =
    let e : position_or_len p xs ≡ i = position_or_len_is p xs i d (omega arith) before (λ h. here) in
    grind (arith, e)

position_none : {X : Type 0} (p : X → Bool) (xs : List X) (d : X) → ((k : ℕ) → k < length xs → p (get_or xs k d) ≡ false) → position p xs ≡ None
position_none p xs d before =
    let e : position_or_len p xs ≡ length xs = position_or_len_is p xs (length xs) d (omega arith) before (λ h. absurd (omega arith)) in
    grind (arith, e)

pub search_found : (ts : List Triangle) (e : Edge) (at : ℕ) (t : Triangle) → IsSearched ts e at → at < length ts → get_or ts at t ≡ t → has_edge e t ≡ true → triangle_at ts e ≡ Some at
search_found ts e at t s lt is h = position_at (has_edge e) ts at t lt (λ k b. s.none k b t) (ap (has_edge e) is ∙ h)

pub search_none : (ts : List Triangle) (e : Edge) (at : ℕ) → IsSearched ts e at → length ts ≤ at → triangle_at ts e ≡ None
search_none ts e at s le = go ts s le
  where
    any : Triangle
    any = record { p = 0; q = 0; r = 0 }

    go : (ts : List Triangle) → IsSearched ts e at → length ts ≤ at → triangle_at ts e ≡ None
    go ts s le = position_none (has_edge e) ts any (λ k b. s.none k (omega arith) any)

-- no triangle has a corner that is no point
pub search_outside : (points : ℕ) (ts : List Triangle) (e : Edge) → AreTriangles points ts → points ≤ e.from → triangle_at ts e ≡ None
search_outside points ts e are out = position_none (has_edge e) ts any (λ k b. without_corner (get_or ts k any) e (no_corner (get_or ts k any) (are.each k (get_or ts k any) (slice_get-get_or ts k any b))))
  where
    any : Triangle
    any = record { p = 0; q = 0; r = 0 }

    none : (a b c : Bool) → (a ≡ true → ⊥) → (b ≡ true → ⊥) → (c ≡ true → ⊥) → (a || b || c) ≡ false
    none true b c f g h = absurd (f refl)
    none false true c f g h = absurd (g refl)
    none false false true f g h = absurd (h refl)
    none false false false f g h = refl

    no_corner : (t : Triangle) → IsTriangle points t → has_corner e.from t ≡ false
    no_corner t h =
        let l : t.p < t.q = h.least in
        let q : t.q < points = h.second in
        let r : t.r < points = h.third in
        none (t.p == e.from) (t.q == e.from) (t.r == e.from)
        (λ x. let y : t.p ≡ e.from = eqb-true t.p e.from x in omega arith)
        (λ x. let y : t.q ≡ e.from = eqb-true t.q e.from x in omega arith)
        (λ x. let y : t.r ≡ e.from = eqb-true t.r e.from x in omega arith)

-- the index of the triangles from k on
pub record IsEntered (ts : List Triangle) (k : ℕ) (first : List ℕ) (later : List Next) : Type 0 where
  pub first_round : (u d : ℕ) → u < length first → IsNextAround ts u k (get_or first u d)
  pub next_round : (j : ℕ) (d : Triangle) (e : Next) → k ≤ j → j < length ts → IsNext ts j (get_or ts j d) (get_or later j e)

-- the entry of the triangle at k: where the next triangles with its corners stand so far
abbrev pub entry_of : List ℕ → Triangle → Next
entry_of first t = record { p = get_or first t.p 0; q = get_or first t.q 0; r = get_or first t.r 0 }

pub enter_next : (ts : List Triangle) (k : ℕ) (first : List ℕ) (t : Triangle) → IsTriangle (length first) t → ((u d : ℕ) → u < length first → IsNextAround ts u (k + 1) (get_or first u d)) → IsNext ts k t (entry_of first t)
enter_next ts k first t is round =
    let l : t.p < t.q = is.least in
    let q : t.q < length first = is.second in
    let r : t.r < length first = is.third in
    record { p = round t.p 0 (omega arith); q = round t.q 0 q; r = round t.r 0 r }

pub enter_step : (ts : List Triangle) (m k : ℕ) (t : Triangle) (first new : List ℕ) (later : List Next) → m ≡ k + 1 → k < length ts → get_or ts k t ≡ t → IsTriangle (length first) t → length new ≡ length first → length later ≡ length ts → IsCornerPut t k first new
    → IsEntered ts m first later → IsEntered ts k new (set later k (entry_of first t))
enter_step ts m k t first new later e lt at is len len' put was = record {
  first_round = λ u d h. by_value (has_corner u t) (λ c. subst (λ (z : ℕ). IsNextAround ts u k z) (sym (put.here u d (omega arith) c)) (next_here ts u k t lt at c))
      (λ c. next_over ts u k (get_or new u d) t lt at c (subst (λ (z : ℕ). IsNextAround ts u (k + 1) z) (sym (put.others u d c)) (round u d (omega arith))));
  next_round = λ j d n le b. elim (cases_eq j k) [
    | inl same ↦ now j d n same
    | inr other ↦ later_one j d n le b other
  ];
}
  where
    round : (u d : ℕ) → u < length first → IsNextAround ts u (k + 1) (get_or first u d)
    round u d h = subst (λ (z : ℕ). IsNextAround ts u z (get_or first u d)) e (was.first_round u d h)

    now : (j : ℕ) (d : Triangle) (n : Next) → j ≡ k → IsNext ts j (get_or ts j d) (get_or (set later k (entry_of first t)) j n)
    now j d n same =
        let in_later : k < length later = omega arith in
        subst (λ (z : ℕ). IsNext ts z (get_or ts z d) (get_or (set later k (entry_of first t)) z n)) (sym same)
        (subst (λ (z : Next). IsNext ts k (get_or ts k d) z) (sym (get_or-set_same later k (entry_of first t) n in_later))
        (subst (λ (z : Triangle). IsNext ts k z (entry_of first t)) (sym (get_or_default ts k d t lt ∙ at)) (enter_next ts k first t is round)))

    later_one : (j : ℕ) (d : Triangle) (n : Next) → k ≤ j → j < length ts → (j ≡ k → ⊥) → IsNext ts j (get_or ts j d) (get_or (set later k (entry_of first t)) j n)
    later_one j d n le b other = subst (λ (z : Next). IsNext ts j (get_or ts j d) z) (sym (get_or-set_other later k j (entry_of first t) n other)) (was.next_round j d n (omega arith) b)

-- from one triangle round a point to the next
pub next_of : (points : ℕ) (ts : List Triangle) (first : List ℕ) (later : List Next) (k u : ℕ) (t : Triangle) (n : Next) → AreTrianglesIndexed points ts first later → k < length ts → get_or ts k t ≡ t → get_or later k n ≡ n → has_corner u (get_or ts k t) ≡ true
    → IsNextAround ts u (k + 1) (entry_at u t n)
next_of points ts first later k u t n is lt at entry corner = entry_next ts k u t n (now (is.next_round k t n lt)) (ap (has_corner u) (sym at) ∙ corner)
  where
    now : IsNext ts k (get_or ts k t) (get_or later k n) → IsNext ts k t n
    now h = subst (λ (z : Next). IsNext ts k t z) entry (subst (λ (z : Triangle). IsNext ts k z (get_or later k n)) at h)

-- all triangles are entered
pub enter_all : (ts : List Triangle) (first : List ℕ) (later : List Next) (points : ℕ) → length first ≡ points → length later ≡ length ts → length ts ≤ MOST_TRIANGLES → AreTriangles points ts → IsEntered ts 0 first later → AreTrianglesIndexed points ts first later
enter_all ts first later points e f few are was = record {
  triangles = are;
  few = few;
  each_point = e;
  each_triangle = f;
  first_round = λ u d h. was.first_round u d (omega arith);
  next_round = λ k d n h. was.next_round k d n (omega arith) h;
}

abbrev pub any_triangle : Triangle
any_triangle = record { p = 0; q = 0; r = 0 }

pub read_triangle : (points n : ℕ) (ts : List Triangle) (k : ℕ) → AreTriangles points ts → n ≡ points → k < length ts → IsTriangle n (get_or ts k any_triangle)
read_triangle points n ts k are e lt = subst (λ (z : ℕ). IsTriangle z (get_or ts k any_triangle)) (sym e) (are.each k (get_or ts k any_triangle) (slice_get-get_or ts k any_triangle lt))

pub read_same : (ts : List Triangle) (k : ℕ) → k < length ts → get_or ts k (get_or ts k any_triangle) ≡ get_or ts k any_triangle
read_same ts k lt = get_or_default ts k (get_or ts k any_triangle) any_triangle lt
