-- A point whose segments have no room on either side has none for a further segment.
use Rattle.std.proofs.Common.{◌≡◌, ℕ, zero, suc, ◌<◌, ◌⊎◌, inl, inr, List, [], ◌∷◌, length, get_or, Bool, true, false, ℤ, pos, neg_ℤ, ◌+ℤ◌, ◌-ℤ◌, ◌*ℤ◌, ◌≤ℤ◌, ◌<ℤ◌, refl, sym, ap, ◌∙◌, subst, arith}
use Rattle.std.proofs.lemmas.Int.{ints}
use Rattle.std.proofs.lemmas.Bool.{true≢false}
use Rattle.math_base.proofs.Quoting.{quoting, by_ring}
use Rattle.math_base.proofs.Signs.{mul-pos, sign_cases, le_or_lt, pos-of-mul}
use Rattle.math_base.proofs.MoreSigns.{mul-nonpos, nonpos-of-mul}
use Rattle.plane_base.proofs.Search.{In, least_by}
use Rattle.sight_names.specs.declared.names.Pt.{Pt}
use Rattle.sight_names.specs.Map.{Map, map_of}
use Rattle.sight_names.specs.Plan.{PlanParts, IsPlan}
use Rattle.sight_names.specs.Points.{place, points_of}
use Rattle.sight_names.specs.Sound.{MeetAtEnds}
use Rattle.geom_exact.specs.Formulas.{turn_of, reach_of, AreOnOneSide}
use Rattle.geom_exact.proofs.SegmentLemmas.{square_of, square_of-pos}
use Rattle.sight_names.proofs.PlanNumbers.{count_of_plan}
use Rattle.mesh_shape.proofs.RuleLemmas.{places_differ}
use Rattle.geom_exact.proofs.RelationLemmas.{meets, no_end_of_second, overlap_inside, laid, reach_first as reach_none, turn_at_first}
use Rattle.mesh_shape.proofs.MeetLemmas.{overlap_not}
use Rattle.triangulate.specs.declared.incident_segments.segments.Segment.{Segment}
use Rattle.triangulate.specs.IncidentSegments.Incident.{has_end, other_end}
use Rattle.triangulate.specs.IncidentSegments.Kept.{edges_of, IsCrossedBy}
use Rattle.triangulate.specs.IncidentSegments.Neighbours.{IsNeighbour}
use Rattle.triangulate.specs.GreedySegments.Rounds.{IsSaturated}
use Rattle.triangulate.specs.GreedySegments.Saturated.{turn_between, HasTriangleLeft, HasFaceLeft, HasFaceRight}
use Rattle.triangulate.proofs.IncidentSegments.KeptEdges.{any_segment}
use Rattle.triangulate.proofs.GreedySegments.Crossed.{edge, bar_of_neighbour}
use Rattle.math_base.proofs.Small.{pos_where_negated, zero_by_first, nonneg_of_pos, lt_of_zero, neg_of_negated_pos}

-- ---- turns

turn_back : (a x y : Pt) → turn_of a y x ≡ neg_ℤ (turn_of a x y)
unfolding turn_of
turn_back a x y = by_ring (a.x ∷ a.y ∷ x.x ∷ x.y ∷ y.x ∷ y.y ∷ []) _ _ (search quoting depth 60 fits 200000) (search quoting depth 60 fits 200000) tt

turn_round : (a x y : Pt) → turn_of x y a ≡ turn_of a x y
unfolding turn_of
turn_round a x y = by_ring (a.x ∷ a.y ∷ x.x ∷ x.y ∷ y.x ∷ y.y ∷ []) _ _ (search quoting depth 60 fits 200000) (search quoting depth 60 fits 200000) tt

turn_fan : (a x y z j : Pt) → turn_of a y j *ℤ turn_of a x z ≡ turn_of a x j *ℤ turn_of a y z +ℤ turn_of a z j *ℤ turn_of a x y
unfolding turn_of
turn_fan a x y z j = by_ring (a.x ∷ a.y ∷ x.x ∷ x.y ∷ y.x ∷ y.y ∷ z.x ∷ z.y ∷ j.x ∷ j.y ∷ []) _ _ (search quoting depth 80 fits 1000000) (search quoting depth 80 fits 1000000) tt

mirrored_fan : (a x y z j : Pt) → turn_of a j y *ℤ turn_of a z x ≡ turn_of a j x *ℤ turn_of a z y +ℤ turn_of a j z *ℤ turn_of a y x
unfolding turn_of
mirrored_fan a x y z j = by_ring (a.x ∷ a.y ∷ x.x ∷ x.y ∷ y.x ∷ y.y ∷ z.x ∷ z.y ∷ j.x ∷ j.y ∷ []) _ _ (search quoting depth 80 fits 1000000) (search quoting depth 80 fits 1000000) tt

-- ---- a crossing, and an overlap

signs_across : (a b : ℤ) → a <ℤ pos 0 → pos 0 <ℤ b → ¬ AreOnOneSide a b
signs_across a b h k (inl s) = let x = s.0 in omega (arith, ints)
signs_across a b h k (inr s) = let x = s.1 in omega (arith, ints)

signs_apart : (a b : ℤ) → pos 0 <ℤ a → b ≤ℤ pos 0 → ¬ AreOnOneSide a b
signs_apart a b h k (inl s) = let x = s.1 in omega (arith, ints)
signs_apart a b h k (inr s) = let x = s.0 in omega (arith, ints)

neither_zero : (a b : ℤ) → a <ℤ pos 0 → pos 0 <ℤ b → ¬ ((a ≡ pos 0) ⊎ (b ≡ pos 0))
neither_zero a b h k (inl e) = omega (arith, ints)
neither_zero a b h k (inr e) = omega (arith, ints)

not_zero : (a b : ℤ) → pos 0 <ℤ b → ¬ ((a ≡ pos 0) × (b ≡ pos 0))
not_zero a b k e = let f = e.1 in omega (arith, ints)

-- j is seen from a between u and c, and not before the segment between them
pub cross_bars : (a j u c : Pt) → pos 0 <ℤ turn_of a u c → pos 0 <ℤ turn_of a u j → pos 0 <ℤ turn_of a j c → turn_of u c j ≤ℤ pos 0 → ¬ MeetAtEnds a j u c
cross_bars a j u c uc uj jc beyond h =
    let right = neg_of_negated_pos (turn_of a j u) (turn_of a u j) (turn_back a u j) uj in
    let behind : pos 0 <ℤ turn_of u c a = subst (λ (t : ℤ). pos 0 <ℤ t) (sym (turn_round a u c)) uc in
    let z = meets a j u c (not_zero (turn_of a j u) (turn_of a j c) jc) (signs_across (turn_of a j u) (turn_of a j c) right jc) (signs_apart (turn_of u c a) (turn_of u c j) behind beyond) in
    no_end_of_second a j u c z.0 z.1 (neither_zero (turn_of a j u) (turn_of a j c) right jc) (h.ends z.0 z.1.common).1

along_ray : (a j c u : Pt) → turn_of a u c *ℤ square_of a j -ℤ turn_of a u j *ℤ reach_of a j c ≡ turn_of a j c *ℤ reach_of a u j
unfolding turn_of reach_of
along_ray a j c u = by_ring (a.x ∷ a.y ∷ j.x ∷ j.y ∷ c.x ∷ c.y ∷ u.x ∷ u.y ∷ []) _ _ (search quoting depth 80 fits 1000000) (search quoting depth 80 fits 1000000) tt

apart_of_turn : (a u c : Pt) → pos 0 <ℤ turn_of a u c → ¬ (a ≡ c)
apart_of_turn a u c h e = let z : turn_of a u c ≡ pos 0 = ap (λ (k : Pt). turn_of a u k) (sym e) ∙ turn_at_first a u in omega (arith, ints)

-- c and j are on one ray from a
ray_bars : (a j c : Pt) (p q : ℤ) → ¬ (a ≡ j) → ¬ (a ≡ c) → turn_of a j c ≡ pos 0 → pos 0 <ℤ p → pos 0 <ℤ q → p *ℤ square_of a j ≡ q *ℤ reach_of a j c → ¬ MeetAtEnds a j a c
ray_bars a j c p q nj nc straight hp hq e =
    let long = square_of-pos a j nj in
    let forward : pos 0 <ℤ reach_of a j c = pos-of-mul q (reach_of a j c) hq (subst (λ (t : ℤ). pos 0 <ℤ t) e (mul-pos p (square_of a j) hp long)) in
    let l = laid a j a c nj nc (turn_at_first a j) straight (lt_of_zero (reach_of a j a) (reach_of a j c) (reach_none a j) forward) in
    overlap_not a j a c (overlap_inside a j a c l forward (lt_of_zero (reach_of a j a) (square_of a j) (reach_none a j) long))

no_product : (x y z w : ℤ) → x -ℤ y ≡ z *ℤ w → z ≡ pos 0 → x ≡ y
no_product x y z w e f = let t : z *ℤ w ≡ pos 0 = ap (λ (k : ℤ). k *ℤ w) f ∙ by_ring (w ∷ []) _ _ (search quoting depth 40 fits 100000) (search quoting depth 40 fits 100000) tt in omega (arith, ints)

-- both to the left of the way from a to u
left_ray_bars : (a j c u : Pt) → turn_of a j c ≡ pos 0 → pos 0 <ℤ turn_of a u c → pos 0 <ℤ turn_of a u j → ¬ MeetAtEnds a j a c
left_ray_bars a j c u straight hc hj =
    ray_bars a j c (turn_of a u c) (turn_of a u j) (apart_of_turn a u j hj) (apart_of_turn a u c hc) straight hc hj
    (no_product (turn_of a u c *ℤ square_of a j) (turn_of a u j *ℤ reach_of a j c) (turn_of a j c) (reach_of a u j) (along_ray a j c u) straight)

along_right_ray : (a j c u : Pt) → turn_of a c u *ℤ square_of a j -ℤ turn_of a j u *ℤ reach_of a j c ≡ turn_of a j c *ℤ neg_ℤ (reach_of a u j)
unfolding turn_of reach_of
along_right_ray a j c u = by_ring (a.x ∷ a.y ∷ j.x ∷ j.y ∷ c.x ∷ c.y ∷ u.x ∷ u.y ∷ []) _ _ (search quoting depth 80 fits 1000000) (search quoting depth 80 fits 1000000) tt

apart_of_first : (a c u : Pt) → pos 0 <ℤ turn_of a c u → ¬ (a ≡ c)
apart_of_first a c u h e = apart_of_turn a u a (absurd_side h e) refl
  where
    absurd_side : pos 0 <ℤ turn_of a c u → a ≡ c → pos 0 <ℤ turn_of a u a
    absurd_side h e = absurd (let z : turn_of a c u ≡ pos 0 = turn_back a u c ∙ ap (λ (k : Pt). neg_ℤ (turn_of a u k)) (sym e) ∙ ap neg_ℤ (turn_at_first a u) in omega (arith, ints))

right_ray_bars : (a j c u : Pt) → turn_of a j c ≡ pos 0 → pos 0 <ℤ turn_of a c u → pos 0 <ℤ turn_of a j u → ¬ MeetAtEnds a j a c
right_ray_bars a j c u straight hc hj =
    ray_bars a j c (turn_of a c u) (turn_of a j u) (apart_of_first a j u hj) (apart_of_first a c u hc) straight hc hj
    (no_product (turn_of a c u *ℤ square_of a j) (turn_of a j u *ℤ reach_of a j c) (turn_of a j c) (neg_ℤ (reach_of a u j)) (along_right_ray a j c u) straight)

-- ---- the neighbour nearest to a direction, among those on one side of it

in_at : (xs : List Segment) (x : Segment) → In x xs → (k : ℕ) × (k < length xs) × ((d : Segment) → get_or xs k d ≡ x)
in_at [] x i = absurd i
in_at (y ∷ ys) x (inl e) = (0, omega arith, λ d. e)
in_at (y ∷ ys) x (inr i) = let h = in_at ys x i in (suc h.0, (let lt = h.1 in omega arith), h.2)

at_in : (xs : List Segment) (k : ℕ) (d : Segment) → k < length xs → In (get_or xs k d) xs
at_in [] k d lt = absurd (omega arith)
at_in (x ∷ xs) zero d lt = inl refl
at_in (x ∷ xs) (suc k) d lt = inr (at_in xs k d (omega arith))

neighbour_in : (segs : List Segment) (a : ℕ) (s : Segment) → In s segs → has_end a s ≡ true → IsNeighbour segs a (other_end a s)
neighbour_in segs a s i end = let h = in_at segs s i in (h.0, h.1, (λ d. ap (has_end a) (h.2 d) ∙ end), (λ d. sym (ap (other_end a) (h.2 d))))

module _ (segs : List Segment) (a : ℕ) (S : ℕ → ℤ) (U : ℕ → ℕ → ℤ) (back : (x y : ℕ) → U y x ≡ neg_ℤ (U x y)) (fan : (x y z : ℕ) → S y *ℤ U x z ≡ S x *ℤ U y z +ℤ S z *ℤ U x y) where
  OnSide : Segment → Type 0
  OnSide s = (has_end a s ≡ true) × (pos 0 <ℤ S (other_end a s))

  NotAfter : Segment → Segment → Type 0
  NotAfter s t = U (other_end a s) (other_end a t) ≤ℤ pos 0

  decide_end : (b : Bool) → (b ≡ true) ⊎ ¬ (b ≡ true)
  decide_end true = inl refl
  decide_end false = inr (λ e. true≢false (sym e))

  decided : (s : Segment) → OnSide s ⊎ ¬ OnSide s
  unfolding OnSide
  decided s = elim (decide_end (has_end a s)) [
    | inl e ↦ elim (le_or_lt (S (other_end a s)) (pos 0)) [ inl h ↦ inr (λ k. let q = k.1 in omega (arith, ints)) | inr h ↦ inl (e, h) ]
    | inr n ↦ inr (λ k. n k.0)
  ]

  total : (s t : Segment) → OnSide s → OnSide t → NotAfter s t ⊎ NotAfter t s
  unfolding NotAfter
  total s t h k = elim (le_or_lt (U (other_end a s) (other_end a t)) (pos 0)) [
    | inl q ↦ inl q
    | inr q ↦ inr (let e = back (other_end a s) (other_end a t) in omega (arith, ints))
  ]

  trans : (s t v : Segment) → OnSide s → OnSide t → OnSide v → NotAfter s t → NotAfter t v → NotAfter s v
  unfolding NotAfter OnSide
  trans s t v hs ht hv p q =
      let x = other_end a s in let y = other_end a t in let z = other_end a v in
      nonpos-of-mul (S y) (U x z) ht.1 (sum (S x *ℤ U y z) (S z *ℤ U x y) (S y *ℤ U x z) (fan x y z) (mul-nonpos (S x) (U y z) (nonneg_of_pos (S x) hs.1) q) (mul-nonpos (S z) (U x y) (nonneg_of_pos (S z) hv.1) p))
    where
      sum : (p q r : ℤ) → r ≡ p +ℤ q → p ≤ℤ pos 0 → q ≤ℤ pos 0 → r ≤ℤ pos 0
      sum p q r e h k = omega (arith, ints)

  pub nearest : (w : ℕ) → IsNeighbour segs a w → pos 0 <ℤ S w → (u : ℕ) × IsNeighbour segs a u × (pos 0 <ℤ S u) × ((x : ℕ) → IsNeighbour segs a x → pos 0 <ℤ S x → U u x ≤ℤ pos 0)
  unfolding NotAfter OnSide
  nearest w neighbour side = elim (least_by OnSide NotAfter decided total trans segs) [
    | inl h ↦ (
      other_end a h.it,
      neighbour_in segs a h.it h.member h.has.0,
      h.has.1,
      λ x s k.
          subst (λ (y : ℕ). U (other_end a h.it) y ≤ℤ pos 0) (sym (s.3 any_segment)) (h.least (get_or segs s.0 any_segment) (at_in segs s.0 any_segment s.1) (s.2 any_segment, subst (λ (y : ℕ). pos 0 <ℤ S y) (s.3 any_segment) k)),
    )
    | inr none ↦ absurd (none (get_or segs neighbour.0 any_segment) (at_in segs neighbour.0 any_segment neighbour.1) (neighbour.2 any_segment, subst (λ (y : ℕ). pos 0 <ℤ S y) (neighbour.3 any_segment) side))
  ]

-- ---- a further segment from a to j, where a neighbour lies on its right or on its left

clash : {A : Type 0} (t : ℤ) → pos 0 <ℤ t → t ≤ℤ pos 0 → A
clash t h k = absurd (omega (arith, ints))

bar_right : (m : Map) (segs : List Segment) (a j w : ℕ) → j < length (points_of m) → ((v : ℕ) → IsNeighbour segs a v → HasFaceLeft m segs a v) → IsNeighbour segs a w → pos 0 <ℤ turn_between m a w j → IsCrossedBy m (edges_of segs) (edge a j)
bar_right m segs a j w jn left neighbour side =
    let at = place m in
    let near = nearest segs a (λ x. turn_between m a x j) (λ x y. turn_between m a x y) (λ x y. turn_back (at a) (at x) (at y)) (λ x y z. turn_fan (at a) (at x) (at y) (at z) (at j)) w neighbour side in
    let u = near.0 in
    elim (left u near.1) [
      | inr none ↦ clash (turn_between m a u j) near.2 (none j jn)
      | inl t ↦
          let c = t.0 in
          elim (sign_cases (turn_between m a c j)) [
            | inl before ↦
                let forth : pos 0 <ℤ turn_between m a j c = pos_where_negated (turn_between m a c j) (turn_between m a j c) (turn_back (at a) (at c) (at j)) before in
                elim (le_or_lt (turn_between m u c j) (pos 0)) [
                  | inl beyond ↦ bar_of_neighbour m segs u c (edge a j) t.2 (cross_bars (at a) (at j) (at u) (at c) t.3.turn near.2 forth beyond)
                  | inr inside ↦ absurd (t.3.empty j jn (near.2, inside, subst (λ (k : ℤ). pos 0 <ℤ k) (turn_round (at c) (at a) (at j)) forth))
                ]
            | inr (inl straight) ↦ bar_of_neighbour m segs a c (edge a j) t.1 (left_ray_bars (at a) (at j) (at c) (at u) (turn_back (at a) (at c) (at j) ∙ ap neg_ℤ straight) t.3.turn near.2)
            | inr (inr after) ↦ clash (turn_between m a u c) t.3.turn (near.3 c t.1 after)
          ]
    ]

bar_left : (m : Map) (segs : List Segment) (a j w : ℕ) → j < length (points_of m) → ((v : ℕ) → IsNeighbour segs a v → HasFaceLeft m segs a v) → ((v : ℕ) → IsNeighbour segs a v → HasFaceRight m segs a v) → IsNeighbour segs a w → pos 0 <ℤ turn_between m a j w → IsCrossedBy m (edges_of segs) (edge a j)
bar_left m segs a j w jn left right neighbour side =
    let at = place m in
    let near = nearest segs a (λ x. turn_between m a j x) (λ x y. turn_between m a y x) (λ x y. turn_back (at a) (at y) (at x)) (λ x y z. mirrored_fan (at a) (at x) (at y) (at z) (at j)) w neighbour side in
    let u = near.0 in
    elim (right u near.1) [
      | inr none ↦ clash (turn_between m u a j) (subst (λ (k : ℤ). pos 0 <ℤ k) (turn_round (at u) (at a) (at j)) near.2) (none j jn)
      | inl t ↦
          let x = t.0 in
          let after : pos 0 <ℤ turn_between m a x u = pos_where_negated (turn_between m a u x) (turn_between m a x u) (turn_back (at a) (at u) (at x)) t.2 in
          elim (sign_cases (turn_between m a x j)) [
            | inl before ↦ clash (turn_between m a x u) after (near.3 x t.1 (pos_where_negated (turn_between m a x j) (turn_between m a j x) (turn_back (at a) (at x) (at j)) before))
            | inr (inl straight) ↦ bar_of_neighbour m segs a x (edge a j) t.1 (right_ray_bars (at a) (at j) (at x) (at u) (turn_back (at a) (at x) (at j) ∙ ap neg_ℤ straight) after near.2)
            | inr (inr behind) ↦ bar_right m segs a j x jn left t.1 behind
          ]
    ]

-- ---- a closed point

both_straight : (a j u c : Pt) → ¬ (a ≡ j) → pos 0 <ℤ turn_of a u c → turn_of a u j ≡ pos 0 → turn_of a j c ≡ pos 0 → ⊥
both_straight a j u c differ turn hu hc =
    let e = no_product (turn_of a u c *ℤ square_of a j) (turn_of a u j *ℤ reach_of a j c) (turn_of a j c) (reach_of a u j) (along_ray a j c u) hc in
    let z : turn_of a u j *ℤ reach_of a j c ≡ pos 0 = zero_by_first (turn_of a u j) (reach_of a j c) hu in
    let p = mul-pos (turn_of a u c) (square_of a j) turn (square_of-pos a j differ) in
    omega (arith, ints)

pub shut_off : (p : PlanParts) → IsPlan p → (segs : List Segment) (a : ℕ) → a < length p.points → ((v : ℕ) → IsNeighbour segs a v → HasFaceLeft (map_of p) segs a v) → ((v : ℕ) → IsNeighbour segs a v → HasFaceRight (map_of p) segs a v) → ((v : ℕ) × IsNeighbour segs a v × HasTriangleLeft (map_of p) segs a v) → IsSaturated (map_of p) (edges_of segs) a
shut_off p is segs a an left right (v, neighbour, t) j jn differ =
    let m = map_of p in let at = place m in
    let apart : ¬ (at a ≡ at j) = places_differ p is a j an (subst (λ (n : ℕ). j < n) (count_of_plan p is) jn) differ in
    elim (sign_cases (turn_between m a v j)) [
      | inl h ↦ bar_left m segs a j v jn left right neighbour (pos_where_negated (turn_between m a v j) (turn_between m a j v) (turn_back (at a) (at v) (at j)) h)
      | inr (inr h) ↦ bar_right m segs a j v jn left neighbour h
      | inr (inl z) ↦ elim (sign_cases (turn_between m a j t.0)) [
        | inl h ↦ bar_right m segs a j t.0 jn left t.1 (pos_where_negated (turn_between m a j t.0) (turn_between m a t.0 j) (turn_back (at a) (at j) (at t.0)) h)
        | inr (inr h) ↦ bar_left m segs a j t.0 jn left right t.1 h
        | inr (inl y) ↦ absurd (both_straight (at a) (at j) (at v) (at t.0) apart t.3.turn z y)
      ]
    ]
