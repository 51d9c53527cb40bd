-- The list of the pairs of a round.
use Rattle.std.proofs.Math.Nat.{mul-le-mul}
use Rattle.std.proofs.Common.{◌≡◌, ℕ, zero, suc, ◌+◌, ◌-◌, ◌*◌, ◌<◌, ◌≤◌, ◌⊎◌, inl, inr, List, [], ◌∷◌, length, slice_get, Contains, Some, drop, ℤ, pos, ◌-ℤ◌, ◌≤ℤ◌, ◌<ℤ◌, nat_abs, refl, sym, ap, ◌∙◌, subst, arith}
use Rattle.std.proofs.lemmas.Int.{ints}
use Rattle.std.proofs.lemmas.Option.{same_Some}
use Rattle.std.proofs.lemmas.List.Elements.{Contains-push, Contains-push_cases, Contains-append_left}
use Rattle.sight_names.specs.declared.names.Pt.{Pt}
use Rattle.sight_names.specs.Map.{Map, map_of}
use Rattle.sight_names.specs.Plan.{PlanParts, IsPlan, IsBefore}
use Rattle.sight_names.specs.Points.{Edge, place}
use Rattle.sight_names.specs.Greedy.{edge_length, square_length}
use Rattle.sight_names.proofs.Lists.{contains_of_get, get_of_contains}
use Rattle.mesh_shape.proofs.Separate.{place_before}
use Rattle.triangulate.specs.declared.greedy_segments.rounds.PointPair.{PointPair}
use Rattle.triangulate.specs.GreedySegments.Pairs.{AreNumbers, HasEdgeOfPair, IsPairBetween, IsSquareBetween, AddsIfBetween, AddsPairs, ArePairsBetween, ArePairsFrom}
use Rattle.triangulate.proofs.GreedySegments.Crossed.{edge}
use Rattle.triangulate.proofs.GreedySegments.Measured.{pair_of}
use Rattle.math_base.proofs.Numbers.{below_same_or_above, below_or_last, below_or_not}
use Rattle.math_base.proofs.Lists.{contains_none}

-- the pairs with the first i of the later points are there
pub record AddsUpTo (m : Map) (from : ℕ) (later : List ℕ) (low high i : ℕ) (old new : List PointPair) : Type 0 where
  pub kept : (p : PointPair) → Contains old p → Contains new p
  pub each : (p : PointPair) → Contains new p → Contains old p ⊎ IsPairBetween m low high p
  pub all : (k to : ℕ) → k < i → slice_get later k ≡ Some to → IsSquareBetween low high (edge_length m (edge from to)) → HasEdgeOfPair new (edge from to)

pub adds_none : (m : Map) (from : ℕ) (later : List ℕ) (low high : ℕ) (old : List PointPair) → AddsUpTo m from later low high 0 old old
adds_none m from later low high old = record { kept = λ p c. c; each = λ p c. inl c; all = λ k to lt at b. absurd (omega arith) }

still_there : (e : Edge) (old new : List PointPair) → ((p : PointPair) → Contains old p → Contains new p) → HasEdgeOfPair old e → HasEdgeOfPair new e
still_there e old new kept h = (h.0, kept h.0 h.1, h.2)

pub adds_next : (p : PlanParts) → IsPlan p → (from to i low high square : ℕ) (later : List ℕ) (old mid new : List PointPair) → from < to → AreNumbers (length p.points) later → slice_get later i ≡ Some to
    → square ≡ square_length (place (map_of p) from) (place (map_of p) to) → AddsIfBetween low high (record { square = square; from = from; to = to }) mid new
    → AddsUpTo (map_of p) from later low high i old mid → AddsUpTo (map_of p) from later low high (i + 1) old new
adds_next p is from to i low high square later old mid new order are at measured (inl h) before = record {
  kept = λ q c. more q (before.kept q c);
  each = λ q c. elim (Contains-push_cases mid this q (subst (λ (qs : List PointPair). Contains qs q) h.1 c)) [ inl k ↦ before.each q k | inr k ↦ inr (subst (IsPairBetween (map_of p) low high) k made) ];
  all = λ k x lt at_k b. elim (below_or_last k i lt) [
    | inl less ↦ still_there (edge from x) mid new more (before.all k x less at_k b)
    | inr same ↦ (this, subst (λ (qs : List PointPair). Contains qs this) (sym h.1) (Contains-push mid this), ap (edge from) (same_Some to x (sym at ∙ ap (slice_get later) (sym same) ∙ at_k)))
  ];
}
  where
    this : PointPair
    this = record { square = square; from = from; to = to }

    more : (q : PointPair) → Contains mid q → Contains new q
    more q c = subst (λ (qs : List PointPair). Contains qs q) (sym h.1) (Contains-append_left mid (this ∷ []) q c)

    made : IsPairBetween (map_of p) low high this
    made = record { pair = pair_of p is (edge from to) order (are.within to (contains_of_get later to i at)); square = measured; between = h.0 }
adds_next p is from to i low high square later old mid new order are at measured (inr h) before = record {
  kept = λ q c. more q (before.kept q c);
  each = λ q c. before.each q (subst (λ (qs : List PointPair). Contains qs q) h.1 c);
  all = λ k x lt at_k b. elim (below_or_last k i lt) [
    | inl less ↦ still_there (edge from x) mid new more (before.all k x less at_k b)
    | inr same ↦ absurd (h.0 (subst (IsSquareBetween low high) (sym measured) (subst (λ (y : ℕ). IsSquareBetween low high (edge_length (map_of p) (edge from y))) (sym (same_Some to x (sym at ∙ ap (slice_get later) (sym same) ∙ at_k))) b)))
  ];
}
  where
    more : (q : PointPair) → Contains mid q → Contains new q
    more q c = subst (λ (qs : List PointPair). Contains qs q) (sym h.1) c

pub adds_all : (m : Map) (from : ℕ) (later : List ℕ) (low high i : ℕ) (old new : List PointPair) → length later ≤ i → AddsUpTo m from later low high i old new → AddsPairs m from later low high old new
adds_all m from later low high i old new le before = record {
  kept = before.kept;
  each = before.each;
  all = λ to c b. before.all c.0 to (let lt = c.1 in omega arith) (get_of_contains later to c.0 c.1 c.2) b;
}

-- ---- points that are too far by x

far_square : (high a b : ℕ) → high ≤ a → high * high ≤ a * a + b
far_square high a b h = let k : high * high ≤ a * a = mul-le-mul h h in omega arith

pub far_up : (p q : Pt) (high : ℕ) → high ≤ nat_abs (q.y -ℤ p.y) → high * high ≤ square_length p q
far_up p q high h = far_square_up high (nat_abs (q.x -ℤ p.x) * nat_abs (q.x -ℤ p.x)) (nat_abs (q.y -ℤ p.y)) h
  where
    far_square_up : (high a b : ℕ) → high ≤ b → high * high ≤ a + b * b
    far_square_up high a b h = let k : high * high ≤ b * b = mul-le-mul h h in omega arith

pub far_down : (p q : Pt) (high : ℕ) → high ≤ nat_abs (p.y -ℤ q.y) → high * high ≤ square_length p q
far_down p q high h = far_up p q high (swapped p.y q.y high h)
  where
    swapped : (a b : ℤ) (n : ℕ) → n ≤ nat_abs (a -ℤ b) → n ≤ nat_abs (b -ℤ a)
    swapped a b n h = omega (arith, ints)

far_apart : (p q : Pt) (high : ℕ) → pos high ≤ℤ (q.x -ℤ p.x) → high * high ≤ square_length p q
far_apart p q high h = far_square high (nat_abs (q.x -ℤ p.x)) (nat_abs (q.y -ℤ p.y) * nat_abs (q.y -ℤ p.y)) (wide (q.x -ℤ p.x) h)
  where
    wide : (a : ℤ) → pos high ≤ℤ a → high ≤ nat_abs a
    wide a h = omega (arith, ints)

not_before : (p q : Pt) → IsBefore p q → p.x ≤ℤ q.x
not_before p q h = go p.x q.x p.y q.y h
  where
    go : (a b c d : ℤ) → (a <ℤ b) ⊎ ((a ≡ b) × (c <ℤ d)) → a ≤ℤ b
    go a b c d (inl h) = omega (arith, ints)
    go a b c d (inr h) = let e = h.0 in omega (arith, ints)

far_on : (high : ℕ) (a b c : ℤ) → a ≤ℤ b → b ≤ℤ c → high ≤ nat_abs (b -ℤ a) → pos high ≤ℤ (c -ℤ a)
far_on high a b c h k far = omega (arith, ints)

-- those behind a point that is too far are too far
pub adds_rest : (p : PlanParts) → IsPlan p → (from to i low high : ℕ) (later : List ℕ) (old new : List PointPair) → from < to → AreNumbers (length p.points) later → slice_get later i ≡ Some to
    → high ≤ nat_abs ((place (map_of p) to).x -ℤ (place (map_of p) from).x) → AddsUpTo (map_of p) from later low high i old new → AddsPairs (map_of p) from later low high old new
adds_rest p is from to i low high later old new order are at far before = record {
  kept = before.kept;
  each = before.each;
  all = λ x c b. elim (below_or_not c.0 i) [
    | inl lt ↦ before.all c.0 x lt (get_of_contains later x c.0 c.1 c.2) b
    | inr le ↦ absurd (let h = far_apart (at_point from) (at_point x) high (further x (behind x c le)) in let s = b.1 in omega arith)
  ];
}
  where
    at_point : ℕ → Pt
    at_point k = place (map_of p) k

    split : (k i : ℕ) → i ≤ k → (i ≡ k) ⊎ (i < k)
    split k i h = grind arith

    behind : (x : ℕ) (c : Contains later x) → i ≤ c.0 → (at_point to).x ≤ℤ (at_point x).x
    behind x c le = elim (split c.0 i le) [
      | inl e ↦ same (same_Some to x (sym at ∙ ap (slice_get later) e ∙ get_of_contains later x c.0 c.1 c.2))
      | inr lt ↦ not_before (at_point to) (at_point x) (place_before p is to x (are.ascend i c.0 to x lt at (get_of_contains later x c.0 c.1 c.2)) (are.within x c))
    ]
      where
        same : to ≡ x → (at_point to).x ≤ℤ (at_point x).x
        same e = subst (λ (y : ℕ). (at_point to).x ≤ℤ (at_point y).x) e (omega (arith, ints))

    further : (x : ℕ) → (at_point to).x ≤ℤ (at_point x).x → pos high ≤ℤ ((at_point x).x -ℤ (at_point from).x)
    further x h = far_on high (at_point from).x (at_point to).x (at_point x).x (not_before (at_point from) (at_point to) (place_before p is from to order (are.within to (contains_of_get later to i at)))) h far

-- ---- the pairs of some points with those behind them

pub between_none : (m : Map) (numbers : List ℕ) (low high begin : ℕ) → ArePairsFrom m numbers low high begin begin []
between_none m numbers low high begin = record { each = λ p c. absurd (contains_none p c); all = λ k from to least lt at c order b. absurd (omega arith) }

slice_get-drop : {X : Type 0} (n : ℕ) (xs : List X) (k : ℕ) → slice_get (drop n xs) k ≡ slice_get xs (n + k)
slice_get-drop zero xs k = ap (slice_get xs) (omega arith)
slice_get-drop (suc n) [] k = refl
slice_get-drop (suc n) (x ∷ xs) k = slice_get-drop n xs k ∙ ap (slice_get (x ∷ xs)) (suc_add n k)
  where
    suc_add : (n k : ℕ) → suc (n + k) ≡ suc n + k
    suc_add n k = omega arith

-- an item behind the first n
pub item_behind : {X : Type 0} (n : ℕ) (xs : List X) (k : ℕ) (x : X) → slice_get (drop n xs) k ≡ Some x → slice_get xs (n + k) ≡ Some x
item_behind n xs k x e = sym (slice_get-drop n xs k) ∙ e

pub numbers_behind : (points n : ℕ) (numbers : List ℕ) → AreNumbers points numbers → AreNumbers points (drop n numbers)
numbers_behind points n numbers are = record {
  within = λ k c. are.within k (contains_of_get numbers k (n + c.0) (item_behind n numbers c.0 k (get_of_contains (drop n numbers) k c.0 c.1 c.2)));
  ascend = λ i j x y lt at_i at_j. are.ascend (n + i) (n + j) x y (omega arith) (item_behind n numbers i x at_i) (item_behind n numbers j y at_j);
}

pub greater_behind : (points i from : ℕ) (numbers : List ℕ) → AreNumbers points numbers → slice_get numbers i ≡ Some from → (k : ℕ) → Contains (drop (i + 1) numbers) k → from < k
greater_behind points i from numbers are at k c = are.ascend i (i + 1 + c.0) from k (omega arith) at (item_behind (i + 1) numbers c.0 k (get_of_contains (drop (i + 1) numbers) k c.0 c.1 c.2))

pub between_next : (m : Map) (points i from low high begin : ℕ) (numbers : List ℕ) (mid new : List PointPair) → AreNumbers points numbers → slice_get numbers i ≡ Some from → AddsPairs m from (drop (i + 1) numbers) low high mid new
    → ArePairsFrom m numbers low high begin i mid → ArePairsFrom m numbers low high begin (i + 1) new
between_next m points i from low high begin numbers mid new are at adds before = record {
  each = λ p c. elim (adds.each p c) [ inl h ↦ before.each p h | inr h ↦ h ];
  all = λ k x to least lt at_k c order b. elim (below_or_last k i lt) [
    | inl less ↦ still_there (edge x to) mid new adds.kept (before.all k x to least less at_k c order b)
    | inr same ↦ let e = same_Some from x (sym at ∙ ap (slice_get numbers) (sym same) ∙ at_k) in
        subst (λ (y : ℕ). HasEdgeOfPair new (edge y to)) e (adds.all to (later to c (subst (λ (y : ℕ). y < to) (sym e) order)) (subst (λ (y : ℕ). IsSquareBetween low high (edge_length m (edge y to))) (sym e) b))
  ];
}
  where
    -- a greater number stands behind
    later : (to : ℕ) → Contains numbers to → from < to → Contains (drop (i + 1) numbers) to
    later to c order = elim (below_same_or_above c.0 i) [
      | inl lt ↦ absurd (let h = are.ascend c.0 i to from lt (get_of_contains numbers to c.0 c.1 c.2) at in omega arith)
      | inr (inl e) ↦ absurd (let h = same_Some from to (sym at ∙ ap (slice_get numbers) (sym e) ∙ get_of_contains numbers to c.0 c.1 c.2) in omega arith)
      | inr (inr lt) ↦ contains_of_get (drop (i + 1) numbers) to (c.0 - (i + 1)) (slice_get-drop (i + 1) numbers (c.0 - (i + 1)) ∙ ap (slice_get numbers) (omega arith) ∙ get_of_contains numbers to c.0 c.1 c.2)
    ]

-- those before an end that has been passed
pub between_end : (m : Map) (numbers : List ℕ) (low high begin end i : ℕ) (pairs : List PointPair) → end ≤ i → ArePairsFrom m numbers low high begin i pairs → ArePairsFrom m numbers low high begin end pairs
between_end m numbers low high begin end i pairs le before = record { each = before.each; all = λ k from to least lt at c order b. before.all k from to least (omega (arith, le, lt)) at c order b }

-- those of all points
pub between_all : (m : Map) (numbers : List ℕ) (low high end : ℕ) (pairs : List PointPair) → length numbers ≤ end → ArePairsFrom m numbers low high 0 end pairs → ArePairsBetween m numbers low high pairs
between_all m numbers low high end pairs le before = record {
  each = before.each;
  all = λ e a c order b. before.all a.0 e.from e.to (omega arith) (let lt = a.1 in omega arith) (get_of_contains numbers e.from a.0 a.1 a.2) c order b;
}
