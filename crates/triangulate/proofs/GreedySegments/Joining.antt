-- What comes of the parts of a round, put together in their order.
use Rattle.std.proofs.Common.{◌≡◌, ℕ, zero, suc, ◌+◌, ◌*◌, ◌/◌, ◌<◌, ◌≤◌, ◌⊎◌, inl, inr, List, [], ◌∷◌, ◌++◌, length, slice_get, take, drop, get_or, Contains, Some, refl, sym, ap, ap₂, ◌∙◌, subst, arith, add-one}
use Rattle.std.specs.Prelude.{flat_map}
use Rattle.std.proofs.Math.Seq.{take-suc}
use Rattle.std.proofs.lemmas.List.Concat.{flat_map-append}
use Rattle.std.proofs.lemmas.List.{drop-drop, length-drop, take-append-drop}
use Rattle.std.proofs.lemmas.List.Elements.{Contains-push, Contains-push_cases, Contains-append_left, Contains-append_right, Contains-append_cases}
use Rattle.std.proofs.lemmas.Option.{slice_get_within, none-some, same_Some}
use Rattle.sight_names.specs.Map.{Map}
use Rattle.sight_names.specs.Points.{Edge}
use Rattle.sight_names.specs.Greedy.{edge_length}
use Rattle.sight_names.proofs.Lists.{contains_of_get, get_of_contains}
use Rattle.math_base.proofs.Lists.{contains_none}
use Rattle.task_crew.specs.Done.{AreTasksDone}
use Rattle.triangulate.specs.declared.greedy_segments.rounds.PointPair.{PointPair}
use Rattle.triangulate.specs.declared.greedy_segments.parts.TheConstants.{PART}
use Rattle.triangulate.specs.GreedySegments.Pairs.{AreNumbers, ArePairsBetween, ArePairsFrom, HasEdgeOfPair, IsSquareBetween, pair_edge}
use Rattle.triangulate.specs.GreedySegments.Rounds.{AddsIfUncrossed, AreUncrossed, AreUncrossedFrom, AreUnsaturated, LeavesUncrossed}
use Rattle.triangulate.specs.IncidentSegments.Kept.{IsCrossedBy}
use Rattle.triangulate.proofs.GreedySegments.Crossed.{edge}
use Rattle.triangulate.proofs.GreedySegments.Listed.{numbers_behind}

-- ---- points

-- an item of two lists, one behind the other
at_either : {X : Type 0} (xs ys : List X) (i : ℕ) (x : X) → slice_get (xs ++ ys) i ≡ Some x → ((i < length xs) × (slice_get xs i ≡ Some x)) ⊎ ((j : ℕ) × (i ≡ length xs + j) × (slice_get ys j ≡ Some x))
at_either [] ys i x at = inr (i, omega arith, at)
at_either (y ∷ xs) ys zero x at = inl (omega arith, at)
at_either (y ∷ xs) ys (suc i) x at = elim (at_either xs ys i x at) [
  | inl h ↦ inl ((let l = h.0 in omega (arith, l)), h.1)
  | inr h ↦ inr (h.0, (let e = h.1 in omega (arith, e)), h.2)
]

at_front : {X : Type 0} (xs ys : List X) (i : ℕ) (x : X) → slice_get xs i ≡ Some x → slice_get (xs ++ ys) i ≡ Some x
at_front [] ys i x at = absurd (none-some x at)
at_front (y ∷ xs) ys zero x at = at
at_front (y ∷ xs) ys (suc i) x at = at_front xs ys i x at

numbers_in_front : (points : ℕ) (ks ls : List ℕ) → AreNumbers points (ks ++ ls) → AreNumbers points ks
numbers_in_front points ks ls are = record {
  within = λ k c. are.within k (Contains-append_left ks ls k c);
  ascend = λ i j x y lt at_i at_j. are.ascend i j x y lt (at_front ks ls i x at_i) (at_front ks ls j y at_j);
}

-- some of the numbers
pub numbers_part : (points at n : ℕ) (numbers : List ℕ) → AreNumbers points numbers → AreNumbers points (take n (drop at numbers))
numbers_part points at n numbers are = numbers_in_front points (take n (drop at numbers)) (drop n (drop at numbers)) (subst (AreNumbers points) (sym (take-append-drop n (drop at numbers))) (numbers_behind points at numbers are))

before_all : (points : ℕ) (ks ls : List ℕ) → AreNumbers points (ks ++ ls) → (k l : ℕ) → Contains ks k → Contains ls l → k < l
before_all points ks ls are k l c d = are.ascend c.0 (length ks + d.0) k l (let lt = c.1 in omega (arith, lt)) (at_front ks ls c.0 k (get_of_contains ks k c.0 c.1 c.2)) (second ks d.0 (get_of_contains ls l d.0 d.1 d.2))
  where
    second : (xs : List ℕ) (i : ℕ) → slice_get ls i ≡ Some l → slice_get (xs ++ ls) (length xs + i) ≡ Some l
    second [] i at = ap (slice_get ls) (omega arith) ∙ at
    second (x ∷ xs) i at = ap (slice_get (x ∷ xs ++ ls)) (suc_add (length xs) i) ∙ second xs i at
      where
        suc_add : (n k : ℕ) → suc n + k ≡ suc (n + k)
        suc_add n k = omega arith

pub none_left : (m : Map) (kept : List Edge) (points : ℕ) → AreUnsaturated m kept points [] []
none_left m kept points = record {
  ordered = record { within = λ k c. absurd (contains_none k c); ascend = λ i j x y lt at_i at_j. absurd (none-some x at_i) };
  among = λ k c. c;
  closed = λ k c. absurd (contains_none k c);
}

left_after : (m : Map) (kept : List Edge) (points : ℕ) (ks ls xs ys : List ℕ) → AreNumbers points (ks ++ ls) → AreUnsaturated m kept points ks xs → AreUnsaturated m kept points ls ys → AreUnsaturated m kept points (ks ++ ls) (xs ++ ys)
left_after m kept points ks ls xs ys are a b = record {
  ordered = record {
    within = λ k c. elim (Contains-append_cases xs ys k c) [ inl h ↦ a.ordered.within k h | inr h ↦ b.ordered.within k h ];
    ascend = λ i j x y lt at_i at_j. elim (at_either xs ys i x at_i) [
      | inl h ↦ elim (at_either xs ys j y at_j) [
        | inl k ↦ a.ordered.ascend i j x y lt h.1 k.1
        | inr k ↦ before_all points ks ls are x y (a.among x (contains_of_get xs x i h.1)) (b.among y (contains_of_get ys y k.0 k.2))
      ]
      | inr h ↦ elim (at_either xs ys j y at_j) [
        | inl k ↦ absurd (let e = h.1 in let l = k.0 in omega (arith, lt, e, l))
        | inr k ↦ b.ordered.ascend h.0 k.0 x y (let e = h.1 in let f = k.1 in omega (arith, lt, e, f)) h.2 k.2
      ]
    ];
  };
  among = λ k c. elim (Contains-append_cases xs ys k c) [ inl h ↦ Contains-append_left ks ls k (a.among k h) | inr h ↦ Contains-append_right ks ls k (b.among k h) ];
  closed = λ k c. elim (Contains-append_cases ks ls k c) [
    | inl h ↦ elim (a.closed k h) [ inl d ↦ inl (Contains-append_left xs ys k d) | inr s ↦ inr s ]
    | inr h ↦ elim (b.closed k h) [ inl d ↦ inl (Contains-append_right xs ys k d) | inr s ↦ inr s ]
  ];
}

module _ {X : Type 0} (items : X → List ℕ) (m : Map) (kept : List Edge) (points : ℕ) where
  abbrev pub IsPart : List ℕ → ℕ → X → Type 0
  IsPart numbers i x = AreUnsaturated m kept points (take PART (drop (i * PART) numbers)) (items x)

  pub points_joined : (n : ℕ) (numbers : List ℕ) (parts : List X) → length numbers ≤ n * PART → AreNumbers points numbers → AreTasksDone (IsPart numbers) n parts → AreUnsaturated m kept points numbers (flat_map items parts)
  points_joined zero [] [] few are done = none_left m kept points
  points_joined zero (k ∷ numbers) parts few are done = absurd (omega (arith, few))
  points_joined zero [] (x ∷ parts) few are done = absurd (let e = done.len in omega (arith, e))
  points_joined (suc n) numbers [] few are done = absurd (let e = done.len in omega (arith, e))
  points_joined (suc n) numbers (x ∷ parts) few are done =
      subst (λ (ks : List ℕ). AreUnsaturated m kept points ks (items x ++ flat_map items parts)) (take-append-drop PART numbers)
      (left_after m kept points (take PART numbers) (drop PART numbers) (items x) (flat_map items parts) (subst (AreNumbers points) (sym (take-append-drop PART numbers)) are)
      (done.each 0 x refl)
      (points_joined n (drop PART numbers) parts fewer (numbers_behind points PART numbers are) (record { len = (let e = done.len in omega (arith, e)); each = next })))
    where
      fewer : length (drop PART numbers) ≤ n * PART
      fewer = let l = length-drop PART numbers in omega (arith, l, few)

      behind : (i : ℕ) → suc i * PART ≡ PART + i * PART
      behind i = omega arith

      next : (i : ℕ) (y : X) → slice_get parts i ≡ Some y → IsPart (drop PART numbers) i y
      next i y at = subst (λ (ks : List ℕ). AreUnsaturated m kept points (take PART ks) (items y)) (sym (drop-drop (i * PART) PART numbers)) (subst (λ (k : ℕ). AreUnsaturated m kept points (take PART (drop k numbers)) (items y)) (behind i) (done.each (suc i) y at))

-- ---- pairs

-- what stands in one of the lists stands in all of them together
in_joined : {X Y : Type 0} (items : X → List Y) (xs : List X) (i : ℕ) (x : X) (y : Y) → slice_get xs i ≡ Some x → Contains (items x) y → Contains (flat_map items xs) y
in_joined items [] i x y at c = absurd (none-some x at)
in_joined {X} {Y} items (z ∷ xs) zero x y at c = Contains-append_left (items z) (flat_map items xs) y (subst (λ (w : X). Contains (items w) y) (sym (same_Some z x at)) c)
in_joined items (z ∷ xs) (suc i) x y at c = Contains-append_right (items z) (flat_map items xs) y (in_joined items xs i x y at c)

-- what stands in all of them together stands in one
in_one : {X Y : Type 0} (items : X → List Y) (xs : List X) (y : Y) → Contains (flat_map items xs) y → (i : ℕ) × (x : X) × (slice_get xs i ≡ Some x) × Contains (items x) y
in_one items [] y c = absurd (contains_none y c)
in_one items (z ∷ xs) y c = elim (Contains-append_cases (items z) (flat_map items xs) y c) [
  | inl h ↦ (zero, z, refl, h)
  | inr h ↦ let r = in_one items xs y h in (suc r.0, r.1, r.2, r.3)
]

found : {X : Type 0} (xs : List X) (i : ℕ) → i < length xs → (x : X) × (slice_get xs i ≡ Some x)
found [] i lt = absurd (omega (arith, lt))
found (x ∷ xs) zero lt = (x, refl)
found (x ∷ xs) (suc i) lt = found xs i (omega (arith, lt))

module _ {X : Type 0} (items : X → List PointPair) (m : Map) (kept : List Edge) (numbers : List ℕ) (low high : ℕ) where
  abbrev pub IsPairPart : ℕ → X → Type 0
  IsPairPart i x = AreUncrossedFrom m kept numbers low high (i * PART) (i * PART + PART) (items x)

  pub pairs_joined : (n : ℕ) (parts : List X) → length numbers ≤ n * PART → AreTasksDone IsPairPart n parts → AreUncrossed m kept numbers low high (flat_map items parts)
  pairs_joined n parts few done = record {
    each = λ p c. let r = in_one items parts p c in (done.each r.0 r.1 r.2).each p r.3;
    all = λ e from to order between. of_part e (from.0 / PART) from.0 (get_of_contains numbers e.from from.0 from.1 from.2) (omega arith) (omega arith) (let lt = from.1 in omega (arith, lt)) to order between;
  }
    where
      of_part : (e : Edge) (i k : ℕ) → slice_get numbers k ≡ Some e.from → i * PART ≤ k → k < i * PART + PART → k < length numbers → Contains numbers e.to → e.from < e.to → IsSquareBetween low high (edge_length m e) → HasEdgeOfPair (flat_map items parts) e ⊎ IsCrossedBy m kept e
      of_part e i k at least most within to order between =
          let there : i < length parts = (let l = done.len in omega (arith, l, few, least, within)) in
          let here = found parts i there in
          elim ((done.each i here.0 here.1).all k e.from e.to least most at to order between) [
            | inl h ↦ inl (h.0, in_joined items parts i here.0 h.0 here.1 h.1, h.2)
            | inr h ↦ inr h
          ]

-- all pairs are those that aren't crossed, and some that are
pub all_uncrossed : (m : Map) (kept : List Edge) (numbers : List ℕ) (low high : ℕ) (pairs : List PointPair) → ArePairsBetween m numbers low high pairs → AreUncrossed m kept numbers low high pairs
all_uncrossed m kept numbers low high pairs b = record { each = b.each; all = λ e from to order between. inl (b.all e from to order between) }

-- a part's pairs without some that are crossed
pub uncrossed_from : (m : Map) (kept : List Edge) (numbers : List ℕ) (low high begin end last : ℕ) (pairs left : List PointPair) → ((k : ℕ) → k < last → k < length numbers → k < end)
    → ArePairsFrom m numbers low high begin end pairs → LeavesUncrossed m kept pairs left → AreUncrossedFrom m kept numbers low high begin last left
uncrossed_from m kept numbers low high begin end last pairs left within b l = record {
  each = λ p c. b.each p (l.among p c);
  all = λ k from to least lt at c order between. of_pair k from to (b.all k from to least (within k lt (slice_get_within numbers k from at)) at c order between);
}
  where
    of_pair : (k from to : ℕ) → HasEdgeOfPair pairs (edge from to) → HasEdgeOfPair left (edge from to) ⊎ IsCrossedBy m kept (edge from to)
    of_pair k from to h = elim (l.others h.0 h.1) [ inl c ↦ inl (h.0, c, h.2) | inr bar ↦ inr (subst (IsCrossedBy m kept) h.2 bar) ]

-- ---- lists and pairs one by one

append_none : {X : Type 0} (xs : List X) → xs ++ [] ≡ xs
append_none [] = refl
append_none {X} (x ∷ xs) = ap (λ (ys : List X). x ∷ ys) (append_none xs)

pub joined_more : {X Y : Type 0} (items : X → List Y) (xs : List X) (i : ℕ) (d : X) (old new : List Y) → i < length xs → old ≡ flat_map items (take i xs) → new ≡ old ++ items (get_or xs i d) → new ≡ flat_map items (take (i + 1) xs)
joined_more {X} {Y} items xs i d old new lt before more =
    more ∙ ap₂ (λ (a b : List Y). a ++ b) before (sym (append_none (items (get_or xs i d)))) ∙ sym (flat_map-append items (take i xs) (get_or xs i d ∷ []))
    ∙ ap (flat_map items) (sym (take-suc xs i d lt)) ∙ ap (λ (n : ℕ). flat_map items (take n xs)) (sym (add-one i))

pub uncrossed_none : (m : Map) (kept : List Edge) → LeavesUncrossed m kept [] []
uncrossed_none m kept = record { among = λ p c. c; others = λ p c. absurd (contains_none p c) }

uncrossed_push : (m : Map) (kept : List Edge) (pairs old new : List PointPair) (p : PointPair) → AddsIfUncrossed m kept p old new → LeavesUncrossed m kept pairs old → LeavesUncrossed m kept (pairs ++ p ∷ []) new
uncrossed_push m kept pairs old new p (inl e) l = record {
  among = λ q c. elim (Contains-push_cases old p q (subst (λ (ps : List PointPair). Contains ps q) e c)) [
    | inl h ↦ Contains-append_left pairs (p ∷ []) q (l.among q h)
    | inr h ↦ subst (Contains (pairs ++ p ∷ [])) h (Contains-push pairs p)
  ];
  others = λ q c. elim (Contains-push_cases pairs p q c) [
    | inl h ↦ elim (l.others q h) [ inl d ↦ inl (subst (λ (ps : List PointPair). Contains ps q) (sym e) (Contains-append_left old (p ∷ []) q d)) | inr bar ↦ inr bar ]
    | inr h ↦ inl (subst (λ (ps : List PointPair). Contains ps q) (sym e) (subst (Contains (old ++ p ∷ [])) h (Contains-push old p)))
  ];
}
uncrossed_push m kept pairs old new p (inr e) l = record {
  among = λ q c. Contains-append_left pairs (p ∷ []) q (l.among q (subst (λ (ps : List PointPair). Contains ps q) e.0 c));
  others = λ q c. elim (Contains-push_cases pairs p q c) [
    | inl h ↦ elim (l.others q h) [ inl d ↦ inl (subst (λ (ps : List PointPair). Contains ps q) (sym e.0) d) | inr bar ↦ inr bar ]
    | inr h ↦ inr (subst (λ (r : PointPair). IsCrossedBy m kept (pair_edge r)) h e.1)
  ];
}

pub uncrossed_more : (m : Map) (kept : List Edge) (pairs : List PointPair) (i : ℕ) (d : PointPair) (old new : List PointPair) → i < length pairs → AddsIfUncrossed m kept (get_or pairs i d) old new → LeavesUncrossed m kept (take i pairs) old → LeavesUncrossed m kept (take (i + 1) pairs) new
uncrossed_more m kept pairs i d old new lt adds before =
    subst (λ (ps : List PointPair). LeavesUncrossed m kept ps new) (sym (take-suc pairs i d lt) ∙ ap (λ (n : ℕ). take n pairs) (sym (add-one i)))
    (uncrossed_push m kept (take i pairs) old new (get_or pairs i d) adds before)
