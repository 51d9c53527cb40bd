-- Greedy so far: what trying one more pair, and a whole round of pairs, adds.
use Rattle.std.proofs.Common.{◌≡◌, ◌≢◌, ℕ, ◌+◌, ◌*◌, ◌<◌, ◌≤◌, ◌⊎◌, inl, inr, List, [], ◌∷◌, ◌++◌, length, slice_get, Contains, Some, refl, sym, ap, ◌∙◌, subst, arith, IsPermutation}
use Rattle.std.proofs.lemmas.Bool.{cases_lt}
use Rattle.std.proofs.lemmas.List.{append_assoc}
use Rattle.std.proofs.lemmas.List.Elements.{Contains-push, Contains-push_cases, Contains-append_left, Contains-append_right, Contains-append_cases}
use Rattle.std.proofs.lemmas.List.Sorted.{Contains-permutation, IsPermutation-sym}
use Rattle.std.proofs.lemmas.Option.{same_Some, none-some, slice_get_within}
use Rattle.sight_names.specs.Map.{Map}
use Rattle.sight_names.specs.Point.{point_of}
use Rattle.sight_names.specs.Points.{Edge, place, points_of}
use Rattle.sight_names.specs.Greedy.{edge_length, ComesBefore, IsPointPair, EdgesMeetAtEnds, line_edges, IsGreedy}
use Rattle.sight_names.proofs.Laws.{start_on, on_segment_sym}
use Rattle.sight_names.proofs.Lists.{contains_of_get, get_of_contains}
use Rattle.sight_names.proofs.Meets.{flip_first}
use Rattle.triangulate.specs.declared.greedy_segments.rounds.PointPair.{PointPair}
use Rattle.triangulate.specs.IncidentSegments.Kept.{MeetsEach, IsCrossedBy}
use Rattle.triangulate.specs.GreedySegments.Pairs.{pair_edge, HasEdgeOfPair, IsPairBetween, ArePointPairsInOrder, IsPointPairNotAfter}
use Rattle.triangulate.specs.GreedySegments.Rounds.{AreUncrossed, IsLineOrBefore, IsGreedySoFar, IsShorter, IsSaturated, KeepsIfClear, KeepsClear}
use Rattle.triangulate.proofs.GreedySegments.Crossed.{same_edge}
use Rattle.math_base.proofs.Numbers.{below_or_last}
use Rattle.math_base.proofs.Lists.{pushed_at, contains_none}
use Rattle.math_base.proofs.Small.{same_without_one}
use Rattle.sight_names.proofs.OneGreedy.{before_asymmetric, before_irreflexive}
use Rattle.sight_names.proofs.Records.{same_pt}

-- ---- a segment and itself

pub bars_itself : (m : Map) (e : Edge) → place m e.from ≢ place m e.to → ¬ EdgesMeetAtEnds m e e
bars_itself m e differ h =
    let p = place m e.from in let q = place m e.to in
    let a = start_on (point_of p) (point_of q) in
    let b = on_segment_sym (point_of q) (point_of p) (point_of q) (start_on (point_of q) (point_of p)) in
    let s = h.one (point_of p) (point_of q) (a, a) (b, b) in
    differ (same_pt p q (same_without_one p.x q.x s.x) (same_without_one p.y q.y s.y))

-- ---- the order of pairs

-- ---- lists

-- ---- one more pair

-- all that was tried comes before e, or is e
abbrev pub ComesLast : Map → (Edge → Type 0) → Edge → Type 0
ComesLast m IsTried e = (f : Edge) → IsTried f → ComesBefore m f e ⊎ (f ≡ e)

module _ (m : Map) (T : Edge → Type 0) (kept : List Edge) (e : Edge) (s : IsGreedySoFar m T kept) (pair : IsPointPair m e) (last : ComesLast m T e) where
  abbrev More : Edge → Type 0
  More f = T f ⊎ (f ≡ e)

  -- what came earlier still does
  kept_earlier : (f g : Edge) → IsLineOrBefore m s.rest f g → IsLineOrBefore m (s.rest ++ e ∷ []) f g
  kept_earlier f g h = elim h [ inl l ↦ inl l | inr r ↦ inr (Contains-append_left s.rest (e ∷ []) g r.0, r.1) ]

  pub keep_one : ¬ EdgesMeetAtEnds m e e → MeetsEach m kept e → IsGreedySoFar m More (kept ++ e ∷ [])
  keep_one bar meets = record {
    rest = s.rest ++ e ∷ [];
    lines_first = ap (λ (es : List Edge). es ++ e ∷ []) s.lines_first ∙ append_assoc (line_edges m) s.rest (e ∷ []);
    pairs = λ f c. elim (Contains-push_cases s.rest e f c) [ inl h ↦ s.pairs f h | inr h ↦ subst (IsPointPair m) h pair ];
    tried = λ f c. elim (Contains-push_cases s.rest e f c) [ inl h ↦ inl (s.tried f h) | inr h ↦ inr (sym h) ];
    ascend = λ i j f g lt at_i at_j. elim (pushed_at s.rest e g j at_j) [
      | inl h ↦ elim (pushed_at s.rest e f i at_i) [ inl k ↦ s.ascend i j f g lt k h | inr k ↦ absurd (let w = slice_get_within s.rest j g h in let q = k.0 in omega arith) ]
      | inr h ↦ elim (pushed_at s.rest e f i at_i) [ inl k ↦ subst (ComesBefore m f) h.1 (before_new f (contains_of_get s.rest f i k)) | inr k ↦ absurd (let p = h.0 in let q = k.0 in omega arith) ]
    ];
    free = λ f c g early. elim (Contains-push_cases s.rest e f c) [
      | inl h ↦ elim early [
        | inl l ↦ s.free f h g (inl l)
        | inr r ↦ elim (Contains-push_cases s.rest e g r.0) [ inl k ↦ s.free f h g (inr (k, r.1)) | inr k ↦ absurd (before_asymmetric m e f (subst (λ (x : Edge). ComesBefore m x f) (sym k) r.1) (before_new f h)) ]
      ]
      | inr h ↦ subst (λ (x : Edge). EdgesMeetAtEnds m x g) h (elim early [
        | inl l ↦ meets g (in_kept g (inl l))
        | inr r ↦ elim (Contains-push_cases s.rest e g r.0) [ inl k ↦ meets g (in_kept g (inr k)) | inr k ↦ absurd (before_irreflexive m e (subst (λ (x : Edge). ComesBefore m x e) (sym k) (subst (ComesBefore m g) (sym h) r.1))) ]
      ])
    ];
    settled = λ f p t. elim t [
      | inl h ↦ elim (s.settled f p h) [ inl c ↦ inl (Contains-append_left s.rest (e ∷ []) f c) | inr w ↦ inr (w.0, kept_earlier f w.0 w.1, w.2) ]
      | inr h ↦ inl (subst (Contains (s.rest ++ e ∷ [])) (sym h) (Contains-push s.rest e))
    ];
  }
    where
      in_kept : (f : Edge) → Contains (line_edges m) f ⊎ Contains s.rest f → Contains kept f
      in_kept f h = subst (λ (es : List Edge). Contains es f) (sym s.lines_first) (elim h [ inl l ↦ Contains-append_left (line_edges m) s.rest f l | inr r ↦ Contains-append_right (line_edges m) s.rest f r ])

      before_new : (f : Edge) → Contains s.rest f → ComesBefore m f e
      before_new f c = elim (last f (s.tried f c)) [ inl h ↦ h | inr h ↦ absurd (bar (meets e (in_kept e (inr (subst (Contains s.rest) h c))))) ]

  pub drop_one : IsCrossedBy m kept e → IsGreedySoFar m More kept
  drop_one bar = record {
    rest = s.rest;
    lines_first = s.lines_first;
    pairs = s.pairs;
    tried = λ f c. inl (s.tried f c);
    ascend = s.ascend;
    free = s.free;
    settled = λ f p t. elim t [
      | inl h ↦ s.settled f p h
      | inr h ↦ subst (λ (x : Edge). Contains s.rest x ⊎ ((g : Edge) × IsLineOrBefore m s.rest x g × ¬ EdgesMeetAtEnds m x g)) (sym h) settled_new
    ];
  }
    where
      settled_new : Contains s.rest e ⊎ ((g : Edge) × IsLineOrBefore m s.rest e g × ¬ EdgesMeetAtEnds m e g)
      settled_new = elim (Contains-append_cases (line_edges m) s.rest bar.0 (subst (λ (es : List Edge). Contains es bar.0) s.lines_first bar.1)) [
        | inl l ↦ inr (bar.0, inl l, bar.2)
        | inr r ↦ elim (last bar.0 (s.tried bar.0 r)) [ inl h ↦ inr (bar.0, inr (r, h), bar.2) | inr h ↦ inl (subst (Contains s.rest) h r) ]
      ]

  pub try_one : (new : List Edge) → ¬ EdgesMeetAtEnds m e e → KeepsIfClear m e kept new → IsGreedySoFar m More new
  try_one new bar (inl h) = subst (IsGreedySoFar m More) (sym h.1) (keep_one bar h.0)
  try_one new bar (inr h) = subst (IsGreedySoFar m More) (sym h.1) (drop_one h.0)

-- ---- other words for what was tried

-- a line, or an edge before e, is kept and shares more with e
abbrev pub HasEarlyBar : Map → List Edge → Edge → Type 0
HasEarlyBar m kept e = (f : Edge) × Contains kept f × (Contains (line_edges m) f ⊎ ComesBefore m f e) × ¬ EdgesMeetAtEnds m e f

pub widen : (m : Map) (T U : Edge → Type 0) (kept : List Edge) → IsGreedySoFar m T kept → ((e : Edge) → T e → U e) → ((e : Edge) → IsPointPair m e → U e → T e ⊎ HasEarlyBar m kept e) → IsGreedySoFar m U kept
widen m T U kept s up down = record {
  rest = s.rest;
  lines_first = s.lines_first;
  pairs = s.pairs;
  tried = λ e c. up e (s.tried e c);
  ascend = s.ascend;
  free = s.free;
  settled = λ e p u. elim (down e p u) [ inl t ↦ s.settled e p t | inr h ↦ inr (h.0, early e h, h.3) ];
}
  where
    early : (e : Edge) (h : HasEarlyBar m kept e) → IsLineOrBefore m s.rest e h.0
    early e h = elim (Contains-append_cases (line_edges m) s.rest h.0 (subst (λ (es : List Edge). Contains es h.0) s.lines_first h.1)) [
      | inl l ↦ inl l
      | inr r ↦ elim h.2 [ inl l ↦ inl l | inr b ↦ inr (r, b) ]
    ]

-- all pairs have been tried
pub greedy_at_last : (m : Map) (T : Edge → Type 0) (kept : List Edge) → IsGreedySoFar m T kept → ((e : Edge) → IsPointPair m e → T e) → IsGreedy m kept
greedy_at_last m T kept s all = record {
  rest = s.rest;
  lines_first = s.lines_first;
  pairs = s.pairs;
  ascend = s.ascend;
  exactly = λ e p. ((λ c f early. s.free e c f early), (λ meets. elim (s.settled e p (all e p)) [ inl c ↦ c | inr h ↦ absurd (h.2 (meets h.0 h.1)) ]));
}

-- the lines alone
pub greedy_at_first : (m : Map) (T : Edge → Type 0) → ((e : Edge) → ¬ T e) → IsGreedySoFar m T (line_edges m)
greedy_at_first m T none = record {
  rest = [];
  lines_first = sym (append_nil (line_edges m));
  pairs = λ e c. absurd (contains_none e c);
  tried = λ e c. absurd (contains_none e c);
  ascend = λ i j e f lt at_i at_j. absurd (none-some e at_i);
  free = λ e c. absurd (contains_none e c);
  settled = λ e p t. absurd (none e t);
}
  where
    append_nil : (xs : List Edge) → xs ++ [] ≡ xs
    append_nil [] = refl
    append_nil (x ∷ xs) = ap (λ (ys : List Edge). x ∷ ys) (append_nil xs)

-- ---- the pairs of a round, one by one

-- one of the first i pairs is the edge
abbrev pub HasPairBefore : List PointPair → ℕ → Edge → Type 0
HasPairBefore pairs i e = (k : ℕ) × (k < i) × (p : PointPair) × (slice_get pairs k ≡ Some p) × (pair_edge p ≡ e)

abbrev pub AreAllBetween : Map → ℕ → List PointPair → Type 0
AreAllBetween m low pairs = (p : PointPair) → Contains pairs p → (high : ℕ) × IsPairBetween m low high p

abbrev pub TriedBefore : Map → ℕ → List PointPair → ℕ → Edge → Type 0
TriedBefore m low pairs i e = IsShorter m low e ⊎ HasPairBefore pairs i e

comes_last : (m : Map) (low : ℕ) (pairs : List PointPair) (i : ℕ) (p : PointPair) → slice_get pairs i ≡ Some p → ArePointPairsInOrder pairs → AreAllBetween m low pairs → ComesLast m (TriedBefore m low pairs i) (pair_edge p)
comes_last m low pairs i p at ordered all f (inl h) =
    let b = (all p (contains_of_get pairs p i at)).1 in
    let s = b.square in let t = b.between.0 in
    inl (inl (omega arith))
comes_last m low pairs i p at ordered all f (inr (k, lt, q, at_k, same)) =
    let b = (all p (contains_of_get pairs p i at)).1 in
    let c = (all q (contains_of_get pairs q k at_k)).1 in
    subst (λ (x : Edge). ComesBefore m x (pair_edge p) ⊎ (x ≡ pair_edge p)) same
    (lex (edge_length m (pair_edge q)) (edge_length m (pair_edge p)) q p (sym c.square) (sym b.square) (ordered k i q p lt at_k at))
  where
    lex : (a b : ℕ) (q p : PointPair) → a ≡ q.square → b ≡ p.square → IsPointPairNotAfter q p → ((a < b) ⊎ ((a ≡ b) × ((q.from < p.from) ⊎ ((q.from ≡ p.from) × (q.to < p.to))))) ⊎ (pair_edge q ≡ pair_edge p)
    lex a b q p e f (inl h) = inl (inl (omega arith))
    lex a b q p e f (inr (s, inl h)) = inl (inr (e ∙ s ∙ sym f, inl h))
    lex a b q p e f (inr (s, inr (h, k))) = elim (cases q.to p.to k) [ inl lt ↦ inl (inr (e ∙ s ∙ sym f, inr (h, lt))) | inr t ↦ inr (same_edge h t) ]
      where
        cases : (x y : ℕ) → x ≤ y → (x < y) ⊎ (x ≡ y)
        cases x y h = grind arith

abbrev pub TriesBefore : Map → List PointPair → ℕ → List Edge → List Edge → Type 0
TriesBefore m pairs i old new = (low : ℕ) → IsGreedySoFar m (IsShorter m low) old → AreAllBetween m low pairs → IsGreedySoFar m (TriedBefore m low pairs i) new

pub try_none : (m : Map) (pairs : List PointPair) (old : List Edge) → TriesBefore m pairs 0 old old
try_none m pairs old low s all = widen m (IsShorter m low) (TriedBefore m low pairs 0) old s (λ e h. inl h) (λ e p t. inl (elim t [ inl h ↦ h | inr h ↦ absurd (let lt = h.1 in omega arith) ]))

pub try_next : (m : Map) (pairs : List PointPair) (i : ℕ) (p : PointPair) (old mid new : List Edge) → slice_get pairs i ≡ Some p → ArePointPairsInOrder pairs → IsPointPair m (pair_edge p) → ¬ EdgesMeetAtEnds m (pair_edge p) (pair_edge p)
    → KeepsIfClear m (pair_edge p) mid new → TriesBefore m pairs i old mid → TriesBefore m pairs (i + 1) old new
try_next m pairs i p old mid new at ordered pair bar keeps before low s all =
    widen m (λ f. TriedBefore m low pairs i f ⊎ (f ≡ pair_edge p)) (TriedBefore m low pairs (i + 1)) new
    (try_one m (TriedBefore m low pairs i) mid (pair_edge p) (before low s all) pair (comes_last m low pairs i p at ordered all) new bar keeps)
    (λ e t. elim t [
      | inl b ↦ elim b [ inl h ↦ inl h | inr h ↦ inr (h.0, (let lt = h.1 in omega arith), h.2, h.3, h.4) ]
      | inr h ↦ inr (i, omega arith, p, at, sym h)
    ])
    (λ e q t. inl (elim t [
      | inl h ↦ inl (inl h)
      | inr h ↦ elim (below_or_last h.0 i h.1) [ inl lt ↦ inl (inr (h.0, lt, h.2, h.3, h.4)) | inr same ↦ inr (sym h.4 ∙ ap pair_edge (same_Some h.2 p (sym h.3 ∙ ap (slice_get pairs) same ∙ at))) ]
    ]))

pub grown : (m : Map) (e : Edge) (mid new : List Edge) → KeepsIfClear m e mid new → (f : Edge) → Contains mid f → Contains new f
grown m e mid new (inl h) f c = subst (λ (es : List Edge). Contains es f) (sym h.1) (Contains-append_left mid (e ∷ []) f c)
grown m e mid new (inr h) f c = subst (λ (es : List Edge). Contains es f) (sym h.1) c

pub try_all : (m : Map) (pairs : List PointPair) (i : ℕ) (old new : List Edge) → length pairs ≤ i → ((f : Edge) → Contains old f → Contains new f) → TriesBefore m pairs i old new → KeepsClear m pairs old new
try_all m pairs i old new le kept before = record {
  kept = kept;
  tried = λ low s all. widen m (TriedBefore m low pairs i) (λ e. IsShorter m low e ⊎ HasEdgeOfPair pairs e) new (before low s all)
      (λ e t. elim t [ inl h ↦ inl h | inr h ↦ inr (h.2, contains_of_get pairs h.2 h.0 h.3, h.4) ])
      (λ e q t. inl (elim t [ inl h ↦ inl h | inr h ↦ inr (h.1.0, (let lt = h.1.1 in omega arith), h.0, get_of_contains pairs h.0 h.1.0 h.1.1 h.1.2, h.2) ]));
}

-- ---- a round

pub round_done : (m : Map) (low high : ℕ) (unsaturated : List ℕ) (pairs sorted : List PointPair) (old new : List Edge) → low * low ≤ high * high → IsGreedySoFar m (IsShorter m low) old
    → AreUncrossed m old unsaturated low high pairs → IsPermutation pairs sorted → KeepsClear m sorted old new → ((k : ℕ) → k < length (points_of m) → Contains unsaturated k ⊎ IsSaturated m old k)
    → IsGreedySoFar m (IsShorter m high) new
round_done m low high unsaturated pairs sorted old new le s between same keeps closed =
    widen m (λ e. IsShorter m low e ⊎ HasEdgeOfPair sorted e) (IsShorter m high) new
    (keeps.tried low s (λ p c. (high, between.each p (Contains-permutation sorted pairs p (IsPermutation-sym pairs sorted same) c))))
    (λ e t. elim t [
      | inl h ↦ omega arith
      | inr h ↦ subst (IsShorter m high) h.2 (short h.0 (between.each h.0 (Contains-permutation sorted pairs h.0 (IsPermutation-sym pairs sorted same) h.1)))
    ])
    down
  where
    short : (p : PointPair) → IsPairBetween m low high p → IsShorter m high (pair_edge p)
    short p b = let s = b.square in let t = b.between.1 in omega arith

    -- a bar that was there before the round comes before each pair of the round
    early : (e f : Edge) → low * low ≤ edge_length m e → Contains old f → ¬ EdgesMeetAtEnds m e f → HasEarlyBar m new e
    early e f long c bar = (f, keeps.kept f c, place_of (Contains-append_cases (line_edges m) s.rest f (subst (λ (es : List Edge). Contains es f) s.lines_first c)), bar)
      where
        place_of : Contains (line_edges m) f ⊎ Contains s.rest f → Contains (line_edges m) f ⊎ ComesBefore m f e
        place_of (inl l) = inl l
        place_of (inr r) = let t : edge_length m f < low * low = s.tried f r in inr (inl (omega arith))

    down : (e : Edge) → IsPointPair m e → IsShorter m high e → (IsShorter m low e ⊎ HasEdgeOfPair sorted e) ⊎ HasEarlyBar m new e
    down e p shorter = elim (cases_lt (edge_length m e) (low * low)) [
      | inl lt ↦ inl (inl lt)
      | inr long ↦ elim (closed e.from (let a = p.0 in let b = p.1 in omega arith)) [
        | inr shut ↦ let bar = shut e.to p.1 (λ q. let a = p.0 in omega arith) in inr (early e bar.0 long bar.1 bar.2)
        | inl unsaturated_from ↦ elim (closed e.to p.1) [
          | inr shut ↦ let bar = shut e.from (let a = p.0 in let b = p.1 in omega arith) (λ q. let a = p.0 in omega arith) in inr (early e bar.0 long bar.1 (λ h. bar.2 (flip_first (place m e.from) (place m e.to) (place m bar.0.from) (place m bar.0.to) h)))
          | inl unsaturated_to ↦ elim (between.all e unsaturated_from unsaturated_to p.0 (long, shorter)) [
            | inl h ↦ inl (inr (h.0, Contains-permutation pairs sorted h.0 same h.1, h.2))
            | inr bar ↦ inr (early e bar.0 long bar.1 bar.2)
          ]
        ]
      ]
    ]

pub still_shut : (m : Map) (old new : List Edge) (k : ℕ) → ((f : Edge) → Contains old f → Contains new f) → IsSaturated m old k → IsSaturated m new k
still_shut m old new k kept shut j lt differ = let bar = shut j lt differ in (bar.0, kept bar.0 bar.1, bar.2)
