-- The greedy list of segments, in both directions and as vectors, is a net: its members meet at ends alone, and each other pair
-- of points meets some member otherwise.
use Rattle.std.proofs.Common.{◌≡◌, ◌≢◌, ℕ, zero, suc, ◌<◌, arith, refl, sym, ap, ◌∙◌, subst, ◌⊎◌, inl, inr, List, [], ◌∷◌, length, slice_get, Contains, Option, Some, None, map, filter_map, option_and_then}
use borrow.Author.Differences.{ints}
use Rattle.std.proofs.lemmas.Option.{same_Some}
use Rattle.std.proofs.lemmas.List.Elements.{Contains-append_left, Contains-append_right, Contains-append_cases}
use Rattle.sight_names.specs.declared.names.Pt.{Pt}
use Rattle.sight_names.specs.Point.{point_of}
use Rattle.sight_names.specs.Map.{Map, MapLine, line_at}
use Rattle.sight_names.specs.Points.{Edge, points_of, place, point_number, line_edge}
use Rattle.sight_names.specs.Sound.{MeetAtEnds, LinesMeetAtEnds}
use Rattle.sight_names.specs.Greedy.{edge_length, ComesBefore, EdgesMeetAtEnds, IsGreedy, line_edges}
use Rattle.sight_names.specs.Mesh.{IsSegmentKept}
use Rattle.sight_names.proofs.Lists.{contains_cases, contains_tail}
use Rattle.sight_names.proofs.Meets.{flip_first, flip_second}
use Rattle.mesh_base.proofs.SightLaws.Bridge.{vec}
use Rattle.plane_base.proofs.Vec.{at}
use Rattle.plane_base.proofs.Search.{In}
use Rattle.geom_exact.proofs.Meeting.{meet_swapped}
use Rattle.mesh_shape.proofs.RuleLemmas.{back_moved}
use Rattle.mesh_base.proofs.Net.{Pair, pair, SamePair, Net}
use Rattle.mesh_base.proofs.MakeNet.{Maximal, net_of}
use Rattle.mesh_base.proofs.Clash.{MeetsFairly}
use Rattle.mesh_base.proofs.GoodMesh.{PointFacts, pv, same_or_not}
use Rattle.triangulate.specs.IncidentSegments.Kept.{IsEdgeBetween}
use Rattle.triangulate.proofs.FairPoints.{SameEnds, fair_of, differ_of, same_segment, met_at_ends, met_within, how_met}
use Rattle.math_base.proofs.Numbers.{below_or_above, below_same_or_above}
use Rattle.math_base.proofs.Lists.{contains_none, contains_here}
use Rattle.math_base.proofs.Options.{none_is_not_some}

-- ---- the numbers of the points

abbrev pub numbers : ℕ → List ℕ
numbers zero = []
numbers (suc n) = n ∷ numbers n

pub in_numbers : (n k : ℕ) → k < n → In k (numbers n)
in_numbers zero k h = absurd (omega arith)
in_numbers (suc n) k h = elim (same_or_not n k) as (λ _. In k (numbers (suc n))) [ inl e ↦ inl e | inr d ↦ inr (in_numbers n k (less n k h d)) ]
  where
    less : (n k : ℕ) → k < suc n → ¬ (n ≡ k) → k < n
    less n k h d = grind arith

pub number_below : (n k : ℕ) → In k (numbers n) → k < n
number_below zero k i = absurd i
number_below (suc n) k i = elim i as (λ _. k < suc n) [ inl e ↦ omega arith | inr j ↦ let h = number_below n k j in omega arith ]

-- ---- edges in both directions

abbrev pub both : List Edge → List Pair
both [] = []
both (e ∷ es) = pair e.from e.to ∷ pair e.to e.from ∷ both es

edge_is : (e : Edge) (i j : ℕ) → e.from ≡ i → e.to ≡ j → e ≡ record { from = i; to = j }
edge_is e i j p q = λ k. record { from = p k; to = q k }

pub kept_of : (es : List Edge) (i j : ℕ) → In (pair i j) (both es) → IsSegmentKept es i j
kept_of [] i j h = absurd h
kept_of (e ∷ es) i j h = elim h as (λ _. IsSegmentKept (e ∷ es) i j) [
  | inl s ↦ inl (subst (Contains (e ∷ es)) (edge_is e i j (ap (λ (x : Pair). x.from) s) (ap (λ (x : Pair). x.to) s)) (contains_here e es))
  | inr k ↦ elim k as (λ _. IsSegmentKept (e ∷ es) i j) [
    | inl s ↦ inr (subst (Contains (e ∷ es)) (edge_is e j i (ap (λ (x : Pair). x.to) s) (ap (λ (x : Pair). x.from) s)) (contains_here e es))
    | inr r ↦ elim (kept_of es i j r) as (λ _. IsSegmentKept (e ∷ es) i j) [ inl c ↦ inl (contains_tail e (record { from = i; to = j }) es c) | inr c ↦ inr (contains_tail e (record { from = j; to = i }) es c) ]
  ]
]

in_forward : (es : List Edge) (i j : ℕ) → Contains es (record { from = i; to = j }) → In (pair i j) (both es)
in_forward [] i j c = absurd (contains_none (record { from = i; to = j }) c)
in_forward (e ∷ es) i j c = elim (contains_cases e (record { from = i; to = j }) es c) as (λ _. In (pair i j) (both (e ∷ es))) [
  | inl s ↦ inl (λ k. record { from = (s k).from; to = (s k).to })
  | inr t ↦ inr (inr (in_forward es i j t))
]

in_back : (es : List Edge) (i j : ℕ) → Contains es (record { from = j; to = i }) → In (pair i j) (both es)
in_back [] i j c = absurd (contains_none (record { from = j; to = i }) c)
in_back (e ∷ es) i j c = elim (contains_cases e (record { from = j; to = i }) es c) as (λ _. In (pair i j) (both (e ∷ es))) [
  | inl s ↦ inr (inl (λ k. record { from = (s k).to; to = (s k).from }))
  | inr t ↦ inr (inr (in_back es i j t))
]

pub in_kept : (es : List Edge) (i j : ℕ) → IsSegmentKept es i j → In (pair i j) (both es)
in_kept es i j h = elim h as (λ _. In (pair i j) (both es)) [ inl c ↦ in_forward es i j c | inr c ↦ in_back es i j c ]

pub kept_back : (es : List Edge) (i j : ℕ) → IsSegmentKept es i j → IsSegmentKept es j i
kept_back es i j h = elim h as (λ _. IsSegmentKept es j i) [ inl c ↦ inr c | inr c ↦ inl c ]

dec_in : (ps : List Pair) (i j : ℕ) → In (pair i j) ps ⊎ ¬ In (pair i j) ps
dec_in [] i j = inr (λ h. h)
dec_in (p ∷ ps) i j = elim (dec_in ps i j) as (λ _. In (pair i j) (p ∷ ps) ⊎ ¬ In (pair i j) (p ∷ ps)) [
  | inl h ↦ inl (inr h)
  | inr n ↦ elim (same_or_not p.from i) as (λ _. In (pair i j) (p ∷ ps) ⊎ ¬ In (pair i j) (p ∷ ps)) [
    | inl a ↦ elim (same_or_not p.to j) as (λ _. In (pair i j) (p ∷ ps) ⊎ ¬ In (pair i j) (p ∷ ps)) [
      | inl b ↦ inl (inl (λ k. record { from = a k; to = b k }))
      | inr d ↦ inr (λ h. elim h as (λ _. ⊥) [ inl e ↦ d (ap (λ (x : Pair). x.to) e) | inr r ↦ n r ])
    ]
    | inr d ↦ inr (λ h. elim h as (λ _. ⊥) [ inl e ↦ d (ap (λ (x : Pair). x.from) e) | inr r ↦ n r ])
  ]
]

-- ---- the lines among the kept

line_in : (m : Map) (ls : List (Option MapLine)) (e : Edge) → Contains (map (line_edge m) (filter_map (λ l. l) ls)) e → (i : ℕ) × (l : MapLine) × (option_and_then (λ k. k) (slice_get ls i) ≡ Some l) × (line_edge m l ≡ e)
line_in m [] e c = absurd (contains_none e c)
line_in m (None ∷ ls) e c = let r = line_in m ls e c in (suc r.0, r.1, r.2, r.3)
line_in m (Some l ∷ ls) e c = elim (contains_cases (line_edge m l) e (map (line_edge m) (filter_map (λ l. l) ls)) c) as (λ _. (i : ℕ) × (k : MapLine) × (option_and_then (λ k. k) (slice_get (Some l ∷ ls) i) ≡ Some k) × (line_edge m k ≡ e)) [
  | inl s ↦ (zero, l, refl, s)
  | inr t ↦ let r = line_in m ls e t in (suc r.0, r.1, r.2, r.3)
]

in_lines : (m : Map) (ls : List (Option MapLine)) (i : ℕ) (l : MapLine) → option_and_then (λ k. k) (slice_get ls i) ≡ Some l → Contains (map (line_edge m) (filter_map (λ l. l) ls)) (line_edge m l)
in_lines m [] i l e = absurd (none_is_not_some l e)
in_lines m (None ∷ ls) zero l e = absurd (none_is_not_some l e)
in_lines m (None ∷ ls) (suc i) l e = in_lines m ls i l e
in_lines m (Some k ∷ ls) zero l e = subst (λ (x : MapLine). Contains (line_edge m k ∷ map (line_edge m) (filter_map (λ l. l) ls)) (line_edge m x)) (same_Some k l e) (contains_here (line_edge m k) (map (line_edge m) (filter_map (λ l. l) ls)))
in_lines m (Some k ∷ ls) (suc i) l e = contains_tail (line_edge m k) (line_edge m l) (map (line_edge m) (filter_map (λ l. l) ls)) (in_lines m ls i l e)

-- ---- the order of the pairs is total

before_total : (m : Map) (e f : Edge) → ComesBefore m e f ⊎ ((e ≡ f) ⊎ ComesBefore m f e)
before_total m e f = elim (below_same_or_above (edge_length m e) (edge_length m f)) as (λ _. ComesBefore m e f ⊎ ((e ≡ f) ⊎ ComesBefore m f e)) [
  | inl h ↦ inl (inl h)
  | inr (inr h) ↦ inr (inr (inl h))
  | inr (inl a) ↦ elim (below_same_or_above e.from f.from) as (λ _. ComesBefore m e f ⊎ ((e ≡ f) ⊎ ComesBefore m f e)) [
    | inl h ↦ inl (inr (a, inl h))
    | inr (inr h) ↦ inr (inr (inr (sym a, inl h)))
    | inr (inl b) ↦ elim (below_same_or_above e.to f.to) as (λ _. ComesBefore m e f ⊎ ((e ≡ f) ⊎ ComesBefore m f e)) [
      | inl h ↦ inl (inr (a, inr (b, h)))
      | inr (inr h) ↦ inr (inr (inr (sym a, inr (sym b, h))))
      | inr (inl c) ↦ inr (inl (λ k. record { from = b k; to = c k }))
    ]
  ]
]

-- ---- a greedy list

module _ (m : Map) (f : PointFacts m) (ends : LinesMeetAtEnds m) (kept : List Edge) (g : IsGreedy m kept) where
  kept_cases : (e : Edge) → Contains kept e → Contains (line_edges m) e ⊎ Contains g.rest e
  kept_cases e c = Contains-append_cases (line_edges m) g.rest e (subst (λ (xs : List Edge). Contains xs e) g.lines_first c)

  line_kept : (e : Edge) → Contains (line_edges m) e → Contains kept e
  line_kept e c = subst (λ (xs : List Edge). Contains xs e) (sym g.lines_first) (Contains-append_left (line_edges m) g.rest e c)

  rest_kept : (e : Edge) → Contains g.rest e → Contains kept e
  rest_kept e c = subst (λ (xs : List Edge). Contains xs e) (sym g.lines_first) (Contains-append_right (line_edges m) g.rest e c)

  pub each_line_kept : (i : ℕ) (l : MapLine) → line_at m i ≡ Some l → Contains kept (line_edge m l)
  each_line_kept i l is = line_kept (line_edge m l) (in_lines m m.lines i l is)

  line_between : (i : ℕ) (l : MapLine) → line_at m i ≡ Some l → IsEdgeBetween (length (points_of m)) (line_edge m l)
  line_between i l is = record {
    from = (f.first i l is).1;
    to = (f.second i l is).1;
    differ = λ e.
        let a = (f.apart i l is).0 in
        let p : l.first ≡ l.second = sym (f.first i l is).0 ∙ ap (place m) e ∙ (f.second i l is).0 in
        let z = a.zero in let u = a.above in
        let k : at a.f (vec (point_of l.first)) ≡ at a.f (vec (point_of l.second)) = ap (λ (x : Pt). at a.f (vec (point_of x))) p in
        omega (arith, ints);
  }

  pub kept_between : (e : Edge) → Contains kept e → IsEdgeBetween (length (points_of m)) e
  kept_between e c = elim (kept_cases e c) as (λ _. IsEdgeBetween (length (points_of m)) e) [
    | inl h ↦ let r = line_in m m.lines e h in subst (IsEdgeBetween (length (points_of m))) r.3 (line_between r.0 r.1 r.2)
    | inr h ↦ let p = g.pairs e h in record { from = (let a = p.0 in let b = p.1 in omega arith); to = p.1; differ = λ q. (let a = p.0 in omega arith) }
  ]

  -- two lines
  lines_meet : (e h : Edge) → Contains (line_edges m) e → Contains (line_edges m) h → (e ≡ h) ⊎ EdgesMeetAtEnds m e h
  lines_meet e h c d =
      let r = line_in m m.lines e c in let s = line_in m m.lines h d in
      elim (same_or_not r.0 s.0) as (λ _. (e ≡ h) ⊎ EdgesMeetAtEnds m e h) [
        | inl same ↦ inl (sym r.3 ∙ ap (line_edge m) (same_Some r.1 s.1 (sym r.2 ∙ ap (line_at m) same ∙ s.2)) ∙ s.3)
        | inr n ↦ inr (subst (λ (x : Edge). EdgesMeetAtEnds m x h) r.3 (subst (λ (x : Edge). EdgesMeetAtEnds m (line_edge m r.1) x) s.3 (
            back_moved (place m (point_number m r.1.first)) (place m (point_number m r.1.second)) (place m (point_number m s.1.first)) (place m (point_number m s.1.second)) r.1.first r.1.second s.1.first s.1.second
            (f.first r.0 r.1 r.2).0 (f.second r.0 r.1 r.2).0 (f.first s.0 s.1 s.2).0 (f.second s.0 s.1 s.2).0 (ends r.0 s.0 r.1 s.1 n r.2 s.2))))
      ]

  swapped : (e h : Edge) → EdgesMeetAtEnds m h e → EdgesMeetAtEnds m e h
  swapped e h c = meet_swapped (place m h.from) (place m h.to) (place m e.from) (place m e.to) c

  edges_meet : (e h : Edge) → Contains kept e → Contains kept h → (e ≡ h) ⊎ EdgesMeetAtEnds m e h
  edges_meet e h c d = elim (kept_cases e c) as (λ _. (e ≡ h) ⊎ EdgesMeetAtEnds m e h) [
    | inl le ↦ elim (kept_cases h d) as (λ _. (e ≡ h) ⊎ EdgesMeetAtEnds m e h) [
      | inl lh ↦ lines_meet e h le lh
      | inr rh ↦ inr (swapped e h ((g.exactly h (g.pairs h rh)).0 rh e (inl le)))
    ]
    | inr re ↦ elim (kept_cases h d) as (λ _. (e ≡ h) ⊎ EdgesMeetAtEnds m e h) [
      | inl lh ↦ inr ((g.exactly e (g.pairs e re)).0 re h (inl lh))
      | inr rh ↦ elim (before_total m e h) as (λ _. (e ≡ h) ⊎ EdgesMeetAtEnds m e h) [
        | inl b ↦ inr (swapped e h ((g.exactly h (g.pairs h rh)).0 rh e (inr (re, b))))
        | inr (inl same) ↦ inl same
        | inr (inr b) ↦ inr ((g.exactly e (g.pairs e re)).0 re h (inr (rh, b)))
      ]
    ]
  ]

  -- kept segments, each in one direction or the other
  pub kept_meet : (i j k l : ℕ) → IsSegmentKept kept i j → IsSegmentKept kept k l → SamePair i j k l ⊎ MeetAtEnds (place m i) (place m j) (place m k) (place m l)
  kept_meet i j k l c d = elim c as (λ _. SamePair i j k l ⊎ MeetAtEnds (place m i) (place m j) (place m k) (place m l)) [
    | inl x ↦ elim d as (λ _. SamePair i j k l ⊎ MeetAtEnds (place m i) (place m j) (place m k) (place m l)) [
      | inl y ↦ elim (edges_meet (record { from = i; to = j }) (record { from = k; to = l }) x y) [
        | inl e ↦ inl (inl (ap (λ (z : Edge). z.from) e, ap (λ (z : Edge). z.to) e))
        | inr h ↦ inr h
      ]
      | inr y ↦ elim (edges_meet (record { from = i; to = j }) (record { from = l; to = k }) x y) [
        | inl e ↦ inl (inr (ap (λ (z : Edge). z.from) e, ap (λ (z : Edge). z.to) e))
        | inr h ↦ inr (flip_second (place m i) (place m j) (place m l) (place m k) h)
      ]
    ]
    | inr x ↦ elim d as (λ _. SamePair i j k l ⊎ MeetAtEnds (place m i) (place m j) (place m k) (place m l)) [
      | inl y ↦ elim (edges_meet (record { from = j; to = i }) (record { from = k; to = l }) x y) [
        | inl e ↦ inl (inr (ap (λ (z : Edge). z.to) e, ap (λ (z : Edge). z.from) e))
        | inr h ↦ inr (flip_first (place m j) (place m i) (place m k) (place m l) h)
      ]
      | inr y ↦ elim (edges_meet (record { from = j; to = i }) (record { from = l; to = k }) x y) [
        | inl e ↦ inl (inl (ap (λ (z : Edge). z.to) e, ap (λ (z : Edge). z.from) e))
        | inr h ↦ inr (flip_second (place m i) (place m j) (place m l) (place m k) (flip_first (place m j) (place m i) (place m l) (place m k) h))
      ]
    ]
  ]

  places_apart : (i j : ℕ) → i < length (points_of m) → j < length (points_of m) → ¬ (i ≡ j) → place m i ≢ place m j
  places_apart i j hi hj n e = n (sym (f.number i hi) ∙ ap (point_number m) e ∙ f.number j hj)

  same_numbers : (i j k l : ℕ) → i < length (points_of m) → j < length (points_of m) → k < length (points_of m) → l < length (points_of m) → SameEnds (place m i) (place m j) (place m k) (place m l) → SamePair i j k l
  same_numbers i j k l hi hj hk hl s = elim s as (λ _. SamePair i j k l) [ inl e ↦ inl (back i k hi hk e.0, back j l hj hl e.1) | inr e ↦ inr (back i l hi hl e.0, back j k hj hk e.1) ]
    where
      back : (i k : ℕ) → i < length (points_of m) → k < length (points_of m) → place m i ≡ place m k → i ≡ k
      back i k hi hk e = sym (f.number i hi) ∙ ap (point_number m) e ∙ f.number k hk

  -- a member that is the same segment, or one that the segment meets within; or it meets all at ends alone
  abbrev Hindered : List Edge → ℕ → ℕ → Type 0
  Hindered xs i j = (h : Edge) × Contains xs h × (SamePair i j h.from h.to ⊎ ¬ MeetsFairly (pv m i) (pv m j) (pv m h.from) (pv m h.to))

  abbrev MeetsAll : List Edge → ℕ → ℕ → Type 0
  MeetsAll xs i j = (h : Edge) → Contains xs h → MeetAtEnds (place m i) (place m j) (place m h.from) (place m h.to)

  meets_next : (i j : ℕ) (x : Edge) (xs : List Edge) → MeetAtEnds (place m i) (place m j) (place m x.from) (place m x.to) → MeetsAll xs i j → MeetsAll (x ∷ xs) i j
  meets_next i j x xs a all h c = elim (contains_cases x h xs c) as (λ _. MeetAtEnds (place m i) (place m j) (place m h.from) (place m h.to)) [
    | inl e ↦ subst (λ (y : Edge). MeetAtEnds (place m i) (place m j) (place m y.from) (place m y.to)) e a
    | inr d ↦ all h d
  ]

  scan : (i j : ℕ) → i < length (points_of m) → j < length (points_of m) → ¬ (i ≡ j) → (xs : List Edge) → ((h : Edge) → Contains xs h → IsEdgeBetween (length (points_of m)) h) → Hindered xs i j ⊎ MeetsAll xs i j
  scan i j hi hj n [] each = inr (λ h c. absurd (contains_none h c))
  scan i j hi hj n (x ∷ xs) each =
      let b = each x (contains_here x xs) in
      elim (scan i j hi hj n xs (λ h c. each h (contains_tail x h xs c))) as (λ _. Hindered (x ∷ xs) i j ⊎ MeetsAll (x ∷ xs) i j) [
        | inl r ↦ inl (r.0, contains_tail x r.0 xs r.1, r.2)
        | inr all ↦ elim (how_met (place m i) (place m j) (place m x.from) (place m x.to) (places_apart i j hi hj n) (places_apart x.from x.to b.from b.to b.differ)) as (λ _. Hindered (x ∷ xs) i j ⊎ MeetsAll (x ∷ xs) i j) [
          | same_segment s ↦ inl (x, contains_here x xs, inl (same_numbers i j x.from x.to hi hj b.from b.to s))
          | met_at_ends a ↦ inr (meets_next i j x xs a all)
          | met_within w ↦ inl (x, contains_here x xs, inr w)
        ]
      ]

  abbrev Barred : ℕ → ℕ → Type 0
  Barred i j = In (pair i j) (both kept) ⊎ ((k l : ℕ) × In (pair k l) (both kept) × ¬ MeetsFairly (pv m i) (pv m j) (pv m k) (pv m l))

  pair_kept : (i j : ℕ) (h : Edge) → Contains kept h → SamePair i j h.from h.to → In (pair i j) (both kept)
  pair_kept i j h c s = elim s as (λ _. In (pair i j) (both kept)) [
    | inl e ↦ in_forward kept i j (subst (Contains kept) (edge_is h i j (sym e.0) (sym e.1)) c)
    | inr e ↦ in_back kept i j (subst (Contains kept) (edge_is h j i (sym e.1) (sym e.0)) c)
  ]

  free_kept : (i j : ℕ) → i < j → j < length (points_of m) → MeetsAll kept i j → Contains kept (record { from = i; to = j })
  free_kept i j lt hj all = rest_kept (record { from = i; to = j }) ((g.exactly (record { from = i; to = j }) (lt, hj)).1 (λ h c. all h (elim c as (λ _. Contains kept h) [ inl a ↦ line_kept h a | inr a ↦ rest_kept h a.0 ])))

  barred : (i j : ℕ) → i < length (points_of m) → j < length (points_of m) → ¬ (i ≡ j) → Barred i j
  barred i j hi hj n = elim (scan i j hi hj n kept kept_between) as (λ _. Barred i j) [
    | inl r ↦ elim r.2 as (λ _. Barred i j) [
      | inl s ↦ inl (pair_kept i j r.0 r.1 s)
      | inr w ↦ inr (r.0.from, r.0.to, in_forward kept r.0.from r.0.to r.1, w)
    ]
    | inr all ↦ elim (below_or_above i j n) as (λ _. Barred i j) [
      | inl lt ↦ inl (in_forward kept i j (free_kept i j lt hj all))
      | inr lt ↦ inl (in_back kept i j (free_kept j i lt hi (λ h c. flip_first (place m i) (place m j) (place m h.from) (place m h.to) (all h c))))
    ]
  ]

  neighbour_of : (k : ℕ) → k < length (points_of m) → (l : ℕ) × In (pair k l) (both kept)
  neighbour_of k h =
      let e = f.is_end k h in
      let c = each_line_kept e.0 e.1 e.2 in
      elim e.3 as (λ _. (l : ℕ) × In (pair k l) (both kept)) [
        | inl p ↦ (point_number m e.1.second, subst (λ (x : ℕ). In (pair x (point_number m e.1.second)) (both kept)) (ap (point_number m) (sym p) ∙ f.number k h) (in_forward kept (point_number m e.1.first) (point_number m e.1.second) c))
        | inr p ↦ (point_number m e.1.first, subst (λ (x : ℕ). In (pair x (point_number m e.1.first)) (both kept)) (ap (point_number m) (sym p) ∙ f.number k h) (in_back kept (point_number m e.1.second) (point_number m e.1.first) c))
      ]

  pub kept_ends : (i j : ℕ) → IsSegmentKept kept i j → (i < length (points_of m)) × (j < length (points_of m)) × ¬ (i ≡ j)
  kept_ends i j h = elim h as (λ _. (i < length (points_of m)) × (j < length (points_of m)) × ¬ (i ≡ j)) [
    | inl c ↦ let b = kept_between (record { from = i; to = j }) c in (b.from, b.to, b.differ)
    | inr c ↦ let b = kept_between (record { from = j; to = i }) c in (b.to, b.from, λ e. b.differ (sym e))
  ]

  pub greedy_maximal : Maximal (pv m) (numbers (length (points_of m))) (both kept)
  greedy_maximal = record {
    whole = λ k. refl;
    same_or_not = same_or_not;
    differ = λ i j hi hj n. differ_of (place m i) (place m j) (places_apart i j (number_below (length (points_of m)) i hi) (number_below (length (points_of m)) j hj) n);
    decide = dec_in (both kept);
    swap = λ i j h. in_kept kept j i (kept_back kept i j (kept_of kept i j h));
    ends = λ i j h. let e = kept_ends i j (kept_of kept i j h) in (in_numbers (length (points_of m)) i e.0, in_numbers (length (points_of m)) j e.1);
    apart = λ i j h. (kept_ends i j (kept_of kept i j h)).2;
    pairwise = λ i j k l c d. elim (kept_meet i j k l (kept_of kept i j c) (kept_of kept k l d)) as (λ _. SamePair i j k l ⊎ MeetsFairly (pv m i) (pv m j) (pv m k) (pv m l)) [
      | inl s ↦ inl s
      | inr h ↦ inr (fair_of (place m i) (place m j) (place m k) (place m l) h)
    ];
    maximal = λ i j hi hj n. barred i j (number_below (length (points_of m)) i hi) (number_below (length (points_of m)) j hj) n;
    used = λ k h. neighbour_of k (number_below (length (points_of m)) k h);
  }

  pub greedy_net : Net (pv m) (numbers (length (points_of m))) (both kept)
  greedy_net = net_of (pv m) (numbers (length (points_of m))) (both kept) greedy_maximal
