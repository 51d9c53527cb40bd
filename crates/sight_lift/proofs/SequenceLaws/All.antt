-- The list of all stabbable sequences of a source over a good mesh: it is there, and what it tells.
use Rattle.std.proofs.Common.{◌≡◌, ℕ, zero, suc, ◌+◌, ◌<◌, ◌≤◌, ◌⊎◌, inl, inr, List, [], ◌∷◌, ◌++◌, length, length-append, map, slice_get, Contains, Option, Some, None, option_map, option_and_then, Bool, true, false, IsTrue, refl, sym, ap, ◌∙◌, subst, arith, true≢false}
use Rattle.std.specs.List.{AllByRecursion}
use Rattle.std.proofs.lemmas.Bool.{cases_eq}
use Rattle.std.proofs.lemmas.Option.{none-some, same_Some, slice_get_within}
use Rattle.sight_names.specs.declared.names.Side.{Side}
use Rattle.sight_names.specs.declared.names.Triangle.{Triangle}
use Rattle.sight_names.specs.Map.{Map, MapLine, line_at}
use Rattle.sight_names.specs.Mesh.{triangle_at, label_of, side_edge, IsCounterclockwise, IsGoodMesh}
use Rattle.sight_names.specs.Sequence.{Sequence, Portal, Way, Left, Right, IsStabbable, IsSolidLine, LeadsOutside, entry_edge, end_points, way_out, apex, portals, portals_from, root_portal, roots}
use Rattle.sight_names.specs.Found.{SequenceBefore, IsStabbableSequence, Reaches, HasPlace}
use Rattle.sight_names.proofs.Lists.{same_ascending, contains_tail, contains_of_get, get_of_contains}
use Rattle.sight_names.proofs.OnePlace.{before_irreflexive, before_asymmetric, one_place}
use Rattle.mesh_base.proofs.MapFacts.{same_edge}
use Rattle.sight_lift.specs.SequenceLaws.InOrder.{AreAllOf, FindsAmongFirst, SpentIfMore, AreSequencesInOrder}
use Rattle.sight_lift.specs.SequenceLaws.Ways.{root_alone, one_way_on}
use Rattle.sight_lift.proofs.SequenceLaws.UnderWay.{IsUnderWay, passes, opens, all_opened, none_beyond}
use Rattle.sight_lift.proofs.SequenceLaws.Roots.{begins}
use Rattle.sight_lift.proofs.SequenceLaws.Depth.{few_portals}
use Rattle.sight_lift.proofs.SequenceLaws.Splittable.{splittable_or_not}
use Rattle.math_base.proofs.Numbers.{below_or_at}

-- ---- whether a portal is a solid line

module _ (m : Map) (p : Portal) where
  -- the line of this record is solid, and is the portal
  abbrev IsWallAt : ℕ → Type 0
  IsWallAt i = (l : MapLine) × (left : Bool) × (line_at m i ≡ Some l) × IsTrue l.solid × (side_edge m l left ≡ entry_edge p)

  wall_at : (i : ℕ) → IsWallAt i ⊎ ¬ IsWallAt i
  wall_at i = at (line_at m i) refl
    where
      none : (o : Option MapLine) → line_at m i ≡ o → o ≡ None → ¬ IsWallAt i
      none o e f (l, left, is, solid, edge) = none-some l (sym f ∙ sym e ∙ is)

      passable : (l : MapLine) → line_at m i ≡ Some l → l.solid ≡ false → ¬ IsWallAt i
      passable l e f (k, left, is, solid, edge) = true≢false (sym solid ∙ ap (λ (x : MapLine). x.solid) (same_Some k l (sym is ∙ e)) ∙ f)

      neither : (l : MapLine) → line_at m i ≡ Some l → ¬ (side_edge m l true ≡ entry_edge p) → ¬ (side_edge m l false ≡ entry_edge p) → ¬ IsWallAt i
      neither l e one other (k, true, is, solid, edge) = one (ap (λ (x : MapLine). side_edge m x true) (same_Some l k (sym e ∙ is)) ∙ edge)
      neither l e one other (k, false, is, solid, edge) = other (ap (λ (x : MapLine). side_edge m x false) (same_Some l k (sym e ∙ is)) ∙ edge)

      solid_at : (l : MapLine) → line_at m i ≡ Some l → (s : Bool) → l.solid ≡ s → IsWallAt i ⊎ ¬ IsWallAt i
      solid_at l e false f = inr (passable l e f)
      solid_at l e true f = elim (same_edge (side_edge m l true) (entry_edge p)) as (λ _. IsWallAt i ⊎ ¬ IsWallAt i) [
        | inl h ↦ inl (l, true, e, f, h)
        | inr n ↦ elim (same_edge (side_edge m l false) (entry_edge p)) as (λ _. IsWallAt i ⊎ ¬ IsWallAt i) [
          | inl h ↦ inl (l, false, e, f, h)
          | inr k ↦ inr (neither l e n k)
        ]
      ]

      at : (o : Option MapLine) → line_at m i ≡ o → IsWallAt i ⊎ ¬ IsWallAt i
      at None e = inr (none None e refl)
      at (Some l) e = solid_at l e l.solid refl

  walls_below : (n : ℕ) → ((i : ℕ) × IsWallAt i) ⊎ ((i : ℕ) → i < n → ¬ IsWallAt i)
  walls_below zero = inr (λ i h. absurd (omega arith))
  walls_below (suc n) = elim (wall_at n) as (λ _. ((i : ℕ) × IsWallAt i) ⊎ ((i : ℕ) → i < suc n → ¬ IsWallAt i)) [
    | inl h ↦ inl (n, h)
    | inr none ↦ elim (walls_below n) as (λ _. ((i : ℕ) × IsWallAt i) ⊎ ((i : ℕ) → i < suc n → ¬ IsWallAt i)) [
      | inl h ↦ inl h
      | inr before ↦ inr (λ i h. elim (below_or_at i n h) as (λ _. ¬ IsWallAt i) [ inl lt ↦ before i lt | inr same ↦ subst (λ (k : ℕ). ¬ IsWallAt k) (sym same) none ])
    ]
  ]

  line_within : (i : ℕ) (l : MapLine) → line_at m i ≡ Some l → i < length m.lines
  line_within i l e = by (slice_get m.lines i) refl e
    where
      by : (o : Option (Option MapLine)) → slice_get m.lines i ≡ o → line_at m i ≡ Some l → i < length m.lines
      by None f g = absurd (none-some l (sym (ap (option_and_then (λ (o : Option MapLine). o)) f) ∙ g))
      by (Some o) f g = slice_get_within m.lines i o f

  solid_or_not : IsSolidLine m p ⊎ ¬ IsSolidLine m p
  solid_or_not = elim (walls_below (length m.lines)) as (λ _. IsSolidLine m p ⊎ ¬ IsSolidLine m p) [
    | inl h ↦ inl (h.0, h.1.0, h.1.1, h.1.2, h.1.3, h.1.4)
    | inr none ↦ inr (λ h. none h.0 (line_within h.0 h.1 h.3) (h.1, h.2, h.3, h.4, h.5))
  ]

-- ---- whether a sequence from a root is stabbable

all_or_not : {X : Type 0} (P : X → Type 0) → ((x : X) → P x ⊎ ¬ P x) → (xs : List X) → AllByRecursion P xs ⊎ ¬ AllByRecursion P xs
all_or_not P tell [] = inl tt
all_or_not P tell (x ∷ xs) = elim (tell x) as (λ _. AllByRecursion P (x ∷ xs) ⊎ ¬ AllByRecursion P (x ∷ xs)) [
  | inr n ↦ inr (λ h. n h.0)
  | inl p ↦ elim (all_or_not P tell xs) as (λ _. AllByRecursion P (x ∷ xs) ⊎ ¬ AllByRecursion P (x ∷ xs)) [ inl all ↦ inl (p, all) | inr n ↦ inr (λ h. n h.1) ]
]

length_of : (ts : List Triangle) (ws : List Way) (o : Option Portal) (ps : List Portal) → portals_from ts o ws ≡ Some ps → length ps ≡ length ws + 1
length_of ts ws None ps e = absurd (none-some ps e)
length_of ts [] (Some d) ps e = ap length (sym (same_Some (d ∷ []) ps e)) ∙ omega arith
length_of ts (w ∷ ws) (Some d) ps e = by (portals_from ts (option_map (way_out d w) (apex ts d)) ws) e (length_of ts ws (option_map (way_out d w) (apex ts d)))
  where
    by : (o : Option (List Portal)) → option_map (λ (qs : List Portal). d ∷ qs) o ≡ Some ps → ((qs : List Portal) → o ≡ Some qs → length qs ≡ length ws + 1) → length ps ≡ length (w ∷ ws) + 1
    by None e rest = absurd (none-some ps e)
    by (Some qs) e rest = let f = ap length (sym (same_Some (d ∷ qs) ps e)) in let g = rest qs refl in omega arith

module _ (m : Map) (ts : List Triangle) (ls : List (Option ℕ)) (a : ℕ) where
  outside_or_not : (p : Portal) → LeadsOutside ts ls a p ⊎ ¬ LeadsOutside ts ls a p
  outside_or_not p = at (triangle_at ts (entry_edge p)) refl
    where
      none : triangle_at ts (entry_edge p) ≡ None → ¬ LeadsOutside ts ls a p
      none e (k, there, out) = none-some k (sym e ∙ there)

      back : (k : ℕ) → triangle_at ts (entry_edge p) ≡ Some k → label_of ls k ≡ Some a → ¬ LeadsOutside ts ls a p
      back k e is (j, there, out) = out (ap (label_of ls) (same_Some j k (sym there ∙ e)) ∙ is)

      label : (k : ℕ) → triangle_at ts (entry_edge p) ≡ Some k → (o : Option ℕ) → label_of ls k ≡ o → LeadsOutside ts ls a p ⊎ ¬ LeadsOutside ts ls a p
      label k e None f = inl (k, e, λ g. none-some a (sym f ∙ g))
      label k e (Some b) f = elim (cases_eq b a) as (λ _. LeadsOutside ts ls a p ⊎ ¬ LeadsOutside ts ls a p) [
        | inl same ↦ inr (back k e (f ∙ ap Some same))
        | inr differ ↦ inl (k, e, λ g. differ (same_Some b a (sym f ∙ g)))
      ]

      at : (o : Option ℕ) → triangle_at ts (entry_edge p) ≡ o → LeadsOutside ts ls a p ⊎ ¬ LeadsOutside ts ls a p
      at None e = inr (none e)
      at (Some k) e = label k e (label_of ls k) refl

  stabbable_or_not : (s : Sequence) → Contains (roots m a) s.root → IsStabbableSequence m ts ls a s ⊎ ¬ IsStabbableSequence m ts ls a s
  stabbable_or_not s root = at (portals m ts s) refl
    where
      none : portals m ts s ≡ None → ¬ IsStabbableSequence m ts ls a s
      none e (ps, h, stabs) = none-some ps (sym e ∙ h.portals)

      wall : (ps : List Portal) → portals m ts s ≡ Some ps → ¬ AllByRecursion (λ (d : Portal). ¬ IsSolidLine m d) ps → ¬ IsStabbableSequence m ts ls a s
      wall ps e n (qs, h, stabs) = n (subst (AllByRecursion (λ (d : Portal). ¬ IsSolidLine m d)) (same_Some qs ps (sym h.portals ∙ e)) h.no_wall)

      inside : (ps : List Portal) → portals m ts s ≡ Some ps → ¬ AllByRecursion (LeadsOutside ts ls a) ps → ¬ IsStabbableSequence m ts ls a s
      inside ps e n (qs, h, stabs) = n (subst (AllByRecursion (LeadsOutside ts ls a)) (same_Some qs ps (sym h.portals ∙ e)) h.outside)

      stuck : (ps : List Portal) → portals m ts s ≡ Some ps → ¬ IsStabbable m ps → ¬ IsStabbableSequence m ts ls a s
      stuck ps e n (qs, h, stabs) = n (subst (IsStabbable m) (same_Some qs ps (sym h.portals ∙ e)) stabs)

      free_or_not : (d : Portal) → (¬ IsSolidLine m d) ⊎ ¬ (¬ IsSolidLine m d)
      free_or_not d = elim (solid_or_not m d) as (λ _. (¬ IsSolidLine m d) ⊎ ¬ (¬ IsSolidLine m d)) [ inl h ↦ inr (λ n. n h) | inr n ↦ inl n ]

      at : (o : Option (List Portal)) → portals m ts s ≡ o → IsStabbableSequence m ts ls a s ⊎ ¬ IsStabbableSequence m ts ls a s
      at None e = inr (none e)
      at (Some ps) e = elim (all_or_not (λ (d : Portal). ¬ IsSolidLine m d) free_or_not ps) as (λ _. IsStabbableSequence m ts ls a s ⊎ ¬ IsStabbableSequence m ts ls a s) [
        | inr n ↦ inr (wall ps e n)
        | inl free ↦ elim (all_or_not (LeadsOutside ts ls a) outside_or_not ps) as (λ _. IsStabbableSequence m ts ls a s ⊎ ¬ IsStabbableSequence m ts ls a s) [
          | inr n ↦ inr (inside ps e n)
          | inl out ↦ elim (splittable_or_not (end_points m ps)) as (λ _. IsStabbableSequence m ts ls a s ⊎ ¬ IsStabbableSequence m ts ls a s) [
            | inr n ↦ inr (stuck ps e n)
            | inl stabs ↦ inl (ps, record { root = root; portals = e; no_wall = free; outside = out }, stabs)
          ]
        ]
      ]

  module _ (turn_all : (k : ℕ) (t : Triangle) → slice_get ts k ≡ Some t → IsCounterclockwise m t) where
    pub few_ways : (s : Sequence) → IsStabbableSequence m ts ls a s → length s.ways + 1 ≤ length ts
    few_ways s (ps, h, stabs) = let n = few_portals m ts ls a turn_all s ps h stabs in let e = length_of ts s.ways (root_portal m s.root) ps h.portals in omega arith

    -- from one that is due on: its whole tree is opened
    visit : (f : ℕ) (s : Sequence) (rest opened : List Sequence) → Contains (roots m a) s.root → length ts ≤ length s.ways + f → IsUnderWay m ts ls a opened (s ∷ rest) → (later : List Sequence) × IsUnderWay m ts ls a later rest
    visit zero s rest opened root deep h = (opened, passes m ts ls a opened s rest h (λ is. let n = few_ways s is in absurd (omega arith)))
    visit (suc f) s rest opened root deep h = elim (stabbable_or_not s root) as (λ _. (later : List Sequence) × IsUnderWay m ts ls a later rest) [
      | inr n ↦ (opened, passes m ts ls a opened s rest h n)
      | inl is ↦ (
          let on : (w : Way) → length ts ≤ length (s.ways ++ w ∷ []) + f = λ w. let e = length-append s.ways (w ∷ []) in omega arith in
          let left = visit f (one_way_on s Left) (one_way_on s Right ∷ rest) (opened ++ s ∷ []) root (on Left) (opens m ts ls a opened s rest h is) in
          visit f (one_way_on s Right) rest left.0 root (on Right) left.1
          )
    ]

    visit_all : (ss : List Side) → ((s : Side) → Contains ss s → Contains (roots m a) s) → (opened : List Sequence) → IsUnderWay m ts ls a opened (map root_alone ss) → (later : List Sequence) × IsUnderWay m ts ls a later []
    visit_all [] within opened h = (opened, h)
    visit_all (s ∷ ss) within opened h =
        let one = visit (length ts) (root_alone s) (map root_alone ss) opened (within s (zero, omega arith, refl)) (omega arith) h in
        visit_all ss (λ t c. within t (contains_tail s t ss c)) one.0 one.1

    module _ (all : List Sequence) (h : IsUnderWay m ts ls a all []) where
      are_all : AreAllOf m ts ls a all
      are_all = record { ascend = h.ascend; exactly = λ s. ((λ c. h.each s c), λ is. all_opened m ts ls a all h s is) }

      place_stands : (s : Sequence) (k : ℕ) → IsStabbableSequence m ts ls a s → HasPlace m ts ls a s k → slice_get all k ≡ Some s
      place_stands s k is place =
          let c = all_opened m ts ls a all h s is in
          let e = get_of_contains all s c.0 c.1 c.2 in
          subst (λ (j : ℕ). slice_get all j ≡ Some s) (one_place m ts ls a s c.0 k (h.places c.0 s e) place) e

      stabs : (s : Sequence) (b : ℕ) → Reaches m ts ls a s b → IsStabbableSequence m ts ls a s
      stabs s b (ps, is, splits, to) = (ps, is, splits)

      found_among : FindsAmongFirst m ts ls a all
      found_among b budget = (
        λ f. (f.1, f.0, place_stands f.0 f.1 (stabs f.0 b f.2) f.3, f.4, f.2),
        λ g. (g.1, g.0, g.4, h.places g.0 g.1 g.2, g.3),
      )

      spent_if_more : SpentIfMore m ts ls a all
      spent_if_more n = (
        λ p. none_beyond m ts ls a all h p.0 n p.1 p.2,
        λ lt. let g = there all n lt in (g.0, h.each g.0 (contains_of_get all g.0 n g.1), h.places n g.0 g.1),
      )
        where
          there : (xs : List Sequence) (k : ℕ) → k < length xs → (x : Sequence) × (slice_get xs k ≡ Some x)
          there [] k lt = absurd (omega arith)
          there (x ∷ xs) zero lt = (x, refl)
          there (x ∷ xs) (suc k) lt = there xs k (omega arith)

      tells_all : AreSequencesInOrder m ts ls a
      tells_all = record {
        all = all;
        are = are_all;
        only = λ others o. same_ascending SequenceBefore before_irreflexive before_asymmetric others all o.ascend h.ascend (λ s c. (are_all.exactly s).1 ((o.exactly s).0 c)) (λ s c. (o.exactly s).1 ((are_all.exactly s).0 c));
        places = λ s k is. (place_stands s k is, h.places k s);
        found = found_among;
        spent = spent_if_more;
        short = few_ways;
      }

    pub in_order : AreSequencesInOrder m ts ls a
    in_order = let v = visit_all (roots m a) (λ s c. c) [] (begins m ts ls a) in tells_all v.0 v.1

pub stand_in_order : (m : Map) (ts : List Triangle) (ls : List (Option ℕ)) (a : ℕ) → IsGoodMesh m ts ls → AreSequencesInOrder m ts ls a
stand_in_order m ts ls a good = in_order m ts ls a good.plain.turn
