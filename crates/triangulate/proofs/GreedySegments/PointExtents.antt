-- Extents of points: how they are made and widened, and what may be passed over by them.
use Rattle.std.proofs.Common.{◌≡◌, ℕ, ◌+◌, ◌/◌, ◌<◌, ◌≤◌, ◌⊎◌, inl, inr, List, [], ◌∷◌, ◌++◌, length, get_or, set, take, add-one, ℤ, ◌≤ℤ◌, ◌<ℤ◌, pos, sym, ap, ◌∙◌, subst, arith}
use Rattle.std.proofs.Math.Seq.{take-suc}
use Rattle.std.proofs.lemmas.Int.{ints}
use Rattle.std.proofs.lemmas.List.{get_or_default, get_or-set_same, get_or-set_other, length-set}
use Rattle.std.proofs.lemmas.Bool.{cases_eq}
use Rattle.sight_names.specs.Map.{Map, map_of}
use Rattle.sight_names.specs.Plan.{PlanParts, IsPlan}
use Rattle.sight_names.proofs.PlanNumbers.{count_of_plan}
use Rattle.sight_names.specs.Points.{points_of, place}
use Rattle.mesh_shape.proofs.Separate.{below_apart, apart_at_ends, common_swapped}
use Rattle.triangulate.specs.declared.incident_segments.segments.Segment.{Segment}
use Rattle.triangulate.specs.declared.greedy_segments.extents.Extent.{Extent}
use Rattle.triangulate.specs.declared.greedy_segments.extents.PairExtent.{PairExtent}
use Rattle.triangulate.specs.IncidentSegments.Incident.{has_end, other_end}
use Rattle.triangulate.specs.IncidentSegments.Neighbours.{IsNeighbour}
use Rattle.triangulate.specs.GreedySegments.Crossed.{SegmentsMeet, MayReach}
use Rattle.triangulate.specs.GreedySegments.Extents.{IsHeightInExtent, IsInExtent, IsWithinExtent, HasNoEnds, AreExtents, AreBlocks, Widens, IsPairExtent, CannotMeet}
use Rattle.triangulate.proofs.IncidentSegments.KeptEdges.{any_segment}
use Rattle.triangulate.proofs.IncidentSegments.Chains.{end_cases, other_from, old_at, new_at}
use Rattle.triangulate.proofs.GreedySegments.Crossed.{edge, other_not_from}
use Rattle.math_base.proofs.Numbers.{below_or_last}
use Rattle.math_base.proofs.Lists.{length_pushed}

-- ---- no segment yet

pub extents_made : (m : Map) (extents : List Extent) → length extents ≡ length (points_of m) → ((u : ℕ) (d : Extent) → u < length extents → HasNoEnds m u (get_or extents u d)) → AreExtents m [] extents
extents_made m extents each none = record {
  each_point = each;
  hub = λ u d lt. (none u d lt).hub;
  ends = λ u v d lt neighbour. absurd (let h = neighbour.1 in omega arith);
}

-- the extents of the first k points
pub record StarsUpTo (m : Map) (k : ℕ) (extents : List Extent) : Type 0 where
  pub count : length extents ≡ k
  pub none : (u : ℕ) (d : Extent) → u < k → HasNoEnds m u (get_or extents u d)

-- ---- one more segment

in_wider : (y : ℤ) (s t : Extent) → IsWithinExtent s t → IsHeightInExtent y s → IsHeightInExtent y t
in_wider y s t h r = (let a = h.low in let b = r.0 in omega (arith, ints), let a = h.high in let b = r.1 in omega (arith, ints))

end_in_wider : (v : ℕ) (y : ℤ) (s t : Extent) → IsWithinExtent s t → IsInExtent v y s → IsInExtent v y t
end_in_wider v y s t h r = (in_wider y s t h r.0, let a = h.last_neighbour in let b = r.1 in omega arith)

-- a neighbour of u in a longer list was one before, or it is the new segment from u
neighbour_grown : (segs : List Segment) (s : Segment) (u v : ℕ) → IsNeighbour (segs ++ s ∷ []) u v → IsNeighbour segs u v ⊎ ((s.from ≡ u) × (v ≡ s.to)) ⊎ ((s.to ≡ u) × (v ≡ s.from))
neighbour_grown segs s u v (k, lt, end, other) = elim (below_or_last k (length segs) (let m = length_pushed segs s in omega arith)) [
  | inl less ↦ inl (k, less, λ d. ap (has_end u) (sym (old_at segs s k d less)) ∙ end d, λ d. other d ∙ ap (other_end u) (old_at segs s k d less))
  | inr same ↦ inr (new_end (cases_eq s.from u) (end_cases u s (ap (has_end u) (sym (new_at segs s any_segment k same)) ∙ end any_segment)) (other any_segment ∙ ap (other_end u) (new_at segs s any_segment k same)))
]
  where
    new_end : (s.from ≡ u) ⊎ (¬ (s.from ≡ u)) → (s.from ≡ u) ⊎ (s.to ≡ u) → v ≡ other_end u s → ((s.from ≡ u) × (v ≡ s.to)) ⊎ ((s.to ≡ u) × (v ≡ s.from))
    new_end (inl e) h o = inl (e, o ∙ other_from u s e)
    new_end (inr n) (inl e) o = absurd (n e)
    new_end (inr n) (inr e) o = inr (e, o ∙ other_not_from u s n)

pub extents_added : (m : Map) (segs : List Segment) (old mid new : List Extent) (from to : ℕ) (y z : ℤ) → AreExtents m segs old → z ≡ (place m from).y → y ≡ (place m to).y → Widens from to y old mid → Widens to from z mid new
    → AreExtents m (segs ++ (record { from = from; to = to }) ∷ []) new
extents_added m segs old mid new from to y z extents at_from at_to first second = record {
  each_point = second.each_point ∙ first.each_point ∙ extents.each_point;
  hub = λ u d lt. in_wider (place m u).y (get_or mid u d) (get_or new u d) (second.kept u d (in_mid u lt)) (in_wider (place m u).y (get_or old u d) (get_or mid u d) (first.kept u d (in_old u lt)) (extents.hub u d (in_old u lt)));
  ends = λ u v d lt neighbour. elim (neighbour_grown segs (record { from = from; to = to }) u v neighbour) [
    | inl h ↦ end_in_wider v (place m v).y (get_or mid u d) (get_or new u d) (second.kept u d (in_mid u lt)) (end_in_wider v (place m v).y (get_or old u d) (get_or mid u d) (first.kept u d (in_old u lt)) (extents.ends u v d (in_old u lt) h))
    | inr (inl h) ↦ end_in_wider v (place m v).y (get_or mid u d) (get_or new u d) (second.kept u d (in_mid u lt))
        (subst (λ (k : ℕ). IsInExtent v (place m v).y (get_or mid k d)) h.0 (subst (λ (k : ℕ). IsInExtent k (place m k).y (get_or mid from d)) (sym h.1) (subst (λ (t : ℤ). IsInExtent to t (get_or mid from d)) at_to (first.covers d))))
    | inr (inr h) ↦ subst (λ (k : ℕ). IsInExtent v (place m v).y (get_or new k d)) h.0 (subst (λ (k : ℕ). IsInExtent k (place m k).y (get_or new to d)) (sym h.1) (subst (λ (t : ℤ). IsInExtent from t (get_or new to d)) at_from (second.covers d)))
  ];
}
  where
    in_mid : (u : ℕ) → u < length new → u < length mid
    in_mid u lt = let e = second.each_point in omega arith

    in_old : (u : ℕ) → u < length new → u < length old
    in_old u lt = let e = second.each_point in let f = first.each_point in omega arith

-- the segments are added one by one
pub extents_taken : (m : Map) (segs items : List Segment) (i : ℕ) (d : Segment) (extents : List Extent) → items ≡ segs → i < length items → AreExtents m (take i segs ++ (record { from = (get_or items i d).from; to = (get_or items i d).to }) ∷ []) extents → AreExtents m (take (i + 1) segs) extents
extents_taken m segs items i d extents e lt h = subst (λ (ss : List Segment). AreExtents m ss extents)
    (ap (λ (xs : List Segment). take i segs ++ (get_or xs i d) ∷ []) e ∙ sym (take-suc segs i d (subst (λ (xs : List Segment). i < length xs) e lt)) ∙ ap (λ (n : ℕ). take n segs) (sym (add-one i))) h

-- ---- an extent set

pub extent_set : (extents : List Extent) (at v : ℕ) (y : ℤ) (s : Extent) → at < length extents → ((d : Extent) → IsWithinExtent (get_or extents at d) s) → IsInExtent v y s → Widens at v y extents (set extents at s)
extent_set extents at v y s lt wider covers = record {
  each_point = length-set extents at s;
  kept = λ u d ul. elim (cases_eq at u) [
    | inl e ↦ subst (λ (k : ℕ). IsWithinExtent (get_or extents k d) (get_or (set extents at s) k d)) e (subst (IsWithinExtent (get_or extents at d)) (sym (get_or-set_same extents at s d lt)) (wider d))
    | inr n ↦ subst (IsWithinExtent (get_or extents u d)) (sym (get_or-set_other extents at u s d (λ e. n (sym e)))) (record { low = omega (arith, ints); high = omega (arith, ints); last_neighbour = omega arith })
  ];
  covers = λ d. subst (IsInExtent v y) (sym (get_or-set_same extents at s d lt)) covers;
}

pub extent_wider : (extents : List Extent) (at v : ℕ) (y : ℤ) (s : Extent) (low high : ℤ) (last_neighbour : ℕ) → at < length extents → s ≡ get_or extents at s → low ≤ℤ s.low → low ≤ℤ y → s.high ≤ℤ high → y ≤ℤ high → s.last_neighbour ≤ last_neighbour → v ≤ last_neighbour
    → Widens at v y extents (set extents at (record { low = low; high = high; last_neighbour = last_neighbour }))
extent_wider extents at v y s low high last_neighbour lt e ls ly hs hy fs fv = extent_set extents at v y (record { low = low; high = high; last_neighbour = last_neighbour }) lt
    (λ d. subst (λ (t : Extent). IsWithinExtent t (record { low = low; high = high; last_neighbour = last_neighbour })) (e ∙ get_or_default extents at s d lt) (record { low = ls; high = hs; last_neighbour = fs })) ((ly, hy), fv)

-- ---- blocks

pub blocks_set : (extents : List Extent) (blocks : List ℕ) (at x : ℕ) (s : Extent) → at < length extents → AreBlocks extents blocks → s.last_neighbour ≤ x → ((e : ℕ) → get_or blocks (at / 32) e ≤ x) → AreBlocks (set extents at s) (set blocks (at / 32) x)
blocks_set extents blocks at x s lt old last_neighbour more = record {
  each_block = λ u h. let a = length-set extents at s in let b = length-set blocks (at / 32) x in let g = old.each_block u (omega arith) in omega arith;
  last_neighbour = λ u e d h. elim (cases_eq (at / 32) (u / 32)) [
    | inl same ↦ subst (λ (k : ℕ). (get_or (set extents at s) u d).last_neighbour ≤ get_or (set blocks (at / 32) x) k e) same (subst (λ (k : ℕ). (get_or (set extents at s) u d).last_neighbour ≤ k) (sym (get_or-set_same blocks (at / 32) x e (old.each_block at lt))) (in_block u d e h same))
    | inr other ↦ subst (λ (k : ℕ). (get_or (set extents at s) u d).last_neighbour ≤ k) (sym (get_or-set_other blocks (at / 32) (u / 32) x e (λ f. other (sym f))))
        (subst (λ (t : Extent). t.last_neighbour ≤ get_or blocks (u / 32) e) (sym (get_or-set_other extents at u s d (λ f. other (ap (λ (k : ℕ). k / 32) (sym f))))) (old.last_neighbour u e d (let a = length-set extents at s in omega arith)))
  ];
}
  where
    in_block : (u : ℕ) (d : Extent) (e : ℕ) → u < length (set extents at s) → at / 32 ≡ u / 32 → (get_or (set extents at s) u d).last_neighbour ≤ x
    in_block u d e h same = elim (cases_eq at u) [
      | inl f ↦ subst (λ (t : Extent). t.last_neighbour ≤ x) (sym (ap (λ (k : ℕ). get_or (set extents at s) k d) (sym f) ∙ get_or-set_same extents at s d lt)) last_neighbour
      | inr n ↦ subst (λ (t : Extent). t.last_neighbour ≤ x) (sym (get_or-set_other extents at u s d (λ f. n (sym f))))
          (let a = length-set extents at s in let g = old.last_neighbour u e d (omega arith) in let b = more e in let c = ap (λ (k : ℕ). get_or blocks k e) same in omega arith)
    ]

-- ---- what may be passed over

pub passed_meets : (m : Map) (segs : List Segment) (extents : List Extent) (i j : ℕ) (t : PairExtent) → IsPairExtent m i j t → AreExtents m segs extents → (w : ℕ) → w < length extents → ((d : Extent) → CannotMeet t w (get_or extents w d)) → MayReach segs i j w → SegmentsMeet m segs w (edge i j)
passed_meets m segs extents i j t pair_extent are w lt passed reach v neighbour = elim (passed any_extent) [
  | inl h ↦ absurd (elim reach [
    | inl le ↦ (let e = pair_extent.from in let g = h.0 in omega arith)
    | inr (x, at, beyond) ↦ (let e = pair_extent.to in let g = h.1 in let k = (are.ends w x any_extent lt at).1 in omega arith)
  ])
  | inr (inl below) ↦ apart_at_ends (place m i) (place m j) (place m w) (place m v) (λ z k. below_apart (place m w) (place m v) (place m i) (place m j) (hub_below below (place m i).y pair_extent.first.0) (hub_below below (place m j).y pair_extent.second.0) (end_below below (place m i).y pair_extent.first.0) (end_below below (place m j).y pair_extent.second.0) z (common_swapped (place m i) (place m j) (place m w) (place m v) z k))
  | inr (inr above) ↦ apart_at_ends (place m i) (place m j) (place m w) (place m v) (λ z k. below_apart (place m i) (place m j) (place m w) (place m v) (hub_above above (place m i).y pair_extent.first.1) (end_above above (place m i).y pair_extent.first.1) (hub_above above (place m j).y pair_extent.second.1) (end_above above (place m j).y pair_extent.second.1) z k)
]
  where
    any_extent : Extent
    any_extent = record { low = pos 0; high = pos 0; last_neighbour = 0 }

    hub_below : (get_or extents w any_extent).high <ℤ t.low → (y : ℤ) → t.low ≤ℤ y → (place m w).y <ℤ y
    hub_below h y le = let g = (are.hub w any_extent lt).1 in omega (arith, ints)

    end_below : (get_or extents w any_extent).high <ℤ t.low → (y : ℤ) → t.low ≤ℤ y → (place m v).y <ℤ y
    end_below h y le = let g = (are.ends w v any_extent lt neighbour).0.1 in omega (arith, ints)

    hub_above : t.high <ℤ (get_or extents w any_extent).low → (y : ℤ) → y ≤ℤ t.high → y <ℤ (place m w).y
    hub_above h y le = let g = (are.hub w any_extent lt).0 in omega (arith, ints)

    end_above : t.high <ℤ (get_or extents w any_extent).low → (y : ℤ) → y ≤ℤ t.high → y <ℤ (place m v).y
    end_above h y le = let g = (are.ends w v any_extent lt neighbour).0.0 in omega (arith, ints)

-- each point up to the pair's second one has an extent
pub has_extent : (p : PlanParts) → IsPlan p → (segs : List Segment) (extents : List Extent) → AreExtents (map_of p) segs extents → (w : ℕ) → w < length p.points → w < length extents
has_extent p is segs extents are w lt = let e = are.each_point in let f = count_of_plan p is in omega arith

-- a point passed over has no segment that may reach the pair, but such as meet it at ends alone
pub passed_over : (p : PlanParts) → IsPlan p → (segs : List Segment) (extents : List Extent) (i j : ℕ) (t : PairExtent) → IsPairExtent (map_of p) i j t → AreExtents (map_of p) segs extents → j < length p.points → (w : ℕ) → w ≤ t.to → ((d : Extent) → CannotMeet t w (get_or extents w d)) → MayReach segs i j w
    → SegmentsMeet (map_of p) segs w (edge i j)
passed_over p is segs extents i j t pair_extent are lt w le passed reach = passed_meets (map_of p) segs extents i j t pair_extent are w (has_extent p is segs extents are w (let e = pair_extent.to in omega arith)) passed reach
