-- The plan of points in order and of lines between their numbers is a plan of the map.
use Rattle.std.proofs.Common.{◌≡◌, ℕ, zero, suc, ◌+◌, ◌<◌, ◌≤◌, ◌⊎◌, inl, inr, List, [], ◌∷◌, ◌++◌, length, take, slice_get, slice_index_or, Contains, Option, Some, None, IfSome, sym, ap, ap₂, ◌∙◌, subst, arith, map, option_map, option_and_then}
use Rattle.std.proofs.lemmas.List.{take_more}
use Rattle.sight_names.specs.declared.limits.TheConstants.{LARGE_LINES, LARGE_POINTS}
use Rattle.sight_names.specs.declared.names.Pt.{Pt}
use Rattle.sight_names.specs.declared.plan.Line.{Line}
use Rattle.sight_names.specs.Plan.{PlanParts, IsPlan, IsPlanLine, IsBefore}
use Rattle.sight_names.specs.Map.{MapLine, map_of, looked_up, origin, IsMap, IsMapLine}
use Rattle.sight_names.proofs.Lists.{contains_tail, contains_cases}
use Rattle.sight_names.proofs.PlanPoints.{before_irreflexive, the_ends, IsEnd, at, ends_from, get_in}
use Rattle.sight_names.proofs.PlanMap.{get_at}
use Rattle.map_lumps.specs.declared.records.PlacedLine.{PlacedLine}
use Rattle.map_lumps.specs.Records.{placed_ends, EndsBelow, ArePointsInOrder}
use Rattle.math_base.proofs.Numbers.{same_below_or_above}
use Rattle.math_base.proofs.Lists.{map_pushed, contains_none, contains_here}

-- ---- one line more

-- a list that goes along another, one further
pub mapped_take_more : {X Y Z : Type 0} (f : X → Z) (g : Y → Z) (xs : List X) (ys : List Y) (x : X) (d : Y) (i : ℕ) → i < length ys → map f xs ≡ map g (take i ys) → f x ≡ g (slice_index_or ys i d) → map f (xs ++ x ∷ []) ≡ map g (take (i + 1) ys)
mapped_take_more f g xs ys x d i l h e =
    map_pushed f xs x ∙ ap₂ (λ zs z. zs ++ z ∷ []) h e ∙ sym (map_pushed g (take i ys) (slice_index_or ys i d)) ∙ ap (map g) (sym (take_more ys i d l))

pub ends_below_push : (n : ℕ) (ls : List (Option Line)) (o : Option Line) → EndsBelow n ls → IfSome o (λ l. (l.a < n) × (l.b < n)) → EndsBelow n (ls ++ o ∷ [])
ends_below_push n [] None h k zero l e = absurd (no e)
  where
    no : ◌≡◌ {A = Option (Option Line)} (Some None) (Some (Some l)) → ⊥
    no e = cc
ends_below_push n [] (Some m) h k zero l e = let q : m ≡ l = cc in subst (λ (x : Line). (x.a < n) × (x.b < n)) q k
ends_below_push n [] o h k (suc i) l e = absurd (no e)
  where
    no : ◌≡◌ {A = Option (Option Line)} None (Some (Some l)) → ⊥
    no e = cc
ends_below_push n (m ∷ ls) o h k zero l e = h zero l e
ends_below_push n (m ∷ ls) o h k (suc i) l e = ends_below_push n ls o (λ j x q. h (suc j) x q) k i l e

contains_front : {X : Type 0} (xs ys : List X) (e : X) → Contains xs e → Contains (xs ++ ys) e
contains_front [] ys e c = absurd (contains_none e c)
contains_front (x ∷ xs) ys e c = elim (contains_cases x e xs c) [ inl q ↦ subst (λ z. Contains (x ∷ (xs ++ ys)) z) q (contains_here x (xs ++ ys)) | inr k ↦ contains_tail x e (xs ++ ys) (contains_front xs ys e k) ]

-- the ends of one line are ends of the lines
pub ends_of_entry : (lines : List (Option PlacedLine)) (i : ℕ) (o : Option PlacedLine) (p : Pt) → i < length lines → Contains (placed_ends (slice_index_or lines i o ∷ [])) p → Contains (placed_ends lines) p
ends_of_entry [] i o p l c = absurd (omega arith)
ends_of_entry (None ∷ lines) zero o p l c = absurd (contains_none p c)
ends_of_entry (Some m ∷ lines) zero o p l c = contains_front (m.first ∷ m.second ∷ []) (placed_ends lines) p c
ends_of_entry (None ∷ lines) (suc i) o p l c = ends_of_entry lines i o p (omega arith) c
ends_of_entry (Some m ∷ lines) (suc i) o p l c = contains_tail m.first p (m.second ∷ placed_ends lines) (contains_tail m.second p (placed_ends lines) (ends_of_entry lines i o p (omega arith) c))

-- ---- the invariant of the plan

line_at_plan : (points : List Pt) (ls : List (Option Line)) (i : ℕ) (l : Line) → slice_get ls i ≡ Some (Some l) → option_and_then (λ (o : Option MapLine). o) (slice_get (map (option_map (looked_up points)) ls) i) ≡ Some (looked_up points l)
line_at_plan points [] i l e = absurd (no e)
  where
    no : ◌≡◌ {A = Option (Option Line)} None (Some (Some l)) → ⊥
    no e = cc
line_at_plan points (o ∷ ls) zero l e = let q : o ≡ Some l = cc in ap (λ (x : Option Line). option_and_then (λ (y : Option MapLine). y) (Some (option_map (looked_up points) x))) q
line_at_plan points (o ∷ ls) (suc i) l e = line_at_plan points ls i l e

-- points in order at two places that are one point are at one place
same_place : (points : List Pt) → ArePointsInOrder points → (i j : ℕ) → i < length points → j < length points → slice_index_or points i origin ≡ slice_index_or points j origin → i ≡ j
same_place points h i j hi hj e = elim (same_below_or_above i j) [
  | inl same ↦ same
  | inr differ ↦ elim differ [
    | inl lt ↦ absurd (before_irreflexive (at points j) (subst (λ (z : Pt). IsBefore z (at points j)) e (h.ascend i j _ _ lt (get_at points i hi) (get_at points j hj))))
    | inr lt ↦ absurd (before_irreflexive (at points j) (subst (λ (z : Pt). IsBefore (at points j) z) e (h.ascend j i _ _ lt (get_at points j hj) (get_at points i hi))))
  ]
]

-- the parts of a map's plan, its points in order, keep the invariant
pub is_plan : (p : PlanParts) → IsMap (map_of p) → length p.points ≤ LARGE_POINTS → length p.lines ≤ LARGE_LINES → ArePointsInOrder p.points → ((e : Pt) → Contains p.points e → Contains (the_ends p.points p.lines) e) → EndsBelow (length p.points) p.lines → IsPlan p
is_plan p m few_points few_lines order among below = record {
  few_points = few_points;
  few_lines = few_lines;
  ascend = order.ascend;
  used = λ k h. end_at k h (ends_from p.points p.lines (at p.points k) (among (at p.points k) (get_in p.points k h)));
  each = λ i l e. line i l e (below i l e) (m i (looked_up p.points l) (line_at_plan p.points p.lines i l e));
}
  where
    end_at : (k : ℕ) → k < length p.points → IsEnd p.points p.lines (at p.points k) → (i : ℕ) × (l : Line) × (slice_get p.lines i ≡ Some (Some l)) × ((l.a ≡ k) ⊎ (l.b ≡ k))
    end_at k h (i, l, e, q) = (
      i,
      l,
      e,
      elim q [ inl a ↦ inl (same_place p.points order l.a k (below i l e).0 h a) | inr b ↦ inr (same_place p.points order l.b k (below i l e).1 h b) ],
    )

    line : (i : ℕ) (l : Line) → slice_get p.lines i ≡ Some (Some l) → (l.a < length p.points) × (l.b < length p.points) → IsMapLine p.sectors (looked_up p.points l) → IsPlanLine p.sectors (length p.points) l
    line i l e b h = record {
      first = b.0;
      second = b.1;
      differ = λ same. h.differ (ap (at p.points) same);
      right = h.right;
      left = h.left;
      solid_right = h.solid_right;
      solid_left = h.solid_left;
    }
