-- The doors of a map: gathered line by line, and found by their sectors.
use Rattle.std.proofs.Common.{◌≡◌, ℕ, zero, suc, ◌+◌, ◌-◌, ◌<◌, ◌≤◌, ◌⊎◌, ◌↔◌, inl, inr, List, [], ◌∷◌, length, slice_get, slice_index_or, get_or, take, drop, Option, Some, None, Bool, true, false, not, refl, sym, ap, ◌∙◌, subst, arith, Contains, map, option_map, option_and_then, IfSome, get_or-take, get_or-drop, length-take, length-drop, ltb}
use Rattle.std.proofs.lemmas.Bool.{ltb-true, ltb-false}
use Rattle.std.proofs.lemmas.Option.{slice_get_within, slice_get-map, get_or_from_slice_get}
use Rattle.std.specs.List.Sorted.{IsPartitionPoint, IsPermutation}
use Rattle.std.proofs.lemmas.List.Sorted.{Contains-permutation, IsPermutation-sym}
use Rattle.sight_names.specs.declared.names.Pt.{Pt}
use Rattle.sight_names.specs.declared.plan.Line.{Line}
use Rattle.sight_names.specs.Plan.{PlanParts, IsPlan}
use Rattle.sight_names.specs.Map.{MapLine, IsMapLine, line_at, looked_up, map_of, sector_on}
use Rattle.sight_names.proofs.Lists.{get_of_contains}
use Rattle.sight_names.proofs.PlanMap.{line_of_plan, plan_is_map}
use Rattle.sound_reach.specs.declared.doors.Door.{Door}
use Rattle.sound_reach.specs.Doors.{AreDoorsAdded, AreDoors, AreDoorsFrom, IsSoundDoor, IsDoorOf, IsDoorStart, sector_beside}
use Rattle.math_base.proofs.Numbers.{below_or_not, below_or_last}
use Rattle.sight_names.proofs.Records.{none_is_no_line}

-- ---- line by line

-- the doors of the lines before n
abbrev pub AreDoorsBelow : PlanParts → List Bool → ℕ → List Door → Type 0
AreDoorsBelow p d n es = (e : Door) → Contains es e ↔ ((e.side.line < n) × IsSoundDoor (map_of p) d e)

plan_line : (points : List Pt) (ls : List (Option Line)) (i : ℕ) (l : Line) → slice_get ls i ≡ Some (Some l) → option_and_then (λ k. k) (slice_get (map (option_map (looked_up points)) ls) i) ≡ Some (looked_up points l)
plan_line points ls i l e = ap (option_and_then (λ (k : Option MapLine). k)) (slice_get-map (option_map (looked_up points)) ls i ∙ ap (option_map (option_map (looked_up points))) e)

side_on : (points : List Pt) (l : Line) (b : Bool) → sector_on (looked_up points l) b ≡ sector_beside l b
side_on points l true = refl
side_on points l false = refl

door_of_line : (p : PlanParts) (d : List Bool) (n : ℕ) (l : Line) (e : Door) → slice_get p.lines n ≡ Some (Some l) → IsDoorOf n l (slice_index_or d n false) e → IsSoundDoor (map_of p) d e
door_of_line p d n l e at door = record {
  leads = (looked_up p.points l, subst (λ (k : ℕ). line_at (map_of p) k ≡ Some (looked_up p.points l)) (sym door.line) (plan_line p.points p.lines n l at), door.passable, side_on p.points l e.side.left ∙ door.from, side_on p.points l (not e.side.left) ∙ door.to);
  damped = door.damped ∙ ap (λ (k : ℕ). slice_index_or d k false) (sym door.line);
}

line_of_door : (p : PlanParts) (d : List Bool) (e : Door) → IsSoundDoor (map_of p) d e → (l : Line) × (slice_get p.lines e.side.line ≡ Some (Some l)) × IsDoorOf e.side.line l (slice_index_or d e.side.line false) e
line_of_door p d e door =
    let w = door.leads in
    let k = line_of_plan p.points p.lines e.side.line w.0 w.1 in (
      k.0,
      k.1,
      record {
        passable = ap (λ (x : MapLine). x.solid) k.2 ∙ w.2;
        line = refl;
        from = sym (side_on p.points k.0 e.side.left) ∙ ap (λ (x : MapLine). sector_on x e.side.left) k.2 ∙ w.3;
        to = sym (side_on p.points k.0 (not e.side.left)) ∙ ap (λ (x : MapLine). sector_on x (not e.side.left)) k.2 ∙ w.4;
        damped = door.damped;
      },
    )

pub line_added : (p : PlanParts) (d : List Bool) (n : ℕ) (l : Line) (blocks : Bool) (old new : List Door) → slice_get p.lines n ≡ Some (Some l) → blocks ≡ slice_index_or d n false → AreDoorsAdded n l blocks old new → AreDoorsBelow p d n old → AreDoorsBelow p d (n + 1) new
line_added p d n l blocks old new at is added h e = (there, back)
  where
    there : Contains new e → (e.side.line < n + 1) × IsSoundDoor (map_of p) d e
    there c = elim ((added e).0 c) as (λ _. (e.side.line < n + 1) × IsSoundDoor (map_of p) d e) [
      | inl k ↦ let w = (h e).0 k in let lt = w.0 in (omega (arith, lt), w.1)
      | inr k ↦ let q = k.line in (omega (arith, q), door_of_line p d n l e at (subst (λ (b : Bool). IsDoorOf n l b e) is k))
    ]

    back : (e.side.line < n + 1) × IsSoundDoor (map_of p) d e → Contains new e
    back w = elim (below_or_last e.side.line n w.0) as (λ _. Contains new e) [
      | inl less ↦ (added e).1 (inl ((h e).1 (less, w.1)))
      | inr same ↦
          let k = line_of_door p d e w.1 in
          let q : k.0 ≡ l = some_line k.0 l (sym k.1 ∙ ap (slice_get p.lines) same ∙ at) in
          (added e).1 (inr (subst (λ (b : Bool). IsDoorOf n l b e) (sym is) (subst (λ (j : ℕ). IsDoorOf j l (slice_index_or d j false) e) same (subst (λ (x : Line). IsDoorOf e.side.line x (slice_index_or d e.side.line false) e) q k.2))))
    ]
      where
        some_line : (l k : Line) → ◌≡◌ {A = Option (Option Line)} (Some (Some l)) (Some (Some k)) → l ≡ k
        some_line l k e = cc

pub none_added : (p : PlanParts) (d : List Bool) (n : ℕ) (es : List Door) → slice_get p.lines n ≡ Some None → AreDoorsBelow p d n es → AreDoorsBelow p d (n + 1) es
none_added p d n es at h e = (λ c. let w = (h e).0 c in let lt = w.0 in (omega (arith, lt), w.1), back)
  where
    back : (e.side.line < n + 1) × IsSoundDoor (map_of p) d e → Contains es e
    back w = elim (below_or_last e.side.line n w.0) as (λ _. Contains es e) [
      | inl less ↦ (h e).1 (less, w.1)
      | inr same ↦ let k = line_of_door p d e w.1 in absurd (none_is_no_line k.0 (sym at ∙ ap (slice_get p.lines) (sym same) ∙ k.1))
    ]

pub all_doors : (p : PlanParts) (d : List Bool) (n : ℕ) (es : List Door) → length p.lines ≤ n → AreDoorsBelow p d n es → AreDoors (map_of p) d es
all_doors p d n es past h e = (λ c. ((h e).0 c).1, λ door. let k = line_of_door p d e door in let lt = slice_get_within p.lines e.side.line (Some k.0) k.1 in (h e).1 (omega (arith, lt, past), door))

pub doors_within : (p : PlanParts) → IsPlan p → (d : List Bool) (es : List Door) → AreDoors (map_of p) d es → (e : Door) → Contains es e → e.to < p.sectors
doors_within p is d es are e c =
    let w = ((are e).0 c).leads in
    let l = plan_is_map p is e.side.line w.0 w.1 in
    at (not e.side.left) w.0 l w.4
  where
    at : (b : Bool) (l : MapLine) → IsMapLine p.sectors l → sector_on l b ≡ Some e.to → e.to < p.sectors
    at true l is f = subst (λ (o : Option ℕ). IfSome o (λ a. a < p.sectors)) f is.left
    at false l is f = subst (λ (o : Option ℕ). IfSome o (λ a. a < p.sectors)) f is.right

-- ---- the doors of one sector

pub start_order : (es : List Door) (c i j : ℕ) → IsDoorStart es c i → IsDoorStart es (c + 1) j → i ≤ j
start_order es c i j s t = elim (either i j) as (λ _. i ≤ j) [
  | inl le ↦ le
  | inr lt ↦ let w = s.within in
      let at = got es j (omega (arith, lt, w)) in
      let x = s.before j at.0 lt at.1 in
      let y = t.from j at.0 (omega arith) at.1 in
      absurd (omega (arith, x, y))
]
  where
    either : (i j : ℕ) → (i ≤ j) ⊎ (j < i)
    either i j = grind arith

    got : (es : List Door) (k : ℕ) → k < length es → (e : Door) × (slice_get es k ≡ Some e)
    got [] k h = absurd (omega (arith, h))
    got (e ∷ es) zero h = (e, refl)
    got (e ∷ es) (suc k) h = got es k (omega (arith, h))

pub start_at : (es : List Door) (c i : ℕ) → i ≤ length es → IsPartitionPoint (λ (e : Door). ltb e.from c ≡ true) (λ (e : Door). ltb e.from c ≡ false) es i → IsDoorStart es c i
start_at es c i le point = record {
  within = le;
  before = λ k e lt at. subst (λ (d : Door). d.from < c) (get_or_from_slice_get es k e e at) (ltb-true _ c (point.0 k e (omega arith) lt));
  from = λ k e ge at. subst (λ (d : Door). c ≤ d.from) (get_or_from_slice_get es k e e at) (ltb-false _ c (point.1 k e ge (slice_get_within es k e at)));
}

pub doors_moved : (p : PlanParts) (d : List Bool) (es fs : List Door) → IsPermutation es fs → AreDoors (map_of p) d es → AreDoors (map_of p) d fs
doors_moved p d es fs moved h e = (λ c. (h e).0 (Contains-permutation fs es e (IsPermutation-sym es fs moved) c), λ c. Contains-permutation es fs e moved ((h e).1 c))

pub doors_between : (es : List Door) (c i j : ℕ) → IsDoorStart es c i → IsDoorStart es (c + 1) j → AreDoorsFrom es c (take (j - i) (drop i es))
doors_between es c i j s t e = (there, back)
  where
    there : Contains (take (j - i) (drop i es)) e → Contains es e × (e.from ≡ c)
    there (k, lt, is) =
        let len = length-take (j - i) (drop i es) in
        let len2 = length-drop i es in
        let less : k < j - i = omega (arith, lt, len) in
        let at : get_or es (i + k) e ≡ e = sym (get_or-drop i es k e) ∙ sym (get_or-take (j - i) (drop i es) k e less) ∙ is in
        let inside : i + k < length es = omega (arith, lt, len, len2) in
        let got = get_of_contains es e (i + k) inside at in
        let low = s.from (i + k) e (omega arith) got in
        let high = t.before (i + k) e (omega (arith, less)) got in
        ((i + k, inside, at), omega (arith, low, high))

    back : Contains es e × (e.from ≡ c) → Contains (take (j - i) (drop i es)) e
    back ((k, lt, at), is) =
        let got = get_of_contains es e k lt at in
        elim (below_or_not k i) as (λ _. Contains (take (j - i) (drop i es)) e) [
          | inl less ↦ let low = s.before k e less got in absurd (omega (arith, low, is))
          | inr ge ↦ elim (below_or_not k j) as (λ _. Contains (take (j - i) (drop i es)) e) [
            | inr far ↦ let high = t.from k e far got in absurd (omega (arith, high, is))
            | inl near ↦
                let w = t.within in
                let len = length-take (j - i) (drop i es) in
                let len2 = length-drop i es in
                let less : k - i < j - i = omega (arith, ge, near) in
                let same : i + (k - i) ≡ k = omega (arith, ge) in
                (k - i, omega (arith, ge, near, w, len, len2), get_or-take (j - i) (drop i es) (k - i) e less ∙ get_or-drop i es (k - i) e ∙ ap (λ n. get_or es n e) same ∙ at)
          ]
        ]
