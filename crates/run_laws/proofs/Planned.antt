-- Lumps that pass each check spell the map of a plan.
use Rattle.std.proofs.Common.{◌≡◌, ℕ, zero, suc, ◌+◌, ◌/◌, ◌%◌, ◌<◌, ◌≤◌, List, [], ◌∷◌, length, slice_index_or, get_or, Contains, Option, Some, None, Bool, true, false, ◌==◌, not, nat_lt, refl, sym, ap, ◌∙◌, subst, arith, map, option_map, filter_map, zero-add}
use Rattle.std.specs.Prelude.{position, unwrap_or}
use Rattle.std.proofs.lemmas.List.{length-map}
use Rattle.std.proofs.lemmas.Option.{none-some, slice_get-get_or}
use Rattle.sight_names.specs.declared.names.Pt.{Pt}
use Rattle.sight_names.specs.declared.names.Reading.{Reading}
use Rattle.sight_names.specs.declared.plan.Line.{Line}
use Rattle.sight_names.specs.declared.faults.LumpFault.{LumpFault}
use Rattle.sight_names.specs.declared.limits.TheConstants.{LARGE_LINES, LARGE_POINTS}
use Rattle.sight_names.specs.Limits.{most_lines, most_points, most_sectors}
use Rattle.sight_names.specs.Lumps.{count_linedefs, lump_fault_if, first_lump_fault, line_fault, linedef, linedef_len, lines_fault, lump_fault, map_of_lumps, numbers_below, numbers_from, vertex_len}
use Rattle.sight_names.specs.Map.{IsMap, Map, MapLine, looked_up, map_of, origin}
use Rattle.sight_names.specs.Plan.{IsPlan, PlanParts}
use Rattle.sight_names.specs.Points.{ends_of_lines, points_of, pt_eq}
use Rattle.sight_names.proofs.Lists.{contains_tail}
use Rattle.sight_names.proofs.PlanNumbers.{number_at}
use Rattle.sight_names.proofs.PlanPoints.{before_irreflexive, in_order_from, in_order_has, index_any}
use Rattle.sight_names.specs.Plan.{IsBefore}
use Rattle.map_lumps.specs.Answers.{PassesChecks}
use Rattle.map_lumps.specs.Records.{EndsBelow, ArePointsInOrder}
use Rattle.map_lumps.proofs.Assembling.{is_plan}
use Rattle.map_lumps.proofs.Numbering.{in_order_is}
use Rattle.map_lumps.proofs.WholeMap.{lumps_are_map, within_lines, within_points}
use Rattle.math_base.proofs.Lists.{contains_here}
use Rattle.map_answers.proofs.Linedefs.{length_numbers}

-- the map is that of a plan
pub record HasPlan (m : Map) : Type 0 where
  pub parts : PlanParts
  pub is_plan : IsPlan parts
  pub is : map_of parts ≡ m

-- ---- lines between the numbers of points

abbrev number_in : List Pt → Pt → ℕ
number_in ps e = unwrap_or (position (pt_eq e) ps) (length ps)

abbrev numbered : List Pt → MapLine → Line
numbered ps l = record { a = number_in ps l.first; b = number_in ps l.second; solid = l.solid; right = l.right; left = l.left }

abbrev numbered_lines : List Pt → List (Option MapLine) → List (Option Line)
numbered_lines ps ls = map (option_map (numbered ps)) ls

abbrev ends : List (Option MapLine) → List Pt
ends ls = ends_of_lines (filter_map (λ l. l) ls)

some_some : (a b : Line) → ◌≡◌ {A = Option (Option Line)} (Some (Some a)) (Some (Some b)) → a ≡ b
some_some a b e = cc

module _ (ps : List Pt) (order : ArePointsInOrder ps) where
  -- a point that is there stands at its number
  at_number : (e : Pt) → Contains ps e → (slice_index_or ps (number_in ps e) origin ≡ e) × (number_in ps e < length ps)
  at_number e c =
      let here : slice_index_or ps c.0 origin ≡ e = index_any ps c.0 origin e c.1 ∙ c.2 in
      let is : number_in ps e ≡ c.0 = ap (number_in ps) (sym here) ∙ number_at ps c.0 c.1 (λ j lt same.
      before_irreflexive (get_or ps c.0 origin)
      (subst (λ (z : Pt). IsBefore z (get_or ps c.0 origin)) same
      (order.ascend j c.0 (get_or ps j origin) (get_or ps c.0 origin) lt (slice_get-get_or ps j origin (let low : c.0 < length ps = c.1 in omega (arith, lt, low))) (slice_get-get_or ps c.0 origin c.1)))) in
      (ap (λ (k : ℕ). slice_index_or ps k origin) is ∙ here, subst (λ (k : ℕ). k < length ps) (sym is) c.1)

  looked : (l : MapLine) → Contains ps l.first → Contains ps l.second → looked_up ps (numbered ps l) ≡ l
  looked l first second = let a = (at_number l.first first).0 in let b = (at_number l.second second).0 in (λ i. record { first = a i; second = b i; solid = l.solid; right = l.right; left = l.left })

  looked_lines : (ls : List (Option MapLine)) → ((e : Pt) → Contains (ends ls) e → Contains ps e) → map (option_map (looked_up ps)) (numbered_lines ps ls) ≡ ls
  looked_lines [] among = refl
  looked_lines (None ∷ ls) among = ap (λ (xs : List (Option MapLine)). None ∷ xs) (looked_lines ls among)
  looked_lines (Some l ∷ ls) among =
      let here = looked l (among l.first (contains_here l.first (l.second ∷ ends ls))) (among l.second (contains_tail l.first l.second (l.second ∷ ends ls) (contains_here l.second (ends ls)))) in
      let rest = looked_lines ls (λ e c. among e (contains_tail l.first e (l.second ∷ ends ls) (contains_tail l.second e (ends ls) c))) in
      (λ i. Some (here i) ∷ rest i)

  below : (ls : List (Option MapLine)) → ((e : Pt) → Contains (ends ls) e → Contains ps e) → EndsBelow (length ps) (numbered_lines ps ls)
  below [] among i l e = absurd (none-some (Some l) e)
  below (None ∷ ls) among zero l e = absurd (no e)
    where
      no : ◌≡◌ {A = Option (Option Line)} (Some None) (Some (Some l)) → ⊥
      no e = cc
  below (None ∷ ls) among (suc i) l e = below ls among i l e
  below (Some k ∷ ls) among zero l e =
      let same : numbered ps k ≡ l = some_some (numbered ps k) l e in
      let first = (at_number k.first (among k.first (contains_here k.first (k.second ∷ ends ls)))).1 in
      let second = (at_number k.second (among k.second (contains_tail k.first k.second (k.second ∷ ends ls) (contains_here k.second (ends ls))))).1 in
      subst (λ (x : Line). (x.a < length ps) × (x.b < length ps)) same (first, second)
  below (Some k ∷ ls) among (suc i) l e = below ls (λ x c. among x (contains_tail k.first x (k.second ∷ ends ls) (contains_tail k.second x (ends ls) c))) i l e

-- ---- the plan of a map

abbrev plan_over : Map → PlanParts
plan_over m = record { sectors = m.sectors; points = points_of m; lines = numbered_lines (points_of m) m.lines }

points_ordered : (m : Map) → ArePointsInOrder (points_of m)
unfolding points_of
points_ordered m = in_order_is (ends m.lines)

ends_there : (m : Map) (e : Pt) → Contains (ends m.lines) e → Contains (points_of m) e
unfolding points_of
ends_there m e c = in_order_has (ends m.lines) e c

ends_alone : (m : Map) (e : Pt) → Contains (points_of m) e → Contains (ends m.lines) e
unfolding points_of
ends_alone m e c = in_order_from (ends m.lines) e c

pub map_has_plan : (m : Map) → IsMap m → length (points_of m) ≤ LARGE_POINTS → length m.lines ≤ LARGE_LINES → HasPlan m
map_has_plan m is few_points few_lines =
    let lines : map (option_map (looked_up (points_of m))) (numbered_lines (points_of m) m.lines) ≡ m.lines = looked_lines (points_of m) (points_ordered m) m.lines (ends_there m) in
    let same : map_of (plan_over m) ≡ m = ap (λ (ls : List (Option MapLine)). record { sectors = m.sectors; lines = ls }) lines in
    let count : length (numbered_lines (points_of m) m.lines) ≡ length m.lines = length-map m.lines (option_map (numbered (points_of m))) in
    record {
      parts = plan_over m;
      is_plan = is_plan (plan_over m) (subst IsMap (sym same) is) few_points (omega (arith, count, few_lines)) (points_ordered m)
          (λ e c. subst (λ (ls : List (Option MapLine)). Contains (ends ls) e) (sym lines) (ends_alone m e c)) (below (points_of m) (points_ordered m) m.lines (ends_there m));
      is = same;
    }

-- ---- lumps that pass

passes_if : (b : Bool) (f : LumpFault) (rest : Option LumpFault) → lump_fault_if b f rest ≡ None → (b ≡ false) × (rest ≡ None)
passes_if false f rest e = (refl, e)
passes_if true f rest e = absurd (no e)
  where
    no : ◌≡◌ {A = Option LumpFault} (Some f) None → ⊥
    no e = cc

passes_first : (one rest : Option LumpFault) → first_lump_fault one rest ≡ None → (one ≡ None) × (rest ≡ None)
passes_first None rest e = (refl, e)
passes_first (Some f) rest e = absurd (no e)
  where
    no : ◌≡◌ {A = Option LumpFault} (Some f) None → ⊥
    no e = cc

passes_lines : (fault : ℕ → Option LumpFault) (k n : ℕ) (rest : Option LumpFault) → lines_fault fault (numbers_from k n) rest ≡ None → ((i : ℕ) → i < n → fault (k + i) ≡ None) × (rest ≡ None)
passes_lines fault k zero rest e = ((λ i lt. absurd (omega (arith, lt))), e)
passes_lines fault k (suc n) rest e =
    let here = passes_first (fault k) (lines_fault fault (numbers_from (k + 1) n) rest) e in
    let more = passes_lines fault (k + 1) n rest here.1 in
    (each here.0 more.0, more.1)
  where
    each : fault k ≡ None → ((i : ℕ) → i < n → fault (k + 1 + i) ≡ None) → (i : ℕ) → i < suc n → fault (k + i) ≡ None
    each one others zero lt = let same : k + 0 ≡ k = omega arith in ap fault same ∙ one
    each one others (suc i) lt = let same : k + suc i ≡ k + 1 + i = omega arith in ap fault same ∙ others i (omega (arith, lt))

no_rest : (n : ℕ) → not (n == 0) ≡ false → n ≡ 0
no_rest n h = grind arith

not_more : (m n : ℕ) → nat_lt m n ≡ false → n ≤ m
not_more m n h = grind arith

module _ (reading : Reading) (linedefs sidedefs vertexes sectors : List ℕ) where
  record Passed : Type 0 where
    passes : PassesChecks reading linedefs sidedefs vertexes sectors
    few_points : length (points_of (map_of_lumps reading.format linedefs sidedefs vertexes sectors)) ≤ most_points reading.large

  passed : lump_fault reading linedefs sidedefs vertexes sectors ≡ None → Passed
  unfolding lump_fault
  passed e =
      let a = passes_if (not (length linedefs % linedef_len reading.format == 0)) _ _ e in
      let b = passes_if (not (length sidedefs % 30 == 0)) _ _ a.1 in
      let c = passes_if (not (length vertexes % vertex_len reading.format == 0)) _ _ b.1 in
      let d = passes_if (not (length sectors % 26 == 0)) _ _ c.1 in
      let s = passes_if (nat_lt (most_sectors reading.large) (length sectors / 26)) _ _ d.1 in
      let l = passes_if (nat_lt (most_lines reading.large) (count_linedefs reading.format linedefs)) _ _ s.1 in
      let each = passes_lines (line_fault reading.format linedefs sidedefs vertexes sectors) 0 (count_linedefs reading.format linedefs) _ l.1 in
      let p = passes_if (nat_lt (most_points reading.large) (length (points_of (map_of_lumps reading.format linedefs sidedefs vertexes sectors)))) _ _ each.1 in
      record {
        passes = record {
          whole_linedefs = no_rest (length linedefs % linedef_len reading.format) a.0;
          whole_sidedefs = no_rest (length sidedefs % 30) b.0;
          whole_vertexes = no_rest (length vertexes % vertex_len reading.format) c.0;
          whole_sectors = no_rest (length sectors % 26) d.0;
          few_sectors = not_more (most_sectors reading.large) (length sectors / 26) s.0;
          few_lines = not_more (most_lines reading.large) (count_linedefs reading.format linedefs) l.0;
          each = λ k lt. subst (λ (j : ℕ). line_fault reading.format linedefs sidedefs vertexes sectors j ≡ None) (zero-add k) (each.0 k lt);
        };
        few_points = not_more (most_points reading.large) _ p.0;
      }

  line_count : length (map_of_lumps reading.format linedefs sidedefs vertexes sectors).lines ≡ count_linedefs reading.format linedefs
  unfolding map_of_lumps
  line_count = length-map (numbers_below (count_linedefs reading.format linedefs)) (linedef reading.format linedefs sidedefs vertexes) ∙ length_numbers 0 (count_linedefs reading.format linedefs)

  pub lumps_have_plan : lump_fault reading linedefs sidedefs vertexes sectors ≡ None → HasPlan (map_of_lumps reading.format linedefs sidedefs vertexes sectors)
  lumps_have_plan e =
      let h = passed e in
      let few : count_linedefs reading.format linedefs ≤ most_lines reading.large = h.passes.few_lines in
      let count = line_count in
      map_has_plan (map_of_lumps reading.format linedefs sidedefs vertexes sectors) (lumps_are_map reading linedefs sidedefs vertexes sectors h.passes)
      (within_points reading.large _ h.few_points) (within_lines reading.large _ (omega (arith, few, count)))
