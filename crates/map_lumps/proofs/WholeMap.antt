-- The lines that sound records spell are a map, and the plan that is made of them stands for it.
use Rattle.std.proofs.Common.{◌≡◌, ◌≢◌, ℕ, zero, suc, ◌+◌, ◌*◌, ◌/◌, ◌<◌, ◌≤◌, List, length, slice_get, Contains, Option, Some, None, IfSome, Bool, true, false, ◌==◌, ◌&&◌, ◌||◌, not, cond, is_none, nat_lt, nat_le, IsTrue, refl, sym, ap, ◌∙◌, subst, arith, map, option_map, option_and_then, filter_map, zero-add}
use Rattle.std.specs.Int.{bit_at}
use Rattle.std.proofs.lemmas.List.{length-map}
use Rattle.sight_names.specs.declared.names.Pt.{Pt}
use Rattle.sight_names.specs.declared.plan.Line.{Line}
use Rattle.sight_names.specs.declared.faults.LumpFault.{LumpFault}
use Rattle.sight_names.specs.declared.faults.LumpFault.TheVariants.{BadVertex, BadSide, BadSector, TooManyPoints}
use Rattle.sight_names.specs.Plan.{PlanParts, IsPlan}
use Rattle.sight_names.specs.Map.{MapLine, map_of, looked_up, IsMap, IsMapLine}
use Rattle.sight_names.specs.Points.{points_of, in_order, ends_of_lines, pt_eq}
use Rattle.sight_names.specs.declared.limits.TheConstants.{LARGE_LINES, LARGE_POINTS}
use Rattle.sight_names.specs.declared.names.Reading.{Reading}
use Rattle.sight_names.specs.Limits.{most_lines, most_points}
use Rattle.sight_names.specs.Lumps.{linedef_len, right_at, left_at, count_linedefs, numbers_from, numbers_below, linedef, line_fault, lump_fault, lump_fault_if, map_of_lumps, vertex, side_sector, u16_at, is_bad_sector}
use Rattle.sight_names.proofs.PlanPoints.{in_order_from, in_order_has}
use Rattle.map_lumps.specs.declared.records.PlacedLine.{PlacedLine}
use Rattle.map_lumps.specs.Records.{as_map_line, placed_ends, EndsAmong, EndsBelow, ArePointsInOrder}
use Rattle.map_lumps.specs.Answers.{PassesChecks}
use Rattle.map_lumps.proofs.Checking.{points_left}
use Rattle.map_lumps.proofs.Numbering.{pt_eq_equiv, in_order_is}
use Rattle.map_lumps.proofs.Assembling.{is_plan}
use Rattle.math_base.proofs.Bools.{not_both_values}

-- ---- the larger limits

-- what is within the limits is within the larger ones
pub within_points : (large : Bool) (n : ℕ) → n ≤ most_points large → n ≤ LARGE_POINTS
within_points true n h = h
within_points false n h = omega (arith, h)

pub within_lines : (large : Bool) (n : ℕ) → n ≤ most_lines large → n ≤ LARGE_LINES
within_lines true n h = h
within_lines false n h = omega (arith, h)

-- ---- a sound record

four_pass : (a b c d : Bool) (p q r s : LumpFault) → lump_fault_if a p (lump_fault_if b q (lump_fault_if c r (lump_fault_if d s None))) ≡ None → (a ≡ false) × (b ≡ false) × (c ≡ false) × (d ≡ false)
four_pass false false false false p q r s e = (refl, refl, refl, refl)
four_pass true b c d p q r s e = absurd (no e)
  where
    no : ◌≡◌ {A = Option LumpFault} (Some p) None → ⊥
    no e = cc
four_pass false true c d p q r s e = absurd (no e)
  where
    no : ◌≡◌ {A = Option LumpFault} (Some q) None → ⊥
    no e = cc
four_pass false false true d p q r s e = absurd (no e)
  where
    no : ◌≡◌ {A = Option LumpFault} (Some r) None → ⊥
    no e = cc
four_pass false false false true p q r s e = absurd (no e)
  where
    no : ◌≡◌ {A = Option LumpFault} (Some s) None → ⊥
    no e = cc

named_below : (b : Bool) (x n : ℕ) → (not b && nat_le n x) ≡ false → IfSome (cond b None (Some x)) (λ a. a < n)
named_below true x n h = tt
named_below false x n h = below x n h
  where
    below : (x n : ℕ) → nat_le n x ≡ false → x < n
    below x n h = grind arith

solid_of_right : (c : Bool) (r l : Option ℕ) → r ≡ None → IsTrue (c || is_none r || is_none l)
solid_of_right true r l e = refl
solid_of_right false None l e = refl
solid_of_right false (Some x) l e = absurd (no e)
  where
    no : ◌≡◌ {A = Option ℕ} (Some x) None → ⊥
    no e = cc

solid_of_left : (c : Bool) (r l : Option ℕ) → l ≡ None → IsTrue (c || is_none r || is_none l)
solid_of_left true r l e = refl
solid_of_left false None l e = refl
solid_of_left false (Some x) None e = refl
solid_of_left false (Some x) (Some y) e = absurd (no e)
  where
    no : ◌≡◌ {A = Option ℕ} (Some y) None → ⊥
    no e = cc

differ_of : (p q : Pt) → pt_eq p q ≡ false → p ≢ q
differ_of p q h e = not_both_values _ (pt_eq_equiv.refl p) (subst (λ (z : Pt). pt_eq p z ≡ false) (sym e) h)

module _ (reading : Reading) (linedefs sidedefs vertexes sectors : List ℕ) where
  sound_line : (k : ℕ) (l : MapLine) → line_fault reading.format linedefs sidedefs vertexes sectors k ≡ None → linedef reading.format linedefs sidedefs vertexes k ≡ Some l → IsMapLine (length sectors / 26) l
  sound_line k l pass e =
      let first = vertex reading.format vertexes (u16_at linedefs (linedef_len reading.format * k)) in
      let second = vertex reading.format vertexes (u16_at linedefs (linedef_len reading.format * k + 2)) in
      let r = u16_at linedefs (linedef_len reading.format * k + right_at reading.format) in
      let s = u16_at linedefs (linedef_len reading.format * k + left_at reading.format) in
      let passed = four_pass _ _ (is_bad_sector sidedefs sectors r) (is_bad_sector sidedefs sectors s) (BadVertex k) (BadSide k) (BadSector r) (BadSector s) pass in
      go (pt_eq first second) _ l (λ differ. record {
        differ = differ_of first second differ;
        right = named_below (r == 65535) (u16_at sidedefs (30 * r + 28)) (length sectors / 26) passed.2;
        left = named_below (s == 65535) (u16_at sidedefs (30 * s + 28)) (length sectors / 26) passed.3;
        solid_right = solid_of_right (not (bit_at (u16_at linedefs (linedef_len reading.format * k + 4)) 2 == 1)) (side_sector sidedefs r) (side_sector sidedefs s);
        solid_left = solid_of_left (not (bit_at (u16_at linedefs (linedef_len reading.format * k + 4)) 2 == 1)) (side_sector sidedefs r) (side_sector sidedefs s);
      }) e
    where
      go : (b : Bool) (m l : MapLine) → (b ≡ false → IsMapLine (length sectors / 26) m) → cond b None (Some m) ≡ Some l → IsMapLine (length sectors / 26) l
      go true m l h e = absurd (no e)
        where
          no : ◌≡◌ {A = Option MapLine} None (Some l) → ⊥
          no e = cc
      go false m l h e = let q : m ≡ l = cc in subst (IsMapLine (length sectors / 26)) q (h refl)

  got : (f : ℕ → Option MapLine) (k n i : ℕ) (l : MapLine) → option_and_then (λ o. o) (slice_get (map f (numbers_from k n)) i) ≡ Some l → (i < n) × (f (k + i) ≡ Some l)
  got f k zero i l e = absurd (no e)
    where
      no : ◌≡◌ {A = Option MapLine} None (Some l) → ⊥
      no e = cc
  got f k (suc n) zero l e = (omega arith, subst (λ (j : ℕ). f j ≡ Some l) (omega arith) e)
  got f k (suc n) (suc i) l e = let h = got f (k + 1) n i l e in (omega arith, subst (λ (j : ℕ). f j ≡ Some l) (omega arith) h.1)

  -- the lumps spell a map where each record is sound
  pub lumps_are_map : PassesChecks reading linedefs sidedefs vertexes sectors → IsMap (map_of_lumps reading.format linedefs sidedefs vertexes sectors)
  unfolding map_of_lumps
  lumps_are_map h i l e = let g = got (linedef reading.format linedefs sidedefs vertexes) 0 (count_linedefs reading.format linedefs) i l e in
      sound_line i l (h.each i g.0) (subst (λ (j : ℕ). linedef reading.format linedefs sidedefs vertexes j ≡ Some l) (zero-add i) g.1)

  module _ (placed : List (Option PlacedLine)) (points : List Pt) (same : map (option_map as_map_line) placed ≡ map (linedef reading.format linedefs sidedefs vertexes) (numbers_below (count_linedefs reading.format linedefs))) (are : points ≡ in_order (placed_ends placed)) where
    pub points_are : points_of (map_of_lumps reading.format linedefs sidedefs vertexes sectors) ≡ points
    unfolding map_of_lumps points_of
    points_are = ap (λ (ls : List (Option MapLine)). in_order (ends_of_lines (filter_map (λ l. l) ls))) (sym same) ∙ sym are

    pub ends_among : EndsAmong points placed
    ends_among p there = subst (λ (ps : List Pt). Contains ps p) (sym are) (in_order_has (placed_ends placed) p there)

    pub points_in_order : ArePointsInOrder points
    points_in_order = subst ArePointsInOrder (sym are) (in_order_is (placed_ends placed))

    pub fault_left : PassesChecks reading linedefs sidedefs vertexes sectors → lump_fault reading linedefs sidedefs vertexes sectors ≡ lump_fault_if (nat_lt (most_points reading.large) (length points)) (TooManyPoints (length points)) None
    fault_left h = points_left reading linedefs sidedefs vertexes sectors h ∙ ap (λ (ps : List Pt). lump_fault_if (nat_lt (most_points reading.large) (length ps)) (TooManyPoints (length ps)) None) points_are

    module _ (lines : List (Option Line)) (looked : map (option_map (looked_up points)) lines ≡ map (option_map as_map_line) placed) where
      abbrev parts : PlanParts
      parts = record { sectors = length sectors / 26; points = points; lines = lines }

      pub map_is : map_of parts ≡ map_of_lumps reading.format linedefs sidedefs vertexes sectors
      unfolding map_of_lumps
      map_is = ap (λ (ls : List (Option MapLine)). record { sectors = length sectors / 26; lines = ls }) (looked ∙ same)

      len_is : length lines ≡ count_linedefs reading.format linedefs
      len_is = sym (length-map lines (option_map (looked_up points))) ∙ ap length (looked ∙ same) ∙ length-map (numbers_below (count_linedefs reading.format linedefs)) (linedef reading.format linedefs sidedefs vertexes) ∙ length_numbers 0 (count_linedefs reading.format linedefs)
        where
          length_numbers : (k n : ℕ) → length (numbers_from k n) ≡ n
          length_numbers k zero = refl
          length_numbers k (suc n) = ap suc (length_numbers (k + 1) n)

      pub plan_is : PassesChecks reading linedefs sidedefs vertexes sectors → length points ≤ most_points reading.large → EndsBelow (length points) lines → IsPlan parts
      plan_is h few below = is_plan parts (subst IsMap (sym map_is) (lumps_are_map h)) (within_points reading.large (length points) few) (within_lines reading.large (length lines) (omega (arith, len_is, h.few_lines))) points_in_order
          (λ e c. subst (λ (ps : List Pt). Contains ps e) (sym (ap (λ (ls : List (Option MapLine)). ends_of_lines (filter_map (λ l. l) ls)) looked)) (in_order_from (placed_ends placed) e (subst (λ (ps : List Pt). Contains ps e) are c))) below
