-- The checks before that of the number of points, in their order.
use Rattle.std.proofs.Common.{◌≡◌, ℕ, ◌/◌, ◌%◌, ◌≤◌, List, length, Option, Some, None, Bool, true, false, ◌==◌, not, cond, IfSome, nat_lt, refl, sym, ◌∙◌, arith}
use Rattle.sight_names.specs.declared.faults.Lump.{Lump}
use Rattle.sight_names.specs.declared.faults.LumpFault.{LumpFault}
use Rattle.sight_names.specs.declared.faults.LumpFault.TheVariants.{BadSize, TooManySectors, TooManyLines, TooManyPoints}
use Rattle.sight_names.specs.declared.faults.Lump.TheVariants.{Linedefs, Sidedefs, Vertexes, Sectors}
use Rattle.sight_names.specs.Points.{points_of}
use Rattle.sight_names.specs.declared.names.Reading.{Reading}
use Rattle.sight_names.specs.Limits.{most_lines, most_points, most_sectors}
use Rattle.sight_names.specs.Lumps.{linedef_len, vertex_len, count_linedefs, numbers_below, lines_fault, line_fault, lump_fault, lump_fault_if, map_of_lumps}
use Rattle.map_lumps.specs.Answers.{cut_lump, PassesChecks}
use Rattle.map_lumps.proofs.Reading.{stands, none_found}

uncut : (a b c d : Bool) (p q r s : Lump) → cond a (Some p) (cond b (Some q) (cond c (Some r) (cond d (Some s) None))) ≡ None → (a ≡ false) × (b ≡ false) × (c ≡ false) × (d ≡ false)
uncut false false false false p q r s e = (refl, refl, refl, refl)
uncut true b c d p q r s e = absurd (no e)
  where
    no : ◌≡◌ {A = Option Lump} (Some p) None → ⊥
    no e = cc
uncut false true c d p q r s e = absurd (no e)
  where
    no : ◌≡◌ {A = Option Lump} (Some q) None → ⊥
    no e = cc
uncut false false true d p q r s e = absurd (no e)
  where
    no : ◌≡◌ {A = Option Lump} (Some r) None → ⊥
    no e = cc
uncut false false false true p q r s e = absurd (no e)
  where
    no : ◌≡◌ {A = Option Lump} (Some s) None → ⊥
    no e = cc

after_six : (a b c d e f : Bool) (p q r s t u : LumpFault) (rest : Option LumpFault) → a ≡ false → b ≡ false → c ≡ false → d ≡ false → e ≡ false → f ≡ false →
    lump_fault_if a p (lump_fault_if b q (lump_fault_if c r (lump_fault_if d s (lump_fault_if e t (lump_fault_if f u rest))))) ≡ rest
after_six a b c d e f p q r s t u rest h1 h2 h3 h4 h5 h6 = rw (h1, h2, h3, h4, h5, h6) refl

not_above : (m n : ℕ) → n ≤ m → nat_lt m n ≡ false
not_above m n h = grind arith

module _ (reading : Reading) (linedefs sidedefs vertexes sectors : List ℕ) where
  abbrev points_fault : Option LumpFault
  points_fault = lump_fault_if (nat_lt (most_points reading.large) (length (points_of (map_of_lumps reading.format linedefs sidedefs vertexes sectors)))) (TooManyPoints (length (points_of (map_of_lumps reading.format linedefs sidedefs vertexes sectors)))) None

  -- where the sizes and the counts pass, the lines are what is left, and then the points
  pub lines_left : cut_lump reading.format linedefs sidedefs vertexes sectors ≡ None → length sectors / 26 ≤ most_sectors reading.large → count_linedefs reading.format linedefs ≤ most_lines reading.large →
      lump_fault reading linedefs sidedefs vertexes sectors ≡ lines_fault (line_fault reading.format linedefs sidedefs vertexes sectors) (numbers_below (count_linedefs reading.format linedefs)) points_fault
  unfolding lump_fault
  lines_left cut few_sectors few_lines =
      let sizes = uncut (not (length linedefs % linedef_len reading.format == 0)) (not (length sidedefs % 30 == 0)) (not (length vertexes % vertex_len reading.format == 0)) (not (length sectors % 26 == 0)) Linedefs Sidedefs Vertexes Sectors cut in
      after_six _ _ _ _ _ _ (BadSize Linedefs) (BadSize Sidedefs) (BadSize Vertexes) (BadSize Sectors) (TooManySectors (length sectors / 26)) (TooManyLines (count_linedefs reading.format linedefs)) _ sizes.0 sizes.1 sizes.2 sizes.3 (not_above (most_sectors reading.large) (length sectors / 26) few_sectors) (not_above (most_lines reading.large) (count_linedefs reading.format linedefs) few_lines)

  pub line_fault_first : (o : Option LumpFault) → cut_lump reading.format linedefs sidedefs vertexes sectors ≡ None → length sectors / 26 ≤ most_sectors reading.large → count_linedefs reading.format linedefs ≤ most_lines reading.large →
      o ≡ lines_fault (line_fault reading.format linedefs sidedefs vertexes sectors) (numbers_below (count_linedefs reading.format linedefs)) None → IfSome o (λ f. lump_fault reading linedefs sidedefs vertexes sectors ≡ Some f)
  line_fault_first None cut few_sectors few_lines e = tt
  line_fault_first (Some f) cut few_sectors few_lines e = lines_left cut few_sectors few_lines ∙ stands _ (numbers_below (count_linedefs reading.format linedefs)) points_fault f (sym e)

  uncut_of : PassesChecks reading linedefs sidedefs vertexes sectors → cut_lump reading.format linedefs sidedefs vertexes sectors ≡ None
  uncut_of h = whole _ _ _ _ Linedefs Sidedefs Vertexes Sectors h.whole_linedefs h.whole_sidedefs h.whole_vertexes h.whole_sectors
    where
      whole : (a b c d : ℕ) (p q r s : Lump) → a ≡ 0 → b ≡ 0 → c ≡ 0 → d ≡ 0 → cond (not (a == 0)) (Some p) (cond (not (b == 0)) (Some q) (cond (not (c == 0)) (Some r) (cond (not (d == 0)) (Some s) None))) ≡ None
      whole a b c d p q r s h1 h2 h3 h4 = rw (h1, h2, h3, h4) refl

  -- where the early checks pass, the points decide
  pub points_left : PassesChecks reading linedefs sidedefs vertexes sectors → lump_fault reading linedefs sidedefs vertexes sectors ≡ points_fault
  points_left h = lines_left (uncut_of h) h.few_sectors h.few_lines ∙ none_found (line_fault reading.format linedefs sidedefs vertexes sectors) (count_linedefs reading.format linedefs) points_fault h.each
