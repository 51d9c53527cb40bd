-- Four lumps, and the same with LINEDEFS turned, spell one map, and the same check of them fails first.
use Rattle.std.proofs.Common.{◌≡◌, ℕ, zero, suc, ◌+◌, ◌*◌, ◌/◌, ◌%◌, ◌<◌, ◌≤◌, ◌⊎◌, inl, inr, List, ◌∷◌, length, map, Bool, true, false, ◌==◌, ◌||◌, not, if◌then◌else◌, is_none, nat_lt, nat_le, Option, Some, None, Result, Ok, Err, IfOk, refl, sym, ap, ap₂, ◌∙◌, subst, arith}
use Rattle.std.specs.Int.{bit_at}
use Rattle.sight_names.specs.declared.faults.Lump.TheVariants.{Linedefs, Sidedefs, Vertexes, Sectors}
use Rattle.sight_names.specs.declared.faults.LumpFault.{LumpFault}
use Rattle.sight_names.specs.declared.faults.LumpFault.TheVariants.{BadSize, TooManySectors, TooManyLines, BadVertex, BadSide, BadSector, TooManyPoints, Memory}
use Rattle.sight_names.specs.declared.names.MapFormat.TheVariants.{Doom, Hexen}
use Rattle.sight_names.specs.Limits.{most_lines, most_points, most_sectors}
use Rattle.sight_names.specs.Lumps.{first_lump_fault, lump_fault_if, is_bad_sector, is_bad_side, linedef, line_fault, lines_fault, lump_fault, map_of_lumps, numbers_from, numbers_below, side_sector, vertex}
use Rattle.sight_names.specs.Map.{Map, MapLine, map_of}
use Rattle.sight_names.specs.Plan.{PlanParts, IsPlan}
use Rattle.sight_names.specs.Points.{points_of, pt_eq}
use Rattle.sight_names.proofs.OnePlan.{one_plan}
use Rattle.map_lumps.specs.Answers.{AnswersFirstFault}
use Rattle.map_lumps.specs.HexenLumps.Turned.{hexen_of}
use Rattle.map_lumps.specs.HexenLumps.Laws.{IsReadTheSame, SpellsTheSame, as_doom, as_hexen}
use Rattle.map_lumps.proofs.HexenLumps.Records.{HasSameNumbers, first_length, same_numbers}

-- ---- one record

-- the line of a record with these numbers, and the first check of it that fails
abbrev line_of : List ℕ → List ℕ → ℕ → ℕ → ℕ → ℕ → ℕ → Option MapLine
line_of sidedefs vertexes first second flags right left =
    if pt_eq (vertex Doom vertexes first) (vertex Doom vertexes second) then None
    else Some (record {
      first = vertex Doom vertexes first;
      second = vertex Doom vertexes second;
      solid = not (bit_at flags 2 == 1) || is_none (side_sector sidedefs right) || is_none (side_sector sidedefs left);
      right = side_sector sidedefs right;
      left = side_sector sidedefs left;
    })

abbrev fault_of : List ℕ → List ℕ → List ℕ → ℕ → ℕ → ℕ → ℕ → ℕ → Option LumpFault
fault_of sidedefs vertexes sectors k first second right left =
    lump_fault_if (nat_le (length vertexes / 4) first || nat_le (length vertexes / 4) second) (BadVertex k)
    (lump_fault_if (is_bad_side sidedefs right || is_bad_side sidedefs left) (BadSide k)
    (lump_fault_if (is_bad_sector sidedefs sectors right) (BadSector right) (lump_fault_if (is_bad_sector sidedefs sectors left) (BadSector left) None)))

same_line : (xs ys sidedefs vertexes : List ℕ) (k : ℕ) → HasSameNumbers xs ys k → linedef Hexen ys sidedefs vertexes k ≡ linedef Doom xs sidedefs vertexes k
same_line xs ys sidedefs vertexes k h = λ i. line_of sidedefs vertexes (h.first i) (h.second i) (h.flags i) (h.right i) (h.left i)

same_fault : (xs ys sidedefs vertexes sectors : List ℕ) (k : ℕ) → HasSameNumbers xs ys k → line_fault Hexen ys sidedefs vertexes sectors k ≡ line_fault Doom xs sidedefs vertexes sectors k
same_fault xs ys sidedefs vertexes sectors k h = λ i. fault_of sidedefs vertexes sectors k (h.first i) (h.second i) (h.right i) (h.left i)

-- ---- all records

same_map : {X : Type 0} (f g : ℕ → X) (k n : ℕ) → ((j : ℕ) → j < n → f (k + j) ≡ g (k + j)) → map f (numbers_from k n) ≡ map g (numbers_from k n)
same_map f g k zero same = refl
same_map {X} f g k (suc n) same =
    let head : f k ≡ g k = subst (λ (j : ℕ). f j ≡ g j) (omega arith) (same 0 (omega arith)) in
    ap₂ (λ (x : X) (xs : List X). x ∷ xs) head (same_map f g (k + 1) n (λ j l. subst (λ (i : ℕ). f i ≡ g i) (omega arith) (same (suc j) (omega arith))))

same_faults : (f g : ℕ → Option LumpFault) (k n : ℕ) (rest : Option LumpFault) → ((j : ℕ) → j < n → f (k + j) ≡ g (k + j)) → lines_fault f (numbers_from k n) rest ≡ lines_fault g (numbers_from k n) rest
same_faults f g k zero rest same = refl
same_faults f g k (suc n) rest same =
    let head : f k ≡ g k = subst (λ (j : ℕ). f j ≡ g j) (omega arith) (same 0 (omega arith)) in
    ap₂ (λ (x y : Option LumpFault). first_lump_fault x y) head (same_faults f g (k + 1) n rest (λ j l. subst (λ (i : ℕ). f i ≡ g i) (omega arith) (same (suc j) (omega arith))))

-- the checks in their order, where LINEDEFS has whole records or not, and so many
abbrev checks_of : Bool → List ℕ → List ℕ → List ℕ → Bool → ℕ → Option LumpFault → Option LumpFault
checks_of large sidedefs vertexes sectors whole n rest =
    lump_fault_if (not whole) (BadSize Linedefs)
    (lump_fault_if (not (length sidedefs % 30 == 0)) (BadSize Sidedefs)
    (lump_fault_if (not (length vertexes % 4 == 0)) (BadSize Vertexes)
    (lump_fault_if (not (length sectors % 26 == 0)) (BadSize Sectors)
    (lump_fault_if (nat_lt (most_sectors large) (length sectors / 26)) (TooManySectors (length sectors / 26))
    (lump_fault_if (nat_lt (most_lines large) n) (TooManyLines n) rest)))))

abbrev points_fault : Bool → Map → Option LumpFault
points_fault large m = lump_fault_if (nat_lt (most_points large) (length (points_of m))) (TooManyPoints (length (points_of m))) None

module _ (linedefs sidedefs vertexes sectors : List ℕ) where
  enough : 14 * (length linedefs / 14) ≤ length linedefs
  enough = omega arith

  turned_length : length (hexen_of linedefs) ≡ 16 * (length linedefs / 14)
  unfolding hexen_of
  turned_length = first_length linedefs (length linedefs / 14) enough

  turned_count : length (hexen_of linedefs) / 16 ≡ length linedefs / 14
  turned_count = let e = turned_length in omega (arith, e)

  numbers : (k : ℕ) → k < length linedefs / 14 → HasSameNumbers linedefs (hexen_of linedefs) k
  unfolding hexen_of
  numbers k lt = same_numbers linedefs (length linedefs / 14) k lt enough

  abbrev map_with : List (Option MapLine) → Map
  map_with lines = record { sectors = length sectors / 26; lines = lines }

  abbrev of_all : Bool → ℕ → ℕ → (ℕ → Option LumpFault) → Map → Option LumpFault
  of_all large r c fault m = checks_of large sidedefs vertexes sectors (r == 0) c (lines_fault fault (numbers_below c) (points_fault large m))

  zero_on : (j : ℕ) → j ≡ 0 + j
  zero_on j = omega arith

  pub one_map : map_of_lumps Hexen (hexen_of linedefs) sidedefs vertexes sectors ≡ map_of_lumps Doom linedefs sidedefs vertexes sectors
  unfolding map_of_lumps
  one_map =
      ap (λ (m : ℕ). map_with (map (linedef Hexen (hexen_of linedefs) sidedefs vertexes) (numbers_below m))) turned_count
      ∙ ap map_with (same_map (linedef Hexen (hexen_of linedefs) sidedefs vertexes) (linedef Doom linedefs sidedefs vertexes) 0 (length linedefs / 14)
      (λ j l. subst (λ (k : ℕ). linedef Hexen (hexen_of linedefs) sidedefs vertexes k ≡ linedef Doom linedefs sidedefs vertexes k) (zero_on j) (same_line linedefs (hexen_of linedefs) sidedefs vertexes j (numbers j l))))

  one_fault : (large : Bool) → length linedefs % 14 ≡ 0 → lump_fault (as_hexen large) (hexen_of linedefs) sidedefs vertexes sectors ≡ lump_fault (as_doom large) linedefs sidedefs vertexes sectors
  unfolding lump_fault
  one_fault large whole =
      ap (λ (m : Map). of_all large (length (hexen_of linedefs) % 16) (length (hexen_of linedefs) / 16) (line_fault Hexen (hexen_of linedefs) sidedefs vertexes sectors) m) one_map
      ∙ ap₂ (λ (r c : ℕ). of_all large r c (line_fault Hexen (hexen_of linedefs) sidedefs vertexes sectors) (map_of_lumps Doom linedefs sidedefs vertexes sectors)) rest turned_count
      ∙ ap (checks_of large sidedefs vertexes sectors (length linedefs % 14 == 0) (length linedefs / 14))
      (same_faults (line_fault Hexen (hexen_of linedefs) sidedefs vertexes sectors) (line_fault Doom linedefs sidedefs vertexes sectors) 0 (length linedefs / 14) (points_fault large (map_of_lumps Doom linedefs sidedefs vertexes sectors))
      (λ j l. subst (λ (k : ℕ). line_fault Hexen (hexen_of linedefs) sidedefs vertexes sectors k ≡ line_fault Doom linedefs sidedefs vertexes sectors k) (zero_on j) (same_fault linedefs (hexen_of linedefs) sidedefs vertexes sectors j (numbers j l))))
    where
      rest : length (hexen_of linedefs) % 16 ≡ length linedefs % 14
      rest = let e = turned_length in omega (arith, e, whole)

pub spells_the_same : SpellsTheSame
spells_the_same large linedefs sidedefs vertexes sectors whole = (one_map linedefs sidedefs vertexes sectors, one_fault linedefs sidedefs vertexes sectors large whole)

-- ---- the same plan

-- lumps that are taken are whole
first_passes : (b : Bool) (f : LumpFault) (rest : Option LumpFault) → lump_fault_if (not b) f rest ≡ None → b ≡ true
first_passes true f rest e = refl
first_passes false f rest e = absurd (no e)
  where
    no : ◌≡◌ {A = Option LumpFault} (Some f) None → ⊥
    no e = cc

whole_of : (large : Bool) (linedefs sidedefs vertexes sectors : List ℕ) → lump_fault (as_doom large) linedefs sidedefs vertexes sectors ≡ None → length linedefs % 14 ≡ 0
unfolding lump_fault
whole_of large linedefs sidedefs vertexes sectors e = zero_of (length linedefs % 14) (first_passes (length linedefs % 14 == 0) _ _ e)
  where
    zero_of : (n : ℕ) → (n == 0) ≡ true → n ≡ 0
    zero_of n h = grind arith

same_answer : (plan : PlanParts) (m : Map) (answer : Result PlanParts LumpFault) → map_of plan ≡ m → IsPlan plan → IfOk answer (λ p. map_of p ≡ m) → IfOk answer IsPlan → AnswersFirstFault answer None → (answer ≡ Ok plan) ⊎ (answer ≡ Err (Memory tt))
same_answer plan m (Ok p) is h same h' fault = inl (ap (λ (x : PlanParts). Ok x) (one_plan p plan h' h (same ∙ sym is)))
same_answer plan m (Err (Memory _)) is h same h' fault = inr refl
same_answer plan m (Err (BadSize lump)) is h same h' fault = absurd cc
same_answer plan m (Err (TooManySectors n)) is h same h' fault = absurd cc
same_answer plan m (Err (TooManyLines n)) is h same h' fault = absurd cc
same_answer plan m (Err (BadVertex k)) is h same h' fault = absurd cc
same_answer plan m (Err (BadSide k)) is h same h' fault = absurd cc
same_answer plan m (Err (BadSector k)) is h same h' fault = absurd cc
same_answer plan m (Err (TooManyPoints n)) is h same h' fault = absurd cc

pub is_read_the_same : IsReadTheSame
is_read_the_same large linedefs sidedefs vertexes sectors plan answer was is =
    let one = spells_the_same large linedefs sidedefs vertexes sectors (whole_of large linedefs sidedefs vertexes sectors was.fault) in
    same_answer plan (map_of_lumps Hexen (hexen_of linedefs) sidedefs vertexes sectors) answer (was.map ∙ sym one.0) was.plan is.map is.plan (subst (λ (o : Option LumpFault). AnswersFirstFault answer o) (one.1 ∙ was.fault) is.fault)
