-- No vertex of a map that was read is taken for another one.
use Rattle.std.proofs.Common.{◌≡◌, ℕ, zero, suc, ◌+◌, ◌-◌, ◌*◌, ◌*ℤ◌, min, unwrap_or, slice_get, ◌/◌, ◌^◌, ◌<◌, ◌≤◌, ℤ, Bool, true, false, ◌||◌, List, length, Option, Some, None, Result, Ok, Err, nat_abs, leb, get_or, pos, refl, sym, ap, ◌∙◌, subst, arith, if◌then◌else◌, inl, inr}
use Rattle.std.proofs.lemmas.Option.{none-some, slice_get-get_or}
use Rattle.std.proofs.lemmas.Bool.{le-leb, leb-true, lt-leb, ltb-false}
use Rattle.std.proofs.Math.Nat.{eq-or-lt_of_le}
use Rattle.sight_names.specs.declared.names.MapFormat.TheVariants.{Text}
use Rattle.sight_names.specs.Lumps.{i32_at}
use Rattle.sight_names.specs.Map.{Map}
use Rattle.sight_names.specs.Near.{near}
use Rattle.sight_names.specs.declared.limits.TheConstants.{FARTHEST}
use Rattle.udmf_map.specs.declared.blocks.Vertex.{Vertex}
use Rattle.udmf_map.specs.declared.faults.TextFault.{TextFault}
use Rattle.udmf_map.specs.declared.values.Coordinate.{Coordinate}
use Rattle.udmf_map.specs.declared.values.Coordinate.TheVariants.{Missing, OffGrid, At}
use Rattle.udmf_map.specs.Checks.{records_fault}
use Rattle.udmf_map.specs.Grid.{places_of_lines, on_grid}
use Rattle.udmf_map.specs.Lumps.{LumpBytes, lumps_of, lumps_of_text, lumps_or, placed}
use Rattle.udmf_map.specs.Reading.{Read, text_read}
use Rattle.udmf_map.proofs.Standing.{records_stand}
use Rattle.map_answers.specs.declared.sight_status.status.Status.{Status}
use Rattle.doomsight_c.specs.Lumps.{IsAsSpelled, TextsAreNear, VerticesAreAsSpelled, of_lumps_given, far_vertex, first_far, is_far, is_far_vertex, unless_far}
use Rattle.map_answers.specs.Input.{of_four_lumps}

near_is : (z : ℤ) → is_far z ≡ false → near z ≡ z
near_is z e =
    let le : nat_abs z ≤ 2 ^ 25 = ltb-false (2 ^ 25) (nat_abs z) e in
    ap (λ (b : Bool). if b then z else pos 0) (le-leb (nat_abs z) (2 ^ 25) le)

neither : (a b : Bool) → (a || b) ≡ false → (a ≡ false) × (b ≡ false)
neither false false e = (refl, refl)
neither true b e = absurd cc
neither false true e = absurd cc

spelled_as : (vertexes : List ℕ) (k : ℕ) → is_far_vertex vertexes k ≡ false → IsAsSpelled vertexes k
spelled_as vertexes k e =
    let two = neither (is_far (i32_at vertexes (8 * k))) (is_far (i32_at vertexes (8 * k + 4))) e in
    record { x = near_is (i32_at vertexes (8 * k)) two.0; y = near_is (i32_at vertexes (8 * k + 4)) two.1 }

none_far : (vertexes : List ℕ) (from n k : ℕ) → first_far vertexes from n ≡ None → from ≤ k → k < from + n → is_far_vertex vertexes k ≡ false
none_far vertexes from zero k e first last = absurd (omega (arith, first, last))
none_far vertexes from (suc n) k e first last = go (is_far_vertex vertexes from) refl e (λ none less. none_far vertexes (from + 1) n k none less (omega (arith, last)))
  where
    go : (b : Bool) → is_far_vertex vertexes from ≡ b → (if b then Some from else first_far vertexes (from + 1) n) ≡ None
        → (first_far vertexes (from + 1) n ≡ None → from + 1 ≤ k → is_far_vertex vertexes k ≡ false) → is_far_vertex vertexes k ≡ false
    go true is none behind = absurd cc
    go false is none behind = elim (eq-or-lt_of_le first) as (λ _. is_far_vertex vertexes k ≡ false) [
      | inl same ↦ subst (λ (j : ℕ). is_far_vertex vertexes j ≡ false) same is
      | inr less ↦ behind none (omega (arith, less))
    ]

not_far : (far : Option ℕ) (read : Result Map Status) (m : Map) → unless_far far read ≡ Ok m → far ≡ None
not_far None read m e = refl
not_far (Some k) (Ok n) m e = absurd cc
not_far (Some k) (Err s) m e = absurd cc

-- read as the program reads them
abbrev IsReadAlike : Bool → LumpBytes → Type 0
IsReadAlike large lumps =
    of_lumps_given (record { format = Text; large = large }) lumps.linedefs lumps.sidedefs lumps.vertexes lumps.sectors ≡ of_four_lumps (record { format = Text; large = large }) lumps.linedefs lumps.sidedefs lumps.vertexes lumps.sectors

pub as_spelled : VerticesAreAsSpelled
as_spelled large linedefs sidedefs vertexes sectors m e k lt =
    let read = of_four_lumps (record { format = Text; large = large }) linedefs sidedefs vertexes sectors in
    spelled_as vertexes k (none_far vertexes 0 (length vertexes / 8) k (not_far (far_vertex Text vertexes) read m e) (omega arith) (omega (arith, lt)))

-- ---- the search for the first one

pub found_at : (vertexes : List ℕ) (k count : ℕ) → k < count → is_far_vertex vertexes k ≡ true → first_far vertexes k (count - k) ≡ Some k
found_at vertexes k count lt is = go (count - k) refl
  where
    go : (n : ℕ) → count - k ≡ n → first_far vertexes k n ≡ Some k
    go zero e = absurd (omega (arith, lt, e))
    go (suc n) e = ap (λ (b : Bool). if b then Some k else first_far vertexes (k + 1) n) is

pub not_at : (vertexes : List ℕ) (k count : ℕ) → k < count → is_far_vertex vertexes k ≡ false → first_far vertexes k (count - k) ≡ first_far vertexes (k + 1) (count - (k + 1))
not_at vertexes k count lt is = go (count - k) refl
  where
    go : (n : ℕ) → count - k ≡ n → first_far vertexes k n ≡ first_far vertexes (k + 1) (count - (k + 1))
    go zero e = absurd (omega (arith, lt, e))
    go (suc n) e =
        let one_less : n ≡ count - (k + 1) = omega (arith, e) in
        ap (λ (b : Bool). if b then Some k else first_far vertexes (k + 1) n) is ∙ ap (first_far vertexes (k + 1)) one_less

-- ---- what a text spells

near_by : (b : Bool) (z : ℤ) → leb (nat_abs z) FARTHEST ≡ b → is_far (unwrap_or (if b then Some z else None) (pos 0)) ≡ false
near_by true z e =
    let le : nat_abs z ≤ FARTHEST = leb-true (nat_abs z) FARTHEST e in
    lt-leb (suc (2 ^ 25)) (nat_abs z) (omega (arith, le))
near_by false z e = refl

placed_by : (b : Bool) (z : ℤ) → is_far (unwrap_or (if b then on_grid z else None) (pos 0)) ≡ false
placed_by true z = near_by (leb (nat_abs z) FARTHEST) z refl
placed_by false z = refl

placed_near : (places : ℕ) (c : Coordinate) → is_far (placed places c) ≡ false
placed_near places Missing = refl
placed_near places OffGrid = refl
placed_near places (At n own) = placed_by (leb own places) (n *ℤ pos (10 ^ min (places - own) 7))

near_too : (vertexes : List ℕ) (k : ℕ) (x y : ℤ) → i32_at vertexes (8 * k) ≡ x → i32_at vertexes (8 * k + 4) ≡ y → is_far x ≡ false → is_far y ≡ false → is_far_vertex vertexes k ≡ false
near_too vertexes k x y is also near too = ap (λ (z : ℤ). is_far z || is_far (i32_at vertexes (8 * k + 4))) is ∙ ap (λ (b : Bool). b || is_far (i32_at vertexes (8 * k + 4))) near ∙ ap is_far also ∙ too

block_near : (r : Read) (k : ℕ) → k < length r.vertices → is_far_vertex (lumps_of r).vertexes k ≡ false
block_near r k lt = go (slice_get r.vertices k) refl
  where
    v0 : Vertex
    v0 = record { x = Missing; y = Missing }

    go : (o : Option Vertex) → slice_get r.vertices k ≡ o → is_far_vertex (lumps_of r).vertexes k ≡ false
    go None is = absurd (none-some (get_or r.vertices k v0) (sym is ∙ slice_get-get_or r.vertices k v0 lt))
    go (Some v) is =
        let places = places_of_lines r.vertices r.lines in
        let h = (records_stand r).vertex k v is in
        near_too (lumps_of r).vertexes k (placed places v.x) (placed places v.y) h.x h.y (placed_near places v.x) (placed_near places v.y)

none_first : (vertexes : List ℕ) (from n : ℕ) → ((k : ℕ) → k < from + n → is_far_vertex vertexes k ≡ false) → first_far vertexes from n ≡ None
none_first vertexes from zero near = refl
none_first vertexes from (suc n) near =
    ap (λ (b : Bool). if b then Some from else first_far vertexes (from + 1) n) (near from (omega arith)) ∙ none_first vertexes (from + 1) n (λ k lt. near k (omega (arith, lt)))

blocks_near : (r : Read) → far_vertex Text (lumps_of r).vertexes ≡ None
blocks_near r =
    let size = (records_stand r).vertexes in
    let count : length (lumps_of r).vertexes / 8 ≡ length r.vertices = omega (arith, size) in
    none_first (lumps_of r).vertexes 0 (length (lumps_of r).vertexes / 8) (λ k lt. block_near r k (omega (arith, lt, count)))

unless_none : (read : Result Map Status) → unless_far None read ≡ read
unless_none (Ok m) = refl
unless_none (Err s) = refl

same_read : (large : Bool) (lumps : LumpBytes) → far_vertex Text lumps.vertexes ≡ None → IsReadAlike large lumps
same_read large lumps near =
    let read = of_four_lumps (record { format = Text; large = large }) lumps.linedefs lumps.sidedefs lumps.vertexes lumps.sectors in
    ap (λ (far : Option ℕ). unless_far far read) near ∙ unless_none read

of_blocks : (fault : Option TextFault) (all lumps : LumpBytes) → lumps_or fault all ≡ Ok lumps → far_vertex Text all.vertexes ≡ None → far_vertex Text lumps.vertexes ≡ None
of_blocks None all lumps is near = let same : all ≡ lumps = cc in subst (λ (l : LumpBytes). far_vertex Text l.vertexes ≡ None) same near
of_blocks (Some fault) all lumps is near = absurd cc

pub texts_near : TextsAreNear
unfolding lumps_of_text
texts_near large bytes lumps is = same_read large lumps (go (text_read bytes) is)
  where
    go : (r : Result Read TextFault) → ◌≡◌ {A = Result LumpBytes TextFault} (elim r [ Ok read ↦ lumps_or (records_fault read) (lumps_of read) | Err fault ↦ Err fault ]) (Ok lumps) → far_vertex Text lumps.vertexes ≡ None
    go (Ok read) told = of_blocks (records_fault read) (lumps_of read) lumps told (blocks_near read)
    go (Err fault) told = absurd cc
