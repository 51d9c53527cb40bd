-- That the records of a text stand in its lumps.
use Rattle.std.proofs.Common.{◌≡◌, ◌<◌, ℕ, zero, suc, ◌+◌, ◌-◌, ◌*◌, ◌^◌, leb, eqb, Bool, true, false, cond, List, [], ◌∷◌, ◌++◌, length, take, drop, slice_range, slice_get, Some, None, refl, ap, ◌∙◌, arith, length-append, ℤ, pos, negsuc, nat_abs, ◌*ℤ◌, min, unwrap_or, ◌≤◌}
use Rattle.std.proofs.lemmas.Int.{ints}
use Rattle.std.proofs.lemmas.List.{length-replicate}
use Rattle.std.specs.List.{flat_map}
use Rattle.std.specs.Int.{from_le_bytes, cast_unsigned, cast_signed, w16, w32}
use Rattle.std.proofs.Math.Seq.{drop-append-add}
use Rattle.std.proofs.lemmas.Bool.{leb-true}
use Rattle.std.proofs.lemmas.Nat.{from_le_bytes-to_le_bytes_2, from_le_bytes-to_le_bytes_4}
use Rattle.math_base.proofs.Lists.{drop_more}
use Rattle.sight_names.specs.Lumps.{u16_at, i32_at}
use Rattle.sight_names.specs.declared.limits.TheConstants.{FARTHEST}
use Rattle.udmf_map.specs.declared.values.Coordinate.{Coordinate}
use Rattle.udmf_map.specs.declared.values.Coordinate.TheVariants.{Missing, OffGrid, At}
use Rattle.udmf_map.specs.declared.blocks.Vertex.{Vertex}
use Rattle.udmf_map.specs.declared.blocks.Linedef.{Linedef}
use Rattle.udmf_map.specs.Reading.{Read}
use Rattle.udmf_map.specs.Grid.{places_of_lines, on_grid}
use Rattle.udmf_map.specs.Lumps.{u16, number, side_number_in_lump, flags, linedef_bytes, sidedef_bytes, i32, placed, vertex_bytes, lumps_of}
use Rattle.udmf_map.specs.Standing.{HasLineNumbers, HasVertex, RecordsStand}

-- ---- records of one length, one behind the other

module _ {X : Type 0} (f : X → List ℕ) (w : ℕ) (wide : (x : X) → length (f x) ≡ w) where
  all_length : (xs : List X) → length (flat_map f xs) ≡ w * length xs
  all_length [] = omega arith
  all_length (x ∷ xs) =
      let one : w * suc (length xs) ≡ w + w * length xs = grind arith in
      omega (arith, length-append (f x) (flat_map f xs), wide x, all_length xs, one)

  record Stands (xs : List X) (k : ℕ) (x : X) : Type 0 where
    more : List ℕ
    is : drop (w * k) (flat_map f xs) ≡ f x ++ more

  stands : (xs : List X) (k : ℕ) (x : X) → slice_get xs k ≡ Some x → Stands xs k x
  stands [] k x e = absurd cc
  stands (y ∷ xs) zero x e =
      let same : y ≡ x = cc in
      let none : w * 0 ≡ 0 = omega arith in
      record { more = flat_map f xs; is = ap (λ (n : ℕ). drop n (f y ++ flat_map f xs)) none ∙ ap (λ (z : X). f z ++ flat_map f xs) same }
  stands (y ∷ xs) (suc k) x e =
      let s = stands xs k x e in
      let one : w * suc k ≡ w + w * k = grind arith in
      let at : w * suc k ≡ length (f y) + w * k = omega (arith, one, wide y) in
      record { more = s.more; is = ap (λ (n : ℕ). drop n (f y ++ flat_map f xs)) at ∙ (drop-append-add (f y) (flat_map f xs) (w * k) ∙ s.is) }

-- ---- a number in a record

two_at : (xs ys : List ℕ) (a b : ℕ) → drop a xs ≡ ys → slice_range xs (a + b) (a + b + 2) ≡ take 2 (drop b ys)
two_at xs ys a b e =
    let two : a + b + 2 - (a + b) ≡ 2 = omega arith in
    ap (λ (n : ℕ). take n (drop (a + b) xs)) two ∙ ap (take 2) (drop_more a b xs ∙ ap (drop b) e)

number_at : (xs ys : List ℕ) (a b n : ℕ) → drop a xs ≡ ys → take 2 (drop b ys) ≡ u16 n → n < 2 ^ 16 → u16_at xs (a + b) ≡ n
number_at xs ys a b n e two small = ap (from_le_bytes w16) (two_at xs ys a b e ∙ two) ∙ from_le_bytes-to_le_bytes_2 n small

first_at : (xs ys : List ℕ) (a n : ℕ) → drop a xs ≡ ys → take 2 ys ≡ u16 n → n < 2 ^ 16 → u16_at xs a ≡ n
first_at xs ys a n e two small =
    let here : a ≡ a + 0 = omega arith in
    ap (u16_at xs) here ∙ number_at xs ys a 0 n e two small

if_small : (b : Bool) (m n : ℕ) → (b ≡ true → m < 2 ^ 16) → n < 2 ^ 16 → cond b m n < 2 ^ 16
if_small true m n p q = p refl
if_small false m n p q = q

number_small : (z : ℤ) → number z < 2 ^ 16
number_small (pos n) = if_small (leb n 65534) n 65535 (λ e. let l = leb-true n 65534 e in omega (arith, l)) (omega arith)
number_small (negsuc n) = omega arith

side_small : (z : ℤ) → side_number_in_lump z < 2 ^ 16
side_small (pos n) = if_small (leb n 65533) n 65534 (λ e. let l = leb-true n 65533 e in omega (arith, l)) (omega arith)
side_small (negsuc n) = if_small (eqb n 0) 65535 65534 (λ e. omega arith) (omega arith)

flags_small : (two blocks : Bool) → cond two 4 0 + cond blocks 64 0 < 2 ^ 16
flags_small true true = omega arith
flags_small true false = omega arith
flags_small false true = omega arith
flags_small false false = omega arith

-- ---- lines, sides, vertices

linedef_wide : (l : Linedef) → length (linedef_bytes l) ≡ 14
unfolding linedef_bytes
linedef_wide l = refl

sidedef_wide : (s : ℤ) → length (sidedef_bytes s) ≡ 30
sidedef_wide s = refl

has_line : (r : Read) (k : ℕ) (l : Linedef) → slice_get r.lines k ≡ Some l → HasLineNumbers (lumps_of r) k l
unfolding linedef_bytes
has_line r k l e =
    let s = stands linedef_bytes 14 linedef_wide r.lines k l e in
    let xs : List ℕ = flat_map linedef_bytes r.lines in
    let ys : List ℕ = linedef_bytes l ++ s.more in
    record {
      first = first_at xs ys (14 * k) (number l.first) s.is refl (number_small l.first);
      second = number_at xs ys (14 * k) 2 (number l.second) s.is refl (number_small l.second);
      flags = number_at xs ys (14 * k) 4 (flags l) s.is refl (flags_small l.two_sided l.blocks_sound);
      front = number_at xs ys (14 * k) 10 (side_number_in_lump l.front) s.is refl (side_small l.front);
      back = number_at xs ys (14 * k) 12 (side_number_in_lump l.back) s.is refl (side_small l.back);
    }

has_side : (r : Read) (k : ℕ) (sector : ℤ) → slice_get r.sides k ≡ Some sector → u16_at (flat_map sidedef_bytes r.sides) (30 * k + 28) ≡ number sector
has_side r k sector e =
    let s = stands sidedef_bytes 30 sidedef_wide r.sides k sector e in
    number_at (flat_map sidedef_bytes r.sides) (sidedef_bytes sector ++ s.more) (30 * k) 28 (number sector) s.is refl (number_small sector)

four_at : (xs ys : List ℕ) (a b : ℕ) → drop a xs ≡ ys → slice_range xs (a + b) (a + b + 4) ≡ take 4 (drop b ys)
four_at xs ys a b e =
    let four : a + b + 4 - (a + b) ≡ 4 = omega arith in
    ap (λ (n : ℕ). take n (drop (a + b) xs)) four ∙ ap (take 4) (drop_more a b xs ∙ ap (drop b) e)

placed_near : (places : ℕ) (c : Coordinate) → nat_abs (placed places c) ≤ FARTHEST
placed_near places Missing = omega arith
placed_near places OffGrid = omega arith
placed_near places (At n own) = by_grid (leb own places)
  where
    z : ℤ
    z = n *ℤ pos (10 ^ min (places - own) 7)

    by_near : (b : Bool) → leb (nat_abs z) FARTHEST ≡ b → nat_abs (unwrap_or (cond b (Some z) None) (pos 0)) ≤ FARTHEST
    by_near true e = leb-true (nat_abs z) FARTHEST e
    by_near false e = omega arith

    by_grid : (b : Bool) → nat_abs (unwrap_or (cond b (on_grid z) None) (pos 0)) ≤ FARTHEST
    by_grid true = by_near (leb (nat_abs z) FARTHEST) refl
    by_grid false = omega arith

near_small : (z : ℤ) → nat_abs z ≤ FARTHEST → cast_unsigned w32 z < 2 ^ 32
near_small z near = omega (arith, ints, near)

near_back : (z : ℤ) → nat_abs z ≤ FARTHEST → cast_signed w32 (cast_unsigned w32 z) ≡ z
near_back z near = omega (arith, ints, near)

coordinate_at : (xs ys : List ℕ) (a b : ℕ) (z : ℤ) → drop a xs ≡ ys → take 4 (drop b ys) ≡ i32 z → nat_abs z ≤ FARTHEST → i32_at xs (a + b) ≡ z
coordinate_at xs ys a b z e four near = ap (λ (n : List ℕ). cast_signed w32 (from_le_bytes w32 n)) (four_at xs ys a b e ∙ four) ∙ (ap (cast_signed w32) (from_le_bytes-to_le_bytes_4 (cast_unsigned w32 z) (near_small z near)) ∙ near_back z near)

vertex_wide : (places : ℕ) (v : Vertex) → length (vertex_bytes places v) ≡ 8
vertex_wide places v = refl

has_vertex : (r : Read) (k : ℕ) (v : Vertex) → slice_get r.vertices k ≡ Some v → HasVertex (lumps_of r) (places_of_lines r.vertices r.lines) k v
has_vertex r k v e =
    let places : ℕ = places_of_lines r.vertices r.lines in
    let s = stands (vertex_bytes places) 8 (vertex_wide places) r.vertices k v e in
    let xs : List ℕ = flat_map (vertex_bytes places) r.vertices in
    let ys : List ℕ = vertex_bytes places v ++ s.more in
    let here : 8 * k ≡ 8 * k + 0 = omega arith in
    record {
      x = ap (i32_at xs) here ∙ coordinate_at xs ys (8 * k) 0 (placed places v.x) s.is refl (placed_near places v.x);
      y = coordinate_at xs ys (8 * k) 4 (placed places v.y) s.is refl (placed_near places v.y);
    }

pub records_stand : RecordsStand
records_stand r = record {
  linedefs = all_length linedef_bytes 14 linedef_wide r.lines;
  sidedefs = all_length sidedef_bytes 30 sidedef_wide r.sides;
  vertexes = all_length (vertex_bytes (places_of_lines r.vertices r.lines)) 8 (vertex_wide (places_of_lines r.vertices r.lines)) r.vertices;
  sectors = length-replicate {A = ℕ} (26 * r.sectors) 0;
  line = has_line r;
  side = has_side r;
  vertex = has_vertex r;
}
