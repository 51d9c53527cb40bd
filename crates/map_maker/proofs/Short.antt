-- A made map is far shorter than what is written at most.
use Rattle.std.proofs.Common.{◌≡◌, ℕ, zero, suc, ◌+◌, ◌-◌, ◌*◌, ◌^◌, ◌/◌, ◌<◌, ◌≤◌, ◌⊎◌, inl, inr, nat_lt, nat_le, List, [], ◌∷◌, ◌++◌, Option, Some, None, Result, Ok, Err, Bool, true, false, length, replicate, if◌then◌else◌, refl, subst, arith}
use Rattle.std.specs.List.{list_any}
use Rattle.std.proofs.lemmas.List.{length-append, length-replicate}
use Rattle.std.proofs.lemmas.Bool.{ltb-true, leb-true}
use Rattle.map_lumps.specs.HexenLumps.Turned.{hexen_of}
use Rattle.map_lumps.proofs.HexenLumps.Records.{first_length}
use Rattle.sight_names.specs.declared.names.MapFormat.{MapFormat}
use Rattle.sight_names.specs.declared.names.MapFormat.TheVariants.{Doom, Hexen, Text}
use Rattle.sight_names.specs.declared.faults.RewriteFault.{RewriteFault}
use Rattle.sight_names.specs.declared.faults.RewriteFault.TheVariants as fault
use Rattle.wad_dir.specs.Print.{print, printed_len}
use Rattle.wad_dir.specs.Wad.{WadFile}
use Rattle.wad_dir.specs.WadRewrite.Rewrite.{WritesWad, printed}
use Rattle.map_maker.specs.declared.lines.Spot.{Spot}
use Rattle.map_maker.specs.declared.lines.Line.{Line}
use Rattle.map_maker.specs.declared.lines.Part.{Part}
use Rattle.map_maker.specs.declared.lines.Part.TheVariants.{Room, East, North}
use Rattle.map_maker.specs.Lines.{at_place, wall_lines, room_lines, part_lines, row, rows, lines_of, sector_count, room_sector, west_end, north_end, east_end, south_end}
use Rattle.map_maker.specs.Lumps.{same_spot, with_point, points_after, points_in, linedef, linedefs_from, linedefs_in, side_count, sidedef, left_sidedef, sidedefs_of, vertexes_of, grid_lumps, doom_file, hexen_file, grid_file}
use Rattle.map_maker.proofs.Small.{product_small}
use Rattle.map_maker.proofs.Whole.{linedef_length}

wall_few : (first a b last : Spot) (room : ℕ) (end : Option ℕ) → length (wall_lines first a b last room end) ≤ 3
wall_few first a b last room None = omega arith
wall_few first a b last room (Some corridor) = omega arith

four_few : (a b c d : List Line) → length a ≤ 3 → length b ≤ 3 → length c ≤ 3 → length d ≤ 3 → length (a ++ b ++ c ++ d) ≤ 12
four_few a b c d p q r s =
    let e = length-append (a ++ b ++ c) d in
    let f = length-append (a ++ b) c in
    let g = length-append a b in
    omega (arith, e, f, g, p, q, r, s)

room_few : (n i j : ℕ) → length (room_lines n i j) ≤ 12
room_few n i j =
    let x : ℕ = 192 * i in
    let y : ℕ = 192 * j in
    four_few _ _ _ _
    (wall_few (at_place x y) (at_place x (y + 48)) (at_place x (y + 80)) (at_place x (y + 128)) (room_sector n i j) (west_end n i j))
    (wall_few (at_place x (y + 128)) (at_place (x + 48) (y + 128)) (at_place (x + 80) (y + 128)) (at_place (x + 128) (y + 128)) (room_sector n i j) (north_end n i j))
    (wall_few (at_place (x + 128) (y + 128)) (at_place (x + 128) (y + 80)) (at_place (x + 128) (y + 48)) (at_place (x + 128) y) (room_sector n i j) (east_end n i j))
    (wall_few (at_place (x + 128) y) (at_place (x + 80) y) (at_place (x + 48) y) (at_place x y) (room_sector n i j) (south_end n i j))

part_few : (p : Part) (n i j : ℕ) → length (part_lines p n i j) ≤ 12
part_few Room n i j = room_few n i j
part_few East n i j = omega arith
part_few North n i j = omega arith

row_few : (p : Part) (n i j : ℕ) → length (row (part_lines p n) i j) ≤ 12 * i
row_few p n zero j = omega arith
row_few p n (suc i) j =
    let a = length-append (row (part_lines p n) i j) (part_lines p n i j) in
    let b = row_few p n i j in
    let c = part_few p n i j in
    omega (arith, a, b, c)

rows_few : (p : Part) (n w h : ℕ) → w ≤ 18 → length (rows (part_lines p n) w h) ≤ 216 * h
rows_few p n w zero small = omega arith
rows_few p n w (suc h) small =
    let a = length-append (rows (part_lines p n) w h) (row (part_lines p n) w h) in
    let b = rows_few p n w h small in
    let c = row_few p n w h in
    omega (arith, a, b, c, small)

lines_few : (n : ℕ) → n ≤ 18 → length (lines_of n) ≤ 11664
unfolding lines_of
lines_few n small =
    let rooms = rows (part_lines Room n) n n in
    let easts = rows (part_lines East n) (n - 1) n in
    let norths = rows (part_lines North n) n (n - 1) in
    let a = length-append (rooms ++ easts) norths in
    let b = length-append rooms easts in
    let p = rows_few Room n n n small in
    let q = rows_few East n (n - 1) n (omega (arith, small)) in
    let r = rows_few North n n (n - 1) small in
    omega (arith, a, b, p, q, r, small)

linedefs_length : (points : List Spot) (side : ℕ) (ls : List Line) → length (linedefs_from points side ls) ≡ 14 * length ls
linedefs_length points side [] = refl
linedefs_length points side (l ∷ ls) =
    let a = length-append (linedef points side l) (linedefs_from points (side + side_count l.left) ls) in
    let b = linedef_length points side l in
    let c = linedefs_length points (side + side_count l.left) ls in
    omega (arith, a, b, c)

sidedef_length : (sector : ℕ) → length (sidedef sector) ≡ 30
unfolding sidedef
sidedef_length sector = refl

left_few : (o : Option ℕ) → length (left_sidedef o) ≤ 30
left_few None = omega arith
left_few (Some sector) = let e = sidedef_length sector in omega (arith, e)

sidedefs_few : (ls : List Line) → length (sidedefs_of ls) ≤ 60 * length ls
sidedefs_few [] = omega arith
sidedefs_few (l ∷ ls) =
    let a = length-append (sidedef l.right ++ left_sidedef l.left) (sidedefs_of ls) in
    let b = length-append (sidedef l.right) (left_sidedef l.left) in
    let c = sidedef_length l.right in
    let d = left_few l.left in
    let e = sidedefs_few ls in
    omega (arith, a, b, c, d, e)

vertexes_length : (ps : List Spot) → length (vertexes_of ps) ≡ 4 * length ps
vertexes_length [] = refl
vertexes_length (p ∷ ps) = let e = vertexes_length ps in omega (arith, e)

one_more : (ps : List Spot) (p : Spot) → length (with_point ps p) ≤ length ps + 1
one_more ps p = by_test (list_any (same_spot p) ps)
  where
    by_test : (b : Bool) → length (if b then ps else (ps ++ p ∷ [])) ≤ length ps + 1
    by_test true = omega arith
    by_test false = let e = length-append ps (p ∷ []) in omega (arith, e)

points_few : (ps : List Spot) (ls : List Line) → length (points_after ps ls) ≤ length ps + 2 * length ls
points_few ps [] = omega arith
points_few ps (l ∷ ls) =
    let a = one_more ps l.from in
    let b = one_more (with_point ps l.from) l.to in
    let c = points_few (with_point (with_point ps l.from) l.to) ls in
    omega (arith, a, b, c)

printed_whole : (w : WadFile) → length w.lumps ≤ 65536 → printed_len w.lumps < 2 ^ 31 → printed w ≡ Ok (print w)
unfolding printed
printed_whole w few short = by_tests (nat_lt 65536 (length w.lumps)) (nat_le (2 ^ 31) (printed_len w.lumps)) refl refl
  where
    by_tests : (a b : Bool) → nat_lt 65536 (length w.lumps) ≡ a → nat_le (2 ^ 31) (printed_len w.lumps) ≡ b → (if a then Err fault.TooManyLumps else (if b then Err fault.TooLong else Ok (print w))) ≡ Ok (print w)
    by_tests true b p q = let many = ltb-true 65536 (length w.lumps) p in absurd (omega (arith, few, many))
    by_tests false true p q = let long = leb-true (2 ^ 31) (printed_len w.lumps) q in absurd (omega (arith, short, long))
    by_tests false false p q = refl

sectors_few : (n : ℕ) → n ≤ 18 → sector_count n ≤ 972
sectors_few n small =
    let less : n - 1 ≤ 18 = omega (arith, small) in
    let a : n * n ≤ 324 = product_small n n small small in
    let b : n * (n - 1) ≤ 324 = product_small n (n - 1) small less in
    omega (arith, a, b)

module _ (n : ℕ) (small : n ≤ 18) where
  few : length (lines_of n) ≤ 11664
  few = lines_few n small

  linedefs_short : length (linedefs_in n) ≤ 200000
  unfolding linedefs_in
  linedefs_short = let e = linedefs_length (points_in n) 0 (lines_of n) in let f = few in omega (arith, e, f)

  hexen_short : length (hexen_of (linedefs_in n)) ≤ 300000
  unfolding hexen_of
  hexen_short =
      let e = first_length (linedefs_in n) (length (linedefs_in n) / 14) (omega arith) in
      let f = linedefs_short in
      omega (arith, e, f)

  sidedefs_short : length (sidedefs_of (lines_of n)) ≤ 700000
  sidedefs_short = let e = sidedefs_few (lines_of n) in let f = few in omega (arith, e, f)

  vertexes_short : length (vertexes_of (points_in n)) ≤ 100000
  unfolding points_in
  vertexes_short = let e = vertexes_length (points_after [] (lines_of n)) in let g = points_few [] (lines_of n) in let f = few in omega (arith, e, g, f)

  sectors_short : length (replicate {A = ℕ} (26 * sector_count n) 0) ≤ 26000
  sectors_short = let e = length-replicate {A = ℕ} (26 * sector_count n) 0 in let f = sectors_few n small in omega (arith, e, f)

  doom_few : length (doom_file n).lumps ≤ 65536
  unfolding doom_file grid_lumps
  doom_few = omega arith

  doom_short : printed_len (doom_file n).lumps < 2 ^ 31
  unfolding doom_file grid_lumps
  doom_short = let a = linedefs_short in let b = sidedefs_short in let c = vertexes_short in let d = sectors_short in omega (arith, a, b, c, d)

  hexen_few : length (hexen_file n).lumps ≤ 65536
  unfolding hexen_file grid_lumps
  hexen_few = omega arith

  hexens_short : printed_len (hexen_file n).lumps < 2 ^ 31
  unfolding hexen_file grid_lumps
  hexens_short = let a = hexen_short in let b = sidedefs_short in let c = vertexes_short in let d = sectors_short in omega (arith, a, b, c, d)

-- so all of it is written
pub fits : (n : ℕ) (f : MapFormat) → n ≤ 18 → printed (grid_file n f) ≡ Ok (print (grid_file n f))
fits n Doom small = printed_whole (doom_file n) (doom_few n small) (doom_short n small)
fits n Hexen small = printed_whole (hexen_file n) (hexen_few n small) (hexens_short n small)
fits n Text small = printed_whole (doom_file n) (doom_few n small) (doom_short n small)

-- .. and no limit refuses it
pub refused : {A : Type 0} (view : A → List ℕ) (n : ℕ) (f : MapFormat) (r : Result A RewriteFault) (g : RewriteFault) → n ≤ 18 → WritesWad view r (printed (grid_file n f)) → r ≡ Err g → (g ≡ fault.TooManyLumps) ⊎ (g ≡ fault.TooLong) → ⊥
refused {A = A} view n f r g small w is limit = by_answer r (subst (λ (x : Result (List ℕ) RewriteFault). WritesWad view r x) (fits n f small) w) is limit
  where
    by_answer : (s : Result A RewriteFault) → WritesWad view s (Ok (print (grid_file n f))) → s ≡ Err g → (g ≡ fault.TooManyLumps) ⊎ (g ≡ fault.TooLong) → ⊥
    by_answer (Ok v) said e l = absurd cc
    by_answer (Err (fault.Memory _)) said e (inl l) = absurd cc
    by_answer (Err (fault.Memory _)) said e (inr l) = absurd cc
    by_answer (Err fault.TooManyLumps) said e l = absurd cc
    by_answer (Err fault.TooLong) said e l = absurd cc
