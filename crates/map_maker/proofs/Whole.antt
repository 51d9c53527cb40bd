-- LINEDEFS of a made map has whole records.
use Rattle.std.proofs.Common.{◌≡◌, ℕ, ◌+◌, ◌%◌, List, [], ◌∷◌, length, refl, arith}
use Rattle.std.proofs.lemmas.List.{length-append}
use Rattle.map_maker.specs.declared.lines.Spot.{Spot}
use Rattle.map_maker.specs.declared.lines.Line.{Line}
use Rattle.map_maker.specs.Lumps.{linedef, linedefs_from, linedefs_in, side_count}

pub linedef_length : (points : List Spot) (side : ℕ) (l : Line) → length (linedef points side l) ≡ 14
unfolding linedef
linedef_length points side l = refl

whole_from : (points : List Spot) (side : ℕ) (ls : List Line) → length (linedefs_from points side ls) % 14 ≡ 0
whole_from points side [] = refl
whole_from points side (l ∷ ls) =
    let a = length-append (linedef points side l) (linedefs_from points (side + side_count l.left) ls) in
    let b = linedef_length points side l in
    let c = whole_from points (side + side_count l.left) ls in
    omega (arith, a, b, c)

pub linedefs_whole : (n : ℕ) → length (linedefs_in n) % 14 ≡ 0
unfolding linedefs_in
linedefs_whole n = whole_from _ 0 _
