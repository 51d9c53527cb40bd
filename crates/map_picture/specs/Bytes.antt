-- The bytes of a picture: SVG, one element a line. The whole, each face and each line have a title, which a browser shows under the
-- pointer; what has none lets the pointer through.
use Rattle.std.specs.Prelude.{ℕ, zero, suc, ◌+◌, ◌*◌, ◌/◌, ◌%◌, ◌-◌, ◌==◌, ◌||◌, List, [], ◌∷◌, ◌++◌, Option, Some, None, Bool, true, false, ℤ, pos, int_lt, unsigned_abs, codes, replicate, slice_index_or, if◌then◌else◌}
use Rattle.std.specs.Fmt.{decimal, signed_decimal}
use Rattle.std.specs.List.{flat_map, range_with_len}
use Rattle.sight_names.specs.declared.faults.LineFault.TheVariants as clash
use Rattle.sight_names.specs.declared.names.Pt.{Pt}
use Rattle.sight_names.specs.declared.names.Ray.{Ray}
use Rattle.sight_names.specs.declared.names.Side.{Side}
use Rattle.sight_names.specs.declared.names.Triangle.{Triangle}
use Rattle.sight_names.specs.Map.{Map, MapLine, line_at, origin}
use Rattle.sight_names.specs.Points.{place, points_of}
use Rattle.map_picture.specs.declared.frame.Frame.{Frame}
use Rattle.map_picture.specs.declared.frame.Sizes.{Sizes}
use Rattle.map_picture.specs.declared.scale.Bar.{Bar}
use Rattle.map_picture.specs.declared.crossings.Spot.{Spot}
use Rattle.map_picture.specs.declared.arrows.Arrow.{Arrow}
use Rattle.map_picture.specs.declared.arrows.Corners.{Corners}
use Rattle.map_picture.specs.declared.faults.FaultAt.{FaultAt}
use Rattle.map_picture.specs.declared.faults.PointFault.{PointFault}
use Rattle.map_picture.specs.declared.faults.PointFault.TheVariants as point
use Rattle.map_picture.specs.declared.pair.Stop.{Stop}
use Rattle.map_picture.specs.declared.rings.Letter.{Letter}
use Rattle.map_picture.specs.declared.rings.Letter.TheVariants as letter
use Rattle.map_picture.specs.declared.sheet.Subject.{Subject}
use Rattle.map_picture.specs.declared.sheet.Subject.TheVariants as subject
use Rattle.map_picture.specs.declared.tint.Tint.{Tint}
use Rattle.map_picture.specs.declared.tint.Tint.TheVariants as tint
use Rattle.map_picture.specs.declared.units.Short.{Short}
use Rattle.map_picture.specs.Frame.{place_across, place_down, frame_of_points, sizes_of_frame, width_of}
use Rattle.map_picture.specs.Scale.{bar_for}
use Rattle.map_picture.specs.Crossings.{crossing_spot}
use Rattle.map_picture.specs.Picture.{Element, Head, Title, Style, Paper, Scale, Face, Line, Entered, Stops, Sight, Marked, Fault, Out, Ring, Legend, Foot, heat_of}

-- a text, and a number behind it
unfoldable pub count_text : List ℕ → ℕ → List ℕ
count_text word n = word ++ decimal n

-- ---- the head

-- how wide and high the picture is, in the map's own unit and in pixels
unfoldable pub size_text : Sizes → List ℕ
size_text s = count_text (codes " ") s.wide ++ count_text (codes " ") s.high ++ count_text (codes "\" width=\"") s.wide_pixels ++ count_text (codes "\" height=\"") s.high_pixels

unfoldable pub head_text : Sizes → List ℕ
head_text s = count_text (codes "<svg xmlns=\"http://www.w3.org/2000/svg\" viewBox=\"-") s.margin ++ count_text (codes " -") s.margin ++ size_text s ++ codes "\">\n"

-- a character of a text, where two have a meaning of their own
abbrev pub escaped_char : ℕ → List ℕ
escaped_char c = if c == 38 then codes "&amp;" else if c == 60 then codes "&lt;" else c ∷ []

abbrev pub escaped_text : List ℕ → List ℕ
escaped_text text = flat_map escaped_char text

unfoldable pub left_out_text : ℕ → List ℕ
left_out_text left_out = count_text (codes ", ") left_out ++ codes " clashes left out"

-- how many clashes are left out, if any
abbrev pub left_out_words : ℕ → List ℕ
left_out_words left_out = if left_out == 0 then [] else left_out_text left_out

-- what a picture tells of its map
abbrev pub subject_text : Subject → List ℕ
subject_text subject.Plan = []
subject_text (subject.Faults left_out) = codes " faults" ++ left_out_words left_out
subject_text (subject.Row a) = count_text (codes " row ") a
subject_text (subject.Pair a b) = count_text (codes " pair ") a ++ count_text (codes " ") b
subject_text subject.Heat = codes " heat"

unfoldable pub title_text : List ℕ → Subject → List ℕ
title_text name about = codes "<title>" ++ escaped_text name ++ subject_text about ++ codes "</title>\n"

-- The colours of faces differ in their grey values too, and the triangles that sight enters have edges of their own. What has no
-- title lets the pointer through.
abbrev pub light_text : List ℕ
light_text = codes "<style>path,circle{fill:none;stroke-linecap:round}.w,.u,.o{stroke:#000}.p{stroke:#9a9a9a}.k,.r{stroke:#d62728}.i{stroke:#fff}.a{fill:#1f77b4}.b{fill:#ff7f0e}.c{fill:#9ecae1}.s{fill:#e4e4e4}.f{fill:#a1d99b;stroke:#41ab5d}.k,.f,.u,.n{pointer-events:none}"

-- how thick strokes are, in the map's own unit, and where that is known in pixels at any size of the picture
unfoldable pub units_text : ℕ → List ℕ
units_text stroke = count_text (codes "path,circle{stroke-width:") stroke ++ count_text (codes "}.w,.o{stroke-width:") (2 * stroke) ++ count_text (codes "}.r,.u{stroke-width:") (3 * stroke)
    ++ count_text (codes "}.k{stroke-width:") (4 * stroke) ++ count_text (codes "}.i{stroke-width:") (6 * stroke)

abbrev pub pixels_text : List ℕ
pixels_text = codes "}@supports(vector-effect:non-scaling-stroke){path,circle{vector-effect:non-scaling-stroke;stroke-width:1}.f{stroke-width:.5}.w,.o{stroke-width:2}.r,.u{stroke-width:3}.k{stroke-width:4}.i{stroke-width:6}}"

-- the eight shades
abbrev pub shades_text : List ℕ
shades_text = codes ".h0{fill:#ffffcc}.h1{fill:#ffeda0}.h2{fill:#fed976}.h3{fill:#feb24c}.h4{fill:#fd8d3c}.h5{fill:#fc4e2a}.h6{fill:#e31a1c}.h7{fill:#b10026}"

-- on a dark page
abbrev pub dark_text : List ℕ
dark_text = codes "@media(prefers-color-scheme:dark){.paper{fill:#181818}.w,.u,.o{stroke:#f2f2f2}.p{stroke:#8a8a8a}.k,.r{stroke:#ff6b6b}.a{fill:#4da3e8}.b{fill:#ff9a3c}.c{fill:#2c4f6e}.s{fill:#383838}.f{fill:#24592b;stroke:#74c476}.i{stroke:#181818}text{fill:#f2f2f2;stroke:#181818}.h0{fill:#2a1636}.h1{fill:#451a4a}.h2{fill:#65205a}.h3{fill:#872a5c}.h4{fill:#aa3655}.h5{fill:#cc4a49}.h6{fill:#e76a3c}.h7{fill:#f99a3e}}"

-- how large a text is, and how wide what sets it off
unfoldable pub letters_text : ℕ → List ℕ
letters_text margin = count_text (codes "text{font:bold ") margin ++ count_text (codes "px sans-serif;fill:#000;stroke:#fff;paint-order:stroke;stroke-width:") (margin / 4) ++ codes "}"

unfoldable pub style_text : Sizes → List ℕ
style_text s = light_text ++ units_text s.stroke ++ pixels_text ++ shades_text ++ letters_text s.margin ++ dark_text ++ codes "</style>\n"

unfoldable pub paper_text : Sizes → List ℕ
paper_text s = count_text (codes "<rect class=\"paper\" fill=\"#fff\" x=\"-") s.margin ++ count_text (codes "\" y=\"-") s.margin
    ++ count_text (codes "\" width=\"") s.wide ++ count_text (codes "\" height=\"") s.high ++ codes "\"/>\n"

-- a text at a place of the picture, moved by some of its own size
unfoldable pub written_text : List ℕ → ℕ → ℕ → List ℕ → List ℕ
written_text word x y moved = word ++ count_text (codes "<text x=\"") x ++ count_text (codes "\" y=\"") y ++ moved

-- so many of the last of some decimal places, as a number without zeros at its end where these are less than ten
unfoldable pub tenths_text : ℕ → ℕ → List ℕ
tenths_text count behind = codes "0." ++ replicate (behind - 1) 48 ++ decimal count

-- how long a bar is in map units
abbrev pub told_text : Bar → List ℕ
told_text b = if b.behind == 0 || b.steps == 0 then decimal b.steps else tenths_text b.steps b.behind

-- a bar from below the map's left edge, and behind it how long it is in map units
unfoldable pub scale_text : Sizes → Bar → List ℕ
scale_text s b = count_text (codes "<path class=\"u\" d=\"M0 ") s.strip ++ count_text (codes "H") b.length
    ++ written_text (codes "\"/>") b.length s.strip (codes "\" dx=\".6em\" dy=\".36em\" class=\"n\">") ++ told_text b ++ codes "</text>\n"

-- ---- points and ids

unfoldable pub point_text : Frame → Pt → List ℕ
point_text f p = decimal (place_across f p) ++ count_text (codes " ") (place_down f p)

-- to the point in a straight line, or with no line
abbrev pub step_text : Frame → List ℕ → Pt → List ℕ
step_text f word p = word ++ point_text f p

abbrev pub face_id : ℕ → List ℕ
face_id g = count_text (codes "G") g

abbrev pub line_id : ℕ → List ℕ
line_id i = count_text (codes "L") i

-- the id of an element, nothing where it has none
abbrev pub id_of : Element → List ℕ
id_of (Face t g names ts) = face_id g
id_of (Line i l) = line_id i
id_of (Entered sector us) = codes "open"
id_of (Stops ss) = codes "stops"
id_of (Sight r first last) = codes "ray"
id_of (Marked marks) = codes "fault"
id_of e = []

-- a path of a class as far as its points
unfoldable pub path_text : List ℕ → List ℕ → List ℕ
path_text class_name id = codes "<path class=\"" ++ class_name ++ codes "\" id=\"" ++ id ++ codes "\" d=\""

-- ---- the faces

abbrev pub tint_class : Tint → List ℕ
tint_class tint.Source = codes "a"
tint_class tint.Clear = codes "c"
tint_class tint.Set = codes "s"
tint_class tint.Target = codes "b"
tint_class tint.Other = codes "s"
tint_class (tint.Heat count most) = count_text (codes "h") (heat_of count most)

-- the count, where that is told
abbrev pub tint_words : Tint → List ℕ
tint_words (tint.Heat count most) = count_text (codes " sees ") count
tint_words tint.Source = []
tint_words tint.Clear = []
tint_words tint.Set = []
tint_words tint.Target = []
tint_words tint.Other = []

unfoldable pub triangle_text : Frame → Map → Triangle → List ℕ
triangle_text f m t = step_text f (codes "M") (place m t.p) ++ step_text f (codes "L") (place m t.q) ++ step_text f (codes "L") (place m t.r) ++ codes "z"

abbrev pub triangles_text : Frame → Map → List Triangle → List ℕ
triangles_text f m ts = flat_map (triangle_text f m) ts

abbrev pub names_text : List ℕ → List ℕ
names_text names = flat_map (count_text (codes " ")) names

-- the sectors of a face as its title, which ends the path
unfoldable pub face_title : Tint → List ℕ → List ℕ
face_title t names = codes "\"><title>sector" ++ names_text names ++ tint_words t ++ codes "</title></path>\n"

unfoldable pub face_text : Frame → Map → Tint → ℕ → List ℕ → List Triangle → List ℕ
face_text f m t g names ts = path_text (tint_class t) (face_id g) ++ triangles_text f m ts ++ face_title t names

-- ---- the lines

abbrev pub line_class : Bool → List ℕ
line_class true = codes "w"
line_class false = codes "p"

-- the sector that a side names; nothing for a side that names none
abbrev pub sector_words : List ℕ → Option ℕ → List ℕ
sector_words word None = []
sector_words word (Some sector) = count_text word sector

unfoldable pub ends_text : Frame → Pt → Pt → List ℕ
ends_text f first second = step_text f (codes "M") first ++ step_text f (codes "L") second

-- a line's number and the sectors of its sides as its title, which ends the path
unfoldable pub line_title : ℕ → Option ℕ → Option ℕ → List ℕ
line_title i right left = count_text (codes "\"><title>") i ++ sector_words (codes " front ") right ++ sector_words (codes " back ") left ++ codes "</title></path>\n"

unfoldable pub line_text : Frame → ℕ → MapLine → List ℕ
line_text f i l = path_text (line_class l.solid) (line_id i) ++ ends_text f l.first l.second ++ line_title i l.right l.left

-- ---- a pair of sectors

-- the sector out of which is seen as a title, which ends the path
unfoldable pub entered_title : ℕ → List ℕ
entered_title sector = count_text (codes "\"><title>sight out of sector ") sector ++ codes "</title></path>\n"

unfoldable pub entered_text : Frame → Map → ℕ → List Triangle → List ℕ
entered_text f m sector us = path_text (codes "f") (codes "open") ++ triangles_text f m us ++ entered_title sector

abbrev pub stop_text : Frame → Map → Stop → List ℕ
stop_text f m s = ends_text f (place m s.from) (place m s.to)

abbrev pub stop_texts : Frame → Map → List Stop → List ℕ
stop_texts f m ss = flat_map (stop_text f m) ss

unfoldable pub stops_text : Frame → Map → List Stop → List ℕ
stops_text f m ss = path_text (codes "k") (codes "stops") ++ stop_texts f m ss ++ codes "\"/>\n"

-- so many thousandths, with three digits behind the point
unfoldable pub thousandths_text : ℕ → List ℕ
thousandths_text t = decimal (t / 1000) ++ count_text (codes ".") (t / 100 % 10) ++ decimal (t / 10 % 10) ++ decimal (t % 10)

unfoldable pub spot_text : List ℕ → Spot → List ℕ
spot_text word s = word ++ thousandths_text s.across ++ codes " " ++ thousandths_text s.down

-- a side as an order names it, as 5L
abbrev pub side_letter : Bool → List ℕ
side_letter true = codes "L"
side_letter false = codes "R"

unfoldable pub side_text : List ℕ → Side → List ℕ
side_text word s = count_text word s.line ++ side_letter s.left

unfoldable pub sides_text : Ray → List ℕ
sides_text r = side_text (codes "\"><title>") r.first ++ side_text (codes ",") r.last

unfoldable pub coefficient_text : ℤ → List ℕ
coefficient_text z = codes "," ++ signed_decimal z

unfoldable pub coefficients_text : Ray → List ℕ
coefficients_text r = coefficient_text r.a ++ coefficient_text r.b ++ coefficient_text r.c

-- a ray as an order names it, as its title, which ends the path
unfoldable pub ray_title : Ray → List ℕ
ray_title r = sides_text r ++ coefficients_text r ++ codes "</title></path>\n"

unfoldable pub sight_text : Frame → Ray → MapLine → MapLine → List ℕ
sight_text f r first last = path_text (codes "r") (codes "ray") ++ spot_text (codes "M") (crossing_spot f r first.first first.second)
    ++ spot_text (codes "L") (crossing_spot f r last.first last.second) ++ ray_title r

-- ---- marks

-- over a line, where there is one
abbrev pub mark_over : Frame → Option MapLine → List ℕ
mark_over f None = []
mark_over f (Some l) = ends_text f l.first l.second

abbrev pub mark_text : Frame → Map → ℕ → List ℕ
mark_text f m i = mark_over f (line_at m i)

abbrev pub mark_texts : Frame → Map → List ℕ → List ℕ
mark_texts f m marks = flat_map (mark_text f m) marks

unfoldable pub marked_text : Frame → Map → List ℕ → List ℕ
marked_text f m marks = path_text (codes "k") (codes "fault") ++ mark_texts f m marks ++ codes "\"/>\n"

-- ---- rings

abbrev pub letter_text : Letter → List ℕ
letter_text letter.A = codes "A"
letter_text letter.B = codes "B"

-- the middle of a triangle, cut down
abbrev pub middle_of : ℕ → ℕ → ℕ → ℕ
middle_of p q r = (p + q + r) / 3

abbrev pub middle_across : Frame → Map → Triangle → ℕ
middle_across f m t = middle_of (place_across f (place m t.p)) (place_across f (place m t.q)) (place_across f (place m t.r))

abbrev pub middle_down : Frame → Map → Triangle → ℕ
middle_down f m t = middle_of (place_down f (place m t.p)) (place_down f (place m t.q)) (place_down f (place m t.r))

unfoldable pub circle_text : List ℕ → ℕ → ℕ → ℕ → List ℕ
circle_text class_name x y radius = class_name ++ count_text (codes "\" cx=\"") x ++ count_text (codes "\" cy=\"") y ++ count_text (codes "\" r=\"") radius

-- two circles, of which the wider one sets off the other, and the letter beside them
unfoldable pub ring_shape : List ℕ → ℕ → ℕ → ℕ → List ℕ
ring_shape word x y margin = circle_text (codes "<circle class=\"i") x y margin ++ circle_text (codes "\"/><circle class=\"o") x y margin
    ++ written_text (codes "\"/>") x y (codes "\" dx=\"1em\" dy=\"-.5em\">") ++ word ++ codes "</text></g>\n"

-- the letter and the sector as a title
unfoldable pub ring_title : List ℕ → ℕ → List ℕ
ring_title word sector = codes "<g><title>" ++ word ++ count_text (codes ": sector ") sector ++ codes "</title>"

abbrev pub ring_text : Frame → Map → Letter → ℕ → Triangle → List ℕ
ring_text f m which sector t = ring_title (letter_text which) sector ++ ring_shape (letter_text which) (middle_across f m t) (middle_down f m t) (sizes_of_frame f).margin

-- ---- rings round points at fault

unfoldable pub clash_text : ℕ → ℕ → List ℕ → List ℕ
clash_text i j word = count_text (codes "lines ") i ++ count_text (codes " and ") j ++ word

abbrev pub fault_words : PointFault → List ℕ
fault_words (point.Clash (clash.Cross i j)) = clash_text i j (codes " cross")
fault_words (point.Clash (clash.Touch i j)) = clash_text i j (codes " touch")
fault_words (point.Clash (clash.Overlap i j)) = clash_text i j (codes " overlap")
fault_words point.Torn = codes "torn corner"
fault_words (point.Loose i) = count_text (codes "loose end of line ") i

-- the same number by as few decimal places as tell it
unfoldable pub shortest : ℕ → ℕ → Short
shortest zero n = record { count = n; places = 0 }
shortest (suc places) n = if n % 10 == 0 then shortest places (n / 10) else record { count = n; places = suc places }

-- a number without so many of its last digits, and these
unfoldable pub cut_off : ℕ → ℕ → ℕ
cut_off zero n = n
cut_off (suc places) n = cut_off places (n / 10)

unfoldable pub digits_text : ℕ → ℕ → List ℕ
digits_text zero n = []
digits_text (suc places) n = decimal (cut_off places n % 10) ++ digits_text places n

unfoldable pub parted_text : ℕ → ℕ → List ℕ
parted_text places n = decimal (cut_off places n) ++ codes "." ++ digits_text places n

abbrev pub short_text : Short → List ℕ
short_text s = if s.places == 0 then decimal s.count else parted_text s.places s.count

abbrev pub sign_text : ℤ → List ℕ
sign_text n = if int_lt n (pos 0) then codes "-" else []

-- so many of the last of some decimal places, as a number of map units
unfoldable pub units_of : ℕ → ℤ → List ℕ
units_of places n = sign_text n ++ short_text (shortest places (unsigned_abs n))

unfoldable pub coordinate_text : ℕ → List ℕ → ℤ → List ℕ
coordinate_text places word n = word ++ units_of places n

-- the coordinates in map units
unfoldable pub place_text : ℕ → Pt → List ℕ
place_text places c = coordinate_text places (codes " at ") c.x ++ coordinate_text places (codes ", ") c.y

unfoldable pub fault_title : ℕ → PointFault → Pt → List ℕ
fault_title places what c = codes "<g><title>" ++ fault_words what ++ place_text places c ++ codes "</title>"

-- two circles, of which the wider one sets off the other
unfoldable pub fault_shape : ℕ → ℕ → ℕ → List ℕ
fault_shape x y radius = circle_text (codes "<circle class=\"i") x y radius ++ circle_text (codes "\"/><circle class=\"r") x y radius ++ codes "\"/></g>\n"

-- that of a loose end is about half as wide as the others
abbrev pub fault_radius : ℕ → PointFault → ℕ
fault_radius margin (point.Clash which) = margin
fault_radius margin point.Torn = margin
fault_radius margin (point.Loose i) = margin / 2 + 1

abbrev pub fault_text : Frame → ℕ → PointFault → Pt → List ℕ
fault_text f places what c = fault_title places what c ++ fault_shape (place_across f c) (place_down f c) (fault_radius (sizes_of_frame f).margin what)

-- .. if there is such a point
abbrev pub fault_place_text : Frame → ℕ → PointFault → Option Pt → List ℕ
fault_place_text f places what None = []
fault_place_text f places what (Some c) = fault_text f places what c

abbrev pub fault_at_text : Frame → ℕ → FaultAt → List ℕ
fault_at_text f places a = fault_place_text f places a.fault a.at

abbrev pub fault_texts : Frame → ℕ → List FaultAt → List ℕ
fault_texts f places faults = flat_map (fault_at_text f places) faults

-- ---- arrows round torn corners

-- half of the way from one place to another, and five eighths of it, cut down
abbrev pub half_way : ℕ → ℕ → ℕ
half_way x y = (x + y) / 2

abbrev pub past_half : ℕ → ℕ → ℕ
past_half x y = (3 * x + 5 * y) / 8

-- a place in whole units, and a word before it
unfoldable pub whole_text : List ℕ → ℕ → ℕ → List ℕ
whole_text word x y = count_text word x ++ count_text (codes " ") y

abbrev pub base_text : Frame → List ℕ → Pt → Pt → List ℕ
base_text f word p q = whole_text word (past_half (place_across f p) (place_across f q)) (past_half (place_down f p) (place_down f q))

abbrev pub tip_text : Frame → Pt → Pt → List ℕ
tip_text f p q = whole_text (codes "L") (half_way (place_across f p) (place_across f q)) (half_way (place_down f p) (place_down f q))

-- the base is the middle quarter of the edge that is crossed, the tip the middle of the next one
unfoldable pub arrow_shape : Frame → Corners → List ℕ
arrow_shape f c = base_text f (codes "<path class=\"r\" d=\"M") c.from c.point ++ base_text f (codes "L") c.point c.from ++ tip_text f c.point c.to

-- the torn corner as a title, which ends the path
unfoldable pub arrow_title : ℕ → Pt → List ℕ
arrow_title places c = codes "z\"><title>out round the torn corner" ++ place_text places c ++ codes "</title></path>\n"

unfoldable pub arrow_text : Frame → ℕ → Corners → List ℕ
arrow_text f places c = arrow_shape f c ++ arrow_title places c.point

-- the points with the three numbers
abbrev pub corners_in : List Pt → Arrow → Corners
corners_in points w = record { from = slice_index_or points w.from origin; point = slice_index_or points w.point origin; to = slice_index_or points w.to origin }

abbrev pub arrow_texts : Frame → ℕ → List Pt → List Arrow → List ℕ
arrow_texts f places points arrows = flat_map (λ (w : Arrow). arrow_text f places (corners_in points w)) arrows

-- ---- the legend of shades

-- the least count that may have the shade
abbrev pub least_of : ℕ → ℕ → ℕ
least_of most shade = (shade * (most + 1) + 7) / 8

-- a rectangle of the shade in the lower strip, and the least count that has it
unfoldable pub swatch_shown : Sizes → ℕ → ℕ → List ℕ
swatch_shown s shade count = count_text (codes "<rect class=\"h") shade ++ count_text (codes "\" x=\"") (s.wide / 2 + s.wide / 20 * shade) ++ count_text (codes "\" y=\"") s.strip
    ++ count_text (codes "\" width=\"") (s.wide / 20) ++ count_text (codes "\" height=\"") s.margin ++ written_text (codes "\"/>") (s.wide / 2 + s.wide / 20 * shade) s.strip (codes "\" dy=\"-.2em\">") ++ count_text [] count ++ codes "</text>"

-- .. if some count has it
abbrev pub swatch_text : Sizes → ℕ → ℕ → List ℕ
swatch_text s most shade = if heat_of (least_of most shade) most == shade then swatch_shown s shade (least_of most shade) else []

unfoldable pub legend_text : Sizes → ℕ → List ℕ
legend_text s most = codes "<g class=\"n\">" ++ flat_map (swatch_text s most) (range_with_len 0 8) ++ codes "</g>\n"

-- ---- the whole

abbrev pub bytes_of_element : Frame → Map → Element → List ℕ
bytes_of_element f m Head = head_text (sizes_of_frame f)
bytes_of_element f m (Title name about) = title_text name about
bytes_of_element f m Style = style_text (sizes_of_frame f)
bytes_of_element f m Paper = paper_text (sizes_of_frame f)
bytes_of_element f m (Scale places) = scale_text (sizes_of_frame f) (bar_for (width_of f) places)
bytes_of_element f m (Face t g names ts) = face_text f m t g names ts
bytes_of_element f m (Line i l) = line_text f i l
bytes_of_element f m (Entered sector us) = entered_text f m sector us
bytes_of_element f m (Stops ss) = stops_text f m ss
bytes_of_element f m (Sight r first last) = sight_text f r first last
bytes_of_element f m (Marked marks) = marked_text f m marks
bytes_of_element f m (Fault places what c) = fault_text f places what c
bytes_of_element f m (Out places w) = arrow_text f places (corners_in (points_of m) w)
bytes_of_element f m (Ring which sector t) = ring_text f m which sector t
bytes_of_element f m (Legend most) = legend_text (sizes_of_frame f) most
bytes_of_element f m Foot = codes "</svg>\n"

abbrev pub spelled_picture : Frame → Map → List Element → List ℕ
spelled_picture f m elements = flat_map (bytes_of_element f m) elements

-- the elements in the frame of the map
abbrev pub svg_of : Map → List Element → List ℕ
svg_of m elements = spelled_picture (frame_of_points (points_of m)) m elements
