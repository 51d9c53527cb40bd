-- The picture of a map as a list of elements. Each kind of picture has the same paper and the same lines; what it tells
-- besides stands in further elements, under the lines or over them.
use Rattle.std.specs.Prelude.{ℕ, ◌+◌, ◌*◌, ◌/◌, ◌==◌, ℤ, List, [], ◌∷◌, ◌++◌, Option, Some, None, Bool, true, false, int_lt, map, max, slice_index_or, if◌then◌else◌}
use Rattle.std.specs.List.{flat_map, list_all, list_any}
use Rattle.sight_names.specs.declared.names.Pt.{Pt}
use Rattle.sight_names.specs.declared.names.Ray.{Ray}
use Rattle.sight_names.specs.declared.names.Triangle.{Triangle}
use Rattle.sight_names.specs.Map.{Map, MapLine, line_at}
use Rattle.sight_names.specs.Points.{place}
use Rattle.sight_names.specs.Ray.{IsSightRay}
use Rattle.sight_names.specs.Table.{table_bit}
use Rattle.geom_exact.specs.Formulas.{turn_of}
use Rattle.reject_bits.specs.Parts.{TableParts}
use Rattle.map_picture.specs.declared.arrows.Arrow.{Arrow}
use Rattle.map_picture.specs.declared.faults.FaultAt.{FaultAt}
use Rattle.map_picture.specs.declared.faults.PointFault.{PointFault}
use Rattle.map_picture.specs.declared.pair.Stop.{Stop}
use Rattle.map_picture.specs.declared.rings.Letter.{Letter}
use Rattle.map_picture.specs.declared.rings.Letter.TheVariants as letter
use Rattle.map_picture.specs.declared.sheet.Subject.{Subject}
use Rattle.map_picture.specs.declared.sheet.Subject.TheVariants as subject
use Rattle.map_picture.specs.declared.tint.Tint.{Tint}
use Rattle.map_picture.specs.declared.tint.Tint.TheVariants as tint

-- a map's name, and the decimal places of the unit in which its points are told
pub record NamedParts : Type 0 where
  pub text : List ℕ
  pub places : ℕ

pub data Element : Type 0 where
  -- the root, with its size
  Head : Element
  -- the title of the whole: the name of the map, and what the picture tells of it
  Title : List ℕ → Subject → Element
  -- how each class is painted
  Style : Element
  -- the ground
  Paper : Element
  -- how long some map units are, where points are told in units of the last of so many decimal places
  Scale : ℕ → Element
  -- the triangles of a group, with its number and the sectors that it names
  Face : Tint → ℕ → List ℕ → List Triangle → Element
  -- a line, with its record number
  Line : ℕ → MapLine → Element
  -- the triangles that sight out of this sector enters
  Entered : ℕ → List Triangle → Element
  -- where the last ways of such sight end
  Stops : List Stop → Element
  -- a ray from the first of these lines to the second, which are those of its sides
  Sight : Ray → MapLine → MapLine → Element
  -- the lines with these record numbers, marked
  Marked : List ℕ → Element
  -- a ring round a point at which this is at fault; points are told in units of the last of so many decimal places
  Fault : ℕ → PointFault → Pt → Element
  -- an arrow through a triangle at a torn corner, with the places too
  Out : ℕ → Arrow → Element
  -- a ring with this letter in the middle of a triangle of this sector
  Ring : Letter → ℕ → Triangle → Element
  -- which counts each shade stands for, up to the greatest one
  Legend : ℕ → Element
  -- the end
  Foot : Element

-- ---- the lines

-- the line, if it is solid or passable as asked
abbrev pub line_if : Bool → ℕ → MapLine → List Element
line_if true i l = if l.solid then Line i l ∷ [] else []
line_if false i l = if l.solid then [] else Line i l ∷ []

abbrev pub entry_if : Bool → ℕ → Option MapLine → List Element
entry_if solid i None = []
entry_if solid i (Some l) = line_if solid i l

-- the solid lines of these records, or the passable ones, in order; the first record has this number
abbrev pub lines_from : Bool → ℕ → List (Option MapLine) → List Element
lines_from solid i [] = []
lines_from solid i (entry ∷ entries) = entry_if solid i entry ++ lines_from solid (i + 1) entries

-- the solid ones come last, so that they lie above the others where both meet
abbrev pub line_elements : Map → List Element
line_elements m = lines_from false 0 m.lines ++ lines_from true 0 m.lines

-- ---- the faces

abbrev pub has_label : ℕ → Option ℕ → Bool
has_label g None = false
has_label g (Some label) = label == g

-- the triangles with this label, in order
abbrev pub labelled_with : ℕ → List Triangle → List (Option ℕ) → List Triangle
labelled_with g [] labels = []
labelled_with g (t ∷ ts) [] = []
labelled_with g (t ∷ ts) (label ∷ labels) = if has_label g label then t ∷ labelled_with g ts labels else labelled_with g ts labels

-- the groups in order, each with its tint and its triangles; the first has this number
abbrev pub faces_from : List Triangle → List (Option ℕ) → ℕ → List Tint → List (List ℕ) → List Element
faces_from ts labels g [] groups = []
faces_from ts labels g (t ∷ tints) [] = []
faces_from ts labels g (t ∷ tints) (names ∷ groups) = Face t g names (labelled_with g ts labels) ∷ faces_from ts labels (g + 1) tints groups

-- ---- rings

-- a triangle with this label is one of the sector: its group names it
abbrev pub is_of : List (List ℕ) → ℕ → Option ℕ → Bool
is_of groups sector None = false
is_of groups sector (Some g) = list_any (λ b. b == sector) (slice_index_or groups g [])

abbrev pub doubled_area : Map → Triangle → ℤ
doubled_area m t = turn_of (place m t.p) (place m t.q) (place m t.r)

-- the larger of two triangles, the first one where they are as large
abbrev pub larger : Map → Option Triangle → Triangle → Triangle
larger m None t = t
larger m (Some best) t = if int_lt (doubled_area m best) (doubled_area m t) then t else best

-- the largest of a triangle, if there is one, and of those among these that are of the sector
abbrev pub largest_of : Map → List (List ℕ) → ℕ → Option Triangle → List Triangle → List (Option ℕ) → Option Triangle
largest_of m groups sector best [] labels = best
largest_of m groups sector best (t ∷ ts) [] = best
largest_of m groups sector best (t ∷ ts) (label ∷ labels) = largest_of m groups sector (if is_of groups sector label then Some (larger m best t) else best) ts labels

abbrev pub ring_at : Letter → ℕ → Option Triangle → List Element
ring_at which sector None = []
ring_at which sector (Some t) = Ring which sector t ∷ []

-- a ring in the largest triangle of a sector, if it has one
abbrev pub ring_of : Map → List (List ℕ) → List Triangle → List (Option ℕ) → Letter → ℕ → List Element
ring_of m groups ts labels which sector = ring_at which sector (largest_of m groups sector None ts labels)

-- ---- the pictures

-- what each picture begins with
abbrev pub sheet_of : NamedParts → Subject → List Element
sheet_of name about = Head ∷ Title name.text about ∷ Style ∷ Paper ∷ Scale name.places ∷ []

-- The lines of the map on paper, with further elements under them and over them.
abbrev pub picture_of : NamedParts → Subject → Map → List Element → List Element → List Element
picture_of name about m under over = sheet_of name about ++ under ++ line_elements m ++ over ++ Foot ∷ []

-- the faces of all groups, of which nothing is told
abbrev pub plan_faces : List (List ℕ) → List Triangle → List (Option ℕ) → List Element
plan_faces groups ts labels = faces_from ts labels 0 (map (λ names. tint.Other) groups) groups

-- the plan alone
abbrev pub plan_picture : NamedParts → Map → List (List ℕ) → List Triangle → List (Option ℕ) → List Element
plan_picture name m groups ts labels = picture_of name subject.Plan m (plan_faces groups ts labels) []

-- what is at fault, if it is at one point
abbrev pub fault_mark_if : ℕ → PointFault → Option Pt → List Element
fault_mark_if places what None = []
fault_mark_if places what (Some c) = Fault places what c ∷ []

abbrev pub faults_from : ℕ → List FaultAt → List Element
faults_from places faults = flat_map (λ (a : FaultAt). fault_mark_if places a.fault a.at) faults

abbrev pub arrows_from : ℕ → List Arrow → List Element
arrows_from places arrows = map (λ (w : Arrow). Out places w) arrows

-- the plan without faces, with marks over the lines with these record numbers, rings round points at fault, and arrows; so many
-- clashes are left out
abbrev pub marked_picture : NamedParts → Map → ℕ → List ℕ → List FaultAt → List Arrow → List Element
marked_picture name m left_out marks faults arrows = picture_of name (subject.Faults left_out) m [] (Marked marks ∷ faults_from name.places faults ++ arrows_from name.places arrows)

-- what the table's row of sector a says of a group: set only if it is so for each sector that the group names
abbrev pub row_tint : TableParts → ℕ → List ℕ → Tint
row_tint t a names =
    if list_any (λ b. b == a) names then tint.Source
    else if list_all (λ b. table_bit t.bytes (a * t.n + b) == 1) names then tint.Set
    else tint.Clear

-- the row of sector a in a table, over the groups of the map
abbrev pub row_picture : NamedParts → Map → List (List ℕ) → List Triangle → List (Option ℕ) → TableParts → ℕ → List Element
row_picture name m groups ts labels t a = picture_of name (subject.Row a) m (faces_from ts labels 0 (map (row_tint t a) groups) groups) (ring_of m groups ts labels letter.A a)

-- ---- how much is seen

-- which of eight shades a count has, if this is the greatest one
abbrev pub heat_of : ℕ → ℕ → ℕ
heat_of count most = 8 * count / (most + 1)

-- the greatest of some counts
abbrev pub most_of : List ℕ → ℕ
most_of [] = 0
most_of (count ∷ counts) = max count (most_of counts)

abbrev pub heat_tints : List ℕ → ℕ → List Tint
heat_tints counts most = map (λ count. tint.Heat count most) counts

-- each group by a count
abbrev pub heat_picture : NamedParts → Map → List (List ℕ) → List Triangle → List (Option ℕ) → List ℕ → List Element
heat_picture name m groups ts labels counts = picture_of name subject.Heat m (faces_from ts labels 0 (heat_tints counts (most_of counts)) groups) (Legend (most_of counts) ∷ [])

-- ---- a pair of sectors

-- a group that names a is painted as the source, and else one that names b as the target
abbrev pub pair_tint : ℕ → ℕ → List ℕ → Tint
pair_tint a b names = if list_any (λ s. s == a) names then tint.Source else if list_any (λ s. s == b) names then tint.Target else tint.Other

abbrev pub pair_faces : List (List ℕ) → List Triangle → List (Option ℕ) → ℕ → ℕ → List Element
pair_faces groups ts labels a b = faces_from ts labels 0 (map (pair_tint a b) groups) groups

-- a ring for each of the two
abbrev pub pair_rings : Map → List (List ℕ) → List Triangle → List (Option ℕ) → ℕ → ℕ → List Element
pair_rings m groups ts labels a b = ring_of m groups ts labels letter.A a ++ ring_of m groups ts labels letter.B b

-- the plan with the faces of two sectors
abbrev pub pair_picture : NamedParts → Map → List (List ℕ) → List Triangle → List (Option ℕ) → ℕ → ℕ → List Element
pair_picture name m groups ts labels a b = picture_of name (subject.Pair a b) m (pair_faces groups ts labels a b) (pair_rings m groups ts labels a b)

-- the triangles with these numbers
abbrev pub triangles_with_numbers : List Triangle → List ℕ → List Triangle
triangles_with_numbers ts entered = map (λ k. slice_index_or ts k (record { p = 0; q = 0; r = 0 })) entered

-- two sectors of which none sees the other: the triangles that sight out of this sector enters, and where it ends
abbrev pub blind_picture : NamedParts → Map → List (List ℕ) → List Triangle → List (Option ℕ) → ℕ → ℕ → ℕ → List ℕ → List Stop → List Element
blind_picture name m groups ts labels a b sector entered stops =
    picture_of name (subject.Pair a b) m (pair_faces groups ts labels a b ++ Entered sector (triangles_with_numbers ts entered) ∷ []) (Stops stops ∷ [] ++ pair_rings m groups ts labels a b)

-- the ray between two lines, if there are both
abbrev pub sight_between : Ray → Option MapLine → Option MapLine → List Element
sight_between r None last = []
sight_between r (Some first) None = []
sight_between r (Some first) (Some last) = Sight r first last ∷ []

abbrev pub sight_elements : Map → Ray → List Element
sight_elements m r = sight_between r (line_at m r.first.line) (line_at m r.last.line)

-- Some sectors see each other along the ray. These are those of its two sides, which needn't be the pair that is drawn: where a face
-- has several names, its sides may bear others.
abbrev pub JoinsSectors : Map → Ray → Type 0
JoinsSectors m r = (f : ℕ) × (k : ℕ) × IsSightRay m r f k

-- two sectors that see each other along the ray
abbrev pub sight_picture : NamedParts → Map → List (List ℕ) → List Triangle → List (Option ℕ) → ℕ → ℕ → Ray → List Element
sight_picture name m groups ts labels a b r = picture_of name (subject.Pair a b) m (pair_faces groups ts labels a b) (sight_elements m r ++ pair_rings m groups ts labels a b)
