-- What a picture shows: its lines are those of the map, its faces those of the groups, and their tints the table's row.
use Rattle.std.specs.Prelude.{◌≡◌, ◌≢◌, ℕ, ◌^◌, ◌<◌, ◌≤◌, ◌⊎◌, ◌↔◌, ◌*◌, ◌/◌, List, [], Option, Some, true, false, All, Contains, length, map, slice_get, slice_index_or, pos, ◌+ℤ◌, ◌-ℤ◌}
use Rattle.sight_names.specs.declared.names.Pt.{Pt}
use Rattle.sight_names.specs.declared.names.Ray.{Ray}
use Rattle.sight_names.specs.declared.names.Triangle.{Triangle}
use Rattle.sight_names.specs.Map.{Map, MapLine, line_at}
use Rattle.sight_names.specs.Mesh.{IsAbove, label_of}
use Rattle.sight_names.specs.Order.{Ascends}
use Rattle.sight_names.specs.Point.{Point}
use Rattle.sight_names.specs.Points.{points_of}
use Rattle.sight_names.specs.Ray.{IsCrossing, IsSightRay}
use Rattle.reject_bits.specs.Parts.{Rejects, TableParts}
use Rattle.map_picture.specs.declared.frame.Frame.{Frame}
use Rattle.map_picture.specs.declared.arrows.Arrow.{Arrow}
use Rattle.map_picture.specs.declared.faults.FaultAt.{FaultAt}
use Rattle.map_picture.specs.declared.faults.PointFault.{PointFault}
use Rattle.map_picture.specs.declared.pair.Stop.{Stop}
use Rattle.map_picture.specs.declared.rings.Letter.{Letter}
use Rattle.map_picture.specs.declared.scale.Bar.{Bar}
use Rattle.map_picture.specs.declared.sheet.Subject.{Subject}
use Rattle.map_picture.specs.declared.tint.Tint.{Tint}
use Rattle.map_picture.specs.declared.tint.Tint.TheVariants as tint
use Rattle.map_picture.specs.Bytes.{id_of}
use Rattle.map_picture.specs.Crossings.{IsSpotOf, crossing_spot}
use Rattle.map_picture.specs.Frame.{place_across, place_down, frame_of_points, height_of, width_of}
use Rattle.map_picture.specs.Scale.{bar_for}
use Rattle.map_picture.specs.Picture.{Element, NamedParts, Face, Line, Entered, Stops, Sight, Marked, Fault, Out, Ring, blind_picture, heat_picture, marked_picture, most_of, pair_picture, picture_of, plan_picture, ring_of, row_picture, sight_picture}

-- the picture has this element
abbrev pub Has : List Element → Element → Type 0
Has picture e = (k : ℕ) × (slice_get picture k ≡ Some e)

abbrev pub HasNoLine : List Element → Type 0
HasNoLine elements = (i : ℕ) (l : MapLine) → ¬ Has elements (Line i l)

-- passable lines come before solid ones, and those of one kind by their record numbers
abbrev pub IsLineBefore : ℕ → MapLine → ℕ → MapLine → Type 0
IsLineBefore i l n o = ((l.solid ≡ false) × (o.solid ≡ true)) ⊎ ((l.solid ≡ o.solid) × (i < n))

-- ---- lines

-- each line of the map is there with its record number, its two ends and whether it is solid; nothing else is there as a
-- line, and none is there twice
pub record ShowsLines (m : Map) (picture : List Element) : Type 0 where
  pub exactly : (i : ℕ) (l : MapLine) → Has picture (Line i l) ↔ (line_at m i ≡ Some l)
  pub order : (j k i n : ℕ) (l o : MapLine) → j < k → slice_get picture j ≡ Some (Line i l) → slice_get picture k ≡ Some (Line n o) → IsLineBefore i l n o
  pub once : (j k i : ℕ) (l o : MapLine) → slice_get picture j ≡ Some (Line i l) → slice_get picture k ≡ Some (Line i o) → j ≡ k

-- every picture of a map shows its lines, whatever further elements it has, if none of these is a line
abbrev pub LinesAreShown : Type 0
LinesAreShown = (name : NamedParts) (about : Subject) (m : Map) (under over : List Element) → HasNoLine under → HasNoLine over → ShowsLines m (picture_of name about m under over)

-- ---- the row

-- a group that names the sector is painted as the source; another one as set where each of its bits is, and else as clear
abbrev pub TellsRow : TableParts → ℕ → List ℕ → Tint → Type 0
TellsRow t a names tint.Source = Contains names a
TellsRow t a names tint.Set = ¬ Contains names a × ((b : ℕ) → Contains names b → Rejects t a b)
TellsRow t a names tint.Clear = ¬ Contains names a × ((b : ℕ) × Contains names b × ¬ Rejects t a b)
TellsRow t a names tint.Target = ⊥
TellsRow t a names tint.Other = ⊥
TellsRow t a names (tint.Heat count most) = ⊥

-- each face of the picture is a group's, with its names, and its tint tells what the group is
pub record ShowsFaces (groups : List (List ℕ)) (ts : List Triangle) (labels : List (Option ℕ)) (Tells : List ℕ → Tint → Type 0) (picture : List Element) : Type 0 where
  pub each : (g : ℕ) (names : List ℕ) → slice_get groups g ≡ Some names → (k : Tint) × (shown : List Triangle) × Has picture (Face k g names shown)
  pub group : (k : Tint) (g : ℕ) (names : List ℕ) (shown : List Triangle) → Has picture (Face k g names shown) → slice_get groups g ≡ Some names
  pub told : (k : Tint) (g : ℕ) (names : List ℕ) (shown : List Triangle) → Has picture (Face k g names shown) → Tells names k
  -- its triangles are those that the group labels
  pub triangles : (k : Tint) (g : ℕ) (names : List ℕ) (shown : List Triangle) → Has picture (Face k g names shown) → (u : Triangle) → Contains shown u ↔ ((n : ℕ) × (slice_get ts n ≡ Some u) × (label_of labels n ≡ Some g))
  -- .. each once, in the order of the mesh
  pub order : (k : Tint) (g : ℕ) (names : List ℕ) (shown : List Triangle) → Has picture (Face k g names shown) → Ascends IsAbove ts → Ascends IsAbove shown
  -- and each group has one face
  pub once : (i j g : ℕ) (k p : Tint) (names others : List ℕ) (shown more : List Triangle) → slice_get picture i ≡ Some (Face k g names shown) → slice_get picture j ≡ Some (Face p g others more) → i ≡ j

-- a row's faces tell what the table has
abbrev pub RowIsShown : Type 0
RowIsShown = (name : NamedParts) (m : Map) (groups : List (List ℕ)) (ts : List Triangle) (labels : List (Option ℕ)) (t : TableParts) (a : ℕ) → ShowsFaces groups ts labels (TellsRow t a) (row_picture name m groups ts labels t a)

-- ---- the plan

-- a plan tells nothing of a group but its names
abbrev pub TellsNothing : List ℕ → Tint → Type 0
TellsNothing names t = t ≡ tint.Other

abbrev pub PlanFacesAreShown : Type 0
PlanFacesAreShown = (name : NamedParts) (m : Map) (groups : List (List ℕ)) (ts : List Triangle) (labels : List (Option ℕ)) → ShowsFaces groups ts labels TellsNothing (plan_picture name m groups ts labels)

-- ---- how much is seen

-- a group's tint is that of its count, and this is the greatest one
abbrev pub TellsHeat : (List ℕ → ℕ) → ℕ → List ℕ → Tint → Type 0
TellsHeat count most names t = t ≡ tint.Heat (count names) most

-- where each group has a count its face has that one's shade, out of those up to the greatest
abbrev pub HeatIsShown : Type 0
HeatIsShown = (name : NamedParts) (m : Map) (groups : List (List ℕ)) (ts : List Triangle) (labels : List (Option ℕ)) (count : List ℕ → ℕ)
    → ShowsFaces groups ts labels (TellsHeat count (most_of (map count groups))) (heat_picture name m groups ts labels (map count groups))

-- ---- a pair

-- a group that names the first sector is painted as the source, another one that names the second as the target
abbrev pub TellsPair : ℕ → ℕ → List ℕ → Tint → Type 0
TellsPair a b names tint.Source = Contains names a
TellsPair a b names tint.Target = ¬ Contains names a × Contains names b
TellsPair a b names tint.Other = ¬ Contains names a × ¬ Contains names b
TellsPair a b names tint.Set = ⊥
TellsPair a b names tint.Clear = ⊥
TellsPair a b names (tint.Heat count most) = ⊥

-- a pair's faces tell which of the two sectors a group names
abbrev pub SightFacesAreShown : Type 0
SightFacesAreShown = (name : NamedParts) (m : Map) (groups : List (List ℕ)) (ts : List Triangle) (labels : List (Option ℕ)) (a b : ℕ) (r : Ray) → ShowsFaces groups ts labels (TellsPair a b) (sight_picture name m groups ts labels a b r)

abbrev pub PairFacesAreShown : Type 0
PairFacesAreShown = (name : NamedParts) (m : Map) (groups : List (List ℕ)) (ts : List Triangle) (labels : List (Option ℕ)) (a b : ℕ) → ShowsFaces groups ts labels (TellsPair a b) (pair_picture name m groups ts labels a b)

abbrev pub BlindFacesAreShown : Type 0
BlindFacesAreShown = (name : NamedParts) (m : Map) (groups : List (List ℕ)) (ts : List Triangle) (labels : List (Option ℕ)) (a b sector : ℕ) (entered : List ℕ) (stops : List Stop) → ShowsFaces groups ts labels (TellsPair a b) (blind_picture name m groups ts labels a b sector entered stops)

-- the ray is there once, from its first side's line to its last side's, and its two spots are where it crosses them
pub record ShowsRay (m : Map) (r : Ray) (picture : List Element) : Type 0 where
  pub first : MapLine
  pub last : MapLine
  pub is_first : line_at m r.first.line ≡ Some first
  pub is_last : line_at m r.last.line ≡ Some last
  pub has : Has picture (Sight r first last)
  pub once : (i j : ℕ) (p q : Ray) (k l n o : MapLine) → slice_get picture i ≡ Some (Sight p k l) → slice_get picture j ≡ Some (Sight q n o) → i ≡ j
  pub start : (z : Point) → IsCrossing r first z → IsSpotOf (frame_of_points (points_of m)) z (crossing_spot (frame_of_points (points_of m)) r first.first first.second)
  pub stop : (z : Point) → IsCrossing r last z → IsSpotOf (frame_of_points (points_of m)) z (crossing_spot (frame_of_points (points_of m)) r last.first last.second)

abbrev pub RayIsDrawn : Type 0
RayIsDrawn = (name : NamedParts) (m : Map) (groups : List (List ℕ)) (ts : List Triangle) (labels : List (Option ℕ)) (a b f k : ℕ) (r : Ray) → IsSightRay m r f k → ShowsRay m r (sight_picture name m groups ts labels a b r)

-- exactly the triangles with these numbers are there as entered out of the sector, in one element
pub record ShowsEntered (ts : List Triangle) (sector : ℕ) (entered : List ℕ) (picture : List Element) : Type 0 where
  pub shown : List Triangle
  pub has : Has picture (Entered sector shown)
  pub once : (i j a b : ℕ) (us vs : List Triangle) → slice_get picture i ≡ Some (Entered a us) → slice_get picture j ≡ Some (Entered b vs) → i ≡ j
  pub exactly : (u : Triangle) → Contains shown u ↔ ((k : ℕ) × Contains entered k × (slice_get ts k ≡ Some u))
  -- .. each once, in the order of the mesh
  pub order : Ascends (λ i k. i < k) entered → Ascends IsAbove ts → Ascends IsAbove shown

-- these stops are there, in one element
pub record ShowsStops (stops : List Stop) (picture : List Element) : Type 0 where
  pub has : Has picture (Stops stops)
  pub once : (i j : ℕ) (ss us : List Stop) → slice_get picture i ≡ Some (Stops ss) → slice_get picture j ≡ Some (Stops us) → i ≡ j

abbrev pub EnteredIsShown : Type 0
EnteredIsShown = (name : NamedParts) (m : Map) (groups : List (List ℕ)) (ts : List Triangle) (labels : List (Option ℕ)) (a b sector : ℕ) (entered : List ℕ) (stops : List Stop) → All (λ k. k < length ts) entered → ShowsEntered ts sector entered (blind_picture name m groups ts labels a b sector entered stops)

abbrev pub StopsAreShown : Type 0
StopsAreShown = (name : NamedParts) (m : Map) (groups : List (List ℕ)) (ts : List Triangle) (labels : List (Option ℕ)) (a b sector : ℕ) (entered : List ℕ) (stops : List Stop) → ShowsStops stops (blind_picture name m groups ts labels a b sector entered stops)

-- ---- marks

-- these lines are marked, in one element
pub record ShowsMarks (marks : List ℕ) (picture : List Element) : Type 0 where
  pub has : Has picture (Marked marks)
  pub once : (i j : ℕ) (ms ns : List ℕ) → slice_get picture i ≡ Some (Marked ms) → slice_get picture j ≡ Some (Marked ns) → i ≡ j

abbrev pub MarksAreShown : Type 0
MarksAreShown = (name : NamedParts) (m : Map) (left_out : ℕ) (marks : List ℕ) (faults : List FaultAt) (arrows : List Arrow) → ShowsMarks marks (marked_picture name m left_out marks faults arrows)

-- a ring round each of these that is at one point, and no other
pub record ShowsFaults (places : ℕ) (faults : List FaultAt) (picture : List Element) : Type 0 where
  pub has : (a : FaultAt) (c : Pt) → Contains faults a → a.at ≡ Some c → Has picture (Fault places a.fault c)
  pub only : (told : ℕ) (what : PointFault) (c : Pt) → Has picture (Fault told what c) → Contains faults (record { fault = what; at = Some c })

abbrev pub FaultsAreShown : Type 0
FaultsAreShown = (name : NamedParts) (m : Map) (left_out : ℕ) (marks : List ℕ) (faults : List FaultAt) (arrows : List Arrow) → ShowsFaults name.places faults (marked_picture name m left_out marks faults arrows)

-- each of these arrows, and no other
pub record ShowsArrows (places : ℕ) (arrows : List Arrow) (picture : List Element) : Type 0 where
  pub has : (w : Arrow) → Contains arrows w → Has picture (Out places w)
  pub only : (told : ℕ) (w : Arrow) → Has picture (Out told w) → Contains arrows w

abbrev pub ArrowsAreShown : Type 0
ArrowsAreShown = (name : NamedParts) (m : Map) (left_out : ℕ) (marks : List ℕ) (faults : List FaultAt) (arrows : List Arrow) → ShowsArrows name.places arrows (marked_picture name m left_out marks faults arrows)

-- ---- rings

-- a ring is in a triangle of its sector
pub record IsRingOf (groups : List (List ℕ)) (ts : List Triangle) (labels : List (Option ℕ)) (sector : ℕ) (t : Triangle) : Type 0 where
  pub k : ℕ
  pub is : slice_get ts k ≡ Some t
  pub g : ℕ
  pub label : label_of labels k ≡ Some g
  pub named : Contains (slice_index_or groups g []) sector

abbrev pub RingsAreInside : Type 0
RingsAreInside = (m : Map) (groups : List (List ℕ)) (ts : List Triangle) (labels : List (Option ℕ)) (which : Letter) (sector : ℕ) (e : Element) → Has (ring_of m groups ts labels which sector) e
    → (t : Triangle) × (e ≡ Ring which sector t) × IsRingOf groups ts labels sector t

-- ---- ids

-- no two elements have one id
abbrev pub IdsAreOnce : List Element → Type 0
IdsAreOnce picture = (j k : ℕ) (e f : Element) → slice_get picture j ≡ Some e → slice_get picture k ≡ Some f → id_of e ≢ [] → id_of e ≡ id_of f → j ≡ k

-- In each kind of picture; so a line's id, which is its record number, is that of no other element. A map has fewer lines and groups.
abbrev pub PlanIdsAreOnce : Type 0
PlanIdsAreOnce = (name : NamedParts) (m : Map) (groups : List (List ℕ)) (ts : List Triangle) (labels : List (Option ℕ)) → length m.lines ≤ 2 ^ 64 → length groups ≤ 2 ^ 64 → IdsAreOnce (plan_picture name m groups ts labels)

abbrev pub RowIdsAreOnce : Type 0
RowIdsAreOnce = (name : NamedParts) (m : Map) (groups : List (List ℕ)) (ts : List Triangle) (labels : List (Option ℕ)) (t : TableParts) (a : ℕ) → length m.lines ≤ 2 ^ 64 → length groups ≤ 2 ^ 64 → IdsAreOnce (row_picture name m groups ts labels t a)

abbrev pub SightIdsAreOnce : Type 0
SightIdsAreOnce = (name : NamedParts) (m : Map) (groups : List (List ℕ)) (ts : List Triangle) (labels : List (Option ℕ)) (a b : ℕ) (r : Ray) → length m.lines ≤ 2 ^ 64 → length groups ≤ 2 ^ 64 → IdsAreOnce (sight_picture name m groups ts labels a b r)

abbrev pub PairIdsAreOnce : Type 0
PairIdsAreOnce = (name : NamedParts) (m : Map) (groups : List (List ℕ)) (ts : List Triangle) (labels : List (Option ℕ)) (a b : ℕ) → length m.lines ≤ 2 ^ 64 → length groups ≤ 2 ^ 64 → IdsAreOnce (pair_picture name m groups ts labels a b)

abbrev pub MarkedIdsAreOnce : Type 0
MarkedIdsAreOnce = (name : NamedParts) (m : Map) (left_out : ℕ) (marks : List ℕ) (faults : List FaultAt) (arrows : List Arrow) → length m.lines ≤ 2 ^ 64 → IdsAreOnce (marked_picture name m left_out marks faults arrows)

abbrev pub HeatIdsAreOnce : Type 0
HeatIdsAreOnce = (name : NamedParts) (m : Map) (groups : List (List ℕ)) (ts : List Triangle) (labels : List (Option ℕ)) (count : List ℕ → ℕ) → length m.lines ≤ 2 ^ 64 → length groups ≤ 2 ^ 64 → IdsAreOnce (heat_picture name m groups ts labels (map count groups))

abbrev pub BlindIdsAreOnce : Type 0
BlindIdsAreOnce = (name : NamedParts) (m : Map) (groups : List (List ℕ)) (ts : List Triangle) (labels : List (Option ℕ)) (a b sector : ℕ) (entered : List ℕ) (stops : List Stop) → length m.lines ≤ 2 ^ 64 → length groups ≤ 2 ^ 64 → IdsAreOnce (blind_picture name m groups ts labels a b sector entered stops)

-- ---- the scale

-- The number that is told is the length of the bar in map units, 10 ^ places of the map's own: it is exact, and where it isn't whole it
-- has one digit that isn't 0. The bar is at most a fourth of the map's width.
pub record IsScaleOf (width places : ℕ) (b : Bar) : Type 0 where
  pub exact : b.length * 10 ^ b.behind ≡ b.steps * 10 ^ places
  pub short : b.length ≤ width / 4
  pub digit : (b.behind ≡ 0) ⊎ (b.steps < 10)

abbrev pub ScaleIsTold : Type 0
ScaleIsTold = (width places : ℕ) → IsScaleOf width places (bar_for width places)

-- ---- places

-- The point's coordinates can be read back from its place, and the place is on the picture.
pub record IsReadBack (f : Frame) (p : Pt) : Type 0 where
  pub x : p.x ≡ f.left +ℤ pos (place_across f p)
  pub y : p.y ≡ f.top -ℤ pos (place_down f p)
  pub wide : place_across f p ≤ width_of f
  pub high : place_down f p ≤ height_of f

abbrev pub PointsAreReadBack : Type 0
PointsAreReadBack = (points : List Pt) (p : Pt) → Contains points p → IsReadBack (frame_of_points points) p
