-- The rules of a mesh whose labels are groups.
use Rattle.std.specs.Prelude.{◌≡◌, ℕ, List, Option, Some, length}
use Rattle.sight_names.specs.declared.names.Side.{Side}
use Rattle.sight_names.specs.declared.names.Triangle.{Triangle}
use Rattle.sight_names.specs.declared.faults.MeshFault.{MeshFault}
use Rattle.sight_names.specs.declared.faults.MeshFault.TheVariants.{Flat, Twice, NoMate, NoTriangle, Meets, Inside}
use Rattle.sight_names.specs.Plan.{PlanParts}
use Rattle.sight_names.specs.Map.{Map, MapLine, line_at, map_of, Names}
use Rattle.sight_names.specs.Mesh.{side_edge, triangle_at}
use Rattle.mesh_shape.specs.Faults.{TurnsAt, IsNewAt, HasMatesAt, IsFirstSideAgainst, IsFirstFault}
use Rattle.cert_format.specs.Accepted.{triangles_of, labels_of}
use Rattle.cert_format.specs.declared.cert_groups.cert.CertTwo.{CertTwo}
use Rattle.face_groups.specs.Regrouped.{regrouped_plan}

-- the plan whose sectors are the groups: the same lines, and each side names the label of its triangle
abbrev pub grouped_plan : PlanParts → CertTwo → PlanParts
grouped_plan p c = regrouped_plan (triangles_of c.cert) (labels_of c.cert) (length c.groups) p

-- the map of groups
abbrev pub grouped_map : PlanParts → CertTwo → Map
grouped_map p c = map_of (grouped_plan p c)

-- a side that names a sector has its triangle
abbrev pub HasTriangleAt : Map → List Triangle → Side → Type 0
HasTriangleAt m ts s = (l : MapLine) (a : ℕ) → line_at m s.line ≡ Some l → Names m s a → (k : ℕ) × (triangle_at ts (side_edge m l s.left) ≡ Some k)

-- The first rule that is broken, at its least numbers. The rules are those of version 1 over the map of groups g; but in the
-- place of the rule on sides each side of the map m that names a sector has its triangle.
abbrev pub IsFirstMeshFault : Map → Map → List Triangle → List (Option ℕ) → MeshFault → Type 0
IsFirstMeshFault m g ts ls (Flat k) = IsFirstFault g ts ls (Flat k)
IsFirstMeshFault m g ts ls (Twice k) = IsFirstFault g ts ls (Twice k)
IsFirstMeshFault m g ts ls (NoMate k) = IsFirstFault g ts ls (NoMate k)
IsFirstMeshFault m g ts ls (NoTriangle s) = ((j : ℕ) → TurnsAt g ts j) × ((j : ℕ) → IsNewAt ts j) × ((j : ℕ) → HasMatesAt g ts ls j) × IsFirstSideAgainst (HasTriangleAt m ts) s
IsFirstMeshFault m g ts ls (Meets k i) = ((s : Side) → HasTriangleAt m ts s) × IsFirstFault g ts ls (Meets k i)
IsFirstMeshFault m g ts ls (Inside k p) = ((s : Side) → HasTriangleAt m ts s) × IsFirstFault g ts ls (Inside k p)

-- the fault, if its rule comes before that on sides; else that this side has no triangle
abbrev pub earlier_of : MeshFault → Side → MeshFault
earlier_of (Flat k) s = Flat k
earlier_of (Twice k) s = Twice k
earlier_of (NoMate k) s = NoMate k
earlier_of (NoTriangle t) s = NoTriangle s
earlier_of (Meets k i) s = NoTriangle s
earlier_of (Inside k p) s = NoTriangle s
