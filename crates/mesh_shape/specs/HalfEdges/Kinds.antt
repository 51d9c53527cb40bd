-- What the lines of a plan are to one who enters by a directed edge.
use Rattle.std.specs.Prelude.{◌≡◌, ◌≢◌, ℕ, ◌*◌, ◌<◌, List, Option, Some, None, length, slice_get, slice_index_or, Bool, true, false, option_and_then, option_map, if◌then◌else◌}
use Rattle.sight_names.specs.declared.names.Side.{Side}
use Rattle.sight_names.specs.declared.names.Triangle.{Triangle}
use Rattle.sight_names.specs.declared.plan.Line.{Line}
use Rattle.sight_names.specs.Points.{Edge}
use Rattle.sight_names.specs.Plan.{PlanParts}
use Rattle.sight_names.specs.Map.{MapLine, line_at, map_of}
use Rattle.sight_names.specs.Mesh.{side_edge, IsLineEdge}
use Rattle.sight_names.specs.Sequence.{Portal, entry_edge, IsSolidLine}
use Rattle.mesh_shape.specs.declared.half_edges.kinds.EdgeKind.{EdgeKind}
use Rattle.mesh_shape.specs.declared.half_edges.kinds.EdgeKind.TheVariants.{Free, Passable, Solid}
use Rattle.mesh_shape.specs.HalfEdges.Numbers.{half_edge_number}

-- the directed edge of the triangle at a side of a line, by point numbers
abbrev pub edge_at : Line → Bool → Edge
edge_at l true = record { from = l.a; to = l.b }
edge_at l false = record { from = l.b; to = l.a }

-- the side of a passable line at which the triangle with this directed edge lies
pub record IsPassableAt (p : PlanParts) (e : Edge) (s : Side) : Type 0 where
  pub within : s.line < length p.lines
  pub line : MapLine
  pub is_line : line_at (map_of p) s.line ≡ Some line
  pub passable : line.solid ≡ false
  pub edge : side_edge (map_of p) line s.left ≡ e

-- no line is the portal; or a passable one is, and one comes in at this side
abbrev pub IsEnteredAt : PlanParts → Portal → Option Side → Type 0
IsEnteredAt p d None = ¬ IsLineEdge (map_of p) (entry_edge d)
IsEnteredAt p d (Some s) = IsPassableAt p (entry_edge d) s

abbrev pub portal_on : Edge → Portal
portal_on e = record { left = e.from; right = e.to }

-- no line is the edge, either way round; or passable ones alone are, one of them at this side; or a solid one is
abbrev pub IsEdgeKind : PlanParts → Edge → EdgeKind → Type 0
IsEdgeKind p e Free = ¬ IsLineEdge (map_of p) e
IsEdgeKind p e (Passable s) = IsPassableAt p e s × ¬ IsSolidLine (map_of p) (portal_on e)
IsEdgeKind p e Solid = IsSolidLine (map_of p) (portal_on e)

-- ---- the table of kinds, by number

-- what a line is to one who enters at its side
abbrev pub kind_at : Line → ℕ → Bool → EdgeKind
kind_at l k left = if l.solid then Solid else Passable (record { line = k; left = left })

-- what one line more makes of an edge: what is solid stays so
abbrev pub joined : EdgeKind → EdgeKind → EdgeKind
joined Free new = new
joined (Passable s) new = new
joined Solid new = Solid

-- the kind with this number, where there is one, is joined with the new one
pub record PutsKind (number : Option ℕ) (kind : EdgeKind) (old new : List EdgeKind) : Type 0 where
  pub len : length new ≡ length old
  pub here : (i : ℕ) → number ≡ Some i → slice_get new i ≡ option_map (λ (o : EdgeKind). joined o kind) (slice_get old i)
  pub others : (i : ℕ) → number ≢ Some i → slice_get new i ≡ slice_get old i

-- the same for both edges of the line with this record number
pub record PutsLineKinds (ts : List Triangle) (k : ℕ) (l : Line) (old new : List EdgeKind) : Type 0 where
  pub middle : List EdgeKind
  pub left : PutsKind (half_edge_number ts (edge_at l true)) (kind_at l k true) old middle
  pub right : PutsKind (half_edge_number ts (edge_at l false)) (kind_at l k false) middle new

-- and nothing for a record without a line
abbrev pub PutsRecordKinds : List Triangle → ℕ → Option Line → List EdgeKind → List EdgeKind → Type 0
PutsRecordKinds ts k None old new = new ≡ old
PutsRecordKinds ts k (Some l) old new = PutsLineKinds ts k l old new

-- for each half-edge what its edge is
pub record AreKinds (p : PlanParts) (ts : List Triangle) (kinds : List EdgeKind) : Type 0 where
  pub len : length kinds ≡ length ts * 3
  pub each : (e : Edge) (i : ℕ) → half_edge_number ts e ≡ Some i → (kind : EdgeKind) × (slice_get kinds i ≡ Some kind) × IsEdgeKind p e kind

-- the kind with this number
abbrev pub kind_with : List EdgeKind → ℕ → EdgeKind
kind_with kinds i = slice_index_or kinds i Free

abbrev pub way_of_kind : ℕ → EdgeKind → Option ℕ
way_of_kind i Free = Some i
way_of_kind i (Passable s) = Some i
way_of_kind i Solid = None

-- the half-edge along the edge, unless the edge is a solid line or no triangle has it
abbrev pub way_by_edge : List Triangle → List EdgeKind → Edge → Option ℕ
way_by_edge ts kinds e = option_and_then (λ i. option_and_then (way_of_kind i) (slice_get kinds i)) (half_edge_number ts e)
