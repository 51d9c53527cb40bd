-- How the half-edges of a triangle are made of its corners.
use Rattle.std.specs.Prelude.{◌≡◌, ℕ, ◌+◌, ◌*◌, ◌++◌, ◌∷◌, [], List, Option, Some, None, Bool, true, false}
use Rattle.sight_names.specs.declared.names.Side.{Side}
use Rattle.sight_names.specs.declared.names.Triangle.{Triangle}
use Rattle.sight_names.specs.Points.{place}
use Rattle.sight_names.specs.Plan.{PlanParts}
use Rattle.sight_names.specs.Map.{map_of}
use Rattle.mesh_shape.specs.declared.half_edges.kinds.EdgeKind.{EdgeKind}
use Rattle.mesh_shape.specs.declared.half_edges.kinds.EdgeKind.TheVariants.{Free, Passable, Solid}
use Rattle.mesh_shape.specs.declared.half_edges.table.Corner.{Corner}
use Rattle.mesh_shape.specs.declared.half_edges.table.HalfEdge.{HalfEdge}
use Rattle.mesh_shape.specs.HalfEdges.Numbers.{edge}
use Rattle.mesh_shape.specs.HalfEdges.Kinds.{kind_with, way_by_edge}

abbrev pub arrival_of : EdgeKind → Option Side
arrival_of Free = None
arrival_of (Passable s) = Some s
arrival_of Solid = None

abbrev pub is_solid_kind : EdgeKind → Bool
is_solid_kind Free = false
is_solid_kind (Passable s) = false
is_solid_kind Solid = true

-- the corner where the half-edge with this number begins, which goes from the one point to the other
pub record IsCorner (p : PlanParts) (ts : List Triangle) (kinds : List EdgeKind) (number from to : ℕ) (c : Corner) : Type 0 where
  pub point : c.point ≡ from
  pub at : c.at ≡ place (map_of p) from
  pub kind : c.kind ≡ kind_with kinds number
  pub way : c.way ≡ way_by_edge ts kinds (edge to from)

abbrev pub by_corners : ℕ → Option ℕ → Corner → Corner → Corner → HalfEdge
by_corners k sector left right apex = record { left = left.point; right = right.point; apex = apex.point; left_at = left.at; right_at = right.at; triangle = k; sector = sector; solid = is_solid_kind left.kind; entered = arrival_of left.kind; left_way = apex.way; right_way = right.way }

abbrev pub three_of : ℕ → Option ℕ → Corner → Corner → Corner → List HalfEdge
three_of k sector p q r = by_corners k sector p q r ∷ by_corners k sector q r p ∷ by_corners k sector r p q ∷ []

-- the half-edges of a triangle stand behind the others
pub record Pushes (p : PlanParts) (ts : List Triangle) (kinds : List EdgeKind) (k : ℕ) (sector : Option ℕ) (t : Triangle) (old new : List HalfEdge) : Type 0 where
  pub first : Corner
  pub second : Corner
  pub third : Corner
  pub list : new ≡ old ++ three_of k sector first second third
  pub is_first : IsCorner p ts kinds (k * 3) t.p t.q first
  pub is_second : IsCorner p ts kinds (k * 3 + 1) t.q t.r second
  pub is_third : IsCorner p ts kinds (k * 3 + 2) t.r t.p third
