-- What is ahead by the ways out of the triangles of half-edges, so that a walk reads it in one place.
use Rattle.std.specs.Prelude.{◌≡◌, ℕ, Bool, true, false, List, Option, Some, None, IfSome, is_some, pos, slice_get}
use Rattle.sight_names.specs.declared.names.Pt.{Pt}
use Rattle.sight_names.specs.Map.{origin}
use Rattle.mesh_shape.specs.declared.half_edges.table.HalfEdge.{HalfEdge}
use Rattle.portal_walk.specs.declared.ahead.TheConstants.{NO_EDGE}
use Rattle.portal_walk.specs.declared.ahead.Ahead.{Ahead}
use Rattle.portal_walk.specs.declared.scene.Way.{Way as WayOut}
use Rattle.portal_walk.specs.declared.scene.Way.TheVariants.{Left, Right}
use Rattle.portal_walk.specs.Scene.{SceneParts, FindsWay, behind}

-- the end of the half-edge behind a way that the triangle before it has at its apex
abbrev pub apex_end : HalfEdge → WayOut → Pt
apex_end y Left = y.right_at
apex_end y Right = y.left_at

abbrev pub number_or : Option ℕ → ℕ
number_or None = 0
number_or (Some a) = a

-- the sector of its triangle
abbrev pub sector_by : Bool → ℕ → Option ℕ
sector_by true a = Some a
sector_by false a = None

abbrev pub sector_in : Ahead → Option ℕ
sector_in a = sector_by a.has_sector a.sector

-- what there is of the half-edge with this number, by this way
abbrev pub ahead_of : WayOut → ℕ → HalfEdge → Ahead
ahead_of way n y = record { number = n; apex_at = apex_end y way; sector = number_or y.sector; has_sector = is_some y.sector; is_line = is_some y.entered }

abbrev pub ahead_at : WayOut → ℕ → Option HalfEdge → Option Ahead
ahead_at way n None = None
ahead_at way n (Some y) = Some (ahead_of way n y)

-- by a way, behind which this half-edge is
abbrev pub ahead_by : List HalfEdge → WayOut → Option ℕ → Option Ahead
ahead_by xs way None = None
ahead_by xs way (Some n) = ahead_at way n (slice_get xs n)

-- what is kept of it: no half-edge, where nothing is ahead
abbrev pub kept_as : Option Ahead → Ahead
kept_as None = record { number = NO_EDGE; apex_at = origin; sector = 0; has_sector = false; is_line = false }
kept_as (Some a) = a

-- of each half-edge by this way out of its triangle
abbrev pub AreAhead : List HalfEdge → WayOut → List Ahead → Type 0
AreAhead xs way found = (k : ℕ) (x : HalfEdge) → slice_get xs k ≡ Some x → slice_get found k ≡ Some (kept_as (ahead_by xs way (behind x way)))

abbrev pub number_in : Option Ahead → Option ℕ
number_in None = None
number_in (Some a) = Some a.number

-- what is found by this way is of the half-edge with its number
abbrev pub IsOfEdge : List HalfEdge → WayOut → Ahead → Type 0
IsOfEdge xs way a = (y : HalfEdge) × (slice_get xs a.number ≡ Some y) × (a ≡ ahead_of way a.number y)

-- what is ahead by a way out of the triangle of this half-edge, or none where one can't leave by it
pub record FindsAhead (s : SceneParts) (from : ℕ) (way : WayOut) (found : Option Ahead) : Type 0 where
  pub way_found : FindsWay s from way (number_in found)
  pub edge : IfSome found (IsOfEdge s.edges way)
