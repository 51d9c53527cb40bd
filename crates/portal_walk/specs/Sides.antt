-- The sides by which a walk leaves its source and comes into triangles.
use Rattle.std.specs.Prelude.{◌≡◌, ℕ, ◌<◌, List, Option, Some, None, false, IsTrue, filter, length}
use Rattle.sight_names.specs.declared.names.Side.{Side}
use Rattle.sight_names.specs.Map.{Map, MapLine, line_at, map_of, Names}
use Rattle.sight_names.specs.Mesh.{label_of}
use Rattle.sight_names.specs.Plan.{PlanParts}
use Rattle.sight_names.specs.Sequence.{is_root, both_sides, root_portal}
use Rattle.portal_walk.specs.declared.roots.Root.{Root}

-- a side that names the source, of a passable line whose other side doesn't
pub record IsExit (p : PlanParts) (source : ℕ) (s : Side) : Type 0 where
  pub within : s.line < length p.lines
  pub names : Names (map_of p) s source
  pub is_root : IsTrue (is_root (map_of p) source s)

-- such a side, and the portal of its line, walked out of the source
pub record IsRootOf (p : PlanParts) (source : ℕ) (r : Root) : Type 0 where
  pub exit : IsExit p source r.side
  pub portal : root_portal (map_of p) r.side ≡ Some (record { left = r.left; right = r.right })

-- the sides of one record's line that are roots, the right side first
abbrev pub roots_at : Map → ℕ → ℕ → List Side
roots_at m source k = filter (is_root m source) (both_sides (k, line_at m k))

-- a side of a passable line, which names a sector of the plan, the label of this triangle
pub record IsArrival (p : PlanParts) (labels : List (Option ℕ)) (k : ℕ) (s : Side) : Type 0 where
  pub within : s.line < length p.lines
  pub line : MapLine
  pub is_line : line_at (map_of p) s.line ≡ Some line
  pub passable : line.solid ≡ false
  pub sector : ℕ
  pub names : Names (map_of p) s sector
  pub label : label_of labels k ≡ Some sector
  pub exists : sector < p.sectors

-- where one comes in by a line, the side is its arrival
abbrev pub ArrivesAt : PlanParts → List (Option ℕ) → ℕ → Option Side → Type 0
ArrivesAt p labels k None = Unit {0}
ArrivesAt p labels k (Some s) = IsArrival p labels k s
