-- What the parts of read_lumps see of the lumps.
use Rattle.std.specs.Prelude.{◌≡◌, ℕ, ◌+◌, ◌*◌, ◌<◌, List, Option, Some, None, map, filter_map, option_map, slice_get, Contains}
use Rattle.sight_names.specs.declared.names.Pt.{Pt}
use Rattle.sight_names.specs.declared.plan.Line.{Line}
use Rattle.sight_names.specs.Plan.{IsBefore}
use Rattle.sight_names.specs.Map.{MapLine}
use Rattle.sight_names.specs.Points.{ends_of_lines}
use Rattle.sight_names.specs.declared.names.MapFormat.{MapFormat}
use Rattle.sight_names.specs.Lumps.{u16_at, linedef_len, right_at, left_at, count_linedefs, line_fault}
use Rattle.map_lumps.specs.declared.records.Linedef.{Linedef}
use Rattle.map_lumps.specs.declared.records.PlacedLine.{PlacedLine}

-- the numbers of the LINEDEFS record at this byte, whose right side stands so many bytes behind
abbrev pub linedef_from : List ℕ → ℕ → ℕ → Linedef
linedef_from linedefs at right = record {
  first = u16_at linedefs at;
  second = u16_at linedefs (at + 2);
  flags = u16_at linedefs (at + 4);
  right = u16_at linedefs (at + right);
  left = u16_at linedefs (at + right + 2);
}

-- the numbers of a LINEDEFS record
abbrev pub linedef_at : MapFormat → List ℕ → ℕ → Linedef
linedef_at format linedefs k = record {
  first = u16_at linedefs (linedef_len format * k);
  second = u16_at linedefs (linedef_len format * k + 2);
  flags = u16_at linedefs (linedef_len format * k + 4);
  right = u16_at linedefs (linedef_len format * k + right_at format);
  left = u16_at linedefs (linedef_len format * k + left_at format);
}

-- a placed line is a line of the map
abbrev pub as_map_line : PlacedLine → MapLine
as_map_line l = record { first = l.first; second = l.second; solid = l.solid; right = l.right; left = l.left }

-- each record names vertices, sides and sectors that are there
abbrev pub AllSound : MapFormat → List ℕ → List ℕ → List ℕ → List ℕ → Type 0
AllSound format linedefs sidedefs vertexes sectors = (k : ℕ) → k < count_linedefs format linedefs → line_fault format linedefs sidedefs vertexes sectors k ≡ None

-- the ends of the lines, line by line
abbrev pub placed_ends : List (Option PlacedLine) → List Pt
placed_ends lines = ends_of_lines (filter_map (λ l. l) (map (option_map as_map_line) lines))

-- the points ascend strictly, by x and then by y
pub record ArePointsInOrder (points : List Pt) : Type 0 where
  pub ascend : (i j : ℕ) (p q : Pt) → i < j → slice_get points i ≡ Some p → slice_get points j ≡ Some q → IsBefore p q

-- the ends of the lines are among the points
abbrev pub EndsAmong : List Pt → List (Option PlacedLine) → Type 0
EndsAmong points lines = (p : Pt) → Contains (placed_ends lines) p → Contains points p

-- every line has both ends below so many points
abbrev pub EndsBelow : ℕ → List (Option Line) → Type 0
EndsBelow points lines = (i : ℕ) (l : Line) → slice_get lines i ≡ Some (Some l) → (l.a < points) × (l.b < points)
