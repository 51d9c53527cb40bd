-- The grid of a map: its unit, which is that of the most decimal places that a vertex of a line has, and what is on the grid.
use Rattle.std.specs.Prelude.{ℕ, ◌-◌, ◌^◌, max, min, nat_le, Bool, ◌&&◌, List, [], ◌∷◌, Option, Some, None, is_some, if◌then◌else◌, ℤ, pos, negsuc, ◌*ℤ◌, nat_abs}
use Rattle.std.specs.List.{slice_get}
use Rattle.sight_names.specs.declared.limits.TheConstants.{FARTHEST}
use Rattle.udmf_map.specs.declared.values.Coordinate.{Coordinate}
use Rattle.udmf_map.specs.declared.values.Coordinate.TheVariants.{Missing, OffGrid, At}
use Rattle.udmf_map.specs.declared.blocks.Vertex.{Vertex}
use Rattle.udmf_map.specs.declared.blocks.Linedef.{Linedef}

-- ---- the unit, by its decimal places

abbrev pub places_of_coordinate : Coordinate → ℕ
places_of_coordinate Missing = 0
places_of_coordinate OffGrid = 0
places_of_coordinate (At n places) = places

-- those of the vertex with this number
abbrev pub end_places : List Vertex → ℤ → ℕ
end_places vertices (pos n) = elim (slice_get vertices n) [
  | Some v ↦ max (places_of_coordinate v.x) (places_of_coordinate v.y)
  | None ↦ 0
]
end_places vertices (negsuc n) = 0

abbrev pub line_places : List Vertex → Linedef → ℕ
line_places vertices l = max (end_places vertices l.first) (end_places vertices l.second)

abbrev pub places_of_lines : List Vertex → List Linedef → ℕ
places_of_lines vertices [] = 0
places_of_lines vertices (l ∷ ls) = max (line_places vertices l) (places_of_lines vertices ls)

-- ---- a coordinate in the unit of so many places: on the grid are whole numbers that are no farther than 2^25 from 0

abbrev pub on_grid : ℤ → Option ℤ
on_grid z = if nat_le (nat_abs z) FARTHEST then Some z else None

-- none has more than seven places
abbrev pub units : ℕ → Coordinate → Option ℤ
units places Missing = None
units places OffGrid = None
units places (At n own) = if nat_le own places then on_grid (n *ℤ pos (10 ^ min (places - own) 7)) else None

abbrev pub is_placed : ℕ → Vertex → Bool
is_placed places v = is_some (units places v.x) && is_some (units places v.y)

-- ---- a vertex of this number that is there, but not on the grid

abbrev pub end_off_grid : ℕ → List Vertex → ℤ → Option ℕ
end_off_grid places vertices (pos n) = elim (slice_get vertices n) [
  | Some v ↦ if is_placed places v then None else Some n
  | None ↦ None
]
end_off_grid places vertices (negsuc n) = None

-- the first one, or else the other
abbrev pub or_else : Option ℕ → Option ℕ → Option ℕ
or_else (Some n) other = Some n
or_else None other = other

abbrev pub line_off_grid : ℕ → List Vertex → Linedef → Option ℕ
line_off_grid places vertices l = or_else (end_off_grid places vertices l.first) (end_off_grid places vertices l.second)

abbrev pub lines_off_grid : ℕ → List Vertex → List Linedef → Option ℕ
lines_off_grid places vertices [] = None
lines_off_grid places vertices (l ∷ ls) = or_else (line_off_grid places vertices l) (lines_off_grid places vertices ls)
