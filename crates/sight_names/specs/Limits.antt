-- The limits that depend on what is asked, or on how many points there are.
use Rattle.std.specs.Prelude.{ℕ, ◌*◌, Bool, if◌then◌else◌, max, min}
use Rattle.sight_names.specs.declared.limits.TheConstants.{MOST_POINTS, MOST_LINES, MOST_SECTORS, LARGE_POINTS, LARGE_LINES, LARGE_SECTORS, MOST_TRIANGLES, USUAL_TRIANGLES}

-- by the larger limits, or by the usual ones
abbrev pub most_points : Bool → ℕ
most_points large = if large then LARGE_POINTS else MOST_POINTS

abbrev pub most_lines : Bool → ℕ
most_lines large = if large then LARGE_LINES else MOST_LINES

abbrev pub most_sectors : Bool → ℕ
most_sectors large = if large then LARGE_SECTORS else MOST_SECTORS

-- the triangles, or the groups, of a certificate for a map with so many points
abbrev pub most_triangles : ℕ → ℕ
most_triangles points = min MOST_TRIANGLES (max USUAL_TRIANGLES (2 * points))
