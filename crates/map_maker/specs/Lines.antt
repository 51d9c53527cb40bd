-- The lines of a made map: rooms of 128 by 128 at distances of 192, joined by corridors of 64 by 32.
use Rattle.std.specs.Prelude.{ℕ, zero, suc, ◌+◌, ◌-◌, ◌*◌, ◌==◌, List, [], ◌∷◌, ◌++◌, Option, Some, None, if◌then◌else◌}
use Rattle.map_maker.specs.declared.lines.Spot.{Spot}
use Rattle.map_maker.specs.declared.lines.Line.{Line}
use Rattle.map_maker.specs.declared.lines.Part.{Part}
use Rattle.map_maker.specs.declared.lines.Part.TheVariants.{Room, East, North}

abbrev pub at_place : ℕ → ℕ → Spot
at_place x y = record { x = x; y = y }

abbrev pub line_between : Spot → Spot → ℕ → Option ℕ → Line
line_between from to right left = record { from = from; to = to; right = right; left = left }

-- the sector of the room in column i and row j
abbrev pub room_sector : ℕ → ℕ → ℕ → ℕ
room_sector n i j = j * n + i

-- the sector of the corridor that runs east from that room
abbrev pub east_sector : ℕ → ℕ → ℕ → ℕ
east_sector n i j = n * n + j * (n - 1) + i

-- the sector of the corridor that runs north from that room
abbrev pub north_sector : ℕ → ℕ → ℕ → ℕ
north_sector n i j = n * n + n * (n - 1) + j * n + i

-- A wall from one corner to the next: one line, or three where a corridor ends at it, with the room on the right.
-- The middle one is the corridor's end, with the corridor on its left.
abbrev pub wall_lines : Spot → Spot → Spot → Spot → ℕ → Option ℕ → List Line
wall_lines first a b last room None = line_between first last room None ∷ []
wall_lines first a b last room (Some corridor) = line_between first a room None ∷ line_between a b room (Some corridor) ∷ line_between b last room None ∷ []

-- the corridors that end at a room's walls
abbrev pub west_end : ℕ → ℕ → ℕ → Option ℕ
west_end n i j = if i == 0 then None else Some (east_sector n (i - 1) j)

abbrev pub north_end : ℕ → ℕ → ℕ → Option ℕ
north_end n i j = if j + 1 == n then None else Some (north_sector n i j)

abbrev pub east_end : ℕ → ℕ → ℕ → Option ℕ
east_end n i j = if i + 1 == n then None else Some (east_sector n i j)

abbrev pub south_end : ℕ → ℕ → ℕ → Option ℕ
south_end n i j = if j == 0 then None else Some (north_sector n i (j - 1))

-- the walls of a room: west northward, north eastward, east southward, south westward
abbrev pub room_lines : ℕ → ℕ → ℕ → List Line
room_lines n i j =
    let x : ℕ = 192 * i in
    let y : ℕ = 192 * j in
    wall_lines (at_place x y) (at_place x (y + 48)) (at_place x (y + 80)) (at_place x (y + 128)) (room_sector n i j) (west_end n i j)
    ++ wall_lines (at_place x (y + 128)) (at_place (x + 48) (y + 128)) (at_place (x + 80) (y + 128)) (at_place (x + 128) (y + 128)) (room_sector n i j) (north_end n i j)
    ++ wall_lines (at_place (x + 128) (y + 128)) (at_place (x + 128) (y + 80)) (at_place (x + 128) (y + 48)) (at_place (x + 128) y) (room_sector n i j) (east_end n i j)
    ++ wall_lines (at_place (x + 128) y) (at_place (x + 80) y) (at_place (x + 48) y) (at_place x y) (room_sector n i j) (south_end n i j)

-- a corridor that runs east: its upper line eastward, then its lower line westward
abbrev pub east_lines : ℕ → ℕ → ℕ → List Line
east_lines n i j =
    let x : ℕ = 192 * i in
    let y : ℕ = 192 * j in
    line_between (at_place (x + 128) (y + 80)) (at_place (x + 192) (y + 80)) (east_sector n i j) None ∷ line_between (at_place (x + 192) (y + 48)) (at_place (x + 128) (y + 48)) (east_sector n i j) None ∷ []

-- a corridor that runs north: its left line northward, then its right line southward
abbrev pub north_lines : ℕ → ℕ → ℕ → List Line
north_lines n i j =
    let x : ℕ = 192 * i in
    let y : ℕ = 192 * j in
    line_between (at_place (x + 48) (y + 128)) (at_place (x + 48) (y + 192)) (north_sector n i j) None ∷ line_between (at_place (x + 80) (y + 192)) (at_place (x + 80) (y + 128)) (north_sector n i j) None ∷ []

abbrev pub part_lines : Part → ℕ → ℕ → ℕ → List Line
part_lines Room = room_lines
part_lines East = east_lines
part_lines North = north_lines

-- these lines, for each column of a row
abbrev pub row : (ℕ → ℕ → List Line) → ℕ → ℕ → List Line
row lines zero j = []
row lines (suc i) j = row lines i j ++ lines i j

-- .. and for each row
abbrev pub rows : (ℕ → ℕ → List Line) → ℕ → ℕ → List Line
rows lines width zero = []
rows lines width (suc j) = rows lines width j ++ row lines width j

-- the lines of the map of n times n rooms, in order
unfoldable pub lines_of : ℕ → List Line
lines_of n = rows (part_lines Room n) n n ++ rows (part_lines East n) (n - 1) n ++ rows (part_lines North n) n (n - 1)

-- how many sectors it has
abbrev pub sector_count : ℕ → ℕ
sector_count n = n * n + 2 * (n * (n - 1))
