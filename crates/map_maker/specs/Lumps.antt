-- The lumps of a made map (the Unofficial Doom Specs on LINEDEFS, SIDEDEFS, VERTEXES and SECTORS).
use Rattle.std.specs.Prelude.{ℕ, ◌+◌, ◌*◌, ◌==◌, ◌&&◌, Bool, List, [], ◌∷◌, ◌++◌, Option, Some, None, if◌then◌else◌, replicate, codes}
use Rattle.std.specs.List.{list_any}
use Rattle.std.specs.Int.{w16, to_le_bytes}
use Rattle.sight_names.specs.declared.names.MapFormat.{MapFormat}
use Rattle.sight_names.specs.declared.names.MapFormat.TheVariants.{Doom, Hexen, Text}
use Rattle.wad_dir.specs.declared.parts.Kind.TheVariants.{Pwad}
use Rattle.wad_dir.specs.Wad.{WadFile, WadLump}
use Rattle.map_lumps.specs.HexenLumps.Turned.{hexen_of}
use Rattle.map_maker.specs.declared.lines.Spot.{Spot}
use Rattle.map_maker.specs.declared.lines.Line.{Line}
use Rattle.map_maker.specs.Lines.{lines_of, sector_count}

-- a little-endian number of two bytes
abbrev pub short : ℕ → List ℕ
short n = to_le_bytes w16 n

abbrev pub same_spot : Spot → Spot → Bool
same_spot p q = p.x == q.x && p.y == q.y

-- the points with one more where it is new
abbrev pub with_point : List Spot → Spot → List Spot
with_point points p = if list_any (same_spot p) points then points else points ++ p ∷ []

-- the points with those that lines use, in the order of their first use
abbrev pub points_after : List Spot → List Line → List Spot
points_after points [] = points
points_after points (l ∷ ls) = points_after (with_point (with_point points l.from) l.to) ls

-- the place of a point
abbrev pub spot_place : Spot → List Spot → ℕ
spot_place p [] = 0
spot_place p (q ∷ qs) = if same_spot p q then 0 else 1 + spot_place p qs

-- how many sides a line has, its flags (4 is the two-sided flag, 1 blocks), and its left side, where 65,535 is none
abbrev pub side_count : Option ℕ → ℕ
side_count None = 1
side_count (Some sector) = 2

abbrev pub flags_of : Option ℕ → ℕ
flags_of None = 1
flags_of (Some sector) = 4

abbrev pub left_side_number : ℕ → Option ℕ → ℕ
left_side_number side None = 65535
left_side_number side (Some sector) = side + 1

-- a record of LINEDEFS: the two points, the flags, no special, no tag, the two sides
unfoldable pub linedef : List Spot → ℕ → Line → List ℕ
linedef points side l = short (spot_place l.from points) ++ short (spot_place l.to points) ++ short (flags_of l.left) ++ short 0 ++ short 0 ++ short side ++ short (left_side_number side l.left)

-- the lines' records, whose sides are numbered from one on
abbrev pub linedefs_from : List Spot → ℕ → List Line → List ℕ
linedefs_from points side [] = []
linedefs_from points side (l ∷ ls) = linedef points side l ++ linedefs_from points (side + side_count l.left) ls

-- a record of SIDEDEFS: no offsets, three textures named `-`, the sector
abbrev pub texture : List ℕ
texture = 45 ∷ 0 ∷ 0 ∷ 0 ∷ 0 ∷ 0 ∷ 0 ∷ 0 ∷ []

unfoldable pub sidedef : ℕ → List ℕ
sidedef sector = short 0 ++ short 0 ++ texture ++ texture ++ texture ++ short sector

abbrev pub left_sidedef : Option ℕ → List ℕ
left_sidedef None = []
left_sidedef (Some sector) = sidedef sector

-- the records of the sides: the right one first
abbrev pub sidedefs_of : List Line → List ℕ
sidedefs_of [] = []
sidedefs_of (l ∷ ls) = (sidedef l.right ++ left_sidedef l.left) ++ sidedefs_of ls

-- the records of the points
abbrev pub vertexes_of : List Spot → List ℕ
vertexes_of [] = []
vertexes_of (p ∷ ps) = (short p.x ++ short p.y) ++ vertexes_of ps

abbrev pub lump_named : List ℕ → List ℕ → WadLump
lump_named name bytes = record { name = name; bytes = bytes }

-- the map as lumps: those that aren't read, and the table, are empty
abbrev pub lumps_with : List ℕ → List ℕ → List ℕ → List ℕ → List WadLump
lumps_with linedefs sidedefs vertexes sectors =
    lump_named (codes "MAP01" ++ 0 ∷ 0 ∷ 0 ∷ []) [] ∷ lump_named (codes "THINGS" ++ 0 ∷ 0 ∷ []) [] ∷ lump_named (codes "LINEDEFS") linedefs ∷ lump_named (codes "SIDEDEFS") sidedefs ∷ lump_named (codes "VERTEXES") vertexes
    ∷ lump_named (codes "SEGS" ++ 0 ∷ 0 ∷ 0 ∷ 0 ∷ []) [] ∷ lump_named (codes "SSECTORS") [] ∷ lump_named (codes "NODES" ++ 0 ∷ 0 ∷ 0 ∷ []) [] ∷ lump_named (codes "SECTORS" ++ 0 ∷ []) sectors
    ∷ lump_named (codes "REJECT" ++ 0 ∷ 0 ∷ []) [] ∷ lump_named (codes "BLOCKMAP") [] ∷ []

-- the points of the map of n times n rooms, and its LINEDEFS
unfoldable pub points_in : ℕ → List Spot
points_in n = points_after [] (lines_of n)

unfoldable pub linedefs_in : ℕ → List ℕ
linedefs_in n = linedefs_from (points_in n) 0 (lines_of n)

-- the lumps of that map with this LINEDEFS
unfoldable pub grid_lumps : ℕ → List ℕ → List WadLump
grid_lumps n linedefs = lumps_with linedefs (sidedefs_of (lines_of n)) (vertexes_of (points_in n)) (replicate (26 * sector_count n) 0)

-- the WAD of the map of n times n rooms in Doom's format
unfoldable pub doom_file : ℕ → WadFile
doom_file n = record { kind = Pwad; lumps = grid_lumps n (linedefs_in n) }

-- .. and in Hexen's, with an empty BEHAVIOR
unfoldable pub hexen_file : ℕ → WadFile
hexen_file n = record { kind = Pwad; lumps = grid_lumps n (hexen_of (linedefs_in n)) ++ lump_named (codes "BEHAVIOR") [] ∷ [] }

abbrev pub grid_file : ℕ → MapFormat → WadFile
grid_file n Doom = doom_file n
grid_file n Hexen = hexen_file n
grid_file n Text = doom_file n
