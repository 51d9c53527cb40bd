-- The four lumps that a text spells, in Doom's format but for VERTEXES, whose coordinates have 32 bits (the Unofficial Doom
-- Specs on LINEDEFS, SIDEDEFS, VERTEXES, SECTORS).
use Rattle.std.specs.Prelude.{ℕ, ◌+◌, ◌*◌, ◌==◌, nat_le, List, ◌++◌, flat_map, replicate, Option, Some, None, unwrap_or, Result, Ok, Err, if◌then◌else◌, ℤ, pos, negsuc}
use Rattle.std.specs.Int.{to_le_bytes, cast_unsigned, w16, w32}
use Rattle.udmf_map.specs.declared.values.Coordinate.{Coordinate}
use Rattle.udmf_map.specs.declared.blocks.Vertex.{Vertex}
use Rattle.udmf_map.specs.declared.blocks.Linedef.{Linedef}
use Rattle.udmf_map.specs.declared.lumps.FourLumps.{FourLumps}
use Rattle.udmf_map.specs.declared.faults.TextFault.{TextFault}
use Rattle.udmf_map.specs.Reading.{Read, text_read}
use Rattle.udmf_map.specs.Grid.{places_of_lines, units}
use Rattle.udmf_map.specs.Checks.{records_fault}

pub record LumpBytes : Type 0 where
  pub linedefs : List ℕ
  pub sidedefs : List ℕ
  pub vertexes : List ℕ
  pub sectors : List ℕ

abbrev pub lump_bytes : FourLumps → LumpBytes
lump_bytes l = record { linedefs = l.linedefs.items; sidedefs = l.sidedefs.items; vertexes = l.vertexes.items; sectors = l.sectors.items }

abbrev pub u16 : ℕ → List ℕ
u16 n = to_le_bytes w16 n

-- the number of a vertex or a sector. One that is out of range stays so: there are fewer than 65,536
abbrev pub number : ℤ → ℕ
number (pos n) = if nat_le n 65534 then n else 65535
number (negsuc n) = 65535

-- the number of a side, of which there are fewer than 65,535; none is -1 in the text and 65,535 in the lump
abbrev pub side_number_in_lump : ℤ → ℕ
side_number_in_lump (pos n) = if nat_le n 65533 then n else 65534
side_number_in_lump (negsuc n) = if n == 0 then 65535 else 65534

-- two-sided, and blocks sound
abbrev pub flags : Linedef → ℕ
flags l = (if l.two_sided then 4 else 0) + (if l.blocks_sound then 64 else 0)

unfoldable pub linedef_bytes : Linedef → List ℕ
linedef_bytes l = u16 (number l.first) ++ u16 (number l.second) ++ u16 (flags l) ++ replicate 4 0 ++ u16 (side_number_in_lump l.front) ++ u16 (side_number_in_lump l.back)

abbrev pub sidedef_bytes : ℤ → List ℕ
sidedef_bytes sector = replicate 28 0 ++ u16 (number sector)

-- a coordinate in the map's unit. One that no line needs may be off the grid
abbrev pub placed : ℕ → Coordinate → ℤ
placed places c = unwrap_or (units places c) (pos 0)

abbrev pub i32 : ℤ → List ℕ
i32 z = to_le_bytes w32 (cast_unsigned w32 z)

abbrev pub vertex_bytes : ℕ → Vertex → List ℕ
vertex_bytes places v = i32 (placed places v.x) ++ i32 (placed places v.y)

abbrev pub lumps_of : Read → LumpBytes
lumps_of r = record { linedefs = flat_map linedef_bytes r.lines; sidedefs = flat_map sidedef_bytes r.sides; vertexes = flat_map (vertex_bytes (places_of_lines r.vertices r.lines)) r.vertices; sectors = replicate (26 * r.sectors) 0 }

abbrev pub lumps_or : Option TextFault → LumpBytes → Result LumpBytes TextFault
lumps_or (Some fault) lumps = Err fault
lumps_or None lumps = Ok lumps

-- the four lumps that a text spells, or its first fault
unfoldable pub lumps_of_text : List ℕ → Result LumpBytes TextFault
lumps_of_text text = elim (text_read text) [
  | Ok r ↦ lumps_or (records_fault r) (lumps_of r)
  | Err fault ↦ Err fault
]

-- the decimal places of the unit in which the points of a text are told, 0 where it has a fault
abbrev pub places_told : List ℕ → ℕ
places_told text = elim (text_read text) [
  | Ok r ↦ places_of_lines r.vertices r.lines
  | Err fault ↦ 0
]
