-- Where the records of a text stand in its lumps.
use Rattle.std.specs.Prelude.{◌≡◌, ℕ, ◌+◌, ◌*◌, Some, slice_get, length, ℤ}
use Rattle.sight_names.specs.Lumps.{u16_at, i32_at}
use Rattle.udmf_map.specs.declared.blocks.Vertex.{Vertex}
use Rattle.udmf_map.specs.declared.blocks.Linedef.{Linedef}
use Rattle.udmf_map.specs.Reading.{Read}
use Rattle.udmf_map.specs.Grid.{places_of_lines}
use Rattle.udmf_map.specs.Lumps.{LumpBytes, number, side_number_in_lump, flags, placed, lumps_of}

-- the numbers of line k
pub record HasLineNumbers (lumps : LumpBytes) (k : ℕ) (l : Linedef) : Type 0 where
  pub first : u16_at lumps.linedefs (14 * k) ≡ number l.first
  pub second : u16_at lumps.linedefs (14 * k + 2) ≡ number l.second
  pub flags : u16_at lumps.linedefs (14 * k + 4) ≡ flags l
  pub front : u16_at lumps.linedefs (14 * k + 10) ≡ side_number_in_lump l.front
  pub back : u16_at lumps.linedefs (14 * k + 12) ≡ side_number_in_lump l.back

-- those of vertex k, in the unit of so many decimal places
pub record HasVertex (lumps : LumpBytes) (places k : ℕ) (v : Vertex) : Type 0 where
  pub x : i32_at lumps.vertexes (8 * k) ≡ placed places v.x
  pub y : i32_at lumps.vertexes (8 * k + 4) ≡ placed places v.y

-- there are as many records as blocks of their kind, and record k has the numbers of block k
pub record StandIn (r : Read) (lumps : LumpBytes) : Type 0 where
  pub linedefs : length lumps.linedefs ≡ 14 * length r.lines
  pub sidedefs : length lumps.sidedefs ≡ 30 * length r.sides
  pub vertexes : length lumps.vertexes ≡ 8 * length r.vertices
  pub sectors : length lumps.sectors ≡ 26 * r.sectors
  pub line : (k : ℕ) (l : Linedef) → slice_get r.lines k ≡ Some l → HasLineNumbers lumps k l
  pub side : (k : ℕ) (sector : ℤ) → slice_get r.sides k ≡ Some sector → u16_at lumps.sidedefs (30 * k + 28) ≡ number sector
  pub vertex : (k : ℕ) (v : Vertex) → slice_get r.vertices k ≡ Some v → HasVertex lumps (places_of_lines r.vertices r.lines) k v

abbrev pub RecordsStand : Type 0
RecordsStand = (r : Read) → StandIn r (lumps_of r)
