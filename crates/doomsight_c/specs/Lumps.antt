-- The map that four lumps of a caller spell. Those that a text spells have numbers of 32 bits for coordinates, and a caller may write
-- any; one that is farther than 2 ^ 25 from 0 is refused, and none counts as another.
use Rattle.std.specs.Prelude.{◌≡◌, ℕ, zero, suc, ◌+◌, ◌*◌, ◌/◌, ◌^◌, ◌<◌, ℤ, Bool, ◌||◌, List, length, Option, Some, None, Result, Ok, Err, nat_abs, nat_lt, if◌then◌else◌}
use Rattle.sight_names.specs.declared.names.MapFormat.{MapFormat}
use Rattle.sight_names.specs.declared.names.MapFormat.TheVariants.{Doom, Hexen, Text}
use Rattle.sight_names.specs.declared.names.Reading.{Reading}
use Rattle.sight_names.specs.Lumps.{i32_at, vertex}
use Rattle.sight_names.specs.Map.{Map}
use Rattle.udmf_map.specs.declared.faults.TextFault.TheVariants as text
use Rattle.udmf_map.specs.Lumps.{LumpBytes, lumps_of_text}
use Rattle.map_answers.specs.declared.sight_status.status.Status.{Status}
use Rattle.map_answers.specs.declared.sight_status.status.Status.TheVariants as status
use Rattle.map_answers.specs.Input.{of_four_lumps}

abbrev pub is_far : ℤ → Bool
is_far z = nat_lt (2 ^ 25) (nat_abs z)

abbrev pub is_far_vertex : List ℕ → ℕ → Bool
is_far_vertex vertexes k = is_far (i32_at vertexes (8 * k)) || is_far (i32_at vertexes (8 * k + 4))

-- the first of n vertices from k on that is too far away
abbrev pub first_far : List ℕ → ℕ → ℕ → Option ℕ
first_far vertexes k zero = None
first_far vertexes k (suc n) = if is_far_vertex vertexes k then Some k else first_far vertexes (k + 1) n

-- .. of all; numbers of 16 bits aren't
abbrev pub far_vertex : MapFormat → List ℕ → Option ℕ
far_vertex Doom vertexes = None
far_vertex Hexen vertexes = None
far_vertex Text vertexes = first_far vertexes 0 (length vertexes / 8)

-- the refusal of such a vertex, where nothing else refuses the lumps
abbrev pub unless_far : Option ℕ → Result Map Status → Result Map Status
unless_far far (Err refusal) = Err refusal
unless_far None (Ok m) = Ok m
unless_far (Some k) (Ok m) = Err (status.BadText (text.OffGrid k))

-- the map that four lumps spell, or the first check that fails
abbrev pub of_lumps_given : Reading → List ℕ → List ℕ → List ℕ → List ℕ → Result Map Status
of_lumps_given reading linedefs sidedefs vertexes sectors = unless_far (far_vertex reading.format vertexes) (of_four_lumps reading linedefs sidedefs vertexes sectors)

-- of the lumps that a text spells no vertex is: so they are read as the program reads them
abbrev pub TextsAreNear : Type 0
TextsAreNear = (large : Bool) (bytes : List ℕ) (lumps : LumpBytes) → lumps_of_text bytes ≡ Ok lumps
    → of_lumps_given (record { format = Text; large = large }) lumps.linedefs lumps.sidedefs lumps.vertexes lumps.sectors ≡ of_four_lumps (record { format = Text; large = large }) lumps.linedefs lumps.sidedefs lumps.vertexes lumps.sectors

-- a vertex is where the numbers of its record say
pub record IsAsSpelled (vertexes : List ℕ) (k : ℕ) : Type 0 where
  pub x : (vertex Text vertexes k).x ≡ i32_at vertexes (8 * k)
  pub y : (vertex Text vertexes k).y ≡ i32_at vertexes (8 * k + 4)

-- so are all vertices of a map that was read of such lumps
abbrev pub VerticesAreAsSpelled : Type 0
VerticesAreAsSpelled = (large : Bool) (linedefs sidedefs vertexes sectors : List ℕ) (m : Map)
    → of_lumps_given (record { format = Text; large = large }) linedefs sidedefs vertexes sectors ≡ Ok m → (k : ℕ) → k < length vertexes / 8 → IsAsSpelled vertexes k
