-- Small maps on which a reader can check what the definitions say. Each statement is the contract of a function.
use Rattle.std.specs.Prelude.{◌≡◌, ℕ, List, [], ◌∷◌, Option, Some, None, map, pos, true, is_none, false, ◌||◌, negsuc}
use Rattle.sight_names.specs.declared.names.Pt.{Pt}
use Rattle.sight_names.specs.declared.names.Side.{Side}
use Rattle.sight_names.specs.declared.names.Triangle.{Triangle}
use Rattle.sight_names.specs.Map.{Map, MapLine}
use Rattle.sight_names.specs.Near.{point_at}
use Rattle.sight_names.specs.Sound.{IsClosed, NamesAgree}
use Rattle.sight_names.specs.Sees.{Sees}
use Rattle.sight_names.specs.Ray.{IsSightRay}
use Rattle.sight_names.specs.Table.{Rejected, table_bit, IsTable}
use Rattle.sight_names.specs.Lumps.{numbers_below}
use Rattle.sight_names.specs.Points.{Edge, points_of}
use Rattle.sight_names.specs.Greedy.{IsGreedy}
use Rattle.sight_names.specs.Sequence.{roots, Portal, Way, Left, Right, Sequence, portals, IsStabbable, reached}

abbrev pub pt : ℕ → ℕ → Pt
pt x y = point_at (pos x) (pos y)

-- a line that isn't marked solid: solid where a side is missing
abbrev pub worked_line : ℕ → ℕ → ℕ → ℕ → Option ℕ → Option ℕ → Option MapLine
worked_line x y z w right left = Some (record { first = pt x y; second = pt z w; solid = is_none right || is_none left; right = right; left = left })

abbrev pub wall : ℕ → ℕ → ℕ → ℕ → ℕ → Option MapLine
wall x y z w right = worked_line x y z w (Some right) None

abbrev pub door : ℕ → ℕ → ℕ → ℕ → ℕ → ℕ → Option MapLine
door x y z w right left = worked_line x y z w (Some right) (Some left)

-- ---- one square room, 64 wide: its points are 0 (0,0), 1 (0,64), 2 (64,0), 3 (64,64)
abbrev pub square : Map
square = record { sectors = 1; lines = wall 0 0 0 64 0 ∷ wall 0 64 64 64 0 ∷ wall 64 64 64 0 0 ∷ wall 64 0 0 0 0 ∷ [] }

abbrev pub edge : ℕ → ℕ → Edge
edge u v = record { from = u; to = v }

-- besides its four lines the diagonal from point 0 to point 3 is kept, and the other one, which crosses it, isn't
abbrev pub SquareKeepsADiagonal : Type 0
SquareKeepsADiagonal = IsGreedy square (edge 0 1 ∷ edge 1 3 ∷ edge 3 2 ∷ edge 2 0 ∷ edge 0 3 ∷ [])

-- ---- two such rooms side by side, with the open line 2 between them
abbrev pub two_rooms : Map
two_rooms = record {
  sectors = 2;
  lines =
      wall 0 0 0 64 0 ∷ wall 0 64 64 64 0 ∷ door 64 64 64 0 0 1 ∷ wall 64 0 0 0 0 ∷ wall 64 64 128 64 1 ∷ wall 128 64 128 0 1 ∷ wall 128 0 64 0 1 ∷ [];
}

abbrev pub PairSees : Type 0
PairSees = Sees two_rooms 0 1

abbrev pub right_side : ℕ → Side
right_side n = record { line = n; left = false }

abbrev pub left_side : ℕ → Side
left_side n = record { line = n; left = true }

-- along y = 32 from the right side of line 2 to its left side
abbrev pub PairHasASightRay : Type 0
PairHasASightRay = IsSightRay two_rooms (record { first = right_side 2; last = left_side 2; a = pos 0; b = pos 1; c = negsuc 31 }) 0 1

-- the same line from the left side: it doesn't leave that side
abbrev pub PairRayGoesTheWrongWay : Type 0
PairRayGoesTheWrongWay = (a b : ℕ) → ¬ IsSightRay two_rooms (record { first = left_side 2; last = right_side 2; a = pos 0; b = pos 1; c = negsuc 31 }) a b

-- along y = 64, on which line 2 has an end
abbrev pub PairRayDoesntSplit : Type 0
PairRayDoesntSplit = (a b : ℕ) → ¬ IsSightRay two_rooms (record { first = right_side 2; last = left_side 2; a = pos 0; b = pos 1; c = negsuc 63 }) a b

-- ---- the square without its last line, and the square with a smaller one inside that it doesn't name
abbrev pub open_square : Map
open_square = record { sectors = 1; lines = wall 0 0 0 64 0 ∷ wall 0 64 64 64 0 ∷ wall 64 64 64 0 0 ∷ [] }

abbrev pub OpenSquareIsOpen : Type 0
OpenSquareIsOpen = ¬ IsClosed open_square

abbrev pub island : Map
island = record {
  sectors = 2;
  lines = wall 0 0 0 192 0 ∷ wall 0 192 192 192 0 ∷ wall 192 192 192 0 0 ∷ wall 192 0 0 0 0 ∷ wall 64 64 128 64 1 ∷ wall 128 64 128 128 1 ∷ wall 128 128 64 128 1 ∷ wall 64 128 64 64 1 ∷ [];
}

abbrev pub IslandNamesDisagree : Type 0
IslandNamesDisagree = ¬ NamesAgree island

-- ---- a corridor round a corner: from sector 0 at the lower left through sector 1 above to sector 2 at the lower right
abbrev pub u_map : Map
u_map = record {
  sectors = 3;
  lines =
      wall 0 64 0 128 1 ∷ wall 0 128 192 128 1 ∷ wall 192 128 192 64 1 ∷ door 192 64 128 64 1 2 ∷ wall 128 64 64 64 1 ∷ door 64 64 0 64 1 0
      ∷ wall 0 0 0 64 0 ∷ wall 64 64 64 0 0 ∷ wall 64 0 0 0 0 ∷ wall 128 0 128 64 2 ∷ wall 192 64 192 0 2 ∷ wall 192 0 128 0 2 ∷ [];
}

abbrev pub UPoints : Type 0
UPoints = points_of u_map ≡ pt 0 0 ∷ pt 0 64 ∷ pt 0 128 ∷ pt 64 0 ∷ pt 64 64 ∷ pt 128 0 ∷ pt 128 64 ∷ pt 192 0 ∷ pt 192 64 ∷ pt 192 128 ∷ []

abbrev pub triangle : ℕ → ℕ → ℕ → Triangle
triangle p q r = record { p = p; q = q; r = r }

abbrev pub u_mesh : List Triangle
u_mesh = triangle 0 3 4 ∷ triangle 0 4 1 ∷ triangle 1 4 2 ∷ triangle 2 4 6 ∷ triangle 2 6 9 ∷ triangle 5 7 8 ∷ triangle 5 8 6 ∷ triangle 6 8 9 ∷ []

abbrev pub u_labels : List (Option ℕ)
u_labels = Some 0 ∷ Some 0 ∷ Some 1 ∷ Some 1 ∷ Some 1 ∷ Some 2 ∷ Some 2 ∷ Some 1 ∷ []

abbrev pub portal : ℕ → ℕ → Portal
portal l r = record { left = l; right = r }

abbrev pub u_sequence : List Way → Sequence
u_sequence ways = record { root = left_side 5; ways = ways }

-- the one root of source 0 is line 5 from its left side; the ways right, left, right lead through these portals
abbrev pub u_portals : List Portal
u_portals = portal 1 4 ∷ portal 2 4 ∷ portal 2 6 ∷ portal 9 6 ∷ []

abbrev pub UPortals : Type 0
UPortals = (roots u_map 0 ≡ left_side 5 ∷ []) × (portals u_map u_mesh (u_sequence (Right ∷ Left ∷ Right ∷ [])) ≡ Some u_portals) × (reached u_mesh u_labels u_portals ≡ Some 1)

-- a line splits these four, so sector 1 is reached
abbrev pub UFourAreSplit : Type 0
UFourAreSplit = IsStabbable u_map u_portals

-- and one way further on, into sector 2
abbrev pub u_five_portals : List Portal
u_five_portals = portal 1 4 ∷ portal 2 4 ∷ portal 2 6 ∷ portal 9 6 ∷ portal 8 6 ∷ []

-- no line splits all five: their ends (0,64), (64,64), (192,64) are on one line
abbrev pub UFiveAreStuck : Type 0
UFiveAreStuck = (portals u_map u_mesh (u_sequence (Right ∷ Left ∷ Right ∷ Right ∷ [])) ≡ Some u_five_portals) × (reached u_mesh u_labels u_five_portals ≡ Some 2)
    × ¬ IsStabbable u_map u_five_portals

-- the bytes 44 00
abbrev pub u_table : List ℕ
u_table = 68 ∷ 0 ∷ []

-- they are a table of 3 sectors, which of its nine bits sets just those of (0, 2) and (2, 0)
abbrev pub UTableBits : Type 0
UTableBits = IsTable 3 u_table × Rejected 3 u_table 0 2 × Rejected 3 u_table 2 0
    × (map (table_bit u_table) (numbers_below 9) ≡ 0 ∷ 0 ∷ 1 ∷ 0 ∷ 0 ∷ 0 ∷ 1 ∷ 0 ∷ 0 ∷ [])
