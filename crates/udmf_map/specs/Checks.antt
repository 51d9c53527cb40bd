-- What the records of a text mustn't be, and the first check that fails.
use Rattle.std.specs.Prelude.{ℕ, ◌+◌, nat_lt, Bool, true, false, ◌||◌, List, [], ◌∷◌, length, Option, Some, None, if◌then◌else◌, pos}
use Rattle.std.specs.Ordering.{int_eq}
use Rattle.udmf_map.specs.declared.blocks.Linedef.{Linedef}
use Rattle.udmf_map.specs.declared.reading.Namespace.{Namespace}
use Rattle.udmf_map.specs.declared.reading.Namespace.TheVariants.{Doom, Heretic, Strife, Hexen, Zdoom, Dsda}
use Rattle.udmf_map.specs.declared.faults.TextFault.{TextFault}
use Rattle.udmf_map.specs.declared.faults.TextFault.TheVariants as faults
use Rattle.udmf_map.specs.Reading.{Read}
use Rattle.udmf_map.specs.Grid.{places_of_lines, lines_off_grid}

-- ---- portals: the namespaces in which lines may show far places, and the lines that may

abbrev pub has_portals : Option Namespace → Bool
has_portals None = false
has_portals (Some Doom) = false
has_portals (Some Heretic) = false
has_portals (Some Strife) = false
has_portals (Some Hexen) = true
has_portals (Some Zdoom) = true
has_portals (Some Dsda) = true

-- Sector_SetPortal and Line_SetPortal
abbrev pub is_portal : Linedef → Bool
is_portal l = int_eq l.special (pos 57) || int_eq l.special (pos 156)

-- the number of the first that passes the test, counted from k on
abbrev pub first_from : (Linedef → Bool) → ℕ → List Linedef → Option ℕ
first_from test k [] = None
first_from test k (l ∷ ls) = if test l then Some k else first_from test (k + 1) ls

abbrev pub first_portal_line : Option Namespace → List Linedef → Option ℕ
first_portal_line namespace lines = if has_portals namespace then first_from is_portal 0 lines else None

-- ---- the checks, in their order

abbrev pub text_fault_if : Bool → TextFault → Option TextFault → Option TextFault
text_fault_if b fault rest = if b then Some fault else rest

abbrev pub fault_of_number : (ℕ → TextFault) → Option ℕ → Option TextFault → Option TextFault
fault_of_number fault (Some n) rest = Some (fault n)
fault_of_number fault None rest = rest

-- too many vertices or sides, the first portal, the first vertex of a line that isn't on the grid
abbrev pub records_fault : Read → Option TextFault
records_fault r =
    text_fault_if (nat_lt 65535 (length r.vertices)) (faults.TooManyVertices (length r.vertices))
    (text_fault_if (nat_lt 65534 (length r.sides)) (faults.TooManySides (length r.sides))
    (fault_of_number (λ line. faults.Portal line) (first_portal_line r.namespace r.lines)
    (fault_of_number (λ vertex. faults.OffGrid vertex) (lines_off_grid (places_of_lines r.vertices r.lines) r.vertices r.lines) None)))
