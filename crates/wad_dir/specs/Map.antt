-- Where a map lies in a directory (the Unofficial Doom Specs on the lumps of a map, the UDMF specification on TEXTMAP).
use Rattle.std.specs.Prelude.{ℕ, ◌+◌, ◌==◌, Bool, true, false, not, ◌&&◌, ◌||◌, List, [], ◌∷◌, ◌++◌, length, drop, Option, Some, None, Result, Ok, Err, if◌then◌else◌, position, codes, map}
use Rattle.std.specs.List.{list_any}
use Rattle.std.specs.Char.{to_ascii_uppercase}
use Rattle.std.specs.Str.{bytes_eq}
use Rattle.sight_names.specs.declared.faults.Lump.{Lump}
use Rattle.sight_names.specs.declared.faults.Lump.TheVariants.{Linedefs, Sidedefs, Vertexes, Sectors}
use Rattle.sight_names.specs.declared.faults.MapFault.{MapFault}
use Rattle.sight_names.specs.declared.faults.MapFault.TheVariants as fault
use Rattle.sight_names.specs.declared.names.MapFormat.{MapFormat}
use Rattle.sight_names.specs.declared.names.MapFormat.TheVariants.{Doom, Hexen, Text}
use Rattle.wad_dir.specs.declared.parts.Entry.{Entry}
use Rattle.wad_dir.specs.declared.parts.MapSpot.{MapSpot}

-- a name as it is compared: up to its first NUL, in upper case
abbrev pub key_of : List ℕ → List ℕ
key_of [] = []
key_of (c ∷ cs) = if c == 0 then [] else to_ascii_uppercase c ∷ key_of cs

abbrev pub same_name : List ℕ → List ℕ → Bool
same_name a b = bytes_eq (key_of a) (key_of b)

-- the names of entries, in order
abbrev pub entry_names : List Entry → List (List ℕ)
entry_names entries = map (λ (e : Entry). e.name) entries

-- the place of the last of these names that is the map's, behind k names of which found is the last
abbrev pub last_from : List (List ℕ) → List ℕ → ℕ → Option ℕ → Option ℕ
last_from [] name k found = found
last_from (n ∷ ns) name k found = last_from ns name (k + 1) (if same_name n name then Some k else found)

-- the names that a map's lumps have
abbrev pub run_names : List (List ℕ)
run_names = codes "THINGS" ∷ codes "LINEDEFS" ∷ codes "SIDEDEFS" ∷ codes "VERTEXES" ∷ codes "SEGS" ∷ codes "SSECTORS" ∷ codes "NODES" ∷ codes "SECTORS" ∷ codes "REJECT" ∷ codes "BLOCKMAP" ∷ []

abbrev pub is_run_name : List ℕ → Bool
is_run_name name = list_any (λ n. same_name name n) run_names

-- one of the names is this one
abbrev pub has_name : List ℕ → List (List ℕ) → Bool
has_name name names = list_any (λ n. same_name n name) names

-- the names at which the lumps of a map of UDMF end, beside a second TEXTMAP or REJECT
abbrev pub text_ends : List (List ℕ)
text_ends = codes "ENDMAP" ∷ codes "THINGS" ∷ codes "LINEDEFS" ∷ codes "SIDEDEFS" ∷ codes "VERTEXES" ∷ codes "SEGS" ∷ codes "SSECTORS" ∷ codes "NODES" ∷ codes "SECTORS" ∷ []

abbrev pub ends_text_map : List ℕ → Bool
ends_text_map name = list_any (λ n. same_name name n) text_ends

-- such a lump stands only once in a map of UDMF
abbrev pub stands_once : List ℕ → Bool
stands_once name = same_name name (codes "TEXTMAP") || same_name name (codes "REJECT")

-- a name belongs to a run, which is of UDMF or not, behind those before it
abbrev pub belongs : Bool → List ℕ → List (List ℕ) → Bool
belongs true name before = not (ends_text_map name) && not (stands_once name && has_name name before)
belongs false name before = is_run_name name && not (has_name name before)

-- the longest stretch of such names behind those before it
abbrev pub run_from : Bool → List (List ℕ) → List (List ℕ) → List (List ℕ)
run_from text before [] = before
run_from text before (n ∷ ns) = if belongs text n before then run_from text (before ++ n ∷ []) ns else before

-- the first of the names is this one
abbrev pub begins_with_name : List ℕ → List (List ℕ) → Bool
begins_with_name name [] = false
begins_with_name name (n ∷ ns) = same_name n name

-- a map behind whose marker these names follow is of UDMF
abbrev pub begins_with_textmap : List (List ℕ) → Bool
begins_with_textmap after = begins_with_name (codes "TEXTMAP") after

-- the place of a lump in the run
abbrev pub place_in_run : List ℕ → List (List ℕ) → Option ℕ
place_in_run name run = position (λ n. same_name n name) run

-- the name of the lump, which in a map of UDMF is TEXTMAP for all four
abbrev pub lump_name : Bool → Lump → List ℕ
lump_name true lump = codes "TEXTMAP"
lump_name false Linedefs = codes "LINEDEFS"
lump_name false Sidedefs = codes "SIDEDEFS"
lump_name false Vertexes = codes "VERTEXES"
lump_name false Sectors = codes "SECTORS"

infixl 10 ◌>>=◌
abbrev pub ◌>>=◌ : {A B : Type 0} → Result A MapFault → (A → Result B MapFault) → Result B MapFault
(Ok x) >>= f = f x
(Err e) >>= f = Err e

abbrev pub needed_in : Bool → List (List ℕ) → Lump → Result ℕ MapFault
needed_in text run lump = elim (place_in_run (lump_name text lump) run) [ Some k ↦ Ok k | None ↦ Err (fault.Missing lump) ]

abbrev pub shifted : ℕ → Option ℕ → Option ℕ
shifted by None = None
shifted by (Some k) = Some (by + k)

-- the format of a map that is of UDMF, or else of this one
abbrev pub format_told : Bool → MapFormat → MapFormat
format_told text format = if text then Text else format

-- the spot of such a map whose run stands right behind its marker
unfoldable pub spot_in : ℕ → Bool → MapFormat → List (List ℕ) → Result MapSpot MapFault
spot_in marker text format run = do
  linedefs ← needed_in text run Linedefs
  sidedefs ← needed_in text run Sidedefs
  vertexes ← needed_in text run Vertexes
  sectors ← needed_in text run Sectors
  Ok (record { marker = marker; linedefs = marker + 1 + linedefs; sidedefs = marker + 1 + sidedefs; vertexes = marker + 1 + vertexes; sectors = marker + 1 + sectors; reject = shifted (marker + 1) (place_in_run (codes "REJECT") run); format = format_told text format; text = text })

-- the format of a map behind whose run these names follow: BEHAVIOR right behind it means Hexen's
abbrev pub format_behind : List (List ℕ) → MapFormat
format_behind [] = Doom
format_behind (n ∷ ns) = if same_name n (codes "BEHAVIOR") then Hexen else Doom

-- the spot of a map behind whose marker these names follow; a map of UDMF without ENDMAP right behind its run is none
unfoldable pub spot_behind : ℕ → List (List ℕ) → Result MapSpot MapFault
spot_behind marker after =
    let text : Bool = begins_with_textmap after in
    let run : List (List ℕ) = run_from text [] after in
    let rest : List (List ℕ) = drop (length run) after in
    if text && not (begins_with_name (codes "ENDMAP") rest) then Err fault.NoEnd else spot_in marker text (format_behind rest) run

-- the spot, among these names, of the map whose marker is the last of that name, or the first check that fails
unfoldable pub spot_of : List (List ℕ) → List ℕ → Result MapSpot MapFault
spot_of names name = elim (last_from names name 0 None) [
  | None ↦ Err fault.NoMarker
  | Some marker ↦ spot_behind marker (drop (marker + 1) names)
]
