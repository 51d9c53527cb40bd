-- What a WAD is (the Unofficial Doom Specs on the WAD file): a kind and a list of lumps, each a name and its bytes.
use Rattle.std.specs.Prelude.{◌≡◌, ℕ, zero, suc, ◌+◌, ◌*◌, ◌^◌, ◌==◌, nat_lt, nat_le, Bool, not, ◌&&◌, ◌||◌, List, [], ◌∷◌, ◌++◌, length, take, drop, Option, Some, None, Result, Ok, Err, if◌then◌else◌, map, ⊤, codes, is_none}
use Rattle.std.specs.List.{position_from}
use Rattle.std.specs.Option.{option_map}
use Rattle.std.specs.Int.{w32, from_le_bytes}
use Rattle.std.specs.Str.{bytes_eq}
use Rattle.sight_names.specs.declared.limits.TheConstants.{MOST_LUMPS}
use Rattle.sight_names.specs.declared.faults.WadFault.{WadFault}
use Rattle.sight_names.specs.declared.faults.WadFault.TheVariants as fault
use Rattle.wad_dir.specs.declared.parts.Kind.{Kind}
use Rattle.wad_dir.specs.declared.parts.Kind.TheVariants.{Iwad, Pwad}
use Rattle.wad_dir.specs.declared.parts.Entry.{Entry}
use Rattle.wad_dir.specs.declared.parts.Wad.{Wad}

-- a lump: its name of eight bytes, and its bytes
pub record WadLump : Type 0 where
  pub name : List ℕ
  pub bytes : List ℕ

-- a WAD, without where anything stands in its file
pub record WadFile : Type 0 where
  pub kind : Kind
  pub lumps : List WadLump

-- the names of the lumps, in order
abbrev pub names_of_lumps : WadFile → List (List ℕ)
names_of_lumps w = map (λ (l : WadLump). l.name) w.lumps

-- ---- the format

-- the four bytes that a WAD begins with
abbrev pub wad_magic : Kind → List ℕ
wad_magic Iwad = codes "IWAD"
wad_magic Pwad = codes "PWAD"

-- the little-endian number of four bytes at a place; as an int32 it is negative from 2 ^ 31 on
abbrev pub word_at : List ℕ → ℕ → ℕ
word_at bytes at = from_le_bytes w32 (take 4 (drop at bytes))

-- the kind that the first four bytes say
abbrev pub wad_kind_of : List ℕ → Option Kind
wad_kind_of bytes = if bytes_eq (take 4 bytes) (wad_magic Iwad) then Some Iwad else (if bytes_eq (take 4 bytes) (wad_magic Pwad) then Some Pwad else None)

-- the number of lumps, and the place of the directory
abbrev pub lump_count_of : List ℕ → ℕ
lump_count_of bytes = word_at bytes 4

abbrev pub directory_place : List ℕ → ℕ
directory_place bytes = word_at bytes 8

-- one entry of the directory as it stands in the file: int32 offset, int32 size, 8 bytes of name
pub record Slot : Type 0 where
  pub offset : ℕ
  pub size : ℕ
  pub name : List ℕ

-- the entry whose 16 bytes stand at a place
abbrev pub slot_at : List ℕ → ℕ → Slot
slot_at bytes at = record { offset = word_at bytes at; size = word_at bytes (at + 4); name = take 8 (drop (at + 8) bytes) }

-- so many entries from a place on
abbrev pub slots_at : List ℕ → ℕ → ℕ → List Slot
slots_at bytes at zero = []
slots_at bytes at (suc n) = slots_at bytes at n ++ slot_at bytes (at + 16 * n) ∷ []

-- the entries of the directory
abbrev pub slots_of : List ℕ → List Slot
slots_of bytes = slots_at bytes (directory_place bytes) (lump_count_of bytes)

-- a negative size, or a size above 0 and bytes that begin below 0 or end behind the file
abbrev pub is_outside : ℕ → Slot → Bool
is_outside len s = nat_le (2 ^ 31) s.size || (not (s.size == 0) && (nat_le (2 ^ 31) s.offset || nat_lt len (s.offset + s.size)))

-- a directory that isn't empty begins below 0 or ends behind the file
abbrev pub is_directory_outside : List ℕ → Bool
is_directory_outside bytes = not (lump_count_of bytes == 0) && (nat_le (2 ^ 31) (directory_place bytes) || nat_lt (length bytes) (directory_place bytes + 16 * lump_count_of bytes))

-- the first check that fails
unfoldable pub wad_fault : List ℕ → Option WadFault
wad_fault bytes =
    if nat_lt (length bytes) 12 then Some fault.ShortHeader
    else (if is_none (wad_kind_of bytes) then Some fault.BadMagic
    else (if nat_le (2 ^ 31) (lump_count_of bytes) then Some fault.BadCount
    else (if nat_lt MOST_LUMPS (lump_count_of bytes) then Some fault.TooManyLumps
    else (if is_directory_outside bytes then Some fault.DirectoryOutside
    else option_map fault.LumpOutside (position_from (is_outside (length bytes)) 0 (slots_of bytes))))))

-- a value where no check fails, and else the fault
abbrev pub unless : {A : Type 0} → Option WadFault → A → Result A WadFault
unless fault x = elim fault [ Some f ↦ Err f | None ↦ Ok x ]

-- ---- the WAD of the bytes

-- the kind, where no check fails
abbrev pub kind_said : List ℕ → Kind
kind_said bytes = if bytes_eq (take 4 bytes) (wad_magic Iwad) then Iwad else Pwad

-- the lump of an entry
abbrev pub lump_of : List ℕ → Slot → WadLump
lump_of bytes s = record { name = s.name; bytes = take s.size (drop s.offset bytes) }

-- the WAD that bytes are, or the first check that fails
unfoldable pub wad_of : List ℕ → Result WadFile WadFault
wad_of bytes = unless (wad_fault bytes) (record { kind = kind_said bytes; lumps = map (lump_of bytes) (slots_of bytes) })

-- ---- the directory, which the program keeps instead of the lumps

-- an entry as it is read: one of no bytes stands at 0
abbrev pub entry_of : Slot → Entry
entry_of s = record { name = s.name; at = if s.size == 0 then 0 else s.offset; size = s.size }

-- a kind and entries, without their places in memory
pub record Directory : Type 0 where
  pub kind : Kind
  pub entries : List Entry

abbrev pub directory_of_wad : Wad → Directory
directory_of_wad wad = record { kind = wad.kind; entries = wad.entries }

-- the directory that bytes have, or the first check that fails
unfoldable pub directory_of : List ℕ → Result Directory WadFault
directory_of bytes = unless (wad_fault bytes) (record { kind = kind_said bytes; entries = map entry_of (slots_of bytes) })

-- the lump that an entry stands for in a file
abbrev pub lump_under : List ℕ → Entry → WadLump
lump_under bytes e = record { name = e.name; bytes = take e.size (drop e.at bytes) }

-- the WAD that a directory stands for in a file
abbrev pub file_of : List ℕ → Wad → WadFile
file_of bytes wad = record { kind = wad.kind; lumps = map (lump_under bytes) wad.entries }

-- the entry's bytes lie in a file of that length
abbrev pub lies_within : ℕ → Entry → Bool
lies_within len e = nat_lt e.size (2 ^ 31) && nat_lt e.at (2 ^ 31) && nat_le (e.at + e.size) len

-- What was read is what the bytes say, unless memory ran out.
abbrev pub ReadsWad : {V D : Type 0} → (V → D) → Result V WadFault → Result D WadFault → Type 0
ReadsWad view (Ok v) said = said ≡ Ok (view v)
ReadsWad view (Err (fault.Memory _)) said = ⊤
ReadsWad view (Err f) said = said ≡ Err f

-- the entries, or the first that lies outside
abbrev pub entries_within : ℕ → List Slot → Result (List Entry) WadFault
entries_within len slots = elim (position_from (is_outside len) 0 slots) [ Some k ↦ Err (fault.LumpOutside k) | None ↦ Ok (map entry_of slots) ]
