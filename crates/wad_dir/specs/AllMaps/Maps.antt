-- The maps of a WAD (the Unofficial Doom Specs on the lumps of a map, the UDMF specification on TEXTMAP).
use Rattle.std.specs.Prelude.{ℕ, ◌-◌, Bool, not, ◌&&◌, nat_le, is_ok, List, [], ◌∷◌, ◌++◌, length, replicate, if◌then◌else◌, codes}
use Rattle.std.specs.List.{list_all}
use Rattle.wad_dir.specs.Map.{begins_with_textmap, has_name, is_run_name, key_of, same_name, spot_of}

-- a byte that is printed and isn't blank
abbrev pub is_visible : ℕ → Bool
is_visible c = nat_le 33 c && nat_le c 126

-- a name that a map can have: up to its first NUL it has some bytes, all of them visible, and it is neither BEHAVIOR,
-- TEXTMAP nor ENDMAP, nor the name of one of a map's lumps
unfoldable pub is_map_name : List ℕ → Bool
is_map_name name = not (same_name name []) && list_all is_visible (key_of name) && not (same_name name (codes "BEHAVIOR")) && not (same_name name (codes "TEXTMAP")) && not (same_name name (codes "ENDMAP")) && not (is_run_name name)

-- a name as it is told: eight bytes, in upper case, padded with NUL
unfoldable pub told : List ℕ → List ℕ
told name = key_of name ++ replicate (8 - length (key_of name)) 0

-- an entry of this name, behind which these names stand, is the marker of a map: it is the last of its name, and the name
-- finds a map among all names
unfoldable pub is_map : List (List ℕ) → List ℕ → List (List ℕ) → Bool
is_map all name behind = is_map_name name && not (has_name name behind) && is_ok (spot_of all name)

-- those of some names that are markers, by what stands behind them, in order
abbrev pub markers_among : (List ℕ → List (List ℕ) → Bool) → List (List ℕ) → List (List ℕ)
markers_among is_marker [] = []
markers_among is_marker (n ∷ ns) = if is_marker n ns then told n ∷ markers_among is_marker ns else markers_among is_marker ns

-- the names of the maps whose markers are among the last of all names, in order
abbrev pub maps_among : List (List ℕ) → List (List ℕ) → List (List ℕ)
maps_among all names = markers_among (is_map all) names

-- the maps of a WAD whose entries have these names
abbrev pub maps_in_names : List (List ℕ) → List (List ℕ)
maps_in_names names = maps_among names names

-- an entry of this name, behind which these names stand, is the marker of a map of UDMF: a map can have the name, it is the last of
-- its name, and TEXTMAP stands right behind it
abbrev pub is_udmf : List ℕ → List (List ℕ) → Bool
is_udmf name behind = is_map_name name && not (has_name name behind) && begins_with_textmap behind

-- the maps of UDMF, in order; one that has no ENDMAP isn't read
abbrev pub udmf_maps_of : List (List ℕ) → List (List ℕ)
udmf_maps_of names = markers_among is_udmf names
