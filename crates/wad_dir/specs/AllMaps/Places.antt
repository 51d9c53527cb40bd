-- Where the last entry of each name stands.
use Rattle.std.specs.Prelude.{◌≡◌, ℕ, List, Option, None}
use Rattle.wad_dir.specs.Map.{last_from}
use Rattle.wad_dir.specs.AllMaps.Maps.{told}

-- under each name as it is told there is the place of the last of these names that is the same
abbrev pub AreLast : List (List ℕ) → (List ℕ → Option ℕ) → Type 0
AreLast names places = (name : List ℕ) → places (told name) ≡ last_from names name 0 None
