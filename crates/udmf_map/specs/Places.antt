-- Where a byte of a text stands: rows end with a line feed, and are counted from 1, as columns are.
use Rattle.std.specs.Prelude.{ℕ, ◌+◌, ◌==◌, List, [], ◌∷◌, take, if◌then◌else◌}
use Rattle.udmf_map.specs.declared.places.Place.{Place}

-- where one stands behind these bytes, from some place on
abbrev pub place_behind_bytes : Place → List ℕ → Place
place_behind_bytes p [] = p
place_behind_bytes p (c ∷ cs) = if c == 10 then place_behind_bytes (record { row = p.row + 1; column = 1 }) cs else place_behind_bytes (record { row = p.row; column = p.column + 1 }) cs

abbrev pub place_in_text : List ℕ → ℕ → Place
place_in_text text at = place_behind_bytes (record { row = 1; column = 1 }) (take at text)
