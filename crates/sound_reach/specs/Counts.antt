-- How many sectors each one is heard in, from itself on.
use Rattle.std.specs.Prelude.{◌≡◌, ℕ, ◌-◌, ◌<◌, ◌↔◌, List, Option, Some, None, is_some, length, slice_index_or, Bool, true, false, IsTrue, IsFalse}
use Rattle.std.specs.List.{count_by, range_with_len}
use Rattle.sight_names.specs.Map.{Map}
use Rattle.sight_names.specs.Noise.{IsNoiseHeard}
use Rattle.sound_reach.specs.Routes.{distance_at}

-- a distance is known with a line to spare, or without one
abbrev pub is_heard_near : List (Option ℕ) → Bool → ℕ → Bool
is_heard_near ds spare a = is_some (distance_at ds (record { sector = a; spare = spare }))

abbrev pub distance_in : List (Option ℕ) → ℕ → Option ℕ
distance_in rows a = slice_index_or rows a None

-- the rows of the sectors that are near without a line to spare get the number of sectors that are near with one
pub record AreFilled (sectors : ℕ) (ds rows rows' : List (Option ℕ)) : Type 0 where
  pub len : length rows' ≡ length rows
  pub near : (a : ℕ) → a < sectors → IsTrue (is_heard_near ds false a) → distance_in rows' a ≡ Some (count_by (is_heard_near ds true) (range_with_len a (sectors - a)))
  pub far : (a : ℕ) → a < sectors → IsFalse (is_heard_near ds false a) → distance_in rows' a ≡ distance_in rows a

-- how many of the sectors from a on hear what is heard in a
pub record IsCountOfHearers (m : Map) (dampers : List Bool) (a count : ℕ) : Type 0 where
  pub hears : ℕ → Bool
  pub tells : (b : ℕ) → b < m.sectors → IsTrue (hears b) ↔ IsNoiseHeard m dampers a b
  pub count_is : count ≡ count_by hears (range_with_len a (m.sectors - a))

-- the rows that are known, among them those of all sectors before n
pub record AreRows (m : Map) (dampers : List Bool) (n : ℕ) (rows : List (Option ℕ)) : Type 0 where
  pub len : length rows ≡ m.sectors
  pub each : (a count : ℕ) → distance_in rows a ≡ Some count → IsCountOfHearers m dampers a count
  pub known : (a : ℕ) → a < n → (count : ℕ) × (distance_in rows a ≡ Some count)
