-- Routes: sides that lead from a state to a sector, with their number at each state.
use Rattle.std.specs.Prelude.{◌≡◌, ℕ, ◌*◌, ◌≤◌, List, [], ◌∷◌, Option, Some, None, length, slice_index_or, Contains}
use Rattle.sight_names.specs.declared.names.Side.{Side}
use Rattle.sound_reach.specs.declared.doors.Door.{Door}
use Rattle.sound_reach.specs.declared.state.State.{State}
use Rattle.sound_reach.specs.State.{after_of, state_place}

-- one step through a door
pub record IsRouteStep (es : List Door) (x : State) (s : Side) (y : State) : Type 0 where
  pub door : Door
  pub there : Contains es door
  pub from : door.from ≡ x.sector
  pub side : door.side ≡ s
  pub behind : after_of door x.spare ≡ Some y

abbrev pub IsRoute : List Door → ℕ → State → List Side → Type 0
IsRoute es b x [] = x.sector ≡ b
IsRoute es b x (s ∷ ss) = (y : State) × IsRouteStep es x s y × IsRoute es b y ss

-- the distance that a list with two entries for each sector has for the state
abbrev pub distance_at : List (Option ℕ) → State → Option ℕ
distance_at ds x = slice_index_or ds (state_place x) None

-- for each state from which a route leads to b, how few sides one has
pub record AreDistances (es : List Door) (sectors b : ℕ) (ds : List (Option ℕ)) : Type 0 where
  pub len : length ds ≡ sectors * 2
  pub routes : (x : State) (k : ℕ) → distance_at ds x ≡ Some k → (ss : List Side) × IsRoute es b x ss × (length ss ≡ k)
  pub fewest : (x : State) (ss : List Side) → IsRoute es b x ss → (k : ℕ) × (distance_at ds x ≡ Some k) × (k ≤ length ss)
