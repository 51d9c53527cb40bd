-- The first route of those with the fewest sides.
use Rattle.std.specs.Prelude.{◌≡◌, ℕ, ◌⊎◌, List, Option, Some, None, length, Contains, Bool}
use Rattle.sight_names.specs.declared.names.Side.{Side}
use Rattle.sight_names.specs.Found.{SideBefore}
use Rattle.sight_names.specs.Noise.{SidesBefore}
use Rattle.sound_reach.specs.declared.doors.Door.{Door}
use Rattle.sound_reach.specs.declared.path.Step.{Step}
use Rattle.sound_reach.specs.declared.state.State.{State}
use Rattle.sound_reach.specs.State.{after_of}
use Rattle.sound_reach.specs.Routes.{IsRoute, distance_at}

abbrev pub IsSideNotAfter : Side → Side → Type 0
IsSideNotAfter s t = (s ≡ t) ⊎ SideBefore s t

-- the door leads to a state at this distance
pub record Approaches (ds : List (Option ℕ)) (left : ℕ) (spare : Bool) (e : Door) (y : State) : Type 0 where
  pub behind : after_of e spare ≡ Some y
  pub distance : distance_at ds y ≡ Some left

-- the step through this door to a state at this distance, if it leads to one
abbrev pub IsStepThrough : List (Option ℕ) → ℕ → Bool → Door → Option Step → Type 0
IsStepThrough ds left spare e None = (y : State) → Approaches ds left spare e y → ⊥
IsStepThrough ds left spare e (Some step) = Approaches ds left spare e step.state × (step.side ≡ e.side)

-- one of the two, with the lesser side
pub record IsLesser (best step result : Option Step) : Type 0 where
  pub one : (best ≡ result) ⊎ (step ≡ result)
  pub least : (t : Step) → (best ≡ Some t) ⊎ (step ≡ Some t) → (r : Step) × (result ≡ Some r) × IsSideNotAfter r.side t.side

-- the step through the door with the least side, of those doors that lead to a state at this distance
pub record IsLeastStep (ds : List (Option ℕ)) (left : ℕ) (spare : Bool) (found : List Door) (best : Option Step) : Type 0 where
  pub through : (step : Step) → best ≡ Some step → (e : Door) × Contains found e × IsStepThrough ds left spare e (Some step)
  pub least : (e : Door) (y : State) → Contains found e → Approaches ds left spare e y → (step : Step) × (best ≡ Some step) × IsSideNotAfter step.side e.side

-- a route, and the first of all that have as many sides
pub record IsFirstRoute (es : List Door) (b : ℕ) (x : State) (ss : List Side) : Type 0 where
  pub route : IsRoute es b x ss
  pub first : (other : List Side) → IsRoute es b x other → length other ≡ length ss → (other ≡ ss) ⊎ SidesBefore ss other
