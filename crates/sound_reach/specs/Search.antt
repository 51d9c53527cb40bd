-- A search by breadth, from a sector backwards.
use Rattle.std.specs.Prelude.{◌≡◌, ℕ, ◌+◌, ◌<◌, ◌≤◌, ◌⊎◌, List, [], ◌∷◌, ◌++◌, Option, Some, None, is_none, length, slice_get, set}
use Rattle.std.specs.List.{count_by}
use Rattle.sight_names.specs.declared.names.Side.{Side}
use Rattle.sound_reach.specs.declared.doors.Door.{Door}
use Rattle.sound_reach.specs.declared.state.State.{State}
use Rattle.sound_reach.specs.declared.search.Reached.{Reached}
use Rattle.sound_reach.specs.State.{state_place}
use Rattle.sound_reach.specs.Routes.{IsRoute, IsRouteStep, distance_at}

-- the states in the queue have their distances, which ascend along it; from each of the first h all states one step before
-- are reached
pub record IsSoundSearch (es : List Door) (b : ℕ) (ds : List (Option ℕ)) (queue : List Reached) (h : ℕ) : Type 0 where
  pub told : (i : ℕ) (q : Reached) → slice_get queue i ≡ Some q → distance_at ds q.state ≡ Some q.distance
  pub queued : (x : State) (k : ℕ) → distance_at ds x ≡ Some k → (i : ℕ) × (slice_get queue i ≡ Some (record { state = x; distance = k }))
  pub routes : (i : ℕ) (q : Reached) → slice_get queue i ≡ Some q → (ss : List Side) × IsRoute es b q.state ss × (length ss ≡ q.distance)
  pub ascend : (i j : ℕ) (p q : Reached) → i ≤ j → slice_get queue i ≡ Some p → slice_get queue j ≡ Some q → p.distance ≤ q.distance
  pub near : (i : ℕ) (p q : Reached) → slice_get queue h ≡ Some p → slice_get queue i ≡ Some q → q.distance ≤ p.distance + 1
  pub closed : (i : ℕ) (q : Reached) (x : State) (s : Side) → i < h → slice_get queue i ≡ Some q → IsRouteStep es x s q.state → (k : ℕ) × (distance_at ds x ≡ Some k) × (k ≤ q.distance + 1)
  pub small : (i : ℕ) (q : Reached) → slice_get queue i ≡ Some q → q.distance ≤ i
  pub count : count_by is_none ds + length queue ≡ length ds

-- what is reached stays as it was
abbrev pub AreKept : List (Option ℕ) → List (Option ℕ) → Type 0
AreKept old new = (x : State) (k : ℕ) → distance_at old x ≡ Some k → distance_at new x ≡ Some k

abbrev pub IsStateReached : List (Option ℕ) → State → Type 0
IsStateReached ds x = (k : ℕ) × (distance_at ds x ≡ Some k)

-- a state that has no distance gets this one, and goes to the end of the queue
abbrev pub IsStateNoted : State → ℕ → List (Option ℕ) → List Reached → List (Option ℕ) → List Reached → Type 0
IsStateNoted x k ds queue ds' queue' =
    ((distance_at ds x ≡ None) × (ds' ≡ set ds (state_place x) (Some k)) × (queue' ≡ queue ++ (record { state = x; distance = k }) ∷ []))
    ⊎ (IsStateReached ds x × (ds' ≡ ds) × (queue' ≡ queue))

-- the sector itself has distance 0
abbrev pub IsSearchBegun : ℕ → List (Option ℕ) → Type 0
IsSearchBegun b ds = (x : State) → x.sector ≡ b → distance_at ds x ≡ Some 0
