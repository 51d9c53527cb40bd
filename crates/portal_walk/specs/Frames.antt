-- The path of a walk: the portals that were entered, and the ways that each still has.
use Rattle.std.specs.Prelude.{◌≡◌, ℕ, ◌+◌, ◌-◌, ◌*◌, ◌^◌, ◌<◌, ◌≤◌, List, [], ◌∷◌, ◌++◌, Option, Some, None, Result, Ok, Err, length, take, slice_get, slice_set}
use Rattle.sight_names.specs.declared.names.Memory.{Memory}
use Rattle.sight_names.specs.Splitting.{EndPoints, IsSplittable}
use Rattle.stab_hull.specs.declared.Passed.{Passed}
use Rattle.stab_hull.specs.declared.Passed.TheVariants.{Open, Stuck}
use Rattle.stab_hull.specs.declared.onward.Told.{Told}
use Rattle.stab_hull.specs.declared.onward.Told.TheVariants as told
use Rattle.stab_hull.specs.Answer.{IsBarredBy}
use Rattle.portal_walk.specs.declared.path.Frame.{Frame}
use Rattle.portal_walk.specs.declared.path.Ways.{Ways}
use Rattle.portal_walk.specs.declared.path.Ways.TheVariants.{Both, RightOnly, Done}

-- The portals that were entered, in order, and the ends of each.
pub record PathParts : Type 0 where
  pub frames : List Frame
  pub ends : List EndPoints

-- how many ways out are still to be tried
abbrev pub ways_left : Ways → ℕ
ways_left Both = 2
ways_left RightOnly = 1
ways_left Done = 0

abbrev pub ways_of : Option Frame → ℕ
ways_of None = 0
ways_of (Some f) = ways_left f.ways

-- the ways that the last portal has left
abbrev pub top_ways : List Frame → ℕ
top_ways fs = ways_of (slice_get fs (length fs - 1))

-- A bound on the sequences that may still follow a path of at most d portals: each way of a portal counts three times
-- as much as one of the portal behind it.
abbrev pub frames_weight : ℕ → List Frame → ℕ
frames_weight d [] = 0
frames_weight d (f ∷ fs) = ways_left f.ways * 3 ^ (d - 1) + frames_weight (d - 1) fs

-- the portal is where it was, with these ways left
abbrev pub with_ways : Frame → Ways → Frame
with_ways f w = record { edge = f.edge; ways = w; under = f.under }

-- the same path, but for the ways that the portal at place n has left
abbrev pub HasWays : PathParts → ℕ → Ways → PathParts → Type 0
HasWays old n w new = (f : Frame) → slice_get old.frames n ≡ Some f → new ≡ record { frames = slice_set old.frames n (with_ways f w); ends = old.ends }

abbrev pub first_portals : ℕ → PathParts → PathParts
first_portals n p = record { frames = take n p.frames; ends = take n p.ends }

-- no portal from the n-th to before the k-th has a way left
abbrev pub HaveNoWays : List Frame → ℕ → ℕ → Type 0
HaveNoWays fs n k = (j : ℕ) (f : Frame) → n ≤ j → j < k → slice_get fs j ≡ Some f → ways_left f.ways ≡ 0

-- of the first n portals the last one, if any, has a way left
abbrev pub HasWay : List Frame → ℕ → Type 0
HasWay fs n = (j : ℕ) (f : Frame) → n ≡ j + 1 → slice_get fs j ≡ Some f → 0 < ways_left f.ways

-- of each portal: those before it that don't stay when it is left have no way left, and the last one that stays has one
abbrev pub AreUnder : List Frame → Type 0
AreUnder fs = (k : ℕ) (f : Frame) → slice_get fs k ≡ Some f → (f.under ≤ k) × HaveNoWays fs f.under k × HasWay fs f.under

-- the last portal has a way left
abbrev pub IsReady : List Frame → Type 0
IsReady fs = HasWay fs (length fs)

-- the path, and one more portal with these ends
abbrev pub with_portal : PathParts → Frame → EndPoints → PathParts
with_portal p f e = record { frames = p.frames ++ f ∷ []; ends = p.ends ++ e ∷ [] }

-- the portal is on the path, and a line splits all ends; or the path is as before, and stuck ends show that none does
abbrev pub PassesPortal : PathParts → PathParts → Frame → EndPoints → Result Passed Memory → Type 0
PassesPortal old new f e (Ok Open) = (new ≡ with_portal old f e) × IsSplittable (old.ends ++ e ∷ [])
PassesPortal old new f e (Ok (Stuck evidence)) = (new ≡ old) × IsBarredBy (old.ends ++ e ∷ []) evidence
PassesPortal old new f e (Err r) = new ≡ old

-- the same of a portal that may have to be searched for: then the path is as before
abbrev pub TellsPortal : PathParts → PathParts → Frame → EndPoints → Result Told Memory → Type 0
TellsPortal old new f e (Ok told.Open) = PassesPortal old new f e (Ok Open)
TellsPortal old new f e (Ok (told.Stuck evidence)) = PassesPortal old new f e (Ok (Stuck evidence))
TellsPortal old new f e (Ok told.Unseen) = new ≡ old
TellsPortal old new f e (Err r) = new ≡ old
