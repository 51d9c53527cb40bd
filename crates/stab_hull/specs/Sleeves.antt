-- Portals that a line passes, with what is of them on the stacks, and what comes of one more that has an end of the last.
use Rattle.std.specs.Prelude.{◌≡◌, ◌-◌, Bool, true, false, List, [], ◌∷◌, ◌++◌, Some, Result, Ok, Err, length, map, slice_get}
use Rattle.sight_names.specs.declared.names.Memory.{Memory}
use Rattle.sight_names.specs.declared.names.Pt.{Pt}
use Rattle.sight_names.specs.declared.names.EndAt.{EndAt}
use Rattle.sight_names.specs.Splitting.{EndPoints}
use Rattle.geom_exact.specs.declared.extreme_lines.cone.Cone.{Cone}
use Rattle.stab_hull.specs.declared.frame.Frame.{Frame}
use Rattle.stab_hull.specs.declared.frame.Noted.{Noted}
use Rattle.stab_hull.specs.declared.onward.Tells.{Tells}
use Rattle.stab_hull.specs.declared.onward.Tells.TheVariants.{Covered, Takes, Stuck, Unseen}
use Rattle.stab_hull.specs.declared.onward.Told.{Told}
use Rattle.stab_hull.specs.declared.onward.Told.TheVariants as told
use Rattle.stab_hull.specs.declared.track.Track.{Track}
use Rattle.stab_hull.specs.declared.turning.Turn.{Turn}
use Rattle.stab_hull.specs.declared.turning.Turn.TheVariants as turn
use Rattle.stab_hull.specs.declared.Passed.{Passed}
use Rattle.stab_hull.specs.declared.Passed.TheVariants as passed
use Rattle.stab_hull.specs.Answer.{IsPortalPassed, IsBarredBy}
use Rattle.stab_hull.specs.History.{CountsStacks, IsHistory}
use Rattle.stab_hull.specs.Portals.{portals_of}
use Rattle.stab_hull.specs.Stacks.{CoversLeft, CoversRight, IsTopCone}
use Rattle.stab_hull.specs.Turning.{MovesRight, MovesLeft}

-- the stacks have what is of these portals alone
pub record IsSleeve (fs : List Frame) (ls rs : List EndAt) (cs : List Cone) : Type 0 where
  pub history : IsHistory fs ls rs cs
  pub exact : (f : Frame) → slice_get fs (length fs - 1) ≡ Some f → CountsStacks ls rs cs f

-- the last portal has this left end
abbrev pub HasLastLeft : List EndPoints → Pt → Type 0
HasLastLeft es p = (e : EndPoints) × (slice_get es (length es - 1) ≡ Some e) × (e.left ≡ p)

-- the last portal has this right end
abbrev pub HasLastRight : List EndPoints → Pt → Type 0
HasLastRight es p = (e : EndPoints) × (slice_get es (length es - 1) ≡ Some e) × (e.right ≡ p)

-- a right end covers the point, in the last cone
abbrev pub IsCoveredRight : List EndAt → List Cone → Pt → Type 0
IsCoveredRight rs cs p = (c : Cone) × (slice_get cs (length cs - 1) ≡ Some c) × CoversRight rs c p

-- a left end does
abbrev pub IsCoveredLeft : List EndAt → List Cone → Pt → Type 0
IsCoveredLeft ls cs p = (c : Cone) × (slice_get cs (length cs - 1) ≡ Some c) × CoversLeft ls c p

-- The last cone is that of the ends and the new right one; or a line of it may move to that one.
abbrev pub TakesRight : List EndAt → List EndAt → List Cone → EndAt → Bool → Type 0
TakesRight ls rs cs new false = IsTopCone ls (rs ++ new ∷ []) cs
TakesRight ls rs cs new true = MovesRight ls cs new

-- the same of a new left one
abbrev pub TakesLeft : List EndAt → List EndAt → List Cone → EndAt → Bool → Type 0
TakesLeft ls rs cs new false = IsTopCone (ls ++ new ∷ []) rs cs
TakesLeft ls rs cs new true = MovesLeft rs cs new

-- what a new right end does to the cone of these portals, which the next one has with this left end
abbrev pub TellsRight : List EndPoints → List EndAt → List EndAt → List Cone → Pt → EndAt → Tells → Type 0
TellsRight es ls rs cs left new Covered = IsCoveredRight rs cs new.at
TellsRight es ls rs cs left new (Takes moves) = TakesRight ls rs cs new moves
TellsRight es ls rs cs left new (Stuck e) = IsBarredBy (es ++ record { left = left; right = new.at } ∷ []) e
TellsRight es ls rs cs left new Unseen = Unit {0}

-- what a new left end does, which the next portal has with this right end
abbrev pub TellsLeft : List EndPoints → List EndAt → List EndAt → List Cone → EndAt → Pt → Tells → Type 0
TellsLeft es ls rs cs new right Covered = IsCoveredLeft ls cs new.at
TellsLeft es ls rs cs new right (Takes moves) = TakesLeft ls rs cs new moves
TellsLeft es ls rs cs new right (Stuck e) = IsBarredBy (es ++ record { left = new.at; right = right } ∷ []) e
TellsLeft es ls rs cs new right Unseen = Unit {0}

-- what a new end does to the lines, as what it does to the stacks
abbrev pub tells_of : Turn → Tells
tells_of turn.Covered = Covered
tells_of turn.Same = Takes false
tells_of turn.Moves = Takes true
tells_of (turn.Stuck e) = Stuck e
tells_of turn.Unseen = Unseen

-- what a search tells of a portal, as what is told without one
abbrev pub told_of_search : Result Passed Memory → Result Told Memory
told_of_search (Ok passed.Open) = Ok told.Open
told_of_search (Ok (passed.Stuck e)) = Ok (told.Stuck e)
told_of_search (Err m) = Err m

-- the list has the portal where a line splits its ends and all others; else it is as it was, and stuck ends show that none
-- does, or nothing is told
abbrev pub IsPortalTold : List EndPoints → EndPoints → List EndPoints → Result Told Memory → Type 0
IsPortalTold old e new (Ok told.Open) = IsPortalPassed old e new (Ok passed.Open)
IsPortalTold old e new (Ok (told.Stuck evidence)) = IsPortalPassed old e new (Ok (passed.Stuck evidence))
IsPortalTold old e new (Ok told.Unseen) = new ≡ old
IsPortalTold old e new (Err m) = new ≡ old

-- and the note of the portal where it has the portal
abbrev pub IsNotedOn : {N : Type 0} → List N → N → List N → Result Told Memory → Type 0
IsNotedOn old n new (Ok told.Open) = new ≡ old ++ n ∷ []
IsNotedOn old n new (Ok (told.Stuck evidence)) = new ≡ old
IsNotedOn old n new (Ok told.Unseen) = new ≡ old
IsNotedOn old n new (Err m) = new ≡ old

-- ---- portals with notes

abbrev pub noted_frame : {N : Type 0} → Noted N → Frame
noted_frame x = x.frame

abbrev pub note_of : {N : Type 0} → Noted N → N
note_of x = x.note

abbrev pub frames_of : {N : Type 0} → List (Noted N) → List Frame
frames_of xs = map noted_frame xs

-- the portal is stacked with its ends where a line passes it and all before
pub record GoesBy (old : List EndPoints) (e : EndPoints) (fs : List Frame) (ls rs : List EndAt) (cs : List Cone) (r : Result Told Memory) : Type 0 where
  pub sleeve : IsSleeve fs ls rs cs
  pub told : IsPortalTold old e (portals_of fs) r

-- and with its note
pub record GoesOnWithNote {N : Type 0} (old : List (Noted N)) (n : N) (e : EndPoints) (new : List (Noted N)) (ls rs : List EndAt) (cs : List Cone) (r : Result Told Memory) : Type 0 where
  pub sleeve : IsSleeve (frames_of new) ls rs cs
  pub told : IsPortalTold (portals_of (frames_of old)) e (portals_of (frames_of new)) r
  pub noted : IsNotedOn (map note_of old) n (map note_of new) r

abbrev pub IsTrack : {N : Type 0} → Track N → Type 0
IsTrack t = IsSleeve (frames_of t.portals.items) t.hull.lefts t.hull.rights t.hull.cones.items

abbrev pub ends_of_track : {N : Type 0} → Track N → List EndPoints
ends_of_track t = portals_of (frames_of t.portals.items)

abbrev pub notes_of : {N : Type 0} → Track N → List N
notes_of t = map note_of t.portals.items

-- the same of a whole track
pub record GoesOnTo {N : Type 0} (old : Track N) (n : N) (e : EndPoints) (new : Track N) (r : Result Told Memory) : Type 0 where
  pub told : IsPortalTold (ends_of_track old) e (ends_of_track new) r
  pub noted : IsNotedOn (notes_of old) n (notes_of new) r
