-- Gates of a map, and what may lie beyond one, over any claims of two sectors that they don't see each other.
use Rattle.std.specs.Prelude.{◌≡◌, ℕ, ◌⊎◌, Some, Contains, not, pos, ◌<ℤ◌}
use Rattle.sight_names.specs.declared.names.Side.{Side}
use Rattle.sight_names.specs.Point.{point_of, turn_at}
use Rattle.sight_names.specs.Map.{Map, Names}
use Rattle.sight_names.specs.Points.{place}
use Rattle.sight_names.specs.Sequence.{Portal, root_portal, roots}

abbrev pub other_side : Side → Side
other_side s = record { line = s.line; left = not s.left }

-- the portal is a passable line that is walked through out of sector b into another sector d: it is that of a root of b
pub record IsGate (m : Map) (b d : ℕ) (p : Portal) : Type 0 where
  pub side : Side
  pub root : Contains (roots m b) side
  pub portal : root_portal m side ≡ Some p
  pub far : Names m (other_side side) d

-- the point with this number is strictly on the side to which the portal leads
abbrev pub IsInFront : Map → Portal → ℕ → Type 0
IsInFront m p k = pos 0 <ℤ turn_at (place m p.left) (place m p.right) (point_of (place m k))

-- the point is strictly on the side from which one comes to the portal
abbrev pub IsInBack : Map → Portal → ℕ → Type 0
IsInBack m p k = turn_at (place m p.left) (place m p.right) (point_of (place m k)) <ℤ pos 0

-- an end of q is in front of p, and an end of p is in the back of q: so it is where a line goes through p and later through q
pub record MayFollow (m : Map) (p q : Portal) : Type 0 where
  pub in_front : IsInFront m p q.left ⊎ IsInFront m p q.right
  pub in_back : IsInBack m q p.left ⊎ IsInBack m q p.right

-- What lies beyond the gate p from b to d: the least set that has d and, with each of its sectors that b isn't claimed not to see,
-- what is behind each gate of that sector that may follow p.
module _ (m : Map) (Claims : ℕ → ℕ → Type 0) (b d : ℕ) (p : Portal) where
  pub data IsBeyond : ℕ → Type 0 where
    here : {c : ℕ} → c ≡ d → IsBeyond c
    further : {c : ℕ} (x : ℕ) (q : Portal) → IsBeyond x → ¬ Claims b x → IsGate m x c q → MayFollow m p q → IsBeyond c

-- the gate's mask: what lies beyond it, less what d is claimed not to see
pub record IsInMask (m : Map) (Claims : ℕ → ℕ → Type 0) (b d : ℕ) (p : Portal) (c : ℕ) : Type 0 where
  pub beyond : IsBeyond m Claims b d p c
  pub unclaimed : ¬ Claims d c
