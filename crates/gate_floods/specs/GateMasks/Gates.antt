-- The gates of a map as the code has them, and how they are found by the sectors that they lead out of.
use Rattle.std.specs.Prelude.{◌≡◌, ℕ, ◌+◌, ◌<◌, ◌≤◌, ◌==◌, ◌⊎◌, ◌↔◌, List, Some, None, Option, Bool, true, false, length, slice_get, Contains, if◌then◌else◌}
use Rattle.sight_names.specs.declared.names.Pair.{Pair}
use Rattle.sight_names.specs.declared.plan.Line.{Line}
use Rattle.sight_names.specs.Map.{Map}
use Rattle.sight_names.specs.Points.{place}
use Rattle.sight_names.specs.Sequence.{Portal}
use Rattle.gate_floods.specs.Gates.{IsGate}
use Rattle.gate_floods.specs.declared.gate_masks.gate.Gate.{Gate}
use Rattle.gate_floods.specs.declared.gate_masks.gates.Gates.{Gates}

-- ---- the gate at a side

abbrev pub portal_of_gate : Gate → Portal
portal_of_gate e = record { left = e.left; right = e.right }

-- one of the map's gates, with its ends
pub record IsGateOf (m : Map) (e : Gate) : Type 0 where
  pub gate : IsGate m e.near e.far (portal_of_gate e)
  pub side : gate.side ≡ e.side
  pub left_at : e.left_at ≡ place m e.left
  pub right_at : e.right_at ≡ place m e.right

-- the first of the two is before the side, and the second behind it
abbrev pub turned_pair : Bool → ℕ → ℕ → Pair
turned_pair true right left = record { a = left; b = right }
turned_pair false right left = record { a = right; b = left }

abbrev pub crossing_between : Bool → Option ℕ → Option ℕ → Option Pair
crossing_between side None left = None
crossing_between side (Some a) None = None
crossing_between side (Some a) (Some b) = if a == b then None else Some (turned_pair side a b)

-- the sectors before and behind a side of a line, if the line is passable and they differ
abbrev pub crossing_of : Line → Bool → Option Pair
crossing_of l side = if l.solid then None else crossing_between side l.right l.left

-- the left and the right end for one who leaves by the side
abbrev pub ends_by_side : Line → Bool → Pair
ends_by_side l true = record { a = l.b; b = l.a }
ends_by_side l false = record { a = l.a; b = l.b }

-- ---- all gates

-- these are the map's gates
abbrev pub AreGates : Map → List Gate → Type 0
AreGates m es = (e : Gate) → Contains es e ↔ IsGateOf m e

-- one more, if there is one
abbrev pub IsGateAdded : Option Gate → List Gate → List Gate → Type 0
IsGateAdded gate old new = (e : Gate) → Contains new e ↔ (Contains old e ⊎ (gate ≡ Some e))

-- the gates before place i are those out of sectors before c
pub record IsGateStart (es : List Gate) (c i : ℕ) : Type 0 where
  pub within : i ≤ length es
  pub before : (k : ℕ) (e : Gate) → k < i → slice_get es k ≡ Some e → e.near < c
  pub from : (k : ℕ) (e : Gate) → i ≤ k → slice_get es k ≡ Some e → c ≤ e.near

abbrev pub AreGateStarts : List Gate → List ℕ → Type 0
AreGateStarts es starts = (c i : ℕ) → slice_get starts c ≡ Some i → IsGateStart es c i

-- a start for each sector, and one behind the last
pub record AreGatesIndexed (gs : Gates) : Type 0 where
  pub each : length gs.starts.items ≡ gs.sectors + 1
  pub starts : AreGateStarts gs.gates.items gs.starts.items
  pub within : (e : Gate) → Contains gs.gates.items e → e.far < gs.sectors

-- the gates out of one sector
abbrev pub AreGatesFrom : List Gate → ℕ → List Gate → Type 0
AreGatesFrom es c found = (e : Gate) → Contains found e ↔ (Contains es e × (e.near ≡ c))
