-- A flood over gates: what lies beyond one of them, and how far a flood has come.
use Rattle.std.specs.Prelude.{◌≡◌, ℕ, ◌+◌, ◌<◌, ◌⊎◌, ◌↔◌, List, [], ◌∷◌, ◌++◌, Some, Bool, true, false, not, length, set, slice_get, slice_index_or, Contains}
use Rattle.std.specs.List.{count_by}
use Rattle.gate_floods.specs.declared.gate_masks.gate.Gate.{Gate}
use Rattle.gate_floods.specs.GateMasks.Following.{GateFollows}

-- The least set that has the gate's far sector and, with each of its sectors that is seen, what is behind each gate out of that
-- sector that may follow.
module _ (es : List Gate) (Seen : ℕ → Type 0) (gate : Gate) where
  pub data LiesBeyond : ℕ → Type 0 where
    here : {c : ℕ} → c ≡ gate.far → LiesBeyond c
    further : {c : ℕ} (e : Gate) → LiesBeyond e.near → Seen e.near → Contains es e → GateFollows gate e → c ≡ e.far → LiesBeyond c

abbrev pub is_marked : List Bool → ℕ → Bool
is_marked marks c = slice_index_or marks c false

-- the marked sectors are those in the queue, and all lie beyond the gate; with each of the first h that is seen, what may follow is
-- marked
pub record IsFlood (es : List Gate) (Seen : ℕ → Type 0) (gate : Gate) (marks : List Bool) (queue : List ℕ) (h : ℕ) : Type 0 where
  pub far : is_marked marks gate.far ≡ true
  pub marked : (i c : ℕ) → slice_get queue i ≡ Some c → is_marked marks c ≡ true
  pub queued : (c : ℕ) → is_marked marks c ≡ true → (i : ℕ) × (slice_get queue i ≡ Some c)
  pub beyond : (i c : ℕ) → slice_get queue i ≡ Some c → LiesBeyond es Seen gate c
  pub closed : (i : ℕ) (e : Gate) → i < h → slice_get queue i ≡ Some e.near → Seen e.near → Contains es e → GateFollows gate e → is_marked marks e.far ≡ true
  pub count : count_by not marks + length queue ≡ length marks

-- the sector is marked, and goes to the end of the queue
pub record IsQueued (c : ℕ) (marks : List Bool) (queue : List ℕ) (marks' : List Bool) (queue' : List ℕ) : Type 0 where
  pub marked : marks' ≡ set marks c true
  pub queued : queue' ≡ queue ++ c ∷ []

-- the sector behind the next gate is put where that one may follow, unless it is marked
abbrev pub IsFloodStep : Gate → Gate → List Bool → List ℕ → List Bool → List ℕ → Type 0
IsFloodStep gate next marks queue marks' queue' =
    ((is_marked marks next.far ≡ false) × GateFollows gate next × IsQueued next.far marks queue marks' queue')
    ⊎ (((is_marked marks next.far ≡ true) ⊎ (¬ GateFollows gate next)) × (marks' ≡ marks) × (queue' ≡ queue))

-- the gates out of the sector, if that is seen
abbrev pub AreWaysOn : List Gate → (ℕ → Type 0) → ℕ → List Gate → Type 0
AreWaysOn es Seen x found = (e : Gate) → Contains found e ↔ (Contains es e × (e.near ≡ x) × Seen x)
