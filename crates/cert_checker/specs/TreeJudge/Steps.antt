-- Half-edges as steps of a walk: each has beside its ways the sectors that they lead into.
use Rattle.std.specs.Prelude.{◌≡◌, ℕ, ◌+◌, ◌<◌, ◌≤◌, ◌++◌, ◌^◌, nat_lt, length, take, ◌==◌, ⊤, Bool, true, List, [], ◌∷◌, Option, Some, None, slice_get, if◌then◌else◌, IfSome}
use Rattle.sight_names.specs.Splitting.{EndPoints}
use Rattle.reject_bits.specs.Parts.{TableParts}
use Rattle.mesh_shape.specs.declared.half_edges.table.HalfEdge.{HalfEdge}
use Rattle.mesh_shape.specs.HalfEdges.HalfEdges.{way_outside}
use Rattle.cert_checker.specs.declared.tree_judge.steps.Step.{Step}
use Rattle.cert_checker.specs.declared.tree_judge.trees.Follow.{Follow}
use Rattle.cert_checker.specs.declared.tree_judge.trees.Frame.{Frame}
use Rattle.cert_checker.specs.declared.tree_judge.trees.Wait.{Wait}
use Rattle.cert_checker.specs.TreeJudge.Path.{list_of, path_ends, Pending, pending_way, IsWaiting}
use Rattle.cert_checker.specs.TreeJudge.Whole.{Notes}

-- a sector as a plain number: 65536 for none
abbrev pub sector_code : Option ℕ → ℕ
sector_code None = 65536
sector_code (Some s) = s

-- it is none, or below the number of none
abbrev pub IsBelowNone : Option ℕ → Type 0
IsBelowNone sector = IfSome sector (λ s. s < 65536)

-- the way, unless the sector behind it is the source
abbrev pub way_unless_source : Option ℕ → ℕ → ℕ → Option ℕ
way_unless_source way sector source = if sector == source then None else way

-- by what is told of it, the way leads out of each source just where it does
abbrev pub WayLeadsTo : List HalfEdge → Option ℕ → Option ℕ → ℕ → Type 0
WayLeadsTo xs way told sector = (source : ℕ) → source < 65536 → way_unless_source told sector source ≡ way_outside xs source way

-- the ends of the step's portal
abbrev pub step_ends : Step → EndPoints
step_ends s = record { left = s.left_at; right = s.right_at }

-- the bit of the source and of the sector with this plain number is set too, and no other; none where it is no sector's
abbrev pub NotesCode : ℕ → ℕ → TableParts → TableParts → Type 0
NotesCode source code old new = (sector : Option ℕ) → code ≡ sector_code sector → IsBelowNone sector → Notes source (list_of sector) old new

-- the bits of the source and of the sectors that are seen are set: to note one of them once more changes nothing
abbrev pub AreSeenNoted : ℕ → List Bool → TableParts → Type 0
AreSeenNoted source seen t = (sector : ℕ) → slice_get seen sector ≡ Some true → Notes source (sector ∷ []) t t

-- what is asked, by a plain number that no half-edge has where it is nothing
abbrev pub code_told : ℕ → Option ℕ
code_told code = if nat_lt code 4294967296 then Some code else None

-- The right way behind the half-edge waits before those that did, where it leads out of the source; whatever path leads there. No other
-- buffer is looked at.
pub record LetsWait (xs : List HalfEdge) (source : ℕ) (x : HalfEdge) (waits : List Wait) (f : Follow) (waits_new : List Wait) (f_new : Follow) : Type 0 where
  pub waiting : (path : List Frame) (ws : List Pending) → f.depth < length path → f.waiting ≤ f.depth → IsWaiting path waits f.waiting ws
      → IsWaiting path waits_new f_new.waiting (pending_way (path_ends (take (f.depth + 1) path)) (way_outside xs source x.right_way) ++ ws)
  pub nested : f.waiting ≤ f.depth → f_new.waiting ≤ f.depth + 1
  pub depth : f_new.depth ≡ f.depth
  pub root : f_new.root ≡ f.root

-- the half-edge as a step
pub record IsStepOf (xs : List HalfEdge) (x : HalfEdge) (s : Step) : Type 0 where
  pub left_at : s.left_at ≡ x.left_at
  pub right_at : s.right_at ≡ x.right_at
  pub sector : s.sector ≡ sector_code x.sector
  pub below : IsBelowNone x.sector
  pub left : WayLeadsTo xs x.left_way s.left_way s.left_sector
  pub right : WayLeadsTo xs x.right_way s.right_way s.right_sector

-- there is a step where there is a half-edge, and it is that one
abbrev pub IsStepAt : List HalfEdge → Option HalfEdge → Option Step → Type 0
IsStepAt xs (Some x) (Some s) = IsStepOf xs x s
IsStepAt xs None None = ⊤
IsStepAt xs (Some x) None = ⊥
IsStepAt xs None (Some s) = ⊥

-- each half-edge as a step, in the same order, as far as numbers of 32 bits reach
pub record AreSteps (xs : List HalfEdge) (steps : List Step) : Type 0 where
  pub each : (i : ℕ) → i < 2 ^ 32 → IsStepAt xs (slice_get xs i) (slice_get steps i)
