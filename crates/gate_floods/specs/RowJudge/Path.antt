-- The path of a walk with a row: its portals, its rows, and the ways that are still to come.
use Rattle.std.specs.Prelude.{◌≡◌, ℕ, ◌+◌, ◌<◌, ◌≤◌, Bool, true, false, List, [], ◌∷◌, ◌++◌, Option, Some, None, take, length}
use Rattle.mesh_shape.specs.declared.half_edges.table.HalfEdge.{HalfEdge}
use Rattle.cert_checker.specs.declared.tree_judge.roots.Root.{Root}
use Rattle.cert_checker.specs.declared.tree_judge.trees.Frame.{Frame}
use Rattle.cert_checker.specs.TreeJudge.Path.{path_ends, IsRootChain}
use Rattle.block_evidence.specs.declared.sight_tree.Node.{Node}
use Rattle.gate_floods.specs.RowJudge.Masks.{MaskRows}
use Rattle.gate_floods.specs.declared.row_judge.follow.Wait.{Wait}
use Rattle.gate_floods.specs.declared.row_judge.follow.RowFollow.{RowFollow}
use Rattle.gate_floods.specs.RowJudge.Words.{row_in_words}
use Rattle.gate_floods.specs.RowJudge.Asked.{Pending, pending_way, pending_roots, ways_behind, row_left, mask_of_edge, AnswersFirstInRow}

-- The row behind a half-edge is at this place: behind a gate it is put there, elsewhere it is the row before. The
-- rows as far as the one before are as they were.
pub record HasPassed (ms : MaskRows) (old : List ℕ) (row edge : ℕ) (new : List ℕ) (at : ℕ) : Type 0 where
  pub there : row_in_words new ms.width at ≡ row_left (row_in_words old ms.width row) (mask_of_edge ms edge)
  pub kept : take (row + ms.width) new ≡ take (row + ms.width) old
  pub after : row ≤ at
  pub room : row + ms.width ≤ length old → at + ms.width ≤ length new

-- there is a row at this place, and room for one behind it, the rows up to there being as they were; or there is none
abbrev pub HasRoomFor : List ℕ → ℕ → ℕ → List ℕ → Bool → Type 0
HasRoomFor old row width new true = (row + width ≤ length old) × (row + width + width ≤ length new) × (take (row + width) new ≡ take (row + width) old)
HasRoomFor old row width new false = length old < row + width

-- so it is, if a place is told; none is told only where there is no row before
abbrev pub HasPassedTo : MaskRows → List ℕ → ℕ → ℕ → List ℕ → Option ℕ → Type 0
HasPassedTo ms old row edge new (Some at) = HasPassed ms old row edge new at
HasPassedTo ms old row edge new None = length old < row + ms.width

-- the first of these roots behind which something is left, if there is one, and the place behind it
pub record AsksRoot (ms : MaskRows) (row : List ℕ) (roots : List Root) (es : List ℕ) (asked next : Option ℕ) : Type 0 where
  pub rest : List ℕ
  pub chain : IsRootChain roots next rest
  pub all : pending_roots ms row es ≡ pending_way [] row asked ++ pending_roots ms row rest
  pub last : asked ≡ None → pending_roots ms row rest ≡ []

-- the way that waits, with what leads up to it
abbrev pub waiting_way : List Frame → List ℕ → ℕ → Wait → Pending
waiting_way path rows width w = record { path = path_ends (take w.depth path); row = row_in_words rows width w.row; edge = w.way }

-- The right ways that are still to come, the last one first: behind so many portals at most, and with a row up to
-- this place.
abbrev pub AreWaiting : List Frame → List ℕ → ℕ → List Wait → ℕ → ℕ → List Pending → Type 0
AreWaiting path rows width waits depth row [] = waits ≡ []
AreWaiting path rows width waits depth row (p ∷ ps) = (front : List Wait) × (w : Wait) × (waits ≡ front ++ w ∷ []) × (w.depth ≤ depth) × (w.row ≤ row) × (p ≡ waiting_way path rows width w) × AreWaiting path rows width front w.depth w.row ps

-- all that is still to be asked by the walk: the present half-edge, the right ways that wait, the roots behind its own
pub record IsRowWalkAt (ms : MaskRows) (first : List ℕ) (roots : List Root) (path : List Frame) (rows : List ℕ) (waits : List Wait) (f : RowFollow) (ps : List Pending) : Type 0 where
  pub es : List ℕ
  pub ways : List Pending
  pub chain : IsRootChain roots f.root es
  pub base : row_in_words rows ms.width 0 ≡ first
  pub waiting : AreWaiting path rows ms.width waits f.depth f.row ways
  pub depth_room : f.depth ≤ length path
  pub row_room : f.row + ms.width ≤ length rows
  pub all : ps ≡ pending_way (path_ends (take f.depth path)) (row_in_words rows ms.width f.row) f.asked ++ (ways ++ pending_roots ms first es)
  pub last : f.asked ≡ None → ps ≡ []

-- the walk, this half-edge asked
abbrev pub with_asked : RowFollow → Option ℕ → RowFollow
with_asked f asked = record f { asked = asked }

-- the first of the ways that wait and of the roots is asked, and the others remain; None only where nothing was left
pub record TakesNext (ms : MaskRows) (first : List ℕ) (roots : List Root) (path : List Frame) (rows : List ℕ) (waits : List Wait) (old : RowFollow) (waits_new : List Wait) (new : RowFollow) (asked : Option ℕ) : Type 0 where
  pub next : (es : List ℕ) (ways : List Pending) → IsRootChain roots old.root es → row_in_words rows ms.width 0 ≡ first → AreWaiting path rows ms.width waits old.depth old.row ways → old.depth ≤ length path → old.row + ms.width ≤ length rows
      → IsRowWalkAt ms first roots path rows waits_new (with_asked new asked) (ways ++ pending_roots ms first es)

-- whoever is behind the half-edge has its two ways to ask before all that is still to be asked; the first is asked
pub record EntersThrough (xs : List HalfEdge) (ms : MaskRows) (source : ℕ) (first : List ℕ) (roots : List Root) (path : List Frame) (rows : List ℕ) (waits : List Wait) (old : RowFollow) (x : HalfEdge) (waits_new : List Wait) (new : RowFollow) (asked : Option ℕ) : Type 0 where
  pub next : (es : List ℕ) (ways : List Pending) → IsRootChain roots old.root es → row_in_words rows ms.width 0 ≡ first → AreWaiting path rows ms.width waits old.depth old.row ways → old.depth ≤ length path → old.row + ms.width ≤ length rows
      → IsRowWalkAt ms first roots path rows waits_new (with_asked new asked) (ways_behind xs ms source (path_ends (take old.depth path)) (row_in_words rows ms.width old.row) x ++ (ways ++ pending_roots ms first es))

-- whatever is still to be asked: the node answers for it, and the walk stands behind it
pub record HasAnswered (xs : List HalfEdge) (ms : MaskRows) (source : ℕ) (first : List ℕ) (roots : List Root) (n : Node) (path : List Frame) (rows : List ℕ) (waits : List Wait) (f : RowFollow) (path_new : List Frame) (rows_new : List ℕ) (waits_new : List Wait) (f_new : RowFollow) : Type 0 where
  pub next : (ps : List Pending) → IsRowWalkAt ms first roots path rows waits f ps → (qs : List Pending) × AnswersFirstInRow xs ms source ps n qs × IsRowWalkAt ms first roots path_new rows_new waits_new f_new qs

-- whatever is still to be asked: the node doesn't answer for it
pub record HasRefused (xs : List HalfEdge) (ms : MaskRows) (source : ℕ) (first : List ℕ) (roots : List Root) (n : Node) (path : List Frame) (rows : List ℕ) (waits : List Wait) (f : RowFollow) : Type 0 where
  pub none : (ps qs : List Pending) → IsRowWalkAt ms first roots path rows waits f ps → ¬ AnswersFirstInRow xs ms source ps n qs

-- over these rows the walk stands before these roots
pub record StandsBefore (ms : MaskRows) (first : List ℕ) (roots : List Root) (root : Option ℕ) (path : List Frame) (rows : List ℕ) (waits : List Wait) (f : RowFollow) : Type 0 where
  pub start : (es : List ℕ) → IsRootChain roots root es → row_in_words rows ms.width 0 ≡ first → ms.width ≤ length rows → IsRowWalkAt ms first roots path rows waits f (pending_roots ms first es)
