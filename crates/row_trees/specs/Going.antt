-- A walk by a row while it is under way: each half-edge that is still to be asked goes on with a portal sequence of the source.
use Rattle.std.specs.Prelude.{◌≡◌, ℕ, ◌<◌, ◌≤◌, List, [], ◌∷◌, ◌++◌, Some, None, Contains, length, take, slice_get, true, false}
use Rattle.std.specs.List.{AllByRecursion}
use Rattle.sight_names.specs.Sequence.{Sequence}
use Rattle.sight_names.specs.Splitting.{EndPoints}
use Rattle.mesh_shape.specs.declared.half_edges.table.HalfEdge.{HalfEdge}
use Rattle.portal_walk.specs.Scene.{IsNumber}
use Rattle.portal_walk.specs.Sides.{IsExit}
use Rattle.portal_walk.specs.Walk.{ComesBy, half_edge_ends}
use Rattle.pair_budget.specs.declared.results.Reached.{Reached}
use Rattle.gate_floods.specs.RowJudge.Asked.{Pending}
use Rattle.gate_floods.specs.RowJudge.Judged.{StandsAt}
use Rattle.gate_floods.specs.RowJudge.Words.{is_in, is_away}
use Rattle.gate_floods.specs.declared.row_judge.walk.RowWalk.{RowWalk}
use Rattle.row_trees.specs.Finding.{side_left}
use Rattle.row_trees.specs.Left.{most, weight}
use Rattle.row_trees.specs.Made.{AreFoundSeen, AreWanted}
use Rattle.row_trees.specs.Path.{HasEndOfLast}
use Rattle.row_trees.specs.Thinner.{IsPresent, IsRowWithin}
use Rattle.row_trees.specs.Walkable.{Scene, Search, IsWalkable}

-- the half-edge by which one leaves the source who goes this path and then by this half-edge
abbrev pub root_of_path : List EndPoints → ℕ → ℕ → ℕ
root_of_path [] edge root = edge
root_of_path (e ∷ es) edge root = root

module _ (c : Scene) (s : Search) where
  -- behind the portals with these ends the half-edge goes on with a portal sequence of the source, which leaves it by this root
  pub record GoesOnByRoot (root : ℕ) (ends : List EndPoints) (x : HalfEdge) : Type 0 where
    pub sequence : Sequence
    pub comes : ComesBy s.ground.plan s.ground.triangles s.ground.labels s.source sequence x (ends ++ half_edge_ends x ∷ [])
    pub exit : IsExit s.ground.plan s.source sequence.root
    pub leaves : side_left c.edges (Some root) ≡ Some sequence.root

  -- so does what is still to be asked, behind a front of the path, whose last portal shares an end with it; where no line
  -- is, one doesn't come into what the row has
  pub record IsToCome (root : ℕ) (ends : List EndPoints) (p : Pending) : Type 0 where
    pub edge : HalfEdge
    pub there : slice_get c.edges p.edge ≡ Some edge
    pub goes_on : GoesOnByRoot (root_of_path p.path p.edge root) p.path edge
    pub number_is : IsNumber s.ground.triangles p.edge
    pub joins : HasEndOfLast p.path edge.left_at edge.right_at
    pub front : p.path ≡ take (length p.path) ends
    pub short : length p.path ≤ length s.ground.triangles
    pub away : edge.entered ≡ None → is_away p.row edge.sector ≡ true
    pub within : IsRowWithin p.row s.row

  -- The walk is under way: what weighs less than the limit is still to be asked, and what was found is out of the first row.
  pub record IsGoing (root : ℕ) (ends : List EndPoints) (w : RowWalk) (found : List Reached) (limit : ℕ) : Type 0 where
    pub walkable : IsWalkable s.ground c.edges c.roots c.firsts s.source
    pub source_is : w.source ≡ s.source
    pub first : List ℕ
    pub asked : List Pending
    pub at : StandsAt c.masks first c.roots w asked
    pub each : AllByRecursion (IsToCome root ends) asked
    pub fewer : weight (most c) asked < limit
    pub kept : IsRowWithin first s.row
    pub gone : (r : Reached) → Contains found r → is_in first r.to ≡ false
    pub whole : found ≡ [] → first ≡ s.row
    pub seen : AreFoundSeen s.ground.plan s.source found
    pub wanted : AreWanted s.row s.source found

  -- it asks for this half-edge, behind the portals with these ends
  pub record IsTried (root : ℕ) (ends : List EndPoints) (w : RowWalk) (found : List Reached) (x : HalfEdge) (limit : ℕ) : Type 0 where
    pub going : IsGoing root ends w found limit
    pub number : ℕ
    pub is_asked : w.follow.asked ≡ Some number
    pub there : slice_get c.edges number ≡ Some x
    pub depth : w.follow.depth ≡ length ends
    pub begun : root_of_path ends number root ≡ root
    pub present : IsPresent c.masks.width w

  -- It has gone on from there. Only where it came back its present row may have what the first hasn't.
  pub record IsAfter (root : ℕ) (ends : List EndPoints) (w : RowWalk) (found : List Reached) (limit depth : ℕ) : Type 0 where
    pub going : IsGoing root ends w found limit
    pub deeper : (k : ℕ) → w.follow.asked ≡ Some k → depth < w.follow.depth → IsPresent c.masks.width w
