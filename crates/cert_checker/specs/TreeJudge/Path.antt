-- The path of a walk that follows a tree: its portals, and the ways that are still to come.
use Rattle.std.specs.Prelude.{◌≡◌, ℕ, max, ◌+◌, ◌<◌, ◌≤◌, List, [], ◌∷◌, ◌++◌, Option, Some, None, option_and_then, map, take, length, slice_get, IfSome}
use Rattle.sight_names.specs.Splitting.{EndPoints, end_of}
use Rattle.sight_names.specs.declared.names.EndAt.{EndAt}
use Rattle.block_evidence.specs.declared.sight_tree.Tree.{Tree}
use Rattle.block_evidence.specs.Stuck.{AreStuck}
use Rattle.mesh_shape.specs.declared.half_edges.table.HalfEdge.{HalfEdge}
use Rattle.cert_checker.specs.declared.tree_judge.roots.Root.{Root}
use Rattle.cert_checker.specs.declared.tree_judge.trees.Follow.{Follow}
use Rattle.cert_checker.specs.declared.tree_judge.trees.Frame.{Frame}
use Rattle.cert_checker.specs.declared.tree_judge.trees.Wait.{Wait}
use Rattle.mesh_shape.specs.HalfEdges.HalfEdges.{way_outside}

-- the ends of a portal on the path
abbrev pub portal_ends : Frame → EndPoints
portal_ends f = record { left = f.left; right = f.right }

-- the ends of the portals on the path
abbrev pub path_ends : List Frame → List EndPoints
path_ends path = map portal_ends path

-- the ends of the half-edge's portal
abbrev pub edge_ends : HalfEdge → EndPoints
edge_ends x = record { left = x.left_at; right = x.right_at }

-- the portal with these ends is behind the first portals of the path, and those are as they were
pub record PutsAt (old : List Frame) (depth : ℕ) (ends : EndPoints) (new : List Frame) : Type 0 where
  pub kept : take depth new ≡ take depth old
  pub put : path_ends (take (depth + 1) new) ≡ path_ends (take depth old) ++ ends ∷ []

-- this is the end with the code, if it is any
abbrev pub IsEndWithCode : List EndPoints → ℕ → Option EndAt → Type 0
IsEndWithCode es code found = IfSome found (λ e. end_of es code ≡ Some e)

-- these are the codes of four ends, and the ends are stuck
abbrev pub AreStuckEnds : List EndPoints → ℕ → ℕ → ℕ → ℕ → Type 0
AreStuckEnds es a b c d = (w x y z : EndAt) × (end_of es a ≡ Some w) × (end_of es b ≡ Some x) × (end_of es c ≡ Some y) × (end_of es d ≡ Some z) × AreStuck (w ∷ x ∷ y ∷ z ∷ [])

abbrev pub list_of : Option ℕ → List ℕ
list_of None = []
list_of (Some i) = i ∷ []

-- a half-edge that is still to be asked, and the ends of the portals that lead up to it
pub record Pending : Type 0 where
  pub path : List EndPoints
  pub edge : ℕ

abbrev pub pending_way : List EndPoints → Option ℕ → List Pending
pending_way path None = []
pending_way path (Some i) = record { path = path; edge = i } ∷ []

-- this way waits behind a portal, to whose far side so many portals lead, itself the last of them
abbrev pub WaitsBehind : List Wait → ℕ → Wait → Type 0
WaitsBehind waits count w = (k : ℕ) × (count ≡ k + 1) × (slice_get waits k ≡ Some w)

-- The right ways that are still to come, the last one first: that behind the last portal that has one, to whose far side so many lead, and those
-- behind the portals that are named one after another.
abbrev pub IsWaiting : List Frame → List Wait → ℕ → List Pending → Type 0
IsWaiting path waits count [] = count ≡ 0
IsWaiting path waits count (p ∷ ps) = (w : Wait) × WaitsBehind waits count w × (count ≤ length path) × (p ≡ record { path = path_ends (take count path); edge = w.way }) × (w.before < count) × IsWaiting path waits w.before ps

-- the half-edges of the roots from this place on
abbrev pub IsRootChain : List Root → Option ℕ → List ℕ → Type 0
IsRootChain roots o [] = o ≡ None
IsRootChain roots o (e ∷ es) = (k : ℕ) × (r : Root) × (o ≡ Some k) × (slice_get roots k ≡ Some r) × (r.edge ≡ e) × IsRootChain roots r.next es

-- the root at this place is asked, if there is one, and the place of the next one is behind it
pub record AsksRoot (roots : List Root) (root asked next : Option ℕ) : Type 0 where
  pub some : (r : Root) → option_and_then (slice_get roots) root ≡ Some r → (asked ≡ Some r.edge) × (next ≡ r.next)
  pub none : option_and_then (slice_get roots) root ≡ None → (asked ≡ None) × (next ≡ root)

-- a root is asked with no portal before it
abbrev pub root_pending : ℕ → Pending
root_pending e = record { path = []; edge = e }

-- all that is still to be asked by the walk: the present half-edge, the right ways that wait, the roots behind its own
pub record IsWalkAt (roots : List Root) (path : List Frame) (waits : List Wait) (f : Follow) (ps : List Pending) : Type 0 where
  pub es : List ℕ
  pub ways : List Pending
  pub chain : IsRootChain roots f.root es
  pub waiting : IsWaiting path waits f.waiting ways
  pub nested : f.waiting ≤ f.depth
  pub all : ps ≡ pending_way (path_ends (take f.depth path)) f.asked ++ (ways ++ map root_pending es)
  pub last : f.asked ≡ None → ps ≡ []

-- the walk, this half-edge asked
abbrev pub with_asked : Follow → Option ℕ → Follow
with_asked f asked = record f { asked = asked }

-- the first of the ways that wait and of the roots is asked, and the others remain; None only where nothing was left
pub record TakesNext (roots : List Root) (path : List Frame) (waits : List Wait) (old new : Follow) (asked : Option ℕ) : Type 0 where
  pub next : (es : List ℕ) (ways : List Pending) → IsRootChain roots old.root es → IsWaiting path waits old.waiting ways → IsWalkAt roots path waits (with_asked new asked) (ways ++ map root_pending es)
  pub depth : new.depth ≤ old.waiting

-- the two ways behind a half-edge to whose portal's far side these ends lead, as far as they lead out of the source
abbrev pub ways_behind : List HalfEdge → ℕ → List EndPoints → HalfEdge → List Pending
ways_behind xs source ends x = pending_way ends (way_outside xs source x.left_way) ++ pending_way ends (way_outside xs source x.right_way)

-- whoever goes through the half-edge has its two ways to ask before all that is still to be asked; the first is asked
pub record EntersThrough (xs : List HalfEdge) (roots : List Root) (source : ℕ) (path : List Frame) (waits : List Wait) (old : Follow) (x : HalfEdge) (waits_new : List Wait) (new : Follow) (asked : Option ℕ) : Type 0 where
  pub next : (es : List ℕ) (ways : List Pending) → IsRootChain roots old.root es → IsWaiting path waits old.waiting ways → old.waiting ≤ old.depth
      → IsWalkAt roots path waits_new (with_asked new asked) (ways_behind xs source (path_ends (take (old.depth + 1) path)) x ++ (ways ++ map root_pending es))
  pub depth : old.waiting ≤ old.depth → new.depth ≤ old.depth + 1

-- how many nodes the longest of the trees has
abbrev pub longest_of : List Tree → ℕ
longest_of [] = 0
longest_of (t ∷ ts) = max (length t.nodes) (longest_of ts)
