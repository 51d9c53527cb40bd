-- Trees as answers to a walk: each node answers the first of the half-edges that are still to be asked.
use Rattle.std.specs.Prelude.{◌≡◌, ◌≢◌, ℕ, ◌+◌, ◌<◌, ◌≤◌, ◌⊎◌, ◌↔◌, List, [], ◌∷◌, ◌++◌, Option, Some, map, take, length, slice_get, Contains, Bool}
use Rattle.sight_names.specs.Map.{Map}
use Rattle.sight_names.specs.Splitting.{EndPoints}
use Rattle.block_evidence.specs.declared.sight_tree.Node.{Node}
use Rattle.block_evidence.specs.declared.sight_tree.Node.TheVariants.{Open, Blocked}
use Rattle.block_evidence.specs.declared.sight_tree.Tree.{Tree}
use Rattle.block_evidence.specs.Stuck.{BlocksEnds}
use Rattle.reject_bits.specs.Parts.{TableParts, Rejects}
use Rattle.sight_names.specs.declared.names.Triangle.{Triangle}
use Rattle.mesh_shape.specs.declared.half_edges.table.HalfEdge.{HalfEdge}
use Rattle.cert_checker.specs.declared.tree_judge.roots.Root.{Root}
use Rattle.cert_checker.specs.declared.tree_judge.trees.Frame.{Frame}
use Rattle.cert_checker.specs.declared.tree_judge.trees.Wait.{Wait}
use Rattle.cert_checker.specs.declared.tree_judge.trees.Follow.{Follow}
use Rattle.mesh_shape.specs.HalfEdges.HalfEdges.{way_outside}
use Rattle.cert_checker.specs.TreeJudge.Roots.{root_edges}
use Rattle.cert_checker.specs.TreeJudge.Marks.{IsFlagSet}
use Rattle.cert_checker.specs.TreeJudge.Path.{edge_ends, list_of, Pending, pending_way, IsRootChain, root_pending, IsWalkAt}

-- the ends of the portals that lead up to the half-edge and through it
abbrev pub ends_through : Pending → HalfEdge → List EndPoints
ends_through p x = p.path ++ edge_ends x ∷ []

-- whoever goes through the half-edge has its two ways to ask, as far as they lead out of the source
abbrev pub ways_through : List HalfEdge → ℕ → Pending → HalfEdge → List Pending
ways_through xs source p x = pending_way (ends_through p x) (way_outside xs source x.left_way) ++ pending_way (ends_through p x) (way_outside xs source x.right_way)

-- The node answers for the first of the half-edges: an open one goes through it, and its ways are to be asked before the
-- others; a blocked one shows ends that are stuck. Then the one list is still to be asked, and the other is of the
-- sectors that were entered.
abbrev pub AnswersFirst : List HalfEdge → ℕ → List Pending → Node → List Pending → List ℕ → Type 0
AnswersFirst xs source ps Open qs sectors = (p : Pending) × (rest : List Pending) × (x : HalfEdge) × (ps ≡ p ∷ rest) × (slice_get xs p.edge ≡ Some x) × (qs ≡ ways_through xs source p x ++ rest) × (sectors ≡ list_of x.sector)
AnswersFirst xs source ps (Blocked e) qs sectors = (p : Pending) × (rest : List Pending) × (x : HalfEdge) × (ps ≡ p ∷ rest) × (slice_get xs p.edge ≡ Some x) × BlocksEnds (ends_through p x) e × (qs ≡ rest) × (sectors ≡ [])

-- the nodes answer one after another, and the last of the lists is still to be asked behind them
abbrev pub AreAnswered : List HalfEdge → ℕ → List Pending → List Node → List Pending → List ℕ → Type 0
AreAnswered xs source ps [] qs sectors = (qs ≡ ps) × (sectors ≡ [])
AreAnswered xs source ps (n ∷ ns) qs sectors = (rs : List Pending) × (here more : List ℕ) × AnswersFirst xs source ps n rs here × AreAnswered xs source rs ns qs more × (sectors ≡ here ++ more)

-- the nodes below k answer, and node k doesn't; or it is one past the last, and something is still to be asked
pub record IsFirstWrongNode (xs : List HalfEdge) (source : ℕ) (ps : List Pending) (ns : List Node) (k : ℕ) : Type 0 where
  pub left : List Pending
  pub sectors : List ℕ
  pub within : k ≤ length ns
  pub before : AreAnswered xs source ps (take k ns) left sectors
  pub wrong : (n : Node) → slice_get ns k ≡ Some n → (qs : List Pending) (here : List ℕ) → ¬ AnswersFirst xs source left n qs here
  pub missing : k ≡ length ns → left ≢ []

-- the bits of the source and of these sectors are set too, and no other
pub record Notes (source : ℕ) (sectors : List ℕ) (old new : TableParts) : Type 0 where
  pub size : new.n ≡ old.n
  pub bits : (a b : ℕ) → a < old.n → b < old.n → Rejects new a b ↔ (Rejects old a b ⊎ ((a ≡ source) × Contains sectors b))

-- the nodes answer for these roots and all that follows them, with none missing and none left over; what they enter is noted
pub record IsWholeFrom (xs : List HalfEdge) (roots : List Root) (first : Option ℕ) (t : Tree) (old new : TableParts) : Type 0 where
  pub whole : (es : List ℕ) → IsRootChain roots first es → (sectors : List ℕ) × AreAnswered xs t.source (map root_pending es) t.nodes [] sectors × Notes t.source sectors old new

-- node k is the first that doesn't answer, or that is missing
pub record IsFirstWrongFrom (xs : List HalfEdge) (roots : List Root) (first : Option ℕ) (t : Tree) (k : ℕ) : Type 0 where
  pub wrong : (es : List ℕ) → IsRootChain roots first es → IsFirstWrongNode xs t.source (map root_pending es) t.nodes k

-- ---- all trees

-- the nodes answer for the roots of the map and all that follows them, and enter these sectors
abbrev pub IsWholeOver : Map → List Triangle → List HalfEdge → Tree → List ℕ → Type 0
IsWholeOver m ts xs t sectors = AreAnswered xs t.source (map root_pending (root_edges ts xs m t.source)) t.nodes [] sectors

-- a tree of the one sector that doesn't enter the other
abbrev pub HasTreeAway : Map → List Triangle → List HalfEdge → List Tree → ℕ → ℕ → Type 0
HasTreeAway m ts xs trees a b = (t : Tree) × (sectors : List ℕ) × Contains trees t × (t.source ≡ a) × IsWholeOver m ts xs t sectors × ¬ Contains sectors b

-- a tree of the one sector that enters the other
abbrev pub HasTreeInto : Map → List Triangle → List HalfEdge → List Tree → ℕ → ℕ → Type 0
HasTreeInto m ts xs trees a b = (t : Tree) × (sectors : List ℕ) × Contains trees t × (t.source ≡ a) × IsWholeOver m ts xs t sectors × Contains sectors b

-- Each of the trees is whole; a sector whose flag was set here has a tree that enters only sectors whose bit is set. The
-- flag of each source is set, and a bit that was set here is of a sector that a tree of the source enters.
pub record AreWholeOver (m : Map) (ts : List Triangle) (xs : List HalfEdge) (trees : List Tree) (walked walked_new : List Bool) (reached reached_new : TableParts) : Type 0 where
  pub each : (t : Tree) → Contains trees t → (sectors : List ℕ) × IsWholeOver m ts xs t sectors
  pub away : (a b : ℕ) → a < reached.n → b < reached.n → IsFlagSet walked_new a → ¬ Rejects reached_new a b → IsFlagSet walked a ⊎ HasTreeAway m ts xs trees a b
  pub marked : (t : Tree) → Contains trees t → t.source < length walked → IsFlagSet walked_new t.source
  pub entered : (a b : ℕ) → a < reached.n → b < reached.n → Rejects reached_new a b → Rejects reached a b ⊎ HasTreeInto m ts xs trees a b

-- the trees before this one are whole; node k is the first of its nodes that doesn't answer, or one past the last where one is missing
pub record IsFirstWrongTree (m : Map) (ts : List Triangle) (xs : List HalfEdge) (trees : List Tree) (source k : ℕ) : Type 0 where
  pub place : ℕ
  pub tree : Tree
  pub is : slice_get trees place ≡ Some tree
  pub of : tree.source ≡ source
  pub wrong : IsFirstWrongNode xs tree.source (map root_pending (root_edges ts xs m tree.source)) tree.nodes k
  pub before : (i : ℕ) (t : Tree) → i < place → slice_get trees i ≡ Some t → (sectors : List ℕ) × IsWholeOver m ts xs t sectors

-- no bit is set
abbrev pub HasNoBit : TableParts → Type 0
HasNoBit t = (a b : ℕ) → ¬ Rejects t a b

abbrev pub HaveSourcesBelow : ℕ → List Tree → Type 0
HaveSourcesBelow n trees = (t : Tree) → Contains trees t → t.source < n

-- ---- the walk that follows a tree

-- whatever is still to be asked: the node answers for it, the walk stands behind it, and what it enters is noted
pub record HasAnswered (xs : List HalfEdge) (roots : List Root) (source : ℕ) (n : Node) (path : List Frame) (waits : List Wait) (f : Follow) (t : TableParts) (path_new : List Frame) (waits_new : List Wait) (f_new : Follow) (t_new : TableParts) : Type 0 where
  pub next : (ps : List Pending) → IsWalkAt roots path waits f ps → (qs : List Pending) × (sectors : List ℕ) × AnswersFirst xs source ps n qs sectors × IsWalkAt roots path_new waits_new f_new qs × Notes source sectors t t_new
  pub depth : f.waiting ≤ f.depth → f_new.depth ≤ f.depth + 1

-- whatever is still to be asked: the node doesn't answer for it
pub record HasRefused (xs : List HalfEdge) (roots : List Root) (source : ℕ) (n : Node) (path : List Frame) (waits : List Wait) (f : Follow) : Type 0 where
  pub none : (ps qs : List Pending) (sectors : List ℕ) → IsWalkAt roots path waits f ps → ¬ AnswersFirst xs source ps n qs sectors

-- the walk stands before these roots
pub record StandsBefore (roots : List Root) (first : Option ℕ) (path : List Frame) (waits : List Wait) (f : Follow) : Type 0 where
  pub start : (es : List ℕ) → IsRootChain roots first es → IsWalkAt roots path waits f (map root_pending es)
