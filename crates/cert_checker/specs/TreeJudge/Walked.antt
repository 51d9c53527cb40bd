-- A tree as far as its nodes have come, and a walk that all of them have answered for.
use Rattle.std.specs.Prelude.{◌≡◌, ℕ, ◌+◌, ◌-◌, ◌<◌, ◌≤◌, List, [], ◌∷◌, ◌++◌, Option, None, map, length, Bool, true, false}
use Rattle.block_evidence.specs.declared.sight_tree.Node.{Node}
use Rattle.block_evidence.specs.declared.sight_tree.Tree.{Tree}
use Rattle.reject_bits.specs.Parts.{TableParts}
use Rattle.mesh_shape.specs.declared.half_edges.table.HalfEdge.{HalfEdge}
use Rattle.cert_checker.specs.declared.tree_judge.roots.Root.{Root}
use Rattle.cert_checker.specs.declared.tree_judge.trees.Frame.{Frame}
use Rattle.cert_checker.specs.declared.tree_judge.trees.Wait.{Wait}
use Rattle.cert_checker.specs.declared.tree_judge.trees.Follow.{Follow}
use Rattle.cert_checker.specs.declared.tree_judge.walk.TreeWalk.{TreeWalk}
use Rattle.cert_checker.specs.TreeJudge.Roots.{first_at}
use Rattle.cert_checker.specs.TreeJudge.Path.{Pending, IsRootChain, root_pending, IsWalkAt}
use Rattle.cert_checker.specs.TreeJudge.Whole.{AreAnswered, Notes, IsFirstWrongFrom}

-- a tree of which no node has come
abbrev pub begun : ℕ → Tree
begun source = record { source = source; nodes = [] }

-- one node more
abbrev pub with_node : Node → Tree → Tree
with_node n t = record { source = t.source; nodes = t.nodes ++ n ∷ [] }

-- these nodes more
abbrev pub with_nodes : List Node → Tree → Tree
with_nodes ns t = record { source = t.source; nodes = t.nodes ++ ns }

-- all nodes that have come have answered, the walk stands behind them, and what they enter is noted
pub record IsWalkedAt (xs : List HalfEdge) (roots : List Root) (firsts : List (Option ℕ)) (t : Tree) (old new : TableParts) (source : ℕ) (path : List Frame) (waits : List Wait) (f : Follow) : Type 0 where
  pub source_is : source ≡ t.source
  pub room : f.depth ≤ length path
  pub room_to_wait : f.depth ≤ length waits
  pub depth : (es : List ℕ) → IsRootChain roots (first_at firsts t.source) es → f.depth ≤ length t.nodes
  pub each : (es : List ℕ) → IsRootChain roots (first_at firsts t.source) es → (ps : List Pending) × (sectors : List ℕ) × AreAnswered xs t.source (map root_pending es) t.nodes ps sectors × IsWalkAt roots path waits f ps × Notes t.source sectors old new

abbrev pub IsTreeWalked : List HalfEdge → List Root → List (Option ℕ) → Tree → TableParts → TableParts → TreeWalk → Type 0
IsTreeWalked xs roots firsts t old new w = IsWalkedAt xs roots firsts t old new w.source w.path.items w.waits.items w.follow

-- nothing is asked of it
abbrev pub AsksNothing : TreeWalk → Type 0
AsksNothing w = w.follow.asked ≡ None

-- ---- a walk that is asked for nodes one behind the other

-- Whatever tree the walk has followed: it has followed the tree with these nodes too, and what they enter is noted; or the
-- last of them is the first wrong node of that tree.
pub record FollowsAt (xs : List HalfEdge) (roots : List Root) (firsts : List (Option ℕ)) (source : ℕ) (path : List Frame) (waits : List Wait) (f : Follow) (old : TableParts) (path_new : List Frame) (waits_new : List Wait) (f_new : Follow) (new : TableParts) (wrong : Bool) (ns : List Node) : Type 0 where
  pub on : wrong ≡ false → (t : Tree) (begun : TableParts) → IsWalkedAt xs roots firsts t begun old source path waits f → IsWalkedAt xs roots firsts (with_nodes ns t) begun new source path_new waits_new f_new
  pub some : wrong ≡ true → 0 < length ns
  pub refused : wrong ≡ true → (t : Tree) (begun : TableParts) → IsWalkedAt xs roots firsts t begun old source path waits f → IsFirstWrongFrom xs roots (first_at firsts t.source) (with_nodes ns t) (length t.nodes + length ns - 1)

abbrev pub FollowsNodes : List HalfEdge → List Root → List (Option ℕ) → TreeWalk → TableParts → TreeWalk → TableParts → Bool → List Node → Type 0
FollowsNodes xs roots firsts w old w_new new wrong ns = (w_new.source ≡ w.source) × FollowsAt xs roots firsts w.source w.path.items w.waits.items w.follow old w_new.path.items w_new.waits.items w_new.follow new wrong ns
