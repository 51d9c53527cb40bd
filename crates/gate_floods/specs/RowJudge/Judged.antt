-- A tree as far as its nodes have come, and a walk with a row that all of them have answered for.
use Rattle.std.specs.Prelude.{◌≡◌, ℕ, ◌+◌, ◌-◌, ◌<◌, Bool, true, false, List, [], Option, Some, None, length}
use Rattle.block_evidence.specs.declared.sight_tree.Node.{Node}
use Rattle.block_evidence.specs.declared.sight_tree.Tree.{Tree}
use Rattle.mesh_shape.specs.declared.half_edges.table.HalfEdge.{HalfEdge}
use Rattle.cert_checker.specs.declared.tree_judge.roots.Root.{Root}
use Rattle.cert_checker.specs.TreeJudge.Roots.{first_at}
use Rattle.cert_checker.specs.declared.tree_judge.trees.Frame.{Frame}
use Rattle.cert_checker.specs.TreeJudge.Path.{IsRootChain}
use Rattle.cert_checker.specs.TreeJudge.Walked.{with_nodes}
use Rattle.gate_floods.specs.RowJudge.Masks.{MaskRows}
use Rattle.gate_floods.specs.declared.row_judge.follow.Wait.{Wait}
use Rattle.gate_floods.specs.declared.row_judge.follow.RowFollow.{RowFollow}
use Rattle.gate_floods.specs.declared.row_judge.walk.RowWalk.{RowWalk}
use Rattle.gate_floods.specs.RowJudge.Asked.{Pending, pending_roots, AreAnswered, IsFirstWrongInRow}
use Rattle.gate_floods.specs.RowJudge.Path.{IsRowWalkAt}

-- the tree of a source with these nodes
abbrev pub tree_with : ℕ → List Node → Tree
tree_with source nodes = record { source = source; nodes = nodes }

-- whatever the nodes were: all this is still to be asked by the walk
abbrev pub StandsAt : MaskRows → List ℕ → List Root → RowWalk → List Pending → Type 0
StandsAt ms first roots w ps = IsRowWalkAt ms first roots w.path.items w.rows.items w.waits.items w.follow ps

-- nothing is asked of it
abbrev pub AsksNothing : RowWalk → Type 0
AsksNothing w = w.follow.asked ≡ None

module _ (xs : List HalfEdge) (ms : MaskRows) (first : List ℕ) (roots : List Root) (firsts : List (Option ℕ)) where
  -- all nodes that have come have answered, and the walk of these parts stands behind them
  pub record IsWalkedAt (t : Tree) (source : ℕ) (path : List Frame) (rows : List ℕ) (waits : List Wait) (f : RowFollow) : Type 0 where
    pub source_is : source ≡ t.source
    pub each : (es : List ℕ) → IsRootChain roots (first_at firsts t.source) es → (ps : List Pending) × AreAnswered xs ms t.source (pending_roots ms first es) t.nodes ps × IsRowWalkAt ms first roots path rows waits f ps

  -- the same of a walk
  pub record IsTreeWalkedInRow (t : Tree) (w : RowWalk) : Type 0 where
    pub source_is : w.source ≡ t.source
    pub each : (es : List ℕ) → IsRootChain roots (first_at firsts t.source) es → (ps : List Pending) × AreAnswered xs ms t.source (pending_roots ms first es) t.nodes ps × IsRowWalkAt ms first roots w.path.items w.rows.items w.waits.items w.follow ps

  -- the nodes answer for the source's roots and all that follows them, with none missing and none left over
  pub record IsWholeFrom (t : Tree) : Type 0 where
    pub whole : (es : List ℕ) → IsRootChain roots (first_at firsts t.source) es → AreAnswered xs ms t.source (pending_roots ms first es) t.nodes []

  -- node k is the first that doesn't answer, or that is missing
  pub record IsFirstWrongFrom (t : Tree) (k : ℕ) : Type 0 where
    pub wrong : (es : List ℕ) → IsRootChain roots (first_at firsts t.source) es → IsFirstWrongInRow xs ms t.source (pending_roots ms first es) t.nodes k

  -- all nodes answer, and nothing else is asked; or the first that doesn't, or that is missing, is told
  abbrev pub TellsTree : Tree → Option ℕ → Type 0
  TellsTree t None = IsWholeFrom t
  TellsTree t (Some k) = IsFirstWrongFrom t k

-- ---- a walk that is asked for nodes one behind the other

-- Whatever tree the walk has followed, by whatever row: it has followed the tree with these nodes too; or the last of them is
-- the first wrong node of that tree.
pub record FollowsAt (xs : List HalfEdge) (ms : MaskRows) (roots : List Root) (firsts : List (Option ℕ)) (source : ℕ) (path : List Frame) (rows : List ℕ) (waits : List Wait) (f : RowFollow) (path_new : List Frame) (rows_new : List ℕ) (waits_new : List Wait) (f_new : RowFollow) (wrong : Bool) (ns : List Node) : Type 0 where
  pub on : wrong ≡ false → (first : List ℕ) (t : Tree) → IsWalkedAt xs ms first roots firsts t source path rows waits f → IsWalkedAt xs ms first roots firsts (with_nodes ns t) source path_new rows_new waits_new f_new
  pub some : wrong ≡ true → 0 < length ns
  pub refused : wrong ≡ true → (first : List ℕ) (t : Tree) → IsWalkedAt xs ms first roots firsts t source path rows waits f → IsFirstWrongFrom xs ms first roots firsts (with_nodes ns t) (length t.nodes + length ns - 1)

abbrev pub FollowsNodesInRow : List HalfEdge → MaskRows → List Root → List (Option ℕ) → RowWalk → RowWalk → Bool → List Node → Type 0
FollowsNodesInRow xs ms roots firsts w new wrong ns = (new.source ≡ w.source) × FollowsAt xs ms roots firsts w.source w.path.items w.rows.items w.waits.items w.follow new.path.items new.rows.items new.waits.items new.follow wrong ns
