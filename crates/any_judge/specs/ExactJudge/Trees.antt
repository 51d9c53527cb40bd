-- Trees that are judged by rows as they come: those that have ended, and the one that is open.
use Rattle.std.specs.Prelude.{◌≡◌, ℕ, zero, suc, ◌+◌, ◌-◌, ◌<◌, ◌≤◌, ◌^◌, ◌⊎◌, List, [], ◌∷◌, ◌++◌, Option, Some, None, option_map, slice_get, length, true, false}
use Rattle.std.specs.List.{AllByRecursion}
use Rattle.std.specs.Option.{option_to_list}
use Rattle.sight_names.specs.declared.names.PairRay.{PairRay}
use Rattle.block_evidence.specs.declared.sight_tree.Node.{Node}
use Rattle.gate_floods.specs.RowJudge.Judged.{tree_with, IsTreeWalkedInRow, TellsTree}
use Rattle.gate_floods.specs.RowJudge.Words.{AreBitsOf}
use Rattle.exact_checker.specs.declared.trees.WrongNode.{WrongNode}
use Rattle.exact_checker.specs.Owning.{IsOwnedBit, KnowsOwning}
use Rattle.any_judge.specs.declared.exact_judge.ground.Ground.{Ground}
use Rattle.any_judge.specs.declared.exact_judge.trees.RowTrees.{RowTrees}
use Rattle.any_judge.specs.ExactJudge.Ground.{IsSizedGround, masks_in, owning_in}

-- ---- trees that have begun

-- those that have ended, and the nodes of the open one so far, if one is open
abbrev pub Begun : Type 0
Begun = List (List Node) × Option (List Node)

abbrev pub all_begun : Begun → List (List Node)
all_begun b = b.0 ++ option_to_list b.1

abbrev pub one_node : Node → List Node → List Node
one_node n ns = ns ++ n ∷ []

-- the next tree begins
abbrev pub next_begun : Begun → Begun
next_begun b = (all_begun b, Some [])

abbrev pub many_begun : ℕ → Begun → Begun
many_begun zero b = b
many_begun (suc k) b = many_begun k (next_begun b)

-- as many have begun, if not more
abbrev pub begun_all : ℕ → Begun → Begun
begun_all count b = many_begun (count - length (all_begun b)) b

abbrev pub put_node : Node → Begun → Begun
put_node n b = (b.0, option_map (one_node n) b.1)

-- a node of this tree; those before it have ended
abbrev pub at_source : ℕ → Node → Begun → Begun
at_source f n b = put_node n (begun_all (suc f) b)

-- nodes of this tree, one behind the other
abbrev pub heard_nodes : ℕ → List Node → Begun → Begun
heard_nodes f [] b = b
heard_nodes f (n ∷ ns) b = heard_nodes f ns (at_source f n b)

-- ---- what is told of them

module _ (g : Ground) where
  -- the row is that of what the group owns
  abbrev pub IsOwnedRow : ℕ → List ℕ → Type 0
  IsOwnedRow f row = (rays : List PairRay) → KnowsOwning rays (owning_in g) → AreBitsOf row (IsOwnedBit rays g.components.items g.count f)

  -- what the nodes of a group's tree answer, with a row of what the group owns
  pub record IsTreeTold (f : ℕ) (ns : List Node) (o : Option ℕ) : Type 0 where
    pub row : List ℕ
    pub own : IsOwnedRow f row
    pub tells : TellsTree g.edges (masks_in g) row g.roots.roots.items g.roots.first.items (tree_with f ns) o

  -- the first trees answer for all that is asked
  abbrev pub AreTreesTold : List (List Node) → ℕ → Type 0
  AreTreesTold trees m = (f : ℕ) (ns : List Node) → f < m → slice_get trees f ≡ Some ns → IsTreeTold f ns None

  -- this is the first wrong node of the first wrong tree, whatever nodes come behind those of the open one
  pub record IsWrongIn (b : Begun) (w : WrongNode) : Type 0 where
    pub nodes : List Node
    pub there : slice_get (all_begun b) w.source ≡ Some nodes
    pub told : IsTreeTold w.source nodes (Some w.node)
    pub before : AreTreesTold (all_begun b) w.source
    pub ended : (w.source < length b.0) ⊎ (w.node < length nodes)

-- all trees that have ended answer, and the walk has followed the open one
pub record IsOpenTreeFollowed (front : List (List Node)) (ns : List Node) (j : RowTrees) : Type 0 where
  pub going : j.under_way ≡ true
  pub begun : j.begun ≡ length front + 1
  pub source : j.source ≡ length front
  pub told : AreTreesTold j.ground front (length front)
  pub row : List ℕ
  pub own : IsOwnedRow j.ground (length front) row
  pub walked : IsTreeWalkedInRow j.ground.edges (masks_in j.ground) row j.ground.roots.roots.items j.ground.roots.first.items (tree_with (length front) ns) j.walk
  pub number : j.nodes ≡ length ns

pub record AreEnded (front : List (List Node)) (j : RowTrees) : Type 0 where
  pub going : j.under_way ≡ false
  pub begun : j.begun ≡ length front
  pub told : AreTreesTold j.ground front (length front)

-- by the wrong node that was found, if one was, and the open tree, if there is one
abbrev pub IsExactTreeJudged : Begun → Option WrongNode → RowTrees → Type 0
IsExactTreeJudged b (Some w) j = (j.under_way ≡ false) × IsWrongIn j.ground b w
IsExactTreeJudged (front, None) None j = AreEnded front j
IsExactTreeJudged (front, Some ns) None j = IsOpenTreeFollowed front ns j

-- there are no more trees than groups, and their nodes can be counted
pub record AreTreesCountable (g : Ground) (b : Begun) : Type 0 where
  pub few : length (all_begun b) ≤ g.count
  pub nodes : AllByRecursion (λ (ns : List Node). length ns < 2 ^ 64) (all_begun b)

-- the judge has heard these trees and the nodes of the open one that have come so far
pub record HasHeardRowTrees (b : Begun) (j : RowTrees) : Type 0 where
  pub sized : IsSizedGround j.ground
  pub judged : AreTreesCountable j.ground b → IsExactTreeJudged b j.wrong j
