-- Trees that are judged as they come: the trees that are ended, and the one that is open.
use Rattle.std.specs.Prelude.{◌≡◌, ℕ, ◌<◌, ◌^◌, ◌⊎◌, List, ◌++◌, Option, Some, None, map, length, Contains, Bool, true, false}
use Rattle.std.specs.Option.{option_to_list}
use Rattle.sight_names.specs.declared.names.Triangle.{Triangle}
use Rattle.sight_names.specs.Map.{Map, map_of}
use Rattle.sight_names.specs.Mesh.{IsGoodMesh}
use Rattle.sight_names.specs.Plan.{PlanParts, IsPlan}
use Rattle.block_evidence.specs.declared.sight_tree.Tree.{Tree}
use Rattle.cert_format.specs.Accepted.{triangles_of, labels_of}
use Rattle.cert_format.specs.Grammar.{IsOneInOrder}
use Rattle.cert_format.specs.Parts.{CertParts}
use Rattle.mesh_shape.specs.HalfEdges.HalfEdges.{AreHalfEdges}
use Rattle.mesh_shape.specs.declared.half_edges.table.HalfEdge.{HalfEdge}
use Rattle.reject_bits.specs.Parts.{TableParts}
use Rattle.cert_checker.specs.declared.tree_judge.hearing.TreeJudge.{TreeJudge}
use Rattle.cert_checker.specs.TreeJudge.Marks.{HasNoMark}
use Rattle.cert_checker.specs.TreeJudge.Path.{root_pending}
use Rattle.cert_checker.specs.TreeJudge.Roots.{root_edges, AreRootChains}
use Rattle.cert_checker.specs.TreeJudge.Steps.{AreSteps}
use Rattle.cert_checker.specs.TreeJudge.Walked.{IsTreeWalked}
use Rattle.cert_checker.specs.TreeJudge.Whole.{IsFirstWrongNode, IsWholeOver, AreWholeOver, IsFirstWrongTree, HasNoBit}

-- the source is a sector, and the nodes can be counted
pub record IsTreeCounted (n : ℕ) (t : Tree) : Type 0 where
  pub source : t.source < n
  pub nodes : length t.nodes < 2 ^ 64

abbrev pub AreTreesCounted : ℕ → List Tree → Type 0
AreTreesCounted n trees = (t : Tree) → Contains trees t → IsTreeCounted n t

module _ (m : Map) (ts : List Triangle) (xs : List HalfEdge) where
  -- these trees are whole, and the flags and the bits are exactly those of their sources and of what they enter
  pub record AreTreesNoted (trees : List Tree) (walked : List Bool) (reached : TableParts) : Type 0 where
    pub unmarked : List Bool
    pub clear : TableParts
    pub none : HasNoMark m.sectors unmarked
    pub unset : HasNoBit clear
    pub size : clear.n ≡ m.sectors
    pub marks : length walked ≡ m.sectors
    pub sectors : reached.n ≡ m.sectors
    pub over : AreWholeOver m ts xs trees unmarked walked clear reached

  -- the trees that are ended are whole, and the walk has followed the open one
  pub record IsTreeUnderWay (front : List Tree) (t : Tree) (j : TreeJudge) : Type 0 where
    pub going : j.under_way ≡ true
    pub begun : TableParts
    pub noted : AreTreesNoted front j.walked.items begun
    pub walked : IsTreeWalked xs j.roots.roots.items j.roots.first.items t begun j.reached j.walk
    pub number : j.number ≡ length t.nodes

  -- the trees that are ended are whole, and node k of the open one is its first wrong one
  pub record IsOpenWrong (front : List Tree) (o : Option Tree) (source k : ℕ) : Type 0 where
    pub tree : Tree
    pub is : o ≡ Some tree
    pub of : tree.source ≡ source
    pub there : k < length tree.nodes
    pub wrong : IsFirstWrongNode xs tree.source (map root_pending (root_edges ts xs m tree.source)) tree.nodes k
    pub before : (t : Tree) → Contains front t → (sectors : List ℕ) × IsWholeOver m ts xs t sectors

  -- by the wrong node that was found, if one was, and the open tree, if there is one
  abbrev pub IsTreeJudged : List Tree → Option Tree → TreeJudge → Option (ℕ × ℕ) → Type 0
  IsTreeJudged front o j (Some w) = (j.under_way ≡ false) × (IsFirstWrongTree m ts xs front w.0 w.1 ⊎ IsOpenWrong front o w.0 w.1)
  IsTreeJudged front None j None = (j.under_way ≡ false) × AreTreesNoted front j.walked.items j.reached
  IsTreeJudged front (Some t) j None = IsTreeUnderWay front t j

  -- the judge has heard these trees and the nodes of the open one that have come so far
  pub record HasHeardTrees (front : List Tree) (o : Option Tree) (j : TreeJudge) : Type 0 where
    pub roots : AreRootChains m ts xs j.roots.roots.items j.roots.first.items
    pub steps : AreSteps xs j.steps.items
    pub judged : AreTreesCounted m.sectors (front ++ option_to_list o) → IsTreeJudged front o j j.wrong

-- over the good mesh of a certificate in order, whose trees have these half-edges
pub record IsJudgeable (p : PlanParts) (c : CertParts) (ts : List Triangle) (xs : List HalfEdge) : Type 0 where
  pub plan : IsPlan p
  pub in_order : IsOneInOrder c
  pub sectors : c.sizes.sectors ≡ p.sectors
  pub counted : (t : Tree) → Contains c.trees t → length t.nodes < 2 ^ 64
  pub triangles : ts ≡ triangles_of c
  pub good : IsGoodMesh (map_of p) ts (labels_of c)
  pub edges : AreHalfEdges p ts (labels_of c) xs
