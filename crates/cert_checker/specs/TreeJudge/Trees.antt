-- What a judge of trees tells of a certificate.
use Rattle.std.specs.Prelude.{◌≡◌, ◌<◌, ◌↔◌, ℕ, List, map, slice_get, Some, Bool, Contains}
use Rattle.sight_names.specs.Map.{Map, map_of}
use Rattle.sight_names.specs.Plan.{PlanParts}
use Rattle.block_evidence.specs.declared.sight_tree.Tree.{Tree}
use Rattle.block_evidence.specs.SightTree.WholeTree.{IsWholeTree}
use Rattle.reject_bits.specs.Parts.{TableParts, Rejects}
use Rattle.cert_format.specs.Parts.{CertParts}
use Rattle.cert_format.specs.Accepted.{triangles_of, labels_of, HasTreeWithout}
use Rattle.mesh_shape.specs.declared.half_edges.table.HalfEdge.{HalfEdge}
use Rattle.mesh_shape.specs.HalfEdges.HalfEdges.{AreHalfEdges}
use Rattle.cert_checker.specs.declared.tree_judge.judge.TreeVerdict.{TreeVerdict}
use Rattle.cert_checker.specs.declared.tree_judge.judge.TreeVerdict.TheVariants.{Whole, Wrong}
use Rattle.cert_checker.specs.TreeJudge.Marks.{IsFlagSet}
use Rattle.cert_checker.specs.TreeJudge.Path.{root_pending}
use Rattle.cert_checker.specs.TreeJudge.Roots.{root_edges}
use Rattle.cert_checker.specs.TreeJudge.Whole.{IsFirstWrongNode}

-- each tree of the certificate is whole
abbrev pub AreTreesWhole : Map → CertParts → Type 0
AreTreesWhole m c = (t : Tree) → Contains c.trees t → (opened : List ℕ) × IsWholeTree m (triangles_of c) (labels_of c) t opened

-- the first tree of the certificate that isn't whole, and the first of its nodes that doesn't answer for what is asked
pub record IsFirstTreeNotWhole (m : Map) (c : CertParts) (source k : ℕ) : Type 0 where
  pub place : ℕ
  pub tree : Tree
  pub is : slice_get c.trees place ≡ Some tree
  pub of : tree.source ≡ source
  pub not_whole : (opened : List ℕ) → ¬ IsWholeTree m (triangles_of c) (labels_of c) tree opened
  pub before : (i : ℕ) (t : Tree) → i < place → slice_get c.trees i ≡ Some t → (opened : List ℕ) × IsWholeTree m (triangles_of c) (labels_of c) t opened
  -- the number, by the half-edges of the mesh over a plan of the map
  pub plan : PlanParts
  pub of_map : map_of plan ≡ m
  pub edges : List HalfEdge
  pub are_edges : AreHalfEdges plan (triangles_of c) (labels_of c) edges
  pub node : IsFirstWrongNode edges tree.source (map root_pending (root_edges (triangles_of c) edges m tree.source)) tree.nodes k

-- a sector is marked, and its bit of another one isn't set, exactly where a tree of the one keeps from the other
abbrev pub TellsReach : Map → CertParts → List Bool → TableParts → Type 0
TellsReach m c walked reached = (a b : ℕ) → a < m.sectors → b < m.sectors → (IsFlagSet walked a × ¬ Rejects reached a b) ↔ HasTreeWithout m c a b

-- all trees are whole, and it is told what they keep from; or the first one that isn't is told, with its first wrong node
abbrev pub TellsTrees : Map → CertParts → TreeVerdict → Type 0
TellsTrees m c (Whole reach) = AreTreesWhole m c × (reach.reached.n ≡ m.sectors) × TellsReach m c reach.walked.items reach.reached
TellsTrees m c (Wrong source node) = IsFirstTreeNotWhole m c source node
