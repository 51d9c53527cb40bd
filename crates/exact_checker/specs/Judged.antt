-- What the answer says of a certificate of version 3.
use Rattle.std.specs.Prelude.{◌≡◌, ℕ, ◌<◌, ◌≤◌, List, [], Option, Some, None, length, slice_get}
use Rattle.sight_names.specs.declared.names.PairRay.{PairRay}
use Rattle.sight_names.specs.declared.faults.CheckFault.TheVariants.{Mesh, Ray, Tree as OfTree, ListedSet, Unproved, Uncovered}
use Rattle.sight_names.specs.declared.names.Triangle.{Triangle}
use Rattle.sight_names.specs.Plan.{PlanParts, IsPlan}
use Rattle.sight_names.specs.Map.{Map, map_of}
use Rattle.sight_names.specs.Mesh.{IsGoodMesh}
use Rattle.reject_bits.specs.Parts.{TableParts}
use Rattle.block_evidence.specs.declared.sight_tree.Node.{Node}
use Rattle.mesh_shape.specs.declared.half_edges.table.HalfEdge.{HalfEdge}
use Rattle.mesh_shape.specs.HalfEdges.HalfEdges.{AreHalfEdges}
use Rattle.cert_checker.specs.declared.tree_judge.roots.Root.{Root}
use Rattle.cert_checker.specs.TreeJudge.Roots.{root_edges}
use Rattle.cert_format.specs.Accepted.{triangles_of, labels_of, EitherSet, EitherClear}
use Rattle.cert_format.specs.Parts.{CertParts}
use Rattle.cert_format.specs.declared.cert_groups.cert.CertTwo.{CertTwo}
use Rattle.cert_checker.specs.declared.verdict.Verdict.{Verdict}
use Rattle.cert_checker.specs.declared.verdict.Verdict.TheVariants.{Yes, No}
use Rattle.cert_checker.specs.Pairs.{AreTotals}
use Rattle.cert_checker.specs.Judged.{JudgesRays}
use Rattle.cert_checker.specs.AcceptedGroups.Accepted.{IsGroupedSeen}
use Rattle.group_checker.specs.declared.verdict.AnyVerdict.{AnyVerdict}
use Rattle.group_checker.specs.Meshes.{grouped_map}
use Rattle.group_checker.specs.Members.{AreMembers}
use Rattle.group_checker.specs.Judged.{InWordsOfOne, IsTwoFor, IsTwoOfSectors, TellsGroups, TellsMesh}
use Rattle.gate_floods.specs.Bits.{rank_of}
use Rattle.gate_floods.specs.Exact.{IsClaimedBlind, IsOwned}
use Rattle.gate_floods.specs.Rows.{KeepsByRows}
use Rattle.gate_floods.specs.declared.gate_masks.masks.Row.{Row}
use Rattle.gate_floods.specs.RowJudge.Masks.{MaskRows}
use Rattle.gate_floods.specs.RowJudge.Asked.{pending_roots, IsFirstWrongInRow}
use Rattle.gate_floods.specs.RowJudge.Judged.{tree_with}
use Rattle.gate_floods.specs.RowJudge.Laws.{AreHalfEdgeMasks, IsRowGround, TellsByRows}
use Rattle.gate_floods.specs.RowJudge.Words.{AreBitsOf}
use Rattle.certificates.specs.declared.cert_exact.cert.ExactParts.{ExactParts}
use Rattle.certificates.specs.CertExact.Grammar.{as_two}
use Rattle.exact_checker.specs.declared.trees.WrongNode.{WrongNode}
use Rattle.exact_checker.specs.Owning.{OwningParts, IsOwnedBit, KnowsOwning}
use Rattle.exact_checker.specs.Rows.{AreJoinedRows}
use Rattle.exact_checker.specs.Pairs.{KnownParts}

-- ---- the certificate

-- ranges and orders are those of version 3, for the sizes of the plan
pub record IsThreeFor (p : PlanParts) (c : ExactParts) : Type 0 where
  pub two : IsTwoFor p (as_two c)
  pub one_each : length c.trees ≡ length c.groups

-- the same, for a map of so many sectors
pub record IsThreeOf (n : ℕ) (c : ExactParts) : Type 0 where
  pub two : IsTwoOfSectors n (as_two c)
  pub one_each : length c.trees ≡ length c.groups

-- ---- trees

-- of the groups those whose claims one owns
abbrev pub Owns : Map → ExactParts → ℕ → ℕ → Type 0
Owns g c f = IsOwned (rank_of c.rays (length c.groups)) (IsClaimedBlind g (as_two c).cert) f

-- the tree keeps from all that its group owns
abbrev pub KeepsItsOwn : Map → ExactParts → ℕ → List Node → Type 0
KeepsItsOwn g c f ns = KeepsByRows g (triangles_of (as_two c).cert) (labels_of (as_two c).cert) (IsClaimedBlind g (as_two c).cert) (Owns g c f) (tree_with f ns)

abbrev pub AreTreesKept : Map → ExactParts → Type 0
AreTreesKept g c = (f : ℕ) (ns : List Node) → slice_get c.trees f ≡ Some ns → KeepsItsOwn g c f ns

-- the first tree that doesn't keep from all that its group owns, and the first of its nodes that doesn't answer for what is asked
pub record IsFirstTreeWrong (g : Map) (c : ExactParts) (source k : ℕ) : Type 0 where
  pub nodes : List Node
  pub is : slice_get c.trees source ≡ Some nodes
  pub not_kept : ¬ KeepsItsOwn g c source nodes
  pub before : (f : ℕ) (ns : List Node) → f < source → slice_get c.trees f ≡ Some ns → KeepsItsOwn g c f ns
  -- the number, by the half-edges of the mesh over a plan of the map, the masks of the gates and the row of what the group owns
  pub plan : PlanParts
  pub of_map : map_of plan ≡ g
  pub edges : List HalfEdge
  pub are_edges : AreHalfEdges plan (triangles_of (as_two c).cert) (labels_of (as_two c).cert) edges
  pub masks : MaskRows
  pub are_masks : AreHalfEdgeMasks g (IsClaimedBlind g (as_two c).cert) edges masks
  pub row : List ℕ
  pub kept : AreBitsOf row (Owns g c source)
  pub node : IsFirstWrongInRow edges masks source (pending_roots masks row (root_edges (triangles_of (as_two c).cert) edges g source)) nodes k

-- all trees keep, or the first that doesn't is told, with its first wrong node
abbrev pub TellsTrees : Map → ExactParts → Option WrongNode → Type 0
TellsTrees g c None = AreTreesKept g c
TellsTrees g c (Some w) = IsFirstTreeWrong g c w.source w.node

-- a fault of a tree is that of the first one that doesn't keep; with yes, and with a fault of a pair, each does
abbrev pub JudgesTreesOfThree : Map → ExactParts → Verdict → Type 0
JudgesTreesOfThree g c (No (Mesh f)) = Unit {0}
JudgesTreesOfThree g c (No (Ray a b f)) = Unit {0}
JudgesTreesOfThree g c (No (OfTree s n)) = IsFirstTreeWrong g c s n
JudgesTreesOfThree g c _ = AreTreesKept g c

-- plan, triangles, half-edges, rows and trees are those of the certificate, and its triangles are a good mesh of its map of groups
pub record AreTreesOf (c : ExactParts) (p : PlanParts) (ts : List Triangle) (xs : List HalfEdge) (rows : List Row) (trees : List (List Node)) : Type 0 where
  pub plan : IsPlan p
  pub sectors : p.sectors ≡ length c.groups
  pub triangles : ts ≡ triangles_of (as_two c).cert
  pub good : IsGoodMesh (map_of p) (triangles_of (as_two c).cert) (labels_of (as_two c).cert)
  pub edges : AreHalfEdges p (triangles_of (as_two c).cert) (labels_of (as_two c).cert) xs
  pub rows_are : AreJoinedRows p.sectors c.rays rows
  pub trees_are : trees ≡ c.trees

-- by half-edges, masks and roots: what the nodes of a group's tree answer, with a row of what the group owns
module _ (xs : List HalfEdge) (ms : MaskRows) (roots : List Root) (firsts : List (Option ℕ)) (known : OwningParts) where
  pub record AnswersFor (f : ℕ) (ns : List Node) (wrong : Option ℕ) : Type 0 where
    pub row : List ℕ
    pub bits : (rays : List PairRay) → KnowsOwning rays known → AreBitsOf row (IsOwnedBit rays known.components known.count f)
    pub tells : (p : PlanParts) (ts : List Triangle) (ls : List (Option ℕ)) (rank : ℕ → ℕ) (cert : CertParts) → IsRowGround p ts ls xs roots firsts ms (IsClaimedBlind (map_of p) cert) (IsOwned rank (IsClaimedBlind (map_of p) cert) f) row → f < p.sectors
        → TellsByRows (map_of p) ts ls xs ms (IsClaimedBlind (map_of p) cert) (IsOwned rank (IsClaimedBlind (map_of p) cert) f) row (tree_with f ns) wrong

  -- all nodes of the trees answer; or the first tree with a node that doesn't, or that is missing, is told, with its first such node
  abbrev pub AnswersForEach : List (List Node) → Option WrongNode → Type 0
  AnswersForEach trees None = (f : ℕ) (ns : List Node) → slice_get trees f ≡ Some ns → AnswersFor f ns None
  AnswersForEach trees (Some w) = ((ns : List Node) × (slice_get trees w.source ≡ Some ns) × AnswersFor w.source ns (Some w.node))
      × ((f : ℕ) (ns : List Node) → f < w.source → slice_get trees f ≡ Some ns → AnswersFor f ns None)

-- ---- pairs of sectors

-- the judge of pairs goes by the groups and the rays of this certificate
pub record IsAbout (c : ExactParts) (k : KnownParts) : Type 0 where
  pub members : AreMembers c.groups k.table.n k.members
  pub joined : AreJoinedRows (length c.groups) c.rays k.joined

-- a set bit is of two sectors no groups of which are joined, a clear one of two some groups of which are
pub record IsPairRight (t : TableParts) (c : CertTwo) (a b : ℕ) : Type 0 where
  pub set : EitherSet t.n t.bytes a b → ¬ IsGroupedSeen c a b
  pub clear : EitherClear t.n t.bytes a b → IsGroupedSeen c a b

-- it is a pair of the table, and all pairs before it are right
pub record IsExactPairReached (t : TableParts) (c : CertTwo) (a b : ℕ) : Type 0 where
  pub order : a ≤ b
  pub within : b < t.n
  pub row : (e : ℕ) → a ≤ e → e < b → IsPairRight t c a e
  pub rows : (d e : ℕ) → d < a → d ≤ e → e < t.n → IsPairRight t c d e

-- with yes each pair is right, and the totals are those of the table; a fault of a pair is one, and the first, and none is of the list
abbrev pub TellsPairsOfThree : TableParts → CertTwo → Verdict → Type 0
TellsPairsOfThree t c (Yes totals) = ((a b : ℕ) → a ≤ b → b < t.n → IsPairRight t c a b) × AreTotals t [] t.n totals
TellsPairsOfThree t c (No (Unproved a b)) = IsExactPairReached t c a b × EitherSet t.n t.bytes a b × IsGroupedSeen c a b
TellsPairsOfThree t c (No (Uncovered a b)) = IsExactPairReached t c a b × EitherClear t.n t.bytes a b × ¬ IsGroupedSeen c a b
TellsPairsOfThree t c (No (ListedSet a b)) = ⊥
TellsPairsOfThree t c _ = Unit {0}

-- ---- the whole

-- The answer for a certificate of version 3: the first fault in the order of mesh, groups, rays, trees and pairs. Mesh, groups and
-- rays are those of one of version 2; rays and trees are judged over the map of groups.
pub record JudgesThree (p : PlanParts) (t : TableParts) (c : ExactParts) (v : AnyVerdict) : Type 0 where
  pub mesh : TellsMesh (map_of p) (grouped_map p (as_two c)) (as_two c) v
  pub groups : TellsGroups (map_of p) (as_two c) v
  pub rays : InWordsOfOne (JudgesRays (grouped_map p (as_two c)) (as_two c).cert) v
  pub trees : InWordsOfOne (JudgesTreesOfThree (grouped_map p (as_two c)) c) v
  pub pairs : InWordsOfOne (TellsPairsOfThree t (as_two c)) v
