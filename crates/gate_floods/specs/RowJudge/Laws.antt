-- What answers to a walk with a row are over the mesh of a map: a tree that keeps by rows.
use Rattle.std.specs.Prelude.{◌≡◌, ℕ, List, Option, Some, None, slice_get}
use Rattle.sight_names.specs.declared.names.Triangle.{Triangle}
use Rattle.sight_names.specs.Map.{Map, map_of}
use Rattle.sight_names.specs.Mesh.{IsGoodMesh, label_of}
use Rattle.sight_names.specs.Plan.{PlanParts, IsPlan}
use Rattle.sight_names.specs.Sequence.{Portal, IsSolidLine}
use Rattle.block_evidence.specs.declared.sight_tree.Tree.{Tree}
use Rattle.mesh_shape.specs.declared.half_edges.table.HalfEdge.{HalfEdge}
use Rattle.mesh_shape.specs.HalfEdges.HalfEdges.{portal_into, AreHalfEdges}
use Rattle.cert_checker.specs.declared.tree_judge.roots.Root.{Root}
use Rattle.cert_checker.specs.TreeJudge.Roots.{root_edges, AreRootChains}
use Rattle.gate_floods.specs.Gates.{IsGate, IsInMask}
use Rattle.gate_floods.specs.Rows.{KeepsByRows}
use Rattle.gate_floods.specs.RowJudge.Masks.{MaskRows}
use Rattle.gate_floods.specs.RowJudge.Words.{AreBitsOf}
use Rattle.gate_floods.specs.RowJudge.Asked.{mask_of_edge, pending_roots, IsFirstWrongInRow}

-- the portal is a gate with this mask; or it is none
abbrev pub IsPortalMask : Map → (ℕ → ℕ → Type 0) → Portal → Option (List ℕ) → Type 0
IsPortalMask m Claims p None = (b d : ℕ) → ¬ IsGate m b d p
IsPortalMask m Claims p (Some mask) = (b : ℕ) × (d : ℕ) × IsGate m b d p × AreBitsOf mask (IsInMask m Claims b d p)

-- each half-edge that can be walked through has its mask
abbrev pub AreHalfEdgeMasks : Map → (ℕ → ℕ → Type 0) → List HalfEdge → MaskRows → Type 0
AreHalfEdgeMasks m Claims xs ms = (i : ℕ) (x : HalfEdge) → slice_get xs i ≡ Some x → ¬ IsSolidLine m (portal_into x) → IsPortalMask m Claims (portal_into x) (mask_of_edge ms i)

-- over a good mesh each of whose triangles has a sector: half-edges, roots and masks, and the row of what is kept from
pub record IsRowGround (p : PlanParts) (ts : List Triangle) (ls : List (Option ℕ)) (xs : List HalfEdge) (roots : List Root) (firsts : List (Option ℕ)) (ms : MaskRows) (Claims : ℕ → ℕ → Type 0) (Keeps : ℕ → Type 0) (row : List ℕ) : Type 0 where
  pub plan : IsPlan p
  pub good : IsGoodMesh (map_of p) ts ls
  pub edges : AreHalfEdges p ts ls xs
  pub named : (k : ℕ) (t : Triangle) → slice_get ts k ≡ Some t → (a : ℕ) × (label_of ls k ≡ Some a)
  pub roots_are : AreRootChains (map_of p) ts xs roots firsts
  pub masks : AreHalfEdgeMasks (map_of p) Claims xs ms
  pub kept : AreBitsOf row Keeps

-- the tree doesn't keep by rows, and node k is the first that doesn't answer, or that is missing
pub record IsWrongByRows (m : Map) (ts : List Triangle) (ls : List (Option ℕ)) (xs : List HalfEdge) (ms : MaskRows) (Claims : ℕ → ℕ → Type 0) (Keeps : ℕ → Type 0) (row : List ℕ) (t : Tree) (k : ℕ) : Type 0 where
  pub not_kept : ¬ KeepsByRows m ts ls Claims Keeps t
  pub node : IsFirstWrongInRow xs ms t.source (pending_roots ms row (root_edges ts xs m t.source)) t.nodes k

-- the tree keeps by rows, or its first wrong node is told
abbrev pub TellsByRows : Map → List Triangle → List (Option ℕ) → List HalfEdge → MaskRows → (ℕ → ℕ → Type 0) → (ℕ → Type 0) → List ℕ → Tree → Option ℕ → Type 0
TellsByRows m ts ls xs ms Claims Keeps row t None = KeepsByRows m ts ls Claims Keeps t
TellsByRows m ts ls xs ms Claims Keeps row t (Some k) = IsWrongByRows m ts ls xs ms Claims Keeps row t k
