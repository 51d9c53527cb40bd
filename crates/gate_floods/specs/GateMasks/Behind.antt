-- The masks as one finds them who walks through a mesh: by its half-edges.
use Rattle.std.specs.Prelude.{◌≡◌, ℕ, List, Option, Some, None, false, option_and_then}
use Rattle.sight_names.specs.declared.names.Triangle.{Triangle}
use Rattle.sight_names.specs.Map.{Map, map_of}
use Rattle.sight_names.specs.Mesh.{IsGoodMesh}
use Rattle.sight_names.specs.Plan.{PlanParts, IsPlan}
use Rattle.sight_names.specs.Points.{Edge}
use Rattle.sight_names.specs.Sequence.{Portal}
use Rattle.mesh_shape.specs.declared.half_edges.table.HalfEdge.{HalfEdge}
use Rattle.mesh_shape.specs.HalfEdges.HalfEdges.{IsHalfEdge, portal_into}
use Rattle.gate_floods.specs.Gates.{IsGate, IsInMask, other_side}
use Rattle.gate_floods.specs.declared.gate_masks.masks.Row.{Row}
use Rattle.gate_floods.specs.GateMasks.Words.{AreBitsOf}
use Rattle.gate_floods.specs.GateMasks.Masks.{AreSideMasks, IsLeftOut, mask_of_side}

-- the mask at the side by which one leaves who enters the half-edge
abbrev pub mask_behind : List (Option Row) → HalfEdge → Option Row
mask_behind masks x = option_and_then (λ s. mask_of_side masks (other_side s)) x.entered

-- the portal is a gate, and the row is its mask, whatever gate it is; without a row the portal is no gate
abbrev pub IsMaskBehind : Map → (ℕ → ℕ → Type 0) → Portal → Option Row → Type 0
IsMaskBehind m Claims p None = (b d : ℕ) → ¬ IsGate m b d p
IsMaskBehind m Claims p (Some row) = ((b : ℕ) × (d : ℕ) × IsGate m b d p) × ((b d : ℕ) → IsGate m b d p → AreBitsOf row.words.items (IsInMask m Claims b d p))

-- what a half-edge of a good mesh finds is the mask of its portal
abbrev pub MasksAreFoundBehind : Type 0
MasksAreFoundBehind = (p : PlanParts) (ts : List Triangle) (labels : List (Option ℕ)) (xs : List HalfEdge) (joined : List Row) (masks : List (Option Row)) (e : Edge) (x : HalfEdge) → IsPlan p → IsGoodMesh (map_of p) ts labels
    → AreSideMasks (map_of p) (IsLeftOut joined) masks → IsHalfEdge p ts labels xs e x → x.solid ≡ false → IsMaskBehind (map_of p) (IsLeftOut joined) (portal_into x) (mask_behind masks x)
