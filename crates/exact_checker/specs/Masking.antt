-- The masks of gates by half-edges.
use Rattle.std.specs.Prelude.{◌≡◌, ℕ, zero, suc, List, [], ◌∷◌, Option, Some, option_and_then, option_map, slice_get, slice_index}
use Rattle.sight_names.specs.Map.{Map}
use Rattle.mesh_shape.specs.declared.half_edges.table.HalfEdge.{HalfEdge}
use Rattle.gate_floods.specs.declared.gate_masks.masks.Row.{Row}
use Rattle.gate_floods.specs.GateMasks.Masks.{AreSideMasks}
use Rattle.gate_floods.specs.GateMasks.Behind.{mask_behind}
use Rattle.gate_floods.specs.RowJudge.Asked.{mask_place}
use Rattle.gate_floods.specs.RowJudge.Words.{row_in_words}

-- the mask of the gate by which one comes in at the half-edge, if it is one
abbrev pub mask_at_edge : List (Option Row) → Option HalfEdge → Option Row
mask_at_edge masks edge = option_and_then (mask_behind masks) edge

-- n words of the row from place k on, 0 for each that it doesn't have
abbrev pub words_of : List ℕ → ℕ → ℕ → List ℕ
words_of row k zero = []
words_of row k (suc n) = slice_index row k ∷ words_of row (suc k) n

-- so many words of the mask, if there is one
abbrev pub fitted : ℕ → Option Row → Option (List ℕ)
fitted width mask = option_map (λ (r : Row). words_of r.words.items 0 width) mask

-- the words of the mask at a half-edge, by the place where they begin
abbrev pub words_at : ℕ → List (Option ℕ) → List ℕ → ℕ → Option (List ℕ)
words_at width places words i = option_map (row_in_words words width) (mask_place places i)

-- each half-edge has the mask of the gate by which one comes in there
abbrev pub HaveMasksOf : List (Option Row) → List HalfEdge → ℕ → List (Option ℕ) → List ℕ → Type 0
HaveMasksOf masks xs width places words = (i : ℕ) (x : HalfEdge) → slice_get xs i ≡ Some x → words_at width places words i ≡ fitted width (mask_behind masks x)

-- the masks are those of the map's gates, where claims are these
pub record AreEdgeMasks (m : Map) (Claims : ℕ → ℕ → Type 0) (xs : List HalfEdge) (width : ℕ) (places : List (Option ℕ)) (words : List ℕ) : Type 0 where
  pub masks : List (Option Row)
  pub are : AreSideMasks m Claims masks
  pub have : HaveMasksOf masks xs width places words
