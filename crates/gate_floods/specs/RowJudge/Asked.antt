-- Trees as answers to a walk with a row: each node answers the first of the half-edges that are still to be asked.
use Rattle.std.specs.Prelude.{◌≡◌, ◌≢◌, ℕ, ◌≤◌, Bool, true, if◌then◌else◌, List, [], ◌∷◌, ◌++◌, Option, Some, None, option_and_then, option_map, take, length, slice_get}
use Rattle.sight_names.specs.Splitting.{EndPoints}
use Rattle.block_evidence.specs.declared.sight_tree.Node.{Node}
use Rattle.block_evidence.specs.declared.sight_tree.Node.TheVariants.{Open, Blocked}
use Rattle.block_evidence.specs.Stuck.{BlocksEnds}
use Rattle.mesh_shape.specs.declared.half_edges.table.HalfEdge.{HalfEdge}
use Rattle.mesh_shape.specs.HalfEdges.HalfEdges.{way_outside}
use Rattle.cert_checker.specs.TreeJudge.Path.{edge_ends}
use Rattle.gate_floods.specs.RowJudge.Masks.{MaskRows}
use Rattle.gate_floods.specs.RowJudge.Words.{both_words, has_bit_in_words, is_away, row_in_words}

-- where the mask of a half-edge begins, if it is a gate
abbrev pub mask_place : List (Option ℕ) → ℕ → Option ℕ
mask_place places i = option_and_then (λ (o : Option ℕ). o) (slice_get places i)

-- the mask of a half-edge, if it is a gate
abbrev pub mask_of_edge : MaskRows → ℕ → Option (List ℕ)
mask_of_edge ms i = option_map (row_in_words ms.words ms.width) (mask_place ms.places i)

-- what is left of the row behind a half-edge with this mask
abbrev pub row_left : List ℕ → Option (List ℕ) → List ℕ
row_left row None = row
row_left row (Some mask) = both_words row mask

-- whether it is something; behind what is no gate it is what it was before
abbrev pub leaves : List ℕ → Option (List ℕ) → Bool
leaves row None = true
leaves row (Some mask) = has_bit_in_words (both_words row mask)

-- A half-edge that is still to be asked, the ends of the portals that lead up to it, and the row behind those.
pub record Pending : Type 0 where
  pub path : List EndPoints
  pub row : List ℕ
  pub edge : ℕ

abbrev pub pending_way : List EndPoints → List ℕ → Option ℕ → List Pending
pending_way path row None = []
pending_way path row (Some i) = record { path = path; row = row; edge = i } ∷ []

-- the ends of the portals that lead up to the half-edge and through it
abbrev pub ends_through : Pending → HalfEdge → List EndPoints
ends_through p x = p.path ++ edge_ends x ∷ []

module _ (ms : MaskRows) where
  -- the half-edge, if something is left behind it
  abbrev pub with_rest : List ℕ → ℕ → Option ℕ
  with_rest row i = if leaves row (mask_of_edge ms i) then Some i else None

  -- the roots behind which something is left are asked, with no portal before them
  abbrev pub pending_roots : List ℕ → List ℕ → List Pending
  pending_roots row [] = []
  pending_roots row (e ∷ es) = pending_way [] row (with_rest row e) ++ pending_roots row es

  -- the row behind the half-edge
  abbrev pub row_through : Pending → List ℕ
  row_through p = row_left p.row (mask_of_edge ms p.edge)

  -- the row behind a half-edge with this number, the one before it being at this place
  abbrev pub row_behind : List ℕ → ℕ → ℕ → List ℕ
  row_behind rows at i = row_left (row_in_words rows ms.width at) (mask_of_edge ms i)

module _ (xs : List HalfEdge) (ms : MaskRows) (source : ℕ) where
  -- the way, if it leads out of the source and something is left behind it
  abbrev pub way_asked : List ℕ → Option ℕ → Option ℕ
  way_asked row way = option_and_then (with_rest ms row) (way_outside xs source way)

  -- behind the portals with these ends and with this row: the two ways of the half-edge, as far as they are asked
  abbrev pub ways_behind : List EndPoints → List ℕ → HalfEdge → List Pending
  ways_behind ends row x = pending_way ends row (way_asked row x.left_way) ++ pending_way ends row (way_asked row x.right_way)

  -- whoever goes through the half-edge has its two ways to ask
  abbrev pub ways_through : Pending → HalfEdge → List Pending
  ways_through p x = ways_behind (ends_through p x) (row_through ms p) x

  -- The node answers for the first of the half-edges: an open one goes through it, enters no sector that the row
  -- behind it has, and its ways are to be asked before the others; a blocked one shows ends that are stuck. Then the
  -- last list is still to be asked.
  abbrev pub AnswersFirstInRow : List Pending → Node → List Pending → Type 0
  AnswersFirstInRow ps Open qs = (p : Pending) × (rest : List Pending) × (x : HalfEdge) × (ps ≡ p ∷ rest) × (slice_get xs p.edge ≡ Some x) × (is_away (row_through ms p) x.sector ≡ true) × (qs ≡ ways_through p x ++ rest)
  AnswersFirstInRow ps (Blocked e) qs = (p : Pending) × (rest : List Pending) × (x : HalfEdge) × (ps ≡ p ∷ rest) × (slice_get xs p.edge ≡ Some x) × BlocksEnds (ends_through p x) e × (qs ≡ rest)

  -- the nodes answer one after another, and the last list is still to be asked behind them
  abbrev pub AreAnswered : List Pending → List Node → List Pending → Type 0
  AreAnswered ps [] qs = qs ≡ ps
  AreAnswered ps (n ∷ ns) qs = (rs : List Pending) × AnswersFirstInRow ps n rs × AreAnswered rs ns qs

  -- the nodes below k answer, and node k doesn't; or it is one past the last, and something is still to be asked
  pub record IsFirstWrongInRow (ps : List Pending) (ns : List Node) (k : ℕ) : Type 0 where
    pub left : List Pending
    pub within : k ≤ length ns
    pub before : AreAnswered ps (take k ns) left
    pub wrong : (n : Node) → slice_get ns k ≡ Some n → (qs : List Pending) → ¬ AnswersFirstInRow left n qs
    pub missing : k ≡ length ns → left ≢ []
