-- What a walk by a row finds: a sector that its present row has, and the ray there.
use Rattle.std.specs.Prelude.{◌≡◌, ℕ, List, Option, Some, None, option_and_then, option_map, slice_get, if◌then◌else◌}
use Rattle.sight_names.specs.declared.names.Side.{Side}
use Rattle.mesh_shape.specs.declared.half_edges.table.HalfEdge.{HalfEdge}
use Rattle.gate_floods.specs.Gates.{other_side}
use Rattle.pair_budget.specs.declared.results.Reached.{Reached}
use Rattle.gate_floods.specs.RowJudge.Words.{is_in, row_in_words}

-- the side by which one leaves who comes in by the half-edge with this number
abbrev pub side_left : List HalfEdge → Option ℕ → Option Side
side_left xs number = option_and_then (λ i. option_and_then (λ (x : HalfEdge). option_map other_side x.entered) (slice_get xs i)) number

-- the sector, if the row at this place has it
abbrev pub had_in : List ℕ → ℕ → ℕ → Option ℕ → Option ℕ
had_in rows width at sector = option_and_then (λ c. let o : Option ℕ = if is_in (row_in_words rows width at) c then Some c else None in o) sector

-- the same of the sector into which one comes by the half-edge through a line
abbrev pub wanted_in : List ℕ → ℕ → ℕ → HalfEdge → Option ℕ
wanted_in rows width at x = option_and_then (λ (d : Side). had_in rows width at x.sector) x.entered

-- the ray goes from where the root leads out of the source to where one comes in by the half-edge
pub record IsAlong (xs : List HalfEdge) (root : Option ℕ) (edge : HalfEdge) (to : ℕ) (r : Reached) : Type 0 where
  pub to_it : r.to ≡ to
  pub first : side_left xs root ≡ Some r.ray.first
  pub last : edge.entered ≡ Some r.ray.last
