-- The numbers of half-edges: three for each triangle, in the order of its corners.
use Rattle.std.specs.Prelude.{ℕ, ◌+◌, ◌*◌, List, Option, ◌==◌, option_and_then, option_map, slice_get, if◌then◌else◌}
use Rattle.sight_names.specs.declared.names.Triangle.{Triangle}
use Rattle.sight_names.specs.Points.{Edge}
use Rattle.sight_names.specs.Mesh.{triangle_at}

abbrev pub edge : ℕ → ℕ → Edge
edge u v = record { from = u; to = v }

-- which of the triangle's directed edges begins where this edge does
abbrev pub corner_of : Edge → Triangle → ℕ
corner_of e t = if t.p == e.from then 0 else (if t.q == e.from then 1 else 2)

-- the number of the half-edge along the directed edge, of the least triangle that has it
abbrev pub half_edge_number : List Triangle → Edge → Option ℕ
half_edge_number ts e = option_and_then (λ k. option_map (λ (t : Triangle). k * 3 + corner_of e t) (slice_get ts k)) (triangle_at ts e)
