-- The ends of a triangle's edge are different points of the mesh.
use Rattle.std.proofs.Common.{◌≡◌, ◌≢◌, ℕ, ◌<◌, List, Some, get_or, true, ◌==◌, ◌&&◌, ◌||◌, arith}
use Rattle.std.proofs.lemmas.List.Quantifiers.{position-Some}
use Rattle.std.proofs.lemmas.Option.{slice_get-get_or}
use Rattle.sight_names.specs.declared.names.Triangle.{Triangle}
use Rattle.sight_names.specs.Mesh.{AreTriangles, triangle_at, has_edge}

ends_in : (p q r u v n : ℕ) → p < q → p < r → q ≢ r → q < n → r < n → ((p == u && q == v) || (q == u && r == v) || (r == u && p == v)) ≡ true → (u < n) × (v < n) × (u ≢ v)
ends_in p q r u v n a b c d e h = grind arith

pub edge_ends : (n : ℕ) (ts : List Triangle) (u v k : ℕ) → AreTriangles n ts → triangle_at ts (record { from = u; to = v }) ≡ Some k → (u < n) × (v < n) × (u ≢ v)
edge_ends n ts u v k all found =
    let d : Triangle = record { p = 0; q = 0; r = 0 } in
    let here = position-Some (has_edge (record { from = u; to = v })) ts k d found in
    let is = all.each k (get_or ts k d) (slice_get-get_or ts k d here.0) in
    ends_in (get_or ts k d).p (get_or ts k d).q (get_or ts k d).r u v n is.least is.least_too is.differ is.second is.third here.1
