-- A walk over the segments at a point, from the latest back.
use Rattle.std.proofs.Common.{◌≡◌, ℕ, ◌+◌, ◌<◌, ◌≤◌, inl, inr, List, length, get_or, true, sym, ap, ◌∙◌, arith}
use Rattle.std.proofs.lemmas.Bool.{true≢false}
use Rattle.triangulate.specs.declared.incident_segments.segments.Segment.{Segment}
use Rattle.triangulate.specs.IncidentSegments.Incident.{has_end, other_end, IsLastAt}
use Rattle.triangulate.specs.IncidentSegments.Neighbours.{IsNeighbour}
use Rattle.math_base.proofs.Numbers.{below_same_or_above}

-- the walk stands behind segment at - 1, which is at u, and each neighbour that it has passed has P
pub record IsWalk (segs : List Segment) (u : ℕ) (P : ℕ → Type 0) (at : ℕ) : Type 0 where
  pub within : at ≤ length segs
  pub here : (k : ℕ) → k + 1 ≡ at → (d : Segment) → has_end u (get_or segs k d) ≡ true
  pub passed : (k : ℕ) → k < length segs → at ≤ k → (v : ℕ) → ((d : Segment) → has_end u (get_or segs k d) ≡ true) → ((d : Segment) → v ≡ other_end u (get_or segs k d)) → P v

pub walk_start : (segs : List Segment) (u : ℕ) (P : ℕ → Type 0) (j : ℕ) → IsLastAt segs u (length segs) j → IsWalk segs u P j
walk_start segs u P j h = record {
  within = h.within;
  here = λ k e d. h.here k e d;
  passed = λ k lt le v end other. absurd (let d : Segment = record { from = 0; to = 0 } in true≢false (sym (end d) ∙ h.none k lt le d));
}

-- one segment further, with what it gives
pub walk_step : (segs : List Segment) (u : ℕ) (P Q : ℕ → Type 0) (at k j : ℕ) → IsWalk segs u P at → k + 1 ≡ at → ((v : ℕ) → P v → Q v) → ((v : ℕ) → ((d : Segment) → v ≡ other_end u (get_or segs k d)) → Q v) → IsLastAt segs u k j → IsWalk segs u Q j
walk_step segs u P Q at k j w e weaker here h = record {
  within = let a = h.within in let b = w.within in omega arith;
  here = λ i f d. h.here i f d;
  passed = λ i lt le v end other. elim (below_same_or_above i k) [
    | inl less ↦ absurd (let d : Segment = record { from = 0; to = 0 } in true≢false (sym (end d) ∙ h.none i less le d))
    | inr (inl same) ↦ here v (λ d. other d ∙ ap (λ (n : ℕ). other_end u (get_or segs n d)) same)
    | inr (inr more) ↦ weaker v (w.passed i lt (omega arith) v end other)
  ];
}

-- at the end all neighbours have been passed
pub walk_end : (segs : List Segment) (u : ℕ) (P : ℕ → Type 0) (at : ℕ) → IsWalk segs u P at → at ≡ 0 → (v : ℕ) → IsNeighbour segs u v → P v
walk_end segs u P at w e v (k, lt, end, other) = w.passed k lt (omega arith) v end other

-- the segment that the walk is at gives a neighbour
pub walk_neighbour : (segs : List Segment) (u : ℕ) (P : ℕ → Type 0) (at k v : ℕ) → IsWalk segs u P at → k + 1 ≡ at → ((d : Segment) → v ≡ other_end u (get_or segs k d)) → IsNeighbour segs u v
walk_neighbour segs u P at k v w e other = (k, (let b = w.within in omega arith), w.here k e, other)
