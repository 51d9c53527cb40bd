-- Pairs of points, with the squares of their lengths, and the order in which they are tried.
use Rattle.std.specs.Prelude.{◌≡◌, ℕ, nat_abs, length, ◌*◌, ◌<◌, ◌≤◌, ◌⊎◌, List, [], ◌∷◌, ◌++◌, Some, slice_get, Contains}
use Rattle.sight_names.specs.declared.names.Pt.{Pt}
use Rattle.sight_names.specs.Map.{Map}
use Rattle.sight_names.specs.Points.{Edge, points_of, place}
use Rattle.sight_names.specs.Greedy.{edge_length, IsPointPair}
use Rattle.triangulate.specs.declared.greedy_segments.rounds.PointPair.{PointPair}

-- numbers of points, ascending
pub record AreNumbers (points : ℕ) (numbers : List ℕ) : Type 0 where
  pub within : (k : ℕ) → Contains numbers k → k < points
  pub ascend : (i j x y : ℕ) → i < j → slice_get numbers i ≡ Some x → slice_get numbers j ≡ Some y → x < y

abbrev pub pair_edge : PointPair → Edge
pair_edge p = record { from = p.from; to = p.to }

-- the square is at least that of low and less than that of high
abbrev pub IsSquareBetween : ℕ → ℕ → ℕ → Type 0
IsSquareBetween low high square = (low * low ≤ square) × (square < high * high)

-- two points in the order of their numbers, with the square of their distance, which is at least low and less than high
pub record IsPairBetween (m : Map) (low high : ℕ) (p : PointPair) : Type 0 where
  pub pair : IsPointPair m (pair_edge p)
  pub square : p.square ≡ edge_length m (pair_edge p)
  pub between : IsSquareBetween low high p.square

-- one of the pairs is the edge
abbrev pub HasEdgeOfPair : List PointPair → Edge → Type 0
HasEdgeOfPair pairs e = (p : PointPair) × Contains pairs p × (pair_edge p ≡ e)

-- the pair is added at the end, if its square is in the range
abbrev pub AddsIfBetween : ℕ → ℕ → PointPair → List PointPair → List PointPair → Type 0
AddsIfBetween low high p old new = (IsSquareBetween low high p.square × (new ≡ old ++ p ∷ [])) ⊎ (¬ IsSquareBetween low high p.square × (new ≡ old))

-- the pairs of a point with those later points are added, as far as their lengths are in the range
pub record AddsPairs (m : Map) (from : ℕ) (later : List ℕ) (low high : ℕ) (old new : List PointPair) : Type 0 where
  pub kept : (p : PointPair) → Contains old p → Contains new p
  pub each : (p : PointPair) → Contains new p → Contains old p ⊎ IsPairBetween m low high p
  pub all : (to : ℕ) → Contains later to → IsSquareBetween low high (edge_length m (record { from = from; to = to })) → HasEdgeOfPair new (record { from = from; to = to })

-- the pairs of these points whose lengths are in the range
pub record ArePairsBetween (m : Map) (numbers : List ℕ) (low high : ℕ) (pairs : List PointPair) : Type 0 where
  pub each : (p : PointPair) → Contains pairs p → IsPairBetween m low high p
  pub all : (e : Edge) → Contains numbers e.from → Contains numbers e.to → e.from < e.to → IsSquareBetween low high (edge_length m e) → HasEdgeOfPair pairs e

-- the same of those numbers that stand from begin on and before end, each with those behind it
pub record ArePairsFrom (m : Map) (numbers : List ℕ) (low high begin end : ℕ) (pairs : List PointPair) : Type 0 where
  pub each : (p : PointPair) → Contains pairs p → IsPairBetween m low high p
  pub all : (k from to : ℕ) → begin ≤ k → k < end → slice_get numbers k ≡ Some from → Contains numbers to → from < to → IsSquareBetween low high (edge_length m (record { from = from; to = to })) → HasEdgeOfPair pairs (record { from = from; to = to })

-- p comes before q, or stands for the same edge
abbrev pub IsPointPairNotAfter : PointPair → PointPair → Type 0
IsPointPairNotAfter p q = (p.square < q.square) ⊎ ((p.square ≡ q.square) × ((p.from < q.from) ⊎ ((p.from ≡ q.from) × (p.to ≤ q.to))))

abbrev pub ArePointPairsInOrder : List PointPair → Type 0
ArePointPairsInOrder pairs = (i j : ℕ) (p q : PointPair) → i < j → slice_get pairs i ≡ Some p → slice_get pairs j ≡ Some q → IsPointPairNotAfter p q

-- no coordinate is greater than the number
abbrev pub IsPointWithin : ℕ → Pt → Type 0
IsPointWithin reach p = (nat_abs p.x ≤ reach) × (nat_abs p.y ≤ reach)

abbrev pub IsReach : Map → ℕ → Type 0
IsReach m reach = (k : ℕ) → k < length (points_of m) → IsPointWithin reach (place m k)
