-- The kept segments after a part of the pairs has been tried.
use Rattle.std.specs.Prelude.{◌≡◌, ◌≢◌, ℕ, ◌*◌, ◌<◌, ◌≤◌, ◌⊎◌, List, [], ◌∷◌, ◌++◌, Option, Some, None, length, slice_get, Contains}
use Rattle.sight_names.specs.declared.plan.Line.{Line}
use Rattle.sight_names.specs.Map.{Map}
use Rattle.sight_names.specs.Points.{Edge, points_of}
use Rattle.sight_names.specs.Greedy.{edge_length, ComesBefore, IsPointPair, EdgesMeetAtEnds, line_edges}
use Rattle.triangulate.specs.declared.greedy_segments.rounds.PointPair.{PointPair}
use Rattle.triangulate.specs.IncidentSegments.Kept.{MeetsEach, IsCrossedBy}
use Rattle.triangulate.specs.GreedySegments.Pairs.{AreNumbers, HasEdgeOfPair, IsPairBetween, IsSquareBetween, pair_edge}

-- a line, or a member of the rest that comes before e
abbrev pub IsLineOrBefore : Map → List Edge → Edge → Edge → Type 0
IsLineOrBefore m rest e f = Contains (line_edges m) f ⊎ (Contains rest f × ComesBefore m f e)

-- the lines and then, in the order of pairs, those tried pairs that meet each earlier member at ends alone
pub record IsGreedySoFar (m : Map) (IsTried : Edge → Type 0) (kept : List Edge) : Type 0 where
  pub rest : List Edge
  pub lines_first : kept ≡ line_edges m ++ rest
  pub pairs : (e : Edge) → Contains rest e → IsPointPair m e
  pub tried : (e : Edge) → Contains rest e → IsTried e
  pub ascend : (i j : ℕ) (e f : Edge) → i < j → slice_get rest i ≡ Some e → slice_get rest j ≡ Some f → ComesBefore m e f
  pub free : (e : Edge) → Contains rest e → (f : Edge) → IsLineOrBefore m rest e f → EdgesMeetAtEnds m e f
  pub settled : (e : Edge) → IsPointPair m e → IsTried e → Contains rest e ⊎ ((f : Edge) × IsLineOrBefore m rest e f × ¬ EdgesMeetAtEnds m e f)

-- the length is less than the number
abbrev pub IsShorter : Map → ℕ → Edge → Type 0
IsShorter m high e = edge_length m e < high * high

-- no further segment ends at the point: each that would meets a kept one in more than ends
abbrev pub IsSaturated : Map → List Edge → ℕ → Type 0
IsSaturated m kept i = (j : ℕ) → j < length (points_of m) → i ≢ j → IsCrossedBy m kept (record { from = i; to = j })

-- the pair is kept behind the others, if it meets each of them at ends alone
abbrev pub KeepsIfClear : Map → Edge → List Edge → List Edge → Type 0
KeepsIfClear m e old new = (MeetsEach m old e × (new ≡ old ++ e ∷ [])) ⊎ (IsCrossedBy m old e × (new ≡ old))

-- what is kept stays kept, and where all pairs shorter than low had been tried, these have been tried too
pub record KeepsClear (m : Map) (pairs : List PointPair) (old new : List Edge) : Type 0 where
  pub kept : (f : Edge) → Contains old f → Contains new f
  pub tried : (low : ℕ) → IsGreedySoFar m (IsShorter m low) old → ((p : PointPair) → Contains pairs p → (high : ℕ) × IsPairBetween m low high p) → IsGreedySoFar m (λ e. IsShorter m low e ⊎ HasEdgeOfPair pairs e) new

-- the point is added at the end, or no further segment ends there
abbrev pub AddsIfUnsaturated : Map → List Edge → ℕ → List ℕ → List ℕ → Type 0
AddsIfUnsaturated m kept k old new = (new ≡ old ++ k ∷ []) ⊎ ((new ≡ old) × IsSaturated m kept k)

-- the line as an edge, where there is one
abbrev pub edges_of_line : Option Line → List Edge
edges_of_line None = []
edges_of_line (Some l) = record { from = l.a; to = l.b } ∷ []

-- those of the numbers, in their order, that are left: no further segment ends at the others
pub record AreUnsaturated (m : Map) (kept : List Edge) (points : ℕ) (numbers left : List ℕ) : Type 0 where
  pub ordered : AreNumbers points left
  pub among : (k : ℕ) → Contains left k → Contains numbers k
  pub closed : (k : ℕ) → Contains numbers k → Contains left k ⊎ IsSaturated m kept k

-- the pair is added at the end, or a kept segment shares more with it than an end of both
abbrev pub AddsIfUncrossed : Map → List Edge → PointPair → List PointPair → List PointPair → Type 0
AddsIfUncrossed m kept p old new = (new ≡ old ++ p ∷ []) ⊎ ((new ≡ old) × IsCrossedBy m kept (pair_edge p))

-- some of the pairs; each of the others is crossed
pub record LeavesUncrossed (m : Map) (kept : List Edge) (pairs left : List PointPair) : Type 0 where
  pub among : (p : PointPair) → Contains left p → Contains pairs p
  pub others : (p : PointPair) → Contains pairs p → Contains left p ⊎ IsCrossedBy m kept (pair_edge p)

-- the pairs of these numbers whose lengths are in the range, but for some that a kept segment crosses
pub record AreUncrossed (m : Map) (kept : List Edge) (numbers : List ℕ) (low high : ℕ) (pairs : List PointPair) : Type 0 where
  pub each : (p : PointPair) → Contains pairs p → IsPairBetween m low high p
  pub all : (e : Edge) → Contains numbers e.from → Contains numbers e.to → e.from < e.to → IsSquareBetween low high (edge_length m e) → HasEdgeOfPair pairs e ⊎ IsCrossedBy m kept e

-- the same of those numbers that stand from begin on and before end, each with those behind it
pub record AreUncrossedFrom (m : Map) (kept : List Edge) (numbers : List ℕ) (low high begin end : ℕ) (pairs : List PointPair) : Type 0 where
  pub each : (p : PointPair) → Contains pairs p → IsPairBetween m low high p
  pub all : (k from to : ℕ) → begin ≤ k → k < end → slice_get numbers k ≡ Some from → Contains numbers to → from < to → IsSquareBetween low high (edge_length m (record { from = from; to = to })) → HasEdgeOfPair pairs (record { from = from; to = to }) ⊎ IsCrossedBy m kept (record { from = from; to = to })
