-- Pairs of points of a plan, and their lengths.
use Rattle.std.proofs.Common.{ℕ, ◌<◌, length, sym, subst, arith}
use Rattle.sight_names.specs.Map.{map_of}
use Rattle.sight_names.specs.Plan.{PlanParts, IsPlan}
use Rattle.sight_names.specs.Points.{Edge}
use Rattle.sight_names.specs.Greedy.{IsPointPair, EdgesMeetAtEnds}
use Rattle.sight_names.proofs.PlanNumbers.{count_of_plan}
use Rattle.mesh_shape.proofs.RuleLemmas.{places_differ}
use Rattle.triangulate.proofs.GreedySegments.SoFar.{bars_itself}

pub pair_within : (p : PlanParts) → IsPlan p → (e : Edge) → IsPointPair (map_of p) e → e.to < length p.points
pair_within p is e pair = subst (λ (n : ℕ). e.to < n) (count_of_plan p is) pair.1

pub pair_of : (p : PlanParts) → IsPlan p → (e : Edge) → e.from < e.to → e.to < length p.points → IsPointPair (map_of p) e
pair_of p is e order within = (order, subst (λ (n : ℕ). e.to < n) (sym (count_of_plan p is)) within)

pub pair_bar : (p : PlanParts) → IsPlan p → (e : Edge) → IsPointPair (map_of p) e → ¬ EdgesMeetAtEnds (map_of p) e e
pair_bar p is e pair = bars_itself (map_of p) e (places_differ p is e.from e.to (let a = pair.0 in let b = pair_within p is e pair in omega arith) (pair_within p is e pair) (λ q. let a = pair.0 in omega arith))
