-- What is made: nodes while nothing is found, and else sectors with sight rays.
use Rattle.std.specs.Prelude.{◌≡◌, ◌≢◌, ℕ, ◌<◌, List, [], Option, Some, All, slice_get, true}
use Rattle.sight_names.specs.Map.{map_of}
use Rattle.sight_names.specs.Plan.{PlanParts}
use Rattle.sight_names.specs.Ray.{IsSightRay}
use Rattle.mesh_shape.specs.declared.half_edges.table.HalfEdge.{HalfEdge}
use Rattle.cert_checker.specs.declared.tree_judge.roots.Root.{Root}
use Rattle.pair_budget.specs.declared.results.Reached.{Reached}
use Rattle.pair_budget.specs.Walked.{AreReached}
use Rattle.gate_floods.specs.RowJudge.Masks.{MaskRows}
use Rattle.gate_floods.specs.RowJudge.Words.{is_in}
use Rattle.gate_floods.specs.declared.row_judge.walk.RowWalk.{RowWalk}
use Rattle.gate_floods.specs.RowJudge.Judged.{tree_with, IsTreeWalkedInRow, IsWholeFrom}
use Rattle.row_trees.specs.declared.made.Made.{Made}

module _ (xs : List HalfEdge) (ms : MaskRows) (row : List ℕ) (roots : List Root) (firsts : List (Option ℕ)) (source : ℕ) where
  -- if nothing was found so far, all nodes have answered, and the judge's walk stands behind them
  abbrev pub IsMadeSoFar : RowWalk → Made → Type 0
  IsMadeSoFar w made = made.found.items ≡ [] → IsTreeWalkedInRow xs ms row roots firsts (tree_with source made.nodes) w

  -- if nothing was found, the nodes answer for all that is asked
  abbrev pub AreNodesMade : Made → Type 0
  AreNodesMade made = made.found.items ≡ [] → IsWholeFrom xs ms row roots firsts (tree_with source made.nodes)

-- each is another sector of the map, reached by a sight ray from the source, and none is there twice
pub record AreFoundSeen (p : PlanParts) (source : ℕ) (found : List Reached) : Type 0 where
  pub reached : AreReached p source found
  pub sight : All (λ (r : Reached). IsSightRay (map_of p) r.ray source r.to) found

-- each is another sector than the source that the row has, and none is there twice
pub record AreWanted (row : List ℕ) (source : ℕ) (found : List Reached) : Type 0 where
  pub each : All (λ (r : Reached). (is_in row r.to ≡ true) × (r.to ≢ source)) found
  pub once : (i j : ℕ) (r s : Reached) → i < j → slice_get found i ≡ Some r → slice_get found j ≡ Some s → r.to ≢ s.to
