-- Rounds of walks, each with more rays than the one before.
use Rattle.std.specs.Prelude.{◌≡◌, ℕ, ◌<◌, List, Some, All, Contains, length, slice_get}
use Rattle.sight_names.specs.declared.names.PairRay.{PairRay}
use Rattle.sight_names.specs.declared.names.Triangle.{Triangle}
use Rattle.sight_names.specs.Plan.{PlanParts}
use Rattle.mesh_shape.specs.declared.half_edges.table.HalfEdge.{HalfEdge}
use Rattle.pair_budget.specs.declared.results.Reached.{Reached}
use Rattle.pair_budget.specs.PairRays.{toward}
use Rattle.row_trees.specs.declared.made.Made.{Made}
use Rattle.row_trees.specs.Made.{AreFoundSeen}
use Rattle.exact_checker.specs.Rows.{AreJoinedRows}
use Rattle.exact_job.specs.declared.settling.Round.{Round}
use Rattle.found_rays.specs.Rays.{AreFoundInOrder, IsFoundRay}
use Rattle.exact_job.specs.Trees.{AreRowWalks, HasFound}

-- over a map of groups with these triangles and half-edges: rays in order, the rows of what they join, and a walk of each group
pub record IsSettlingRound (p : PlanParts) (ts : List Triangle) (xs : List HalfEdge) (r : Round) : Type 0 where
  pub rays : AreFoundInOrder p r.rays.items
  pub joined : AreJoinedRows p.sectors r.rays.items r.joined.items
  pub walks : AreRowWalks p ts xs r.joined.items r.walks.items

-- a ray for each group that a walk found is there too, and else only what was there
pub record AreRaysNoted (walks : List Made) (old new : List PairRay) : Type 0 where
  pub kept : (r : PairRay) → Contains old r → Contains new r
  pub noted : (f : ℕ) (w : Made) (r : Reached) → slice_get walks f ≡ Some w → Contains w.found.items r → Contains new (toward f r)
  pub found : (p : PlanParts) → ((f : ℕ) (w : Made) → slice_get walks f ≡ Some w → AreFoundSeen p f w.found.items) → All (IsFoundRay p) old → All (IsFoundRay p) new

-- found rays in order; more than the round had, if its walks found something
pub record HasMore (p : PlanParts) (r : Round) (rays : List PairRay) : Type 0 where
  pub in_order : AreFoundInOrder p rays
  pub more : HasFound r.walks.items → length r.rays.items < length rays
