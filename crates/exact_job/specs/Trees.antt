-- What walks of all groups make, and the trees that they are where nothing is found.
use Rattle.std.specs.Prelude.{◌≡◌, ◌≢◌, ℕ, List, [], Option, None, Some, All, length, map, slice_get, false}
use Rattle.sight_names.specs.declared.names.PairRay.{PairRay}
use Rattle.sight_names.specs.declared.names.Triangle.{Triangle}
use Rattle.sight_names.specs.Plan.{PlanParts}
use Rattle.sight_names.specs.Map.{map_of}
use Rattle.block_evidence.specs.declared.sight_tree.Node.{Node}
use Rattle.mesh_shape.specs.declared.half_edges.table.HalfEdge.{HalfEdge}
use Rattle.cert_checker.specs.declared.tree_judge.roots.Root.{Root}
use Rattle.portal_walk.specs.Nodes.{IsNodeAnswered}
use Rattle.pair_budget.specs.declared.results.Reached.{Reached}
use Rattle.gate_floods.specs.Bits.{is_joined}
use Rattle.gate_floods.specs.declared.gate_masks.masks.Row.{Row}
use Rattle.gate_floods.specs.RowJudge.Masks.{MaskRows}
use Rattle.row_trees.specs.declared.made.Made.{Made}
use Rattle.row_trees.specs.Made.{AreFoundSeen}
use Rattle.row_trees.specs.Walkable.{Ground, IsWalkable}
use Rattle.certificates.specs.declared.cert_exact.cert.ExactParts.{ExactParts}
use Rattle.exact_checker.specs.Owning.{IsOwnedBit, KnowsOwning, OwningParts}
use Rattle.exact_checker.specs.Rows.{AreJoinedRows}
use Rattle.exact_checker.specs.Judged.{AnswersFor, AreTreesOf, TellsTrees}

-- ---- walks

-- what the walk of a group with what it owns made
pub record IsWalkOf (p : PlanParts) (xs : List HalfEdge) (ms : MaskRows) (roots : List Root) (firsts : List (Option ℕ)) (known : OwningParts) (f : ℕ) (w : Made) : Type 0 where
  pub nodes : All IsNodeAnswered w.nodes
  pub answer : w.found.items ≡ [] → AnswersFor xs ms roots firsts known f w.nodes None
  pub seen : AreFoundSeen p f w.found.items
  pub owned : (rays : List PairRay) → KnowsOwning rays known → All (λ (r : Reached). IsOwnedBit rays known.components known.count f r.to) w.found.items

-- the same of each group
pub record AreWalksOf (p : PlanParts) (xs : List HalfEdge) (ms : MaskRows) (roots : List Root) (firsts : List (Option ℕ)) (known : OwningParts) (walks : List Made) : Type 0 where
  pub one_each : length walks ≡ known.count
  pub each : (f : ℕ) (w : Made) → slice_get walks f ≡ Some w → IsWalkOf p xs ms roots firsts known f w

-- what may be made of the walk of each group, over whatever ground it can be walked
abbrev pub IsOwnedWalk : List HalfEdge → MaskRows → List Root → List (Option ℕ) → OwningParts → ℕ → Made → Type 0
IsOwnedWalk xs ms roots firsts known f w = (g : Ground) → IsWalkable g xs roots firsts f → IsWalkOf g.plan xs ms roots firsts known f w

-- some walk found something
pub record HasFound (walks : List Made) : Type 0 where
  pub f : ℕ
  pub walk : Made
  pub there : slice_get walks f ≡ Some walk
  pub some : walk.found.items ≢ []

-- none found anything
abbrev pub HasFoundNothing : List Made → Type 0
HasFoundNothing walks = (f : ℕ) (w : Made) → slice_get walks f ≡ Some w → w.found.items ≡ []

abbrev pub nodes_of_walks : List Made → List (List Node)
nodes_of_walks walks = map (λ (w : Made). w.nodes) walks

-- A walk of each group of a map of groups with these triangles, half-edges and joined rows. Whatever was found wasn't joined. If
-- nothing was, their nodes are trees: in every certificate that has all these, each tree keeps from all that its group owns.
pub record AreRowWalks (p : PlanParts) (ts : List Triangle) (xs : List HalfEdge) (joined : List Row) (walks : List Made) : Type 0 where
  pub one_each : length walks ≡ p.sectors
  pub nodes : (f : ℕ) (w : Made) → slice_get walks f ≡ Some w → All IsNodeAnswered w.nodes
  pub seen : (f : ℕ) (w : Made) → slice_get walks f ≡ Some w → AreFoundSeen p f w.found.items
  pub unjoined : (rays : List PairRay) → AreJoinedRows p.sectors rays joined → (f : ℕ) (w : Made) → slice_get walks f ≡ Some w → All (λ (r : Reached). is_joined rays f r.to ≡ false) w.found.items
  pub keep : HasFoundNothing walks → (c : ExactParts) → AreTreesOf c p ts xs joined (nodes_of_walks walks) → TellsTrees (map_of p) c None

-- ---- trees

-- each tree has nodes as walks answer them
abbrev pub AreNodesOfWalks : List (List Node) → Type 0
AreNodesOfWalks trees = (f : ℕ) (ns : List Node) → slice_get trees f ≡ Some ns → All IsNodeAnswered ns

-- A tree for each group of a map of groups with these triangles, half-edges and joined rows: in every certificate that has all
-- these, each tree keeps from all that its group owns.
pub record AreTreesFor (p : PlanParts) (ts : List Triangle) (xs : List HalfEdge) (joined : List Row) (trees : List (List Node)) : Type 0 where
  pub one_each : length trees ≡ p.sectors
  pub nodes : AreNodesOfWalks trees
  pub keep : (c : ExactParts) → AreTreesOf c p ts xs joined trees → TellsTrees (map_of p) c None
