use Rattle.std.specs.Prelude.{◌≡◌, ℕ, ◌+◌, Some, All}
use Rattle.portal_walk.specs.Nodes.{IsNodeAnswered}
use Rattle.gate_floods.specs.RowJudge.Masks.{rows_of}
use Rattle.row_trees.specs.Going.{IsGoing}
use Rattle.row_trees.specs.Left.{row_walk_left}
use Rattle.row_trees.specs.Made.{IsMadeSoFar}
use Rattle.row_trees.specs.Thinner.{IsPresent}
use Rattle.row_trees.specs.Walkable.{Ground, IsWalkable, row_scene_of}
use Rattle.row_trees.proofs.walk.walk_by_row.Given as goal

abbrev pub invariant-nodes : goal.invariant-nodes
invariant-nodes l = record {
  made : IsMadeSoFar l.terrain.edges.now (rows_of l.masks) l.row l.terrain.roots.now.roots.items l.terrain.roots.now.first.items l.source l.walk.judged l.made;
  answered : All IsNodeAnswered l.made.nodes;
  going : (ground : Ground) → IsWalkable ground l.terrain.edges.now l.terrain.roots.now.roots.items l.terrain.roots.now.first.items l.source
      → IsGoing (row_scene_of l.terrain l.masks) (record { ground = ground; source = l.source; row = l.row }) l.walk.root l.walk.ends l.walk.judged l.made.found.items (row_walk_left (row_scene_of l.terrain l.masks) l.walk.judged + 1);
  present : (k : ℕ) → l.walk.judged.follow.asked ≡ Some k → IsPresent l.masks.width l.walk.judged;
}

abbrev pub decreases-nodes : goal.decreases-nodes
decreases-nodes l = row_walk_left (row_scene_of l.terrain l.masks) l.walk.judged
