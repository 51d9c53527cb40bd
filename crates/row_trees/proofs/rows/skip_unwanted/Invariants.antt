use Rattle.std.specs.Prelude.{◌≡◌}
use Rattle.gate_floods.specs.RowJudge.Masks.{rows_of}
use Rattle.row_trees.specs.Left.{row_walk_left}
use Rattle.row_trees.specs.Thinner.{IsPresent}
use Rattle.row_trees.specs.Walkable.{row_scene_of}
use Rattle.row_trees.proofs.Skipping.{HasThinned}
use Rattle.row_trees.proofs.rows.skip_unwanted.Given as goal

abbrev pub invariant-skip : goal.invariant-skip
invariant-skip l = record {
  stands : HasThinned (rows_of l.masks) l.terrain.roots.now.roots.items l.fn.walk l.walk;
  present : IsPresent l.masks.width l.walk;
  source : l.walk.source ≡ l.fn.walk.source;
}

abbrev pub decreases-skip : goal.decreases-skip
decreases-skip l = row_walk_left (row_scene_of l.terrain l.masks) l.walk
