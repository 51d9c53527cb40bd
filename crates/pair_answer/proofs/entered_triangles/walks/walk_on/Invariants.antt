use Rattle.std.proofs.Common.{◌≡◌, length}
use Rattle.portal_walk.specs.Walk.{SameWalk, sequences_left}
use Rattle.pair_answer.proofs.EnteredTriangles.Walking.{MarksOver}
use Rattle.pair_answer.proofs.entered_triangles.walks.walk_on.Given as goal

abbrev pub invariant-loop-walker : goal.invariant-loop-walker
invariant-loop-walker l = record {
  walk : SameWalk l.fn.walker l.walker;
  each : length l.marks ≡ length l.walker.mesh.triangles;
  same : length l.marks ≡ length l.fn.marks;
  marked : MarksOver l.walker l.fn.budget l.left l.fn.marks l.marks;
}

abbrev pub decreases-loop-walker : goal.decreases-loop-walker
decreases-loop-walker l = sequences_left l.walker
