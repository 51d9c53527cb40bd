use Rattle.std.proofs.Common.{◌≡◌, drop}
use Rattle.map_picture.specs.Frame.{widened_by}
use Rattle.map_picture.proofs.frame.widened_by.Given as goal

abbrev pub invariant-loop-p : goal.invariant-loop-p
invariant-loop-p l = widened_by l.all (drop l.p-index l.points) ≡ widened_by l.initial.all l.points
