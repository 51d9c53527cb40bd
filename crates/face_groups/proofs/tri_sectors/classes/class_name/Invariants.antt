use Rattle.face_groups.proofs.TriSectors.Forests.{IsOnWay}
use Rattle.face_groups.proofs.tri_sectors.classes.class_name.Given as goal

abbrev pub invariant-loop-parents : goal.invariant-loop-parents
invariant-loop-parents l = IsOnWay l.initial.parents l.parents l.k l.at

abbrev pub decreases-loop-parents : goal.decreases-loop-parents
decreases-loop-parents l = l.at
