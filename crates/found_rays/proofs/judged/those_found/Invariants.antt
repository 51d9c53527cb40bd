use Rattle.found_rays.specs.Rays.{AreFoundInOrder}
use Rattle.found_rays.proofs.judged.those_found.Given as goal

abbrev pub invariant-loop-one : goal.invariant-loop-one
invariant-loop-one l = AreFoundInOrder l.over.plan l.kept.items
