use Rattle.std.proofs.Common.{◌≡◌, map, take}
use Rattle.fault_marks.proofs.marks.points_of_tears.Given as goal

abbrev pub invariant-loop-tear : goal.invariant-loop-tear
invariant-loop-tear l = l.points.items ≡ map (λ t. t.point) (take l.tear-index l.tears)
