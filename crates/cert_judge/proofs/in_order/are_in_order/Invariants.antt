use Rattle.std.proofs.Common.{ℕ, ◌<◌}
use Rattle.cert_checker.specs.Apart.{triangles_in}
use Rattle.cert_judge.specs.InOrder.{IsNextAt}
use Rattle.cert_judge.proofs.in_order.are_in_order.Given as goal

abbrev pub invariant-loop-k : goal.invariant-loop-k
invariant-loop-k l = (j : ℕ) → j < l.k → IsNextAt l.points (triangles_in l.labelled) j
