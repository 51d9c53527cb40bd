use Rattle.std.proofs.Common.{◌≤◌, length}
use Rattle.mesh_shape.proofs.SweepRules.{AreFairFrom}
use Rattle.mesh_shape.proofs.rules.is_fair_to_all.Given as goal

abbrev pub invariant-loop-k : goal.invariant-loop-k
invariant-loop-k l = record { within : l.k ≤ length l.spans; fair : AreFairFrom l.plan l.spans l.t l.k }

abbrev pub decreases-loop-k : goal.decreases-loop-k
decreases-loop-k l = l.k
