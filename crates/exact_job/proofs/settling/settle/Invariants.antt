use Rattle.std.proofs.Common.{◌*◌, ◌-◌, length}
use Rattle.exact_job.specs.Rounds.{IsSettlingRound}
use Rattle.exact_job.proofs.settling.settle.Given as goal

abbrev pub invariant-rounds : goal.invariant-rounds
invariant-rounds g l = IsSettlingRound l.over.plan l.over.mesh.triangles l.edges l.round

abbrev pub decreases-rounds : goal.decreases-rounds
decreases-rounds g l = l.over.plan.sectors * l.over.plan.sectors - length l.round.rays.items
