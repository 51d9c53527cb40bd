use Rattle.std.proofs.Common.{◌≤◌, length}
use Rattle.map_picture.specs.Chains.{AreChainsFrom}
use Rattle.map_picture.proofs.chains.link.Given as goal

abbrev pub invariant-loop-k : goal.invariant-loop-k
invariant-loop-k l = record {
  within : l.k ≤ length l.labels;
  entered : AreChainsFrom l.labels l.k l.first l.next;
}

abbrev pub decreases-loop-k : goal.decreases-loop-k
decreases-loop-k l = l.k
