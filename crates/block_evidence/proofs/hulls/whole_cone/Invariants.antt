use Rattle.std.proofs.Common.{ℕ, ◌<◌}
use Rattle.block_evidence.specs.Pairs.{IsConeIn, HasAllAt}
use Rattle.block_evidence.proofs.hulls.whole_cone.Given as goal

abbrev pub invariant-loop-i : goal.invariant-loop-i
invariant-loop-i l = IsConeIn l.ends l.wide × ((i : ℕ) → i < l.i → HasAllAt l.ends i l.wide)
