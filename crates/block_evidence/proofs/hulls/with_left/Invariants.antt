use Rattle.std.proofs.Common.{ℕ, ◌<◌}
use Rattle.block_evidence.specs.Pairs.{IsConeIn, Keeps, HasAt}
use Rattle.block_evidence.proofs.hulls.with_left.Given as goal

abbrev pub invariant-loop-j : goal.invariant-loop-j
invariant-loop-j l = IsConeIn l.ends l.wide × Keeps l.cone l.wide × ((j : ℕ) → j < l.j → HasAt l.ends l.left j l.wide)
