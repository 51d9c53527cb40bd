use Rattle.std.proofs.Common.{◌≡◌, drop}
use Rattle.certificates.specs.ExactParts.Left.{settled_from, settled}
use Rattle.certificates.proofs.exact_parts.trees.Trees.settle.Given as goal

abbrev pub invariant-loop-at : goal.invariant-loop-at
invariant-loop-at l = settled_from l.at (drop l.at l.self-inside.lengths.items) ≡ settled l.fn.self
