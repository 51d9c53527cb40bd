use Rattle.std.proofs.Common.{◌≡◌, length}
use Rattle.certificates.specs.CertExact.Pieces.{trees_left}
use Rattle.certificates.proofs.cert_exact.tree_pieces.TreePieces.refill.Given as goal

abbrev pub invariant-loop-self : goal.invariant-loop-self
invariant-loop-self l = trees_left (record { nodes = l.self-inside.nodes.now; trees = l.self-inside.trees.now }) ≡ trees_left l.fn.self

abbrev pub decreases-loop-self : goal.decreases-loop-self
decreases-loop-self l = length l.self-inside.trees.now
