use Rattle.exact_checker.proofs.Fitting.{MasksBelow}
use Rattle.exact_checker.proofs.masking.by_half_edges.Given as goal

abbrev pub invariant-loop-number : goal.invariant-loop-number
invariant-loop-number l = MasksBelow l.masks l.edges l.width l.number l.places.items l.words.items
