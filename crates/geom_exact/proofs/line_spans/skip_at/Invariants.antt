use Rattle.geom_exact.specs.LineSpans.Spans.{IsSkip}
use Rattle.geom_exact.proofs.line_spans.skip_at.Given as goal

abbrev pub invariant-loop-j : goal.invariant-loop-j
invariant-loop-j l = IsSkip l.spans l.k l.j

abbrev pub decreases-loop-j : goal.decreases-loop-j
decreases-loop-j l = l.j
