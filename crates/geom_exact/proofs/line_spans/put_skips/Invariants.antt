use Rattle.geom_exact.specs.LineSpans.Spans.{AreSkipsBelow}
use Rattle.geom_exact.proofs.line_spans.put_skips.Given as goal

abbrev pub invariant-loop-k : goal.invariant-loop-k
invariant-loop-k l = AreSkipsBelow l.spans l.skips l.k
