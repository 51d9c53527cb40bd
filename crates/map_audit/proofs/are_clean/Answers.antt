use Rattle.std.proofs.Common.{◌+◌, below_more, arith}
use Rattle.sight_names.specs.Map.{map_of}
use Rattle.geom_exact.specs.declared.line_spans.Span.{Span}
use Rattle.map_audit.specs.Audit.{FineFrom}
use Rattle.geom_exact.proofs.LineSpans.Sweep.{at_place}
use Rattle.map_audit.proofs.SweepLemmas.{sound_of_sweep}
use Rattle.map_audit.proofs.are_clean.Goals as goal

pub loop-k-preserved : goal.loop-k-preserved
loop-k-preserved c = below_more _ _ c.loop-k.invariant (at_place (λ (s : Span). FineFrom (map_of c.args.plan.now) s.line c.args.spans.now (c.loop-k.k + 1)) c.args.spans.now c.loop-k.k _ c.loop-k-test.true (c.is_clean_from.ensures c.if-not-is_clean_from.false))

pub returns : goal.returns
returns c = λ t. sound_of_sweep c.args.plan.now c.args.spans.now c.loop-k.k c.requires.spans (omega arith) c.loop-k.invariant
