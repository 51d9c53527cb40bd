use Rattle.std.proofs.Common.{below_more}
use Rattle.sight_names.specs.Map.{map_of}
use Rattle.geom_exact.specs.declared.line_spans.Span.{Span}
use Rattle.map_audit.specs.Audit.{FineAt}
use Rattle.geom_exact.proofs.LineSpans.Sweep.{at_place}
use Rattle.map_audit.proofs.SweepLemmas.{fine_behind}
use Rattle.map_audit.proofs.is_clean_from.Goals as goal

pub returns-then-one-spans : goal.returns-then-one-spans
returns-then-one-spans c = λ t. fine_behind c.args.plan.now c.requires.plan c.args.spans.now c.args.one c.args.from c.loop-k.k _ c.requires.spans c.requires.span c.if-one-spans.true c.loop-k.invariant

pub loop-k-preserved : goal.loop-k-preserved
loop-k-preserved c = below_more _ _ c.loop-k.invariant (λ le. at_place (λ (s : Span). FineAt (map_of c.args.plan.now) c.args.one.line s.line) c.args.spans.now c.loop-k.k _ c.loop-k-test.true (c.is_clean_with.ensures c.if-not-is_clean_with.false))
