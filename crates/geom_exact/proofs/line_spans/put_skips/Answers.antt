use Rattle.std.proofs.Common.{arith}
use Rattle.geom_exact.proofs.LineSpans.Sweep.{skips_more}
use Rattle.geom_exact.proofs.line_spans.put_skips.Goals as goal

pub loop-k-preserved : goal.loop-k-preserved
loop-k-preserved c = skips_more c.args.spans.now c.loop-k.skips c.loop-k.k c.skip_at.result (let e = c.loop-k.auto.skips in let f = c.requires.each in let h = c.loop-k-test.true in omega arith) c.loop-k.invariant c.skip_at.ensures

pub returns : goal.returns
returns c = λ k lt. c.loop-k.invariant k (let h = c.loop-k-test.false in omega arith)
