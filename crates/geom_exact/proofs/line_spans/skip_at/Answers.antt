use Rattle.std.proofs.Common.{◌≡◌, ◌-◌, subst, arith}
use Rattle.geom_exact.specs.LineSpans.Spans.{IsSkip}
use Rattle.geom_exact.proofs.LineSpans.Sweep.{skip_none, skip_on}
use Rattle.geom_exact.proofs.line_spans.skip_at.Goals as goal

pub loop-j-init : goal.loop-j-init
loop-j-init c = skip_none c.args.spans.now c.args.k

pub loop-j-preserved : goal.loop-j-preserved
loop-j-preserved c = let back = c.loop-j.invariant.back in let place = c.requires.place in let up = c.loop-j-test.true in
    skip_on c.args.spans.now c.args.k c.loop-j.j _ _ c.loop-j.invariant up (omega arith) place c.if-spans-k.false (c.requires.earlier (c.loop-j.j - 1) (omega arith))

pub returns : goal.returns
returns c = let e : c.loop-j.j ≡ 0 = (let h = c.loop-j-test.false in omega arith) in subst (IsSkip c.args.spans.now c.args.k) e c.loop-j.invariant
