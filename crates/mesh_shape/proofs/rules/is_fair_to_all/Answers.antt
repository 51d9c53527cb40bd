use Rattle.std.proofs.Common.{◌-◌, arith}
use Rattle.mesh_shape.proofs.SweepRules.{fair_from_behind, fair_from_before, fair_from_skipped, fair_to_all}
use Rattle.mesh_shape.proofs.rules.is_fair_to_all.Goals as goal

pub loop-k-init : goal.loop-k-init
loop-k-init c = record {
  within = c.first_behind-k.ensures.within;
  fair = fair_from_behind c.args.plan.now c.requires.plan c.args.spans.now c.args.t c.band_of-band.result.greatest c.first_behind-k.result c.requires.spans c.requires.triangle c.band_of-band.ensures.second c.band_of-band.ensures.third c.first_behind-k.ensures.behind;
}

pub loop-k-preserved-then-spans-k : goal.loop-k-preserved-then-spans-k
loop-k-preserved-then-spans-k c =
    let up = c.loop-k-test.true in
    let within = c.loop-k.invariant.within in
    let skip = c.requires.skips (c.loop-k.k - 1) (omega arith) in
    let back = skip.back in
    record {
      within = omega arith;
      fair = fair_from_skipped c.args.plan.now c.requires.plan c.args.spans.now c.args.t c.loop-k.k _ _ c.requires.spans c.requires.triangle up within c.loop-k.invariant.fair c.if-spans-k.true skip;
    }

pub loop-k-preserved : goal.loop-k-preserved
loop-k-preserved c = let up = c.loop-k-test.true in let within = c.loop-k.invariant.within in
    record { within = omega arith; fair = fair_from_before c.args.plan.now c.args.spans.now c.args.t c.loop-k.k _ up within c.loop-k.invariant.fair (c.is_span_fair.ensures c.if-not-is_span_fair.false) }

pub returns : goal.returns
returns c = λ w. fair_to_all c.args.plan.now c.args.spans.now c.args.t c.loop-k.k c.requires.spans c.loop-k-test.false c.loop-k.invariant.fair
