use Rattle.std.proofs.Common.{ℕ, Contains, get_or, false, refl, arith}
use Rattle.std.proofs.lemmas.Option.{slice_get-get_or}
use Rattle.math_base.proofs.Bools.{not_both_values}
use Rattle.pair_answer.proofs.Numbers.{none_all, none_next}
use Rattle.pair_answer.proofs.places.share_one.Goals as goal

pub loop-i-preserved : goal.loop-i-preserved
loop-i-preserved c = none_next c.loop-i.i c.args.these.now (λ (x : ℕ). Contains c.args.those.now x) (get_or c.args.these.now c.loop-i.i 0) (slice_get-get_or c.args.these.now c.loop-i.i 0 c.loop-i-test.true) c.loop-i.invariant (λ h. not_both_values c.has.result (c.has.ensures.1 h) c.if-has.false)

pub returns : goal.returns
returns c = (λ t. absurd (not_both_values false t refl), λ s. absurd (none_all c.loop-i.i c.args.these.now (λ (x : ℕ). Contains c.args.those.now x) (omega arith) c.loop-i.invariant s.0 s.1 s.2))
