use Rattle.std.proofs.Common.{arith, below_more, ◌≡◌, ◌≤◌, Some, sym, ap, ◌∙◌}
use Rattle.std.specs.Prelude.{slice_get}
use Rattle.sight_names.specs.declared.limits.TheConstants.{RIGHT_END}
use Rattle.sight_names.specs.declared.names.EndAt.{EndAt}
use Rattle.block_evidence.proofs.Pairs.{end_at_place}
use Rattle.block_evidence.proofs.hulls.first_left.Goals as goal
use Rattle.math_base.proofs.Options.{some_is_same}

pub loop-k-preserved : goal.loop-k-preserved
loop-k-preserved c = below_more (λ k. (e : EndAt) → slice_get c.args.ends.now k ≡ Some e → RIGHT_END ≤ e.code) c.loop-k.k c.loop-k.invariant (λ e g. let k = ap (λ (u : EndAt). u.code) (some_is_same c.index-ends-k.result e (sym (end_at_place c.args.ends.now c.loop-k.k c.index-ends-k.result c.loop-k-test.true c.index-ends-k.is) ∙ g)) in let l = c.if-end-lt-RIGHT_END.false in omega (arith, k, l))

pub returns-then-end-lt-RIGHT_END : goal.returns-then-end-lt-RIGHT_END
returns-then-end-lt-RIGHT_END c = record { some = record { code = c.if-end-lt-RIGHT_END.true; place = c.loop-k.k; is = end_at_place c.args.ends.now c.loop-k.k c.index-ends-k.result c.loop-k-test.true c.index-ends-k.is }; none = tt }

pub returns : goal.returns
returns c = record { some = tt; none = λ k h. c.loop-k.invariant k (omega (arith, h)) }
