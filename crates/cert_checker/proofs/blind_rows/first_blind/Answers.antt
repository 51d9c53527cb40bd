use Rattle.std.proofs.Common.{ℕ, arith}
use Rattle.cert_checker.proofs.Each.{refuses}
use Rattle.cert_checker.proofs.Rows.{below_more}
use Rattle.cert_checker.proofs.blind_rows.first_blind.Goals as goal

pub loop-a-init : goal.loop-a-init
loop-a-init g c = λ b l. absurd (omega (arith, l))

pub returns-then-sees_none-clause-before : goal.returns-then-sees_none-clause-before
returns-then-sees_none-clause-before g c = c.loop-a.invariant

pub loop-a-preserved : goal.loop-a-preserved
loop-a-preserved g c = below_more (λ (b : ℕ). ¬ g.R.PairRules.is_blind c.args.rules.now b) c.loop-a.a c.loop-a.invariant (refuses c.sees_none.result _ c.sees_none.ensures.blind c.if-sees_none.false)

pub returns-clause-before : goal.returns-clause-before
returns-clause-before g c = λ b l. c.loop-a.invariant b (let h = c.loop-a-test.false in omega (arith, l, h))
