use Rattle.std.proofs.Common.{arith}
use Rattle.cert_checker.proofs.BlindRows.{columns_on}
use Rattle.cert_checker.proofs.blind_rows.columns_set.Goals as goal

pub loop-row-init : goal.loop-row-init
loop-row-init g c = λ a b blind l h k. absurd (c.first_blind-first.ensures.before a (omega (arith, h, k)) blind)

pub loop-row-preserved : goal.loop-row-preserved
loop-row-preserved g c = let next = c.first_clear-before in columns_on (g.R.PairRules.is_blind c.args.rules.now) c.args.table.now c.first_blind-first.result c.loop-row.row c.loop-row.before next.result c.first_blind-first.ensures.before c.loop-row.invariant next.ensures.within next.ensures.set

pub returns : goal.returns
returns g c = λ a b blind l h k. c.loop-row.invariant a b blind l h (let e = c.sectors-sectors.ensures in let f = c.loop-row-test.false in omega (arith, k, e, f))
