use Rattle.std.proofs.Common.{arith}
use Rattle.cert_checker.proofs.Each.{refuses}
use Rattle.cert_checker.proofs.BlindRows.{set_on}
use Rattle.cert_checker.proofs.blind_rows.first_clear.Goals as goal

pub loop-at-init : goal.loop-at-init
loop-at-init g c = record { from = c.next_clear-at.ensures.range.0; set = λ a l h blind. c.next_clear-at.ensures.set a l h }

pub returns-then-sees_none-clause-set : goal.returns-then-sees_none-clause-set
returns-then-sees_none-clause-set g c = λ a l h r blind. c.loop-at.invariant.set a l h blind

pub loop-at-preserved : goal.loop-at-preserved
loop-at-preserved g c = let next = c.next_clear-at-in-loop-at in let old = c.loop-at.invariant in record {
  from = let l = next.ensures.range.0 in let m = old.from in omega (arith, l, m);
  set = set_on (g.R.PairRules.is_blind c.args.rules.now) c.args.table.now c.args.row c.args.from c.loop-at.at next.result old.set (refuses c.sees_none.result _ c.sees_none.ensures.blind c.if-sees_none.false) next.ensures.set;
}

pub returns-clause-set : goal.returns-clause-set
returns-clause-set g c = λ a l h r blind. c.loop-at.invariant.set a l (let e = c.min-end.ensures in let f = c.loop-at-test.false in omega (arith, h, r, e, f)) blind
