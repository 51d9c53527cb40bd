use Rattle.std.proofs.Common.{rules, arith, to_z-of_z}
use Rattle.block_evidence.proofs.Crossing.{crosses_up_by, crosses_down_by}
use Rattle.block_evidence.proofs.sign_tests.do_cross.Goals as goal

pub returns-then-is_between : goal.returns-then-is_between
returns-then-is_between c = λ h. crosses_up_by c.args.p c.args.q c.args.r c.args.s _ _ _ _ c.fourth_turn-of_q.result (search rules) (search rules) (search rules) (search rules) c.fourth_turn-of_q.ensures.value (grind (arith, to_z-of_z)) (c.is_between.ensures c.if-is_between.true) (c.is_between-then-is_between.ensures h)

pub returns-then-is_between-2 : goal.returns-then-is_between-2
returns-then-is_between-2 c = λ h. crosses_down_by c.args.p c.args.q c.args.r c.args.s _ _ _ _ c.fourth_turn-of_q.result (search rules) (search rules) (search rules) (search rules) c.fourth_turn-of_q.ensures.value (grind (arith, to_z-of_z)) (c.is_between-then-of_r-of_s.ensures c.if-is_between-2.true) (c.is_between-then-is_between-2.ensures h)
