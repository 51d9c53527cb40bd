use Rattle.std.proofs.Common.{sym, arith}
use Rattle.gate_floods.proofs.RowJudge.Roots.{one_skipped, root_asked, roots_ended, all_skipped}
use Rattle.gate_floods.specs.RowJudge.Masks.{rows_of}
use Rattle.gate_floods.proofs.row_judge.follow.next_root.Goals as goal

pub returns-in_default : goal.returns-in_default
returns-in_default c = λ es chain. roots_ended (rows_of c.args.masks.now) c.args.row.now c.args.roots.now.roots.items es c.loop.counter c.loop.at (c.loop.invariant es chain) (sym c.in_default.ensures)

pub returns-then-leaves : goal.returns-then-leaves
returns-then-leaves c = λ es chain. root_asked (rows_of c.args.masks.now) c.args.row.now c.args.roots.now.roots.items es c.loop.counter c.loop.at c.in-Some.found (c.loop.invariant es chain) (sym c.in-Some.ensures) (sym c.if-leaves.ensures)

pub loop-preserved : goal.loop-preserved
loop-preserved c = λ es chain. one_skipped (rows_of c.args.masks.now) c.args.row.now c.args.roots.now.roots.items es c.loop.counter c.loop.at c.in-Some.found (c.loop.invariant es chain) (sym c.in-Some.ensures) (sym c.if-leaves.ensures)

pub returns : goal.returns
returns c = λ es chain. all_skipped (rows_of c.args.masks.now) c.args.row.now c.args.roots.now.roots.items es c.loop.counter c.args.root c.loop.at chain (omega (arith, c.len-end.ensures)) (c.loop.invariant es chain)
