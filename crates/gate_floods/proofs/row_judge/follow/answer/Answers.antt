use Rattle.std.proofs.Common.{◌≡◌, ◌<◌, length, false, sym, subst}
use Rattle.std.specs.Prelude.{IfOk}
use Rattle.block_evidence.specs.declared.sight_tree.Node.{Node}
use Rattle.gate_floods.specs.RowJudge.Masks.{rows_of}
use Rattle.gate_floods.specs.RowJudge.Path.{HasRefused}
use Rattle.gate_floods.proofs.row_judge.follow.answer.Goals as goal

pub returns-in-Open-clause-refused : goal.returns-in-Open-clause-refused
returns-in-Open-clause-refused c = λ first. subst (λ (n : Node). IfOk c.answer_open.result (λ b. b ≡ false → c.args.follow.now.depth < length c.args.path.now → HasRefused c.args.terrain.now.edges.now (rows_of c.args.masks.now) c.args.source first c.args.terrain.now.roots.now.roots.items n c.args.path.now c.args.rows.now.items c.args.waits.now.items c.args.follow.now)) (sym c.in-Open.is) (c.answer_open.ensures.refused first)
