use Rattle.std.proofs.Common.{◌+◌, ◌*◌, ◌<◌, ◌∙◌, arith}
use Rattle.sight_names.specs.Table.{table_bit}
use Rattle.map_answers.specs.Counts.{is_pair_set, set_from}
use Rattle.map_answers.proofs.Counting.{goes_on_no, goes_on_yes, test_is}
use Rattle.map_answers.proofs.counts.count_from.Goals as goal
use Rattle.map_answers.proofs.counts.count_from.Goals.{then-rejects, else-rejects}

pub loop-b-init : goal.loop-b-init
unfolding set_from
loop-b-init c = (omega arith, omega arith)

pub loop-b-preserved : goal.loop-b-preserved
loop-b-preserved c =
    let within : c.loop-b.b < c.args.table.now.n = omega (arith, c.sectors-b-end.ensures) in
    let bit = test_is c.rejects.result (table_bit c.args.table.now.bytes (c.args.a * c.args.table.now.n + c.loop-b.b)) c.rejects.ensures in
    elim c.if-rejects.branch [
      | then-rejects w ↦ (goes_on_yes (is_pair_set c.args.table.now c.args.a) c.loop-b.b c.args.table.now.n c.loop-b.count c.if-rejects.count _ within (bit ∙ w.if-rejects.true) w.count-is c.loop-b.invariant.0, omega arith)
      | else-rejects w ↦ (goes_on_no (is_pair_set c.args.table.now c.args.a) c.loop-b.b c.args.table.now.n c.loop-b.count c.if-rejects.count _ within (bit ∙ w.if-rejects.false) w.count-is c.loop-b.invariant.0, omega arith)
    ]
