use Rattle.std.proofs.Common.{◌∙◌, arith}
use Rattle.cert_checker.proofs.EightColumns.{put_more}
use Rattle.cert_checker.proofs.columns.put_columns.Goals as goal

pub loop-row-init : goal.loop-row-init
loop-row-init c = λ b i l h k. absurd (omega (arith, l, h))

pub loop-row-preserved : goal.loop-row-preserved
loop-row-preserved c = put_more c.args.table.now c.args.first c.loop-row.row c.in_row.result c.loop-row.bytes (let l = c.loop-row-test.true in let e = c.sectors-row-end.ensures in let len = c.loop-row.auto.bytes in let all = c.requires in omega (arith, l, e, len, all)) c.loop-row.invariant c.in_row.ensures

pub returns : goal.returns
returns c = record {
  len = c.loop-row.auto.bytes ∙ c.requires;
  bits = λ b i l h k. c.loop-row.invariant b i l (let e = c.sectors-row-end.ensures in let f = c.loop-row-test.false in omega (arith, h, e, f)) k;
}
