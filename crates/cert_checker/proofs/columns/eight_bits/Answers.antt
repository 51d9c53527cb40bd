use Rattle.std.proofs.Common.{◌∙◌, arith}
use Rattle.cert_checker.proofs.EightColumns.{eight}
use Rattle.cert_checker.proofs.columns.eight_bits.Goals as goal

pub returns : goal.returns
returns c = λ i l. eight c.args.bytes.now c.args.bit i c.from-low.result c.from-high.result l (let e = c.from-low.ensures in let h = c.byte_at.type_inv in omega (arith, e, h)) (c.from-low.ensures ∙ c.byte_at.ensures) (c.from-high.ensures ∙ c.byte_at-2.ensures)
