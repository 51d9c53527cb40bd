use Rattle.std.proofs.Common.{◌≡◌, slice_index, bit_and, sym, arith}
use Rattle.std.proofs.lemmas.Nat.{and_le_l}
use Rattle.gate_floods.proofs.RowJudge.Bits.{they_meet, they_dont, no_bit_left}
use Rattle.gate_floods.proofs.row_judge.words.meet.Goals as goal

pub returns-then-row-k-ne0 : goal.returns-then-row-k-ne0
returns-then-row-k-ne0 c =
    let row = c.args.row.now in
    let mask = c.args.mask.now in
    let k = c.loop-k.k in
    sym (they_meet row mask k (λ e. let z : bit_and (slice_index row k) (slice_index mask k) ≡ 0 = no_bit_left (bit_and (slice_index row k) (slice_index mask k)) (slice_index row k) (and_le_l (slice_index row k) (slice_index mask k)) (omega (arith, c.type_inv.row k)) e in omega (arith, z, c.if-row-k-ne0.true)))

pub returns : goal.returns
returns c = sym (they_dont c.args.row.now c.args.mask.now c.loop-k.k c.loop-k.invariant (let e : c.loop-k.k ≡ c.min-k-end.result = omega arith in omega (arith, e, c.min-k-end.ensures)))
