use Rattle.std.proofs.Common.{◌≡◌, slice_index, bit_and, arith}
use Rattle.std.proofs.lemmas.Nat.{and_le_l}
use Rattle.gate_floods.proofs.RowJudge.Bits.{they_meet, no_bit_left}
use Rattle.gate_floods.proofs.row_judge.words.meet_at.Goals as goal

pub returns-then-row-place-ne0 : goal.returns-then-row-place-ne0
returns-then-row-place-ne0 c =
    let row = c.args.row.now in
    let mask = c.args.mask.now in
    let k = c.args.place in
    λ _. they_meet row mask k (λ e. let z : bit_and (slice_index row k) (slice_index mask k) ≡ 0 = no_bit_left (bit_and (slice_index row k) (slice_index mask k)) (slice_index row k) (and_le_l (slice_index row k) (slice_index mask k)) (omega (arith, c.type_inv.row k)) e in omega (arith, z, c.if-row-place-ne0.true))
