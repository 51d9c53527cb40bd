use Rattle.std.proofs.Common.{length, ap, arith}
use Rattle.gate_floods.proofs.gate_masks.masks.kept.Goals as goal

pub keep_all-requires-clause-room : goal.keep_all-requires-clause-room
keep_all-requires-clause-room c = λ k there.
    let lt = c.requires k there in
    let room = c.in_ok-words.ensures.room in
    let len = ap length c.as_mut_slice.ensures.value in
    omega (arith, lt, room, len)
