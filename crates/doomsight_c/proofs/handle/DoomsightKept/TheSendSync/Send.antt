-- What a handle owns says the same to every thread.
use Rattle.std.specs.Prelude.{Option, Some, None}
use mir.Raw.{raw}
use base.Fraction.{full_share}
use base.Shift.{Keyless}
use denote.Memory.{lone}
use denote.Builtin.{RawPtr}
use denote.RawPtr.{Ptr, block_ptr, null_ptr}
use denote.Param.Send.{IsSend, owning_send, part_keyless, sendable, struct_send}
use denote.Struct.Struct.{exits_of}
use denote.Struct.Owning.{shape, fields, to}
use Rattle.std.specs.declared.alloc.Global.{Global}
use Rattle.std.proofs.alloc.Global.TheSendSync as heap
use Rattle.std.proofs.Crossing.{frees}
use Rattle.std_alloc.proofs.SendSync.{quiet}
use Rattle.doomsight_c.specs.Handle.{handle_owns}
use Rattle.doomsight_c.specs.declared.kept.Kept.{Kept}
use Rattle.doomsight_c.specs.contracts.kept.Kept as kept
use Rattle.doomsight_c.proofs.kept.Kept.TheSendSync as crossing
use Rattle.doomsight_c.specs.contracts.handle.DoomsightKept.{the_row, the_type}

keyless : (a : Global) (p : Ptr) (x : Option Kept) → Keyless (handle_owns a p x)
keyless a null_ptr None = tt
keyless a (block_ptr b o) (Some x) = (part_keyless kept.the_row crossing.the_send full_share x b o, frees.frees a (raw (lone (kept.the_row).mir)) (block_ptr b o))
keyless a null_ptr (Some x) = tt
keyless a (block_ptr b o) None = tt

pub send : IsSend the_row
send = let ps : IsSend RawPtr = search sendable in
    owning_send the_type (ps, (heap.the_field_send, tt)) (λ d. keyless d.alloc d.at d.value)
    (λ k. quiet (to the_type) (exits_of k (fields the_type)) ((struct_send (shape the_type) (ps, (heap.the_field_send, tt))).leaving k))
