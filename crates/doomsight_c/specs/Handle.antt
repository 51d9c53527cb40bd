-- What the handle of a kept build owns.
use Rattle.std.specs.Prelude.{Option, Some, None}
use base.Fml.{Fml, ftrue, ffalse}
use denote.RawPtr.{Ptr, block_ptr, null_ptr}
use Rattle.std.specs.declared.alloc.Global.{Global}
use Rattle.std.specs.contracts.impls.GlobalAllocator.TheImpl.{ghosts}
use Rattle.std_alloc.specs.Box.Ownership.{box_owns}
use Rattle.doomsight_c.specs.declared.kept.Kept.{Kept}
use Rattle.doomsight_c.specs.contracts.kept.Kept.{the_row}

-- nothing where it is null, and else what is kept, with the right to free it
abbrev pub handle_owns : Global → Ptr → Option Kept → Fml
handle_owns alloc null_ptr None = ftrue
handle_owns alloc (block_ptr b o) (Some kept) = box_owns (ghosts.dealloc_token alloc) the_row (block_ptr b o) kept
handle_owns alloc at value = ffalse
