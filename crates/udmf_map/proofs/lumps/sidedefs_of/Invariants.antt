use Rattle.std.proofs.Common.{◌≡◌, ◌++◌, length}
use Rattle.std.specs.List.{flat_map}
use Rattle.udmf_map.specs.Lumps.{sidedef_bytes}
use Rattle.udmf_map.proofs.lumps.sidedefs_of.Given as goal

abbrev pub invariant-loop-rest : goal.invariant-loop-rest
invariant-loop-rest l = record { spelled : l.bytes.items ++ flat_map sidedef_bytes l.rest ≡ flat_map sidedef_bytes l.sides }

abbrev pub decreases-loop-rest : goal.decreases-loop-rest
decreases-loop-rest l = length l.rest
