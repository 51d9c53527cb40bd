use Rattle.std.proofs.Common.{◌≡◌, ◌++◌, length}
use Rattle.std.specs.List.{flat_map}
use Rattle.udmf_map.specs.Lumps.{vertex_bytes}
use Rattle.udmf_map.proofs.lumps.vertexes_of.Given as goal

abbrev pub invariant-loop-rest : goal.invariant-loop-rest
invariant-loop-rest l = record { spelled : l.bytes.items ++ flat_map (vertex_bytes l.places) l.rest ≡ flat_map (vertex_bytes l.places) l.vertices }

abbrev pub decreases-loop-rest : goal.decreases-loop-rest
decreases-loop-rest l = length l.rest
