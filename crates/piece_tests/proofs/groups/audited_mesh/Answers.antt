use Rattle.std.proofs.Common.{refl}
use Rattle.piece_tests.proofs.groups.audited_mesh.Goals as goal

pub greedy_mesh-requires : goal.greedy_mesh-requires
greedy_mesh-requires c = record { audited = c.in-Ok.ensures.sound.0 refl }
