use Rattle.std.proofs.Common.{refl}
use Rattle.walk_tests.proofs.watched.is_built.Goals as goal

pub build_exact-requires-clause-audited : goal.build_exact-requires-clause-audited
build_exact-requires-clause-audited g c κs within = c.in-Ok.ensures.sound.0 refl
