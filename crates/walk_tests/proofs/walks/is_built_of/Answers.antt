use Rattle.std.proofs.Common.{refl}
use Rattle.walk_tests.proofs.walks.is_built_of.Goals as goal

pub build_table-requires-clause-audited : goal.build_table-requires-clause-audited
build_table-requires-clause-audited g c κs within = c.in-Ok.ensures.sound.0 refl
