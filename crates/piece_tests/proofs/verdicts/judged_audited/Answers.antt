use Rattle.std.proofs.Common.{refl}
use Rattle.piece_tests.proofs.verdicts.judged_audited.Goals as goal

pub judged_whole-requires-clause-audited : goal.judged_whole-requires-clause-audited
judged_whole-requires-clause-audited g c κs within = c.in-Ok.ensures.sound.0 refl
