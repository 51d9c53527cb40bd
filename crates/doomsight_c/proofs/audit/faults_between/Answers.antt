use Rattle.std.proofs.Common.{arith}
use Rattle.doomsight_c.proofs.audit.faults_between.Goals as goal

pub faces_of-requires : goal.faces_of-requires
faces_of-requires c = c.requires.0 (let e = c.if-clashes-eq0.true in omega arith)
