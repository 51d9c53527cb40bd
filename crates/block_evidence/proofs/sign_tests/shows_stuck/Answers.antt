use Rattle.std.proofs.Common.{subst}
use Rattle.block_evidence.specs.Stuck.{AreStuck}
use Rattle.block_evidence.proofs.Picking.{four_are}
use Rattle.block_evidence.proofs.sign_tests.shows_stuck.Goals as goal

pub returns-in-len4 : goal.returns-in-len4
returns-in-len4 c = λ h. subst AreStuck (four_are c.args.ends.now c.a-item.result c.b-item.result c.c-item.result c.d-item.result c.in-len4.len_at_least c.in-len4.len_below c.a-item.is c.b-item.is c.c-item.is c.d-item.is) (c.are_stuck.ensures h)
