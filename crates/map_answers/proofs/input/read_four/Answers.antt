use Rattle.std.proofs.Common.{◌∙◌}
use Rattle.map_answers.proofs.Dampers.{one_each}
use Rattle.map_answers.proofs.Linedefs.{linedefs_fit}
use Rattle.map_answers.proofs.input.read_four.Goals as goal

pub dampers-requires : goal.dampers-requires
dampers-requires c = (linedefs_fit c.args.reading _ _ _ _ c.in_ok-plan.plan c.in_ok-plan.ensures.map).0

pub returns-in-Ok-clause-each : goal.returns-in-Ok-clause-each
returns-in-Ok-clause-each c = one_each c.args.reading _ _ _ _ c.in_ok-plan.plan c.of.result c.in_ok-plan.ensures.map (c.of.ensures ∙ c.in-Ok.ensures)
