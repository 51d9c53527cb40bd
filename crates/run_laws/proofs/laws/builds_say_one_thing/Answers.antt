use Rattle.sight_run.proofs.OneLine.{one_thing}
use Rattle.run_laws.proofs.laws.builds_say_one_thing.Goals as goal

pub returns : goal.returns
returns c = one_thing
