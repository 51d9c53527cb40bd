use Rattle.sight_names.specs.Map.{map_of}
use Rattle.map_answers.proofs.Noises.{missing_is_the_answer}
use Rattle.map_answers.proofs.noise.judge_pair.Goals as goal

pub returns-in-Some-clause-judged : goal.returns-in-Some-clause-judged
returns-in-Some-clause-judged c = missing_is_the_answer (map_of c.args.plan.now) c.args.dampers.now c.args.pair c.in-Some.sector c.in-Some.ensures
