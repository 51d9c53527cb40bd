use Rattle.std.proofs.Common.{Err}
use Rattle.map_answers.proofs.Rays.{fault_is_the_answer}
use Rattle.map_answers.proofs.ray.judge_ray.Goals as goal

pub returns-in-Err-clause-judged : goal.returns-in-Err-clause-judged
returns-in-Err-clause-judged c =
    fault_is_the_answer _ _ (Err c.in-Err.fault) c.in-Err.fault (record { sight = c.in-Err.ensures.sight; fault = c.in-Err.ensures.fault }) c.in-Err.ensures.answer
