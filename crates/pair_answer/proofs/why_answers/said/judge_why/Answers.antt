use Rattle.std.proofs.lemmas.Result.{err_from_is_err_and}
use Rattle.sight_names.specs.Map.{map_of}
use Rattle.map_answers.specs.SightStatus.Answer.{line_answer}
use Rattle.pair_answer.proofs.WhyAnswers.Saying.{gives_audit, gives_said}
use Rattle.pair_answer.proofs.why_answers.said.judge_why.Goals as goal

pub returns-in_err-groups-clause-judged : goal.returns-in_err-groups-clause-judged
returns-in_err-groups-clause-judged c =
    let p = err_from_is_err_and c.from_residual.result c.from_residual.ensures.1 in
    rw (p.1, p.2) (gives_audit (map_of c.args.plan.now) c.args.ask c.args.pair c.in_err-groups.field-0.0 c.in_err-groups.ensures.refusals)

pub returns-in-Ok-clause-judged : goal.returns-in-Ok-clause-judged
returns-in-Ok-clause-judged c = gives_said (map_of c.args.plan.now) c.args.ask c.args.pair c.in-Ok.answer (line_answer c.said.result) c.in_ok-groups.ensures.groups.over.faces c.in-Ok.ensures c.said.ensures.said
