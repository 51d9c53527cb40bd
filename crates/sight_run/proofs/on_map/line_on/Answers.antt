use Rattle.map_answers.specs.SightStatus.Answer.{line_answer}
use Rattle.map_answers.specs.Views.{located_map}
use Rattle.sight_run.proofs.Reporting.{line_audit}
use Rattle.sight_run.proofs.on_map.line_on.Goals as goal

pub returns-in-Audit-clause-called : goal.returns-in-Audit-clause-called
returns-in-Audit-clause-called c =
    let x = c.in-Audit in
    rw x.is (line_audit x.wad x.map x.report (located_map c.args.input.now) (line_answer c.judge_audit.result) (rw x.is at c.requires.line) c.judge_audit.ensures.judged)

pub returns-in-Trace-clause-called : goal.returns-in-Trace-clause-called
returns-in-Trace-clause-called c = rw c.in-Trace.is (λ files heard. c.judge_trace.ensures.judged)

pub returns-in-Need-clause-called : goal.returns-in-Need-clause-called
returns-in-Need-clause-called c = rw c.in-Need.is (λ files heard. rw c.as_str.ensures at c.judge_need.ensures.judged)

pub returns-in-Why-clause-called : goal.returns-in-Why-clause-called
returns-in-Why-clause-called c = rw c.in-Why.is (λ files heard. c.judge_why.ensures.judged)
