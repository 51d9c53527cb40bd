use Rattle.sight_names.specs.declared.names.Ask.TheVariants.{Full}
use Rattle.sight_names.specs.Map.{map_of}
use Rattle.pair_answer.specs.Answer.{IsAnswerFor}
use Rattle.pair_answer.proofs.Decision.{ok_so}
use Rattle.pair_answer.proofs.Sectors.{answers_tell}
use Rattle.table_verdicts.specs.Verdict.{ShowsSightByAnswer}
use Rattle.table_verdicts.proofs.Shows.{shows}
use Rattle.table_verdicts.proofs.sight_of_pair.answer_over.Goals as goal

pub pair_answer-requires : goal.pair_answer-requires
pair_answer-requires c = let o = c.requires.groups.over in record { groups = record { faces = o.faces; groups = o.are; grouped = o.is; mesh = o.mesh; labelled = o.labelled; points = c.requires.groups.points } }

pub returns-clause-shows : goal.returns-clause-shows
returns-clause-shows c =
    let m = map_of c.args.plan.now in
    ok_so c.pair_answer.result (IsAnswerFor m Full c.args.pair) ShowsSightByAnswer
    (λ given h. shows m c.args.pair c.requires.row c.requires.column c.requires.sees given h (answers_tell c.args.plan.now Full c.args.pair given c.requires.groups.plan c.requires.groups.over.faces h))
    c.pair_answer.ensures.answer
