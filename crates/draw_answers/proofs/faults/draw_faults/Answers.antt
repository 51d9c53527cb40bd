use Rattle.map_answers.specs.Groups.{seen}
use Rattle.draw_answers.proofs.Flawed.{gives_plain}
use Rattle.draw_answers.proofs.faults.draw_faults.Goals as goal

pub returns-in-Ok-clause-judged : goal.returns-in-Ok-clause-judged
returns-in-Ok-clause-judged c = λ out.
    let e = c.in-Ok.ensures in
    gives_plain c.args.plan.now e.groups.plan c.args.map.now out (seen c.in-Ok.groups) e.lines e.groups.over c.drawn_plain.result c.made.result c.drawn_plain.ensures c.made.ensures.made
