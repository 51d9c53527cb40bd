use Rattle.std.proofs.lemmas.Result.{err_from_is_err_and}
use Rattle.sight_names.specs.Groups.{HasClosedFaces}
use Rattle.sight_names.specs.Map.{map_of}
use Rattle.map_answers.specs.Groups.{seen}
use Rattle.map_answers.proofs.Closed.{gives_flaw}
use Rattle.draw_answers.specs.Pair.{PairCall}
use Rattle.draw_answers.proofs.Pairs.{gives_pair}
use Rattle.draw_answers.proofs.pair.draw_pair.Goals as goal

pub returns-in_err-groups-clause-judged : goal.returns-in_err-groups-clause-judged
returns-in_err-groups-clause-judged c = λ out.
    let p = err_from_is_err_and c.from_residual.result c.from_residual.ensures.1 in
    let m = map_of c.args.plan.now in
    rw (p.1, p.2) (gives_flaw m (¬ HasClosedFaces m) (PairCall c.args.map.now out m c.args.ask c.args.pair) c.in_err-groups.field-0.0 c.in_err-groups.ensures.refusals)

pub returns-in-Ok-clause-judged : goal.returns-in-Ok-clause-judged
returns-in-Ok-clause-judged c = λ out.
    let e = c.in_ok-groups.ensures in
    gives_pair c.args.map.now (map_of c.args.plan.now) c.args.pair (seen c.in_ok-groups.groups) c.args.ask out e.lines e.groups.over c.in-Ok.answer c.in-Ok.ensures c.drawn_answer_of.result c.drawn_answer_of.ensures.shown
