use Rattle.std.proofs.lemmas.Result.{err_from_is_err_and}
use Rattle.sight_names.specs.Map.{map_of}
use Rattle.doomsight_c.proofs.Saying.{answered, denied, denied_audit}
use Rattle.doomsight_c.proofs.why.answer_audited.Goals as goal

pub returns-in_err-groups-clause-refused : goal.returns-in_err-groups-clause-refused
returns-in_err-groups-clause-refused c =
    let p = err_from_is_err_and c.from_residual.result c.from_residual.ensures.1 in
    rw (p.1, p.2) (denied_audit (map_of c.args.plan.now) c.args.pair c.in_err-groups.field-0.0 c.in_err-groups.ensures.refusals)

pub returns-in-Ok-clause-answered : goal.returns-in-Ok-clause-answered
returns-in-Ok-clause-answered c =
    let a = c.args in let m = map_of a.plan.now in let faces = c.in_ok-groups.ensures.groups.over.faces in
    answered m a.ask a.pair faces (λ given h. c.answers_tell_sight.ensures a.plan.now a.ask a.pair given c.lines.ensures.plan faces h) c.in-Ok.given c.in-Ok.ensures c.of_sectors.result c.of_sectors.ensures

pub returns-in-Ok-clause-refused : goal.returns-in-Ok-clause-refused
returns-in-Ok-clause-refused c =
    let a = c.args in let m = map_of a.plan.now in let faces = c.in_ok-groups.ensures.groups.over.faces in
    denied m a.ask a.pair faces (λ given h. c.answers_tell_sight.ensures a.plan.now a.ask a.pair given c.lines.ensures.plan faces h) c.in-Ok.given c.in-Ok.ensures c.of_sectors.result c.of_sectors.ensures
