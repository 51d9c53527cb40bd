use Rattle.std.proofs.lemmas.Result.{err_from_is_err_and}
use Rattle.sight_names.specs.Map.{map_of}
use Rattle.whole_wad.proofs.Refusing.{judged_gets, refused_build}
use Rattle.whole_wad.proofs.tables.table_of.Goals as goal

pub returns-in_err-built : goal.returns-in_err-built
returns-in_err-built g c =
    let p = err_from_is_err_and c.from_residual.result c.from_residual.ensures.1 in
    rw (p.1, p.2) (refused_build (map_of c.args.plan.now) c.args.method _ c.in_err-built.ensures.built)

pub judged-requires-clause-audited : goal.judged-requires-clause-audited
judged-requires-clause-audited g c κs within = c.in_ok-built.ensures.built.fit.ends

pub returns : goal.returns
returns g c =
    judged_gets (map_of c.args.plan.now) c.args.method c.in_ok-built.built c.judged.result c.in_ok-built.ensures.built c.judged.ensures.table c.judged.ensures.listed c.judged.ensures.refusals
