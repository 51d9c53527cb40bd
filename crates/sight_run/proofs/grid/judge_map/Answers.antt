use Rattle.std.proofs.Common.{sym, ◌∙◌}
use Rattle.std.proofs.lemmas.Result.{err_from_is_err_and}
use Rattle.sight_names.specs.Map.{map_of}
use Rattle.sight_run.proofs.Gridding.{gives_line, gives_unmade}
use Rattle.sight_run.proofs.grid.judge_map.Goals as goal

pub returns-in_err-built-clause-called : goal.returns-in_err-built-clause-called
returns-in_err-built-clause-called g c =
    let p = err_from_is_err_and c.from_residual.result c.from_residual.ensures.1 in
    rw (p.1, p.2) (gives_unmade c.args.n c.args.method (map_of c.args.plan.now) _ c.in_err-built.ensures.built)

pub verdict_of-requires-clause-audited : goal.verdict_of-requires-clause-audited
verdict_of-requires-clause-audited g c = c.in_ok-built.ensures.built.fit.ends

pub verdict_of-requires-clause-sizes : goal.verdict_of-requires-clause-sizes
verdict_of-requires-clause-sizes g c = c.in_ok-built.ensures.built.sizes ∙ sym c.has_sizes_of_map.ensures

pub returns-in-Ok-Yes-clause-called : goal.returns-in-Ok-Yes-clause-called
returns-in-Ok-Yes-clause-called g c =
    gives_line c.args.n c.args.method (map_of c.args.plan.now) c.in_ok-built.built c.in_ok-built.ensures.built
    c.in-Ok-Yes.field-0 c.in-Ok-Yes.ensures c.in-Ok-Yes.field-0-0 c.in-Ok-Yes.field-0-is c.counted_line.result c.counted_line.ensures.line c.counted_line.ensures.refusals
