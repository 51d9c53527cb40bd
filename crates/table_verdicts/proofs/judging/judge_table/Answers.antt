use Rattle.std.proofs.lemmas.Result.{err_from_is_err_and}
use Rattle.sight_names.specs.Map.{map_of}
use Rattle.table_verdicts.proofs.Differing.{audit_refuses, first_wrong, missing_counted, same, wrong_counted}
use Rattle.table_verdicts.proofs.judging.judge_table.Goals as goal

pub returns-in_err-built : goal.returns-in_err-built
returns-in_err-built g c =
    let p = err_from_is_err_and c.from_residual.result c.from_residual.ensures.1 in
    rw (p.1, p.2) (audit_refuses (map_of c.args.plan.now) c.args.reject.now _ c.in_err-built.ensures.built)

pub compare-compared-requires : goal.compare-compared-requires
compare-compared-requires g c = same (map_of c.args.plan.now) c.args.reject.now c.args.own.now c.in_ok-built.built c.requires.own c.in_ok-built.ensures.built

pub first_of-requires : goal.first_of-requires
first_of-requires g c = first_wrong (map_of c.args.plan.now) c.args.reject.now c.args.own.now c.in_ok-built.built c.requires.own c.in_ok-built.ensures.built _ c.compare-compared.ensures.first

pub returns : goal.returns
returns g c =
    let m = map_of c.args.plan.now in
    let is = c.in_ok-built.ensures.built in
    record {
      enough = c.requires.own.enough;
      faces = is.fit;
      wrong = wrong_counted m c.args.reject.now c.args.own.now c.in_ok-built.built c.requires.own is _ c.compare-compared.ensures.wrong;
      missing = missing_counted m c.args.reject.now c.args.own.now c.in_ok-built.built c.requires.own is _ c.compare-compared.ensures.missing;
      first = c.in_ok-first.ensures.first;
    }
