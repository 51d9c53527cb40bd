use Rattle.std.proofs.Common.{rules}
use Rattle.std.proofs.lemmas.Result.{err_from_is_err_and}
use Rattle.shelf_io.proofs.FakesLemmas.{more_at, more_new, same_at}
use Rattle.shelf_io.proofs.memory.extend.Goals as goal

pub returns-in_err-extend_from_slice-in-Some-clause-err :
    goal.returns-in_err-extend_from_slice-in-Some-clause-err
returns-in_err-extend_from_slice-in-Some-clause-err c =
    let p = err_from_is_err_and c.from_residual.result c.from_residual.ensures.1 in
    rw p.1 (same_at c.args.files.now.items c.args.name.now c.in-Some.place c.index_mut.result.now c.extend_from_slice.new.self (search rules) c.index_mut.ensures.value (search rules))

pub returns-in_ok-extend_from_slice-in-Some-clause-ok :
    goal.returns-in_ok-extend_from_slice-in-Some-clause-ok
returns-in_ok-extend_from_slice-in-Some-clause-ok c =
    more_at c.args.files.now.items c.args.name.now c.in-Some.place c.index_mut.result.now c.extend_from_slice.new.self c.args.more.now (search rules) c.index_mut.ensures.value (search rules)

pub returns-in_ok-push-in-None-clause-ok : goal.returns-in_ok-push-in-None-clause-ok
returns-in_ok-push-in-None-clause-ok c =
    rw c.in_ok-push-in-None.ensures.items (more_new c.args.files.now.items c.args.name.now _ c.args.more.now (search rules) (search rules) (search rules))
