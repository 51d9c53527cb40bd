use Rattle.std.proofs.Common.{rules, []}
use Rattle.shelf_io.proofs.FakesLemmas.{put_at, put_new}
use Rattle.shelf_io.proofs.memory.make_empty.Goals as goal

pub returns-in-Some-clause-ok : goal.returns-in-Some-clause-ok
returns-in-Some-clause-ok c =
    put_at c.args.files.now.items c.args.name.now c.in-Some.place c.index_mut.result.now c.clear.new.self [] (search rules) c.index_mut.ensures.value c.clear.ensures.items

pub returns-in_ok-push-in-None-clause-ok : goal.returns-in_ok-push-in-None-clause-ok
returns-in_ok-push-in-None-clause-ok c =
    rw c.in_ok-push-in-None.ensures.items (put_new c.args.files.now.items c.args.name.now _ [] (search rules) (search rules) (search rules))
