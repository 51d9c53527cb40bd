use Rattle.std.proofs.Common.{ℕ, ◌+◌, ◌%◌, arith}
use Rattle.std.proofs.lemmas.Option.{slice_get-get_or}
use Rattle.cert_checker.specs.declared.tree_judge.trees.Wait.{Wait}
use Rattle.cert_checker.proofs.tree_judge.trees.last_waiting.Goals as goal

abbrev none : Wait
none = record { way = 0; before = 0 }

pub returns-clause-some : goal.returns-clause-some
returns-clause-some c =
    let place : ℕ = (c.args.waiting + 18446744073709551615) % 18446744073709551616 in
    (place, omega arith, slice_get-get_or c.args.waits.now place none (omega arith))
