use Rattle.std.proofs.Common.{length, arith}
use Rattle.std.proofs.lemmas.Option.{slice_get-get_or}
use Rattle.exact_checker.proofs.JoinedRows.{none_joined, ray_more, all_joined}
use Rattle.exact_checker.proofs.joining.join_all.Goals as goal

pub loop-one-init : goal.loop-one-init
loop-one-init c = none_joined (length c.args.rows.now) c.args.rays.now c.args.rows.now c.requires.own

pub loop-one-preserved : goal.loop-one-preserved
loop-one-preserved c =
    let at = slice_get-get_or c.args.rays.now c.loop-one.one-index _ c.loop-one-test.true in
    ray_more (length c.args.rows.now) c.loop-one.one-index c.args.rays.now _ at (c.requires.within c.loop-one.one-index _ at) c.loop-one.rows c.add_at.new.rows c.add_at-in-loop-one.new.rows c.loop-one.invariant c.add_at.ensures c.add_at-in-loop-one.ensures

pub returns : goal.returns
returns c = all_joined (length c.args.rows.now) c.loop-one.one-index c.args.rays.now c.loop-one.rows (omega arith) c.loop-one.invariant
