use Rattle.std.proofs.Common.{get_or, arith}
use Rattle.std.proofs.lemmas.Option.{slice_get-get_or}
use Rattle.sight_names.proofs.Lists.{contains_of_get}
use Rattle.pair_answer.proofs.Joins.{joined_all, joined_more}
use Rattle.pair_answer.proofs.places.joined.Goals as goal

pub is_joined-requires-clause-group : goal.is_joined-requires-clause-group
is_joined-requires-clause-group c = let x = get_or c.args.groups.now c.loop-i.i 0 in c.requires.groups x (contains_of_get c.args.groups.now x c.loop-i.i (slice_get-get_or c.args.groups.now c.loop-i.i 0 c.loop-i-test.true))

pub loop-i-preserved : goal.loop-i-preserved
loop-i-preserved c = joined_more c.args.components.now c.args.groups.now c.args.others.now c.loop-i.i (get_or c.args.groups.now c.loop-i.i 0) c.loop-i.kept.items c.add.new.numbers.items c.is_joined.result (slice_get-get_or c.args.groups.now c.loop-i.i 0 c.loop-i-test.true) c.loop-i.invariant c.is_joined.ensures c.in_ok-add.ensures

pub returns : goal.returns
returns c = joined_all c.args.components.now c.args.groups.now c.args.others.now c.loop-i.i c.loop-i.kept.items (omega arith) c.loop-i.invariant
