use Rattle.std.proofs.Common.{ℕ, arith}
use Rattle.std.proofs.lemmas.Option.{slice_get-get_or}
use Rattle.cert_checker.specs.Pairs.{IsJoinedWithOne, AreSomeJoined}
use Rattle.cert_checker.proofs.Each.{at_place, each_more, each_all, no_true, refuses}
use Rattle.cert_checker.proofs.pairs.are_some_joined.Goals as goal

pub is_joined_with_one-requires-clause-one : goal.is_joined_with_one-requires-clause-one
is_joined_with_one-requires-clause-one g c = c.requires.ones _ (at_place c.args.ones.now c.loop-one.one-index _ (slice_get-get_or c.args.ones.now c.loop-one.one-index 0 c.loop-one-test.true))

pub loop-one-preserved : goal.loop-one-preserved
loop-one-preserved g c = each_more (λ (f : ℕ). ¬ IsJoinedWithOne (g.J.Joins.joins c.args.by.now) f c.args.others.now) c.args.ones.now c.loop-one.one-index _ (slice_get-get_or c.args.ones.now c.loop-one.one-index 0 c.loop-one-test.true) c.loop-one.invariant (refuses c.is_joined_with_one.result _ c.is_joined_with_one.ensures c.if-is_joined_with_one.false)

pub returns : goal.returns
returns g c = no_true (AreSomeJoined (g.J.Joins.joins c.args.by.now) c.args.ones.now c.args.others.now) (λ w. each_all (λ (f : ℕ). ¬ IsJoinedWithOne (g.J.Joins.joins c.args.by.now) f c.args.others.now) c.args.ones.now c.loop-one.one-index (omega arith) c.loop-one.invariant w.0 w.1 w.2)
