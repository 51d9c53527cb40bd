use Rattle.std.proofs.Common.{ℕ, arith}
use Rattle.std.proofs.lemmas.Option.{slice_get-get_or}
use Rattle.cert_checker.specs.Pairs.{IsJoinedWithOne}
use Rattle.cert_checker.proofs.Each.{at_place, each_more, each_all, no_true, refuses}
use Rattle.cert_checker.proofs.pairs.is_joined_with_one.Goals as goal

pub are_joined-requires-clause-other : goal.are_joined-requires-clause-other
are_joined-requires-clause-other g c = c.requires.others _ (at_place c.args.others.now c.loop-other.other-index _ (slice_get-get_or c.args.others.now c.loop-other.other-index 0 c.loop-other-test.true))

pub loop-other-preserved : goal.loop-other-preserved
loop-other-preserved g c = each_more (λ (k : ℕ). ¬ g.J.Joins.joins c.args.by.now c.args.one k) c.args.others.now c.loop-other.other-index _ (slice_get-get_or c.args.others.now c.loop-other.other-index 0 c.loop-other-test.true) c.loop-other.invariant (refuses c.are_joined.result _ c.are_joined.ensures c.if-are_joined.false)

pub returns : goal.returns
returns g c = no_true (IsJoinedWithOne (g.J.Joins.joins c.args.by.now) c.args.one c.args.others.now) (λ w. each_all (λ (k : ℕ). ¬ g.J.Joins.joins c.args.by.now c.args.one k) c.args.others.now c.loop-other.other-index (omega arith) c.loop-other.invariant w.0 w.1 w.2)
