use Rattle.std.proofs.Common.{arith}
use Rattle.std.proofs.lemmas.Option.{slice_get-get_or}
use Rattle.cert_checker.specs.Pairs.{facts_of, AreShownApart, IsApartFromAll}
use Rattle.cert_checker.proofs.Each.{at_place, each_more, each_all, no_true, yes_true, refuses}
use Rattle.cert_checker.proofs.pairs.is_apart_from_all.Goals as goal

pub are_apart-requires-clause-to : goal.are_apart-requires-clause-to
are_apart-requires-clause-to c = c.requires.others _ (at_place c.args.others.now c.loop-other.other-index _ (slice_get-get_or c.args.others.now c.loop-other.other-index 0 c.loop-other-test.true))

pub returns-then-not-are_apart : goal.returns-then-not-are_apart
returns-then-not-are_apart c = no_true (IsApartFromAll (facts_of c.args.known) c.args.one c.args.others.now) (λ all. refuses c.are_apart.result _ c.are_apart.ensures c.if-not-are_apart.true (all _ (at_place c.args.others.now c.loop-other.other-index _ (slice_get-get_or c.args.others.now c.loop-other.other-index 0 c.loop-other-test.true))))

pub loop-other-preserved : goal.loop-other-preserved
loop-other-preserved c = each_more (AreShownApart (facts_of c.args.known) c.args.one) c.args.others.now c.loop-other.other-index _ (slice_get-get_or c.args.others.now c.loop-other.other-index 0 c.loop-other-test.true) c.loop-other.invariant (c.are_apart.ensures.0 c.if-not-are_apart.false)

pub returns : goal.returns
returns c = yes_true (IsApartFromAll (facts_of c.args.known) c.args.one c.args.others.now) (each_all (AreShownApart (facts_of c.args.known) c.args.one) c.args.others.now c.loop-other.other-index (omega arith) c.loop-other.invariant)
