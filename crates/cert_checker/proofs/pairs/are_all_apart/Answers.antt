use Rattle.std.proofs.Common.{ℕ, arith}
use Rattle.std.proofs.lemmas.Option.{slice_get-get_or}
use Rattle.cert_checker.specs.Pairs.{facts_of, IsApartFromAll, AreAllApart}
use Rattle.cert_checker.proofs.Each.{at_place, each_more, each_all, no_true, yes_true, refuses}
use Rattle.cert_checker.proofs.pairs.are_all_apart.Goals as goal

pub is_apart_from_all-requires-clause-one : goal.is_apart_from_all-requires-clause-one
is_apart_from_all-requires-clause-one c = c.requires.ones _ (at_place c.args.ones.now c.loop-one.one-index _ (slice_get-get_or c.args.ones.now c.loop-one.one-index 0 c.loop-one-test.true))

pub returns-then-not-is_apart_from_all : goal.returns-then-not-is_apart_from_all
returns-then-not-is_apart_from_all c = no_true (AreAllApart (facts_of c.args.known) c.args.ones.now c.args.others.now) (λ all. refuses c.is_apart_from_all.result _ c.is_apart_from_all.ensures c.if-not-is_apart_from_all.true (all _ (at_place c.args.ones.now c.loop-one.one-index _ (slice_get-get_or c.args.ones.now c.loop-one.one-index 0 c.loop-one-test.true))))

pub loop-one-preserved : goal.loop-one-preserved
loop-one-preserved c = each_more (λ (f : ℕ). IsApartFromAll (facts_of c.args.known) f c.args.others.now) c.args.ones.now c.loop-one.one-index _ (slice_get-get_or c.args.ones.now c.loop-one.one-index 0 c.loop-one-test.true) c.loop-one.invariant (c.is_apart_from_all.ensures.0 c.if-not-is_apart_from_all.false)

pub returns : goal.returns
returns c = yes_true (AreAllApart (facts_of c.args.known) c.args.ones.now c.args.others.now) (each_all (λ (f : ℕ). IsApartFromAll (facts_of c.args.known) f c.args.others.now) c.args.ones.now c.loop-one.one-index (omega arith) c.loop-one.invariant)
