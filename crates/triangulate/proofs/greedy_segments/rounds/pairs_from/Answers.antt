use Rattle.std.proofs.Common.{◌+◌, ℕ, List, length, get_or, Contains, sym, subst, arith}
use Rattle.std.proofs.lemmas.List.{take_rest}
use Rattle.std.proofs.lemmas.Option.{slice_get-get_or}
use Rattle.sight_names.specs.Map.{map_of}
use Rattle.sight_names.proofs.Lists.{contains_of_get}
use Rattle.triangulate.specs.GreedySegments.Pairs.{AreNumbers, AddsPairs, ArePairsFrom}
use Rattle.triangulate.proofs.GreedySegments.Listed.{between_none, between_next, between_end, numbers_behind, greater_behind}
use Rattle.triangulate.proofs.greedy_segments.rounds.pairs_from.Goals as goal

pub add_pairs-requires-clause-from : goal.add_pairs-requires-clause-from
add_pairs-requires-clause-from c = c.requires.unsaturated.within (get_or c.args.unsaturated.now c.loop-at.at 0) (contains_of_get c.args.unsaturated.now (get_or c.args.unsaturated.now c.loop-at.at 0) c.loop-at.at (slice_get-get_or c.args.unsaturated.now c.loop-at.at 0 (omega (arith, c.loop-at-test.true, c.requires.within))))

pub add_pairs-requires-clause-later : goal.add_pairs-requires-clause-later
add_pairs-requires-clause-later c = subst (AreNumbers (length c.args.plan.now.points)) (sym (take_rest c.args.unsaturated.now (c.loop-at.at + 1))) (numbers_behind (length c.args.plan.now.points) (c.loop-at.at + 1) c.args.unsaturated.now c.requires.unsaturated)

pub add_pairs-requires-clause-behind : goal.add_pairs-requires-clause-behind
add_pairs-requires-clause-behind c = λ k h. greater_behind (length c.args.plan.now.points) c.loop-at.at (get_or c.args.unsaturated.now c.loop-at.at 0) c.args.unsaturated.now c.requires.unsaturated (slice_get-get_or c.args.unsaturated.now c.loop-at.at 0 (omega (arith, c.loop-at-test.true, c.requires.within))) k (subst (λ (ks : List ℕ). Contains ks k) (take_rest c.args.unsaturated.now (c.loop-at.at + 1)) h)

pub loop-at-init : goal.loop-at-init
loop-at-init c = subst (ArePairsFrom (map_of c.args.plan.now) c.args.unsaturated.now c.args.low c.args.high c.args.begin c.args.begin) (sym c.new-pairs.ensures.items) (between_none (map_of c.args.plan.now) c.args.unsaturated.now c.args.low c.args.high c.args.begin)

pub loop-at-preserved : goal.loop-at-preserved
loop-at-preserved c =
    let from = get_or c.args.unsaturated.now c.loop-at.at 0 in
    between_next (map_of c.args.plan.now) (length c.args.plan.now.points) c.loop-at.at from c.args.low c.args.high c.args.begin c.args.unsaturated.now c.loop-at.pairs.items c.add_pairs.new.pairs.items c.requires.unsaturated (slice_get-get_or c.args.unsaturated.now c.loop-at.at 0 (omega (arith, c.loop-at-test.true, c.requires.within)))
    (subst (λ (ks : List ℕ). AddsPairs (map_of c.args.plan.now) from ks c.args.low c.args.high c.loop-at.pairs.items c.add_pairs.new.pairs.items) (take_rest c.args.unsaturated.now (c.loop-at.at + 1)) c.in_ok-add_pairs.ensures) c.loop-at.invariant

pub returns : goal.returns
returns c = between_end (map_of c.args.plan.now) c.args.unsaturated.now c.args.low c.args.high c.args.begin c.args.end c.loop-at.at c.loop-at.pairs.items (omega (arith, c.loop-at-test.false)) c.loop-at.invariant
