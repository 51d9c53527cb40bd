use Rattle.std.proofs.Common.{get_or}
use Rattle.std.proofs.lemmas.Option.{slice_get-get_or}
use Rattle.sight_names.specs.Map.{map_of}
use Rattle.sight_names.proofs.Lists.{contains_of_get}
use Rattle.triangulate.specs.IncidentSegments.Kept.{edges_of}
use Rattle.triangulate.proofs.GreedySegments.Ordering.{any_pair}
use Rattle.triangulate.proofs.GreedySegments.Joining.{uncrossed_more}
use Rattle.triangulate.proofs.greedy_segments.parts.uncrossed.Goals as goal

pub push_if_uncrossed-requires-clause-order : goal.push_if_uncrossed-requires-clause-order
push_if_uncrossed-requires-clause-order c =
    let p = get_or c.args.pairs.now c.loop-pair.pair-index any_pair in
    (c.requires.pairs p (contains_of_get c.args.pairs.now p c.loop-pair.pair-index (slice_get-get_or c.args.pairs.now c.loop-pair.pair-index any_pair c.loop-pair-test.true))).0

pub push_if_uncrossed-requires-clause-within : goal.push_if_uncrossed-requires-clause-within
push_if_uncrossed-requires-clause-within c =
    let p = get_or c.args.pairs.now c.loop-pair.pair-index any_pair in
    (c.requires.pairs p (contains_of_get c.args.pairs.now p c.loop-pair.pair-index (slice_get-get_or c.args.pairs.now c.loop-pair.pair-index any_pair c.loop-pair-test.true))).1

pub loop-pair-preserved : goal.loop-pair-preserved
loop-pair-preserved c = uncrossed_more (map_of c.args.plan.now) (edges_of c.args.incident.now.segments) c.args.pairs.now c.loop-pair.pair-index any_pair c.loop-pair.left.items _ c.loop-pair-test.true c.in_ok-push_if_uncrossed.ensures c.loop-pair.invariant
