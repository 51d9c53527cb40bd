use Rattle.std.proofs.Common.{get_or, arith}
use Rattle.std.proofs.lemmas.Option.{slice_get-get_or}
use Rattle.sight_names.specs.Map.{map_of}
use Rattle.sight_names.proofs.Lists.{contains_of_get}
use Rattle.triangulate.specs.IncidentSegments.Kept.{edges_of}
use Rattle.triangulate.specs.GreedySegments.Pairs.{pair_edge}
use Rattle.triangulate.proofs.GreedySegments.SoFar.{try_none, try_next, try_all, grown}
use Rattle.triangulate.proofs.GreedySegments.Ordering.{any_pair}
use Rattle.triangulate.proofs.GreedySegments.Measured.{pair_bar, pair_within}
use Rattle.triangulate.proofs.greedy_segments.rounds.keep_clear_pairs.Goals as goal

pub loop-pair-init : goal.loop-pair-init
loop-pair-init c = record {
  points = c.requires.points;
  extents = c.requires.extents;
  kept = λ f k. k;
  tried = try_none (map_of c.args.plan.now) c.args.pairs.now (edges_of c.args.incident.now.segments);
}

pub keep_if_clear-requires-clause-order : goal.keep_if_clear-requires-clause-order
keep_if_clear-requires-clause-order c =
    let at = slice_get-get_or c.args.pairs.now c.loop-pair.pair-index any_pair c.loop-pair-test.true in
    (c.requires.pairs (get_or c.args.pairs.now c.loop-pair.pair-index any_pair) (contains_of_get c.args.pairs.now (get_or c.args.pairs.now c.loop-pair.pair-index any_pair) c.loop-pair.pair-index at)).0

pub keep_if_clear-requires-clause-within : goal.keep_if_clear-requires-clause-within
keep_if_clear-requires-clause-within c =
    let at = slice_get-get_or c.args.pairs.now c.loop-pair.pair-index any_pair c.loop-pair-test.true in
    pair_within c.args.plan.now c.requires.plan (pair_edge (get_or c.args.pairs.now c.loop-pair.pair-index any_pair)) (c.requires.pairs (get_or c.args.pairs.now c.loop-pair.pair-index any_pair) (contains_of_get c.args.pairs.now (get_or c.args.pairs.now c.loop-pair.pair-index any_pair) c.loop-pair.pair-index at))

pub loop-pair-preserved : goal.loop-pair-preserved
loop-pair-preserved c =
    let p = get_or c.args.pairs.now c.loop-pair.pair-index any_pair in
    let at = slice_get-get_or c.args.pairs.now c.loop-pair.pair-index any_pair c.loop-pair-test.true in
    let pair = c.requires.pairs p (contains_of_get c.args.pairs.now p c.loop-pair.pair-index at) in
    let keeps = c.in_ok-keep_if_clear.ensures.keeps in
    record {
      points = c.in_ok-keep_if_clear.ensures.points;
      extents = c.in_ok-keep_if_clear.ensures.extents;
      kept = λ f k. grown (map_of c.args.plan.now) (pair_edge p) (edges_of c.loop-pair.incident.segments) _ keeps f (c.loop-pair.invariant.kept f k);
      tried = try_next (map_of c.args.plan.now) c.args.pairs.now c.loop-pair.pair-index p (edges_of c.args.incident.now.segments) (edges_of c.loop-pair.incident.segments) _ at c.requires.order pair (pair_bar c.args.plan.now c.requires.plan (pair_edge p) pair) keeps c.loop-pair.invariant.tried;
    }

pub returns-clause-keeps : goal.returns-clause-keeps
returns-clause-keeps c = try_all (map_of c.args.plan.now) c.args.pairs.now c.loop-pair.pair-index (edges_of c.args.incident.now.segments) (edges_of c.loop-pair.incident.segments) (omega (arith, c.loop-pair-test.false)) c.loop-pair.invariant.kept c.loop-pair.invariant.tried
