use Rattle.std.proofs.Common.{◌+◌, ◌*◌, List, subst, arith, Contains}
use Rattle.std.proofs.lemmas.Result.{IfOk-weaker}
use Rattle.sight_names.specs.Map.{map_of}
use Rattle.triangulate.specs.declared.greedy_segments.rounds.PointPair.{PointPair}
use Rattle.triangulate.specs.declared.greedy_segments.parts.TheConstants.{PART}
use Rattle.triangulate.specs.IncidentSegments.Kept.{edges_of}
use Rattle.triangulate.specs.GreedySegments.Pairs.{pair_edge}
use Rattle.triangulate.specs.GreedySegments.Rounds.{AreUncrossedFrom, LeavesUncrossed}
use Rattle.triangulate.proofs.GreedySegments.Joining.{uncrossed_from}
use Rattle.triangulate.proofs.GreedySegments.Measured.{pair_within}
use Rattle.triangulate.proofs.greedy_segments.parts.PairPartsTasks.work.Goals as goal

pub uncrossed-requires-clause-pairs : goal.uncrossed-requires-clause-pairs
uncrossed-requires-clause-pairs c = λ p k.
    let pair = (c.in_ok-pairs.ensures.each p (subst (λ (ps : List PointPair). Contains ps p) c.as_slice.ensures.value k)).pair in
    (pair.0, pair_within c.args.self.now.plan.now c.lines.ensures.plan (pair_edge p) pair)

pub returns : goal.returns
returns c =
    let w = c.args.self.now in
    let m = map_of w.plan.now in
    let kept = edges_of w.incident.now.segments in
    IfOk-weaker c.uncrossed.result (λ v. LeavesUncrossed m kept c.as_slice.result.now v.items) (λ v. AreUncrossedFrom m kept w.unsaturated.now w.low w.high (c.args.number * PART) (c.args.number * PART + PART) v.items)
    (λ v left. uncrossed_from m kept w.unsaturated.now w.low w.high (c.args.number * PART) _ (c.args.number * PART + PART) c.in_ok-pairs.pairs.items v.items (λ k lt within. omega (arith, lt, within, c.min.ensures)) c.in_ok-pairs.ensures (subst (λ (ps : List PointPair). LeavesUncrossed m kept ps v.items) c.as_slice.ensures.value left)) c.uncrossed.ensures
