use Rattle.std.proofs.Common.{◌≡◌, List, Vec, Global, subst, sym}
use Rattle.std.specs.Prelude.{flat_map}
use Rattle.std.proofs.lemmas.Result.{IfOk-weaker}
use Rattle.sight_names.specs.Map.{map_of}
use Rattle.task_crew.specs.Done.{AreTasksDone}
use Rattle.triangulate.specs.declared.greedy_segments.rounds.PointPair.{PointPair}
use Rattle.triangulate.specs.IncidentSegments.Kept.{edges_of}
use Rattle.triangulate.specs.GreedySegments.Rounds.{AreUncrossed}
use Rattle.triangulate.proofs.GreedySegments.Joining.{IsPairPart, pairs_joined}
use Rattle.triangulate.proofs.greedy_segments.workers.InThreadsSegmentWorkers.find_pairs.Goals as goal

pub returns : goal.returns
returns g c =
    let m = map_of c.args.plan.now in
    let kept = edges_of c.args.incident.now.segments in
    let numbers = c.args.unsaturated.now in
    IfOk-weaker c.joined.result (λ v. v.items ≡ flat_map (λ (p : Vec PointPair Global). p.items) c.as_slice.result.now) (λ v. AreUncrossed m kept numbers c.args.low c.args.high v.items)
    (λ v e. subst (AreUncrossed m kept numbers c.args.low c.args.high) (sym e) (pairs_joined (λ (p : Vec PointPair Global). p.items) m kept numbers c.args.low c.args.high c.parts_of-count.result c.as_slice.result.now c.parts_of-count.ensures.enough
    (subst (λ (ps : List (Vec PointPair Global)). AreTasksDone (IsPairPart (λ (p : Vec PointPair Global). p.items) m kept numbers c.args.low c.args.high) c.parts_of-count.result ps) (sym c.as_slice.ensures.value) c.in_ok-parts.ensures)))
    c.joined.ensures
