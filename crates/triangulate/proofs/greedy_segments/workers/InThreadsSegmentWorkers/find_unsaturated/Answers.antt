use Rattle.std.proofs.Common.{◌≡◌, ℕ, List, Vec, Global, length, subst, sym}
use Rattle.std.specs.Prelude.{flat_map}
use Rattle.std.proofs.lemmas.Result.{IfOk-weaker}
use Rattle.sight_names.specs.Map.{map_of}
use Rattle.task_crew.specs.Done.{AreTasksDone}
use Rattle.triangulate.specs.IncidentSegments.Kept.{edges_of}
use Rattle.triangulate.specs.GreedySegments.Rounds.{AreUnsaturated}
use Rattle.triangulate.proofs.GreedySegments.Joining.{IsPart, points_joined}
use Rattle.triangulate.proofs.greedy_segments.workers.InThreadsSegmentWorkers.find_unsaturated.Goals as goal

pub returns-clause-left : goal.returns-clause-left
returns-clause-left g c =
    let m = map_of c.args.plan.now in
    let kept = edges_of c.args.incident.now.segments in
    let points = length c.args.plan.now.points in
    let numbers = c.args.unsaturated.now in
    IfOk-weaker c.joined.result (λ v. v.items ≡ flat_map (λ (p : Vec ℕ Global). p.items) c.as_slice.result.now) (λ v. AreUnsaturated m kept points numbers v.items)
    (λ v e. subst (AreUnsaturated m kept points numbers) (sym e) (points_joined (λ (p : Vec ℕ Global). p.items) m kept points c.parts_of-count.result numbers c.as_slice.result.now c.parts_of-count.ensures.enough c.requires.unsaturated
    (subst (λ (ps : List (Vec ℕ Global)). AreTasksDone (IsPart (λ (p : Vec ℕ Global). p.items) m kept points numbers) c.parts_of-count.result ps) (sym c.as_slice.ensures.value) c.in_ok-parts.ensures)))
    c.joined.ensures
