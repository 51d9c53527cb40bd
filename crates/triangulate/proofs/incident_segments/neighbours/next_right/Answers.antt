use Rattle.std.proofs.Common.{◌-◌, ◌∙◌, arith, sym, subst}
use Rattle.sight_names.specs.Map.{map_of}
use Rattle.triangulate.specs.IncidentSegments.Next.{IsBehindRight}
use Rattle.triangulate.proofs.IncidentSegments.AroundPoint.{walk_start, walk_step, walk_end, walk_neighbour}
use Rattle.triangulate.proofs.IncidentSegments.KeptEdges.{any_segment}
use Rattle.triangulate.proofs.IncidentSegments.FirstOnSide.{none_held_right, best_right_kept, best_right_here, best_right_held, next_right_of}
use Rattle.triangulate.proofs.incident_segments.neighbours.next_right.Goals as goal

pub loop-at-init : goal.loop-at-init
loop-at-init c = record {
  walk = walk_start c.args.incident.now.segments c.args.a _ _ c.last-at.ensures;
  within = tt;
  held = none_held_right _ c.args.incident.now.segments c.args.a c.place-from.result c.place-to.result;
}

pub loop-at-preserved : goal.loop-at-preserved
loop-at-preserved c = record {
  walk = walk_step c.args.incident.now.segments c.args.a (λ w. IsBehindRight (map_of c.args.plan.now) c.place-from.result c.place-to.result c.loop-at.best w) _ c.loop-at.at (c.loop-at.at - 1) _ c.loop-at.invariant.walk (omega arith)
      (λ v h. best_right_kept (map_of c.args.plan.now) c.args.incident.now.segments c.args.a c.place-from.result c.place-to.result c.loop-at.best c.first_right-best.result c.other.result v c.loop-at.invariant.held c.first_right-best.ensures.best h)
      (λ v e. subst (IsBehindRight (map_of c.args.plan.now) c.place-from.result c.place-to.result c.first_right-best.result) (c.other.ensures.end any_segment ∙ sym (e any_segment)) (best_right_here (map_of c.args.plan.now) c.place-from.result c.place-to.result c.loop-at.best c.first_right-best.result c.other.result c.first_right-best.ensures.best))
      c.earlier-at.ensures;
  within = c.first_right-best.ensures.within;
  held = best_right_held (map_of c.args.plan.now) c.args.incident.now.segments c.args.a c.place-from.result c.place-to.result c.loop-at.best c.first_right-best.result c.other.result c.loop-at.invariant.held
      (walk_neighbour c.args.incident.now.segments c.args.a _ c.loop-at.at (c.loop-at.at - 1) c.other.result c.loop-at.invariant.walk (omega arith) c.other.ensures.end) c.first_right-best.ensures.best;
}

pub returns-clause-first : goal.returns-clause-first
returns-clause-first c = next_right_of (map_of c.args.plan.now) c.args.incident.now.segments c.args.a c.args.b c.place-from.result c.place-to.result c.loop-at.best c.place-from.ensures.place c.place-to.ensures.place c.loop-at.invariant.held
    (λ x s. walk_end c.args.incident.now.segments c.args.a (λ w. IsBehindRight (map_of c.args.plan.now) c.place-from.result c.place-to.result c.loop-at.best w) c.loop-at.at c.loop-at.invariant.walk (omega arith) x s)
