use Rattle.std.proofs.Common.{◌≡◌, ◌-◌, arith, refl, sym, ◌∙◌, subst}
use Rattle.std.proofs.lemmas.Bool.{false≢true}
use Rattle.triangulate.specs.declared.incident_segments.segments.Segment.{Segment}
use Rattle.triangulate.specs.IncidentSegments.Neighbours.{IsNeighbour}
use Rattle.triangulate.proofs.IncidentSegments.AroundPoint.{walk_start, walk_step, walk_end, walk_neighbour}
use Rattle.triangulate.proofs.incident_segments.neighbours.are_joined.Goals as goal

pub loop-at-init : goal.loop-at-init
loop-at-init c = walk_start c.args.incident.now.segments c.args.u (λ w. ¬ (w ≡ c.args.v)) _ c.last-at.ensures

pub returns-then-other-v : goal.returns-then-other-v
returns-then-other-v c = (λ h. subst (IsNeighbour c.args.incident.now.segments c.args.u) c.if-other-v.true (walk_neighbour c.args.incident.now.segments c.args.u _ c.loop-at.at (c.loop-at.at - 1) c.other.result c.loop-at.invariant (omega arith) c.other.ensures.end), λ h. refl)

pub loop-at-preserved : goal.loop-at-preserved
loop-at-preserved c = walk_step c.args.incident.now.segments c.args.u (λ w. ¬ (w ≡ c.args.v)) (λ w. ¬ (w ≡ c.args.v)) c.loop-at.at (c.loop-at.at - 1) _ c.loop-at.invariant (omega arith) (λ v h. h) (λ v e f. let d : Segment = record { from = 0; to = 0 } in c.if-other-v.false (c.other.ensures.end d ∙ sym (e d) ∙ f)) c.earlier-at.ensures

pub returns : goal.returns
returns c = (λ h. absurd (false≢true h), λ s. absurd (walk_end c.args.incident.now.segments c.args.u (λ w. ¬ (w ≡ c.args.v)) c.loop-at.at c.loop-at.invariant (omega arith) c.args.v s refl))
