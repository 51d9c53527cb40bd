use Rattle.std.proofs.Common.{ℕ, ◌-◌, sym, subst, ◌∙◌, arith}
use Rattle.std.proofs.lemmas.Bool.{false≢true}
use Rattle.sight_names.specs.Map.{map_of}
use Rattle.sight_names.specs.Points.{place}
use Rattle.sight_names.specs.Greedy.{EdgesMeetAtEnds}
use Rattle.mesh_shape.proofs.RuleLemmas.{places_differ, moved_ends, back_moved}
use Rattle.triangulate.proofs.IncidentSegments.KeptEdges.{any_segment}
use Rattle.triangulate.proofs.IncidentSegments.AroundPoint.{walk_start, walk_step, walk_end, walk_neighbour}
use Rattle.triangulate.proofs.GreedySegments.Crossed.{edge}
use Rattle.triangulate.proofs.greedy_segments.clear.segments_meet.Goals as goal

pub is_met-requires-clause-first : goal.is_met-requires-clause-first
is_met-requires-clause-first c = λ e. places_differ c.args.plan.now c.place-from.ensures.plan c.args.i c.args.j (let h = c.requires.first in let p = c.requires.points in omega arith) (let h = c.requires.second in let p = c.requires.points in omega arith) c.requires.differ (sym c.place-from.ensures.place ∙ e ∙ c.place-to.ensures.place)

pub is_met-requires-clause-second : goal.is_met-requires-clause-second
is_met-requires-clause-second c = λ e. places_differ c.args.plan.now c.place-hub.ensures.plan c.args.u c.other.result (let h = c.requires.at in let p = c.requires.points in omega arith) (let h = c.other.ensures.within in let p = c.requires.points in omega arith) (λ f. c.other.ensures.differ (sym f)) (sym c.place-hub.ensures.place ∙ e ∙ c.place-end.ensures.place)

pub loop-at-init : goal.loop-at-init
loop-at-init c = walk_start c.args.incident.now.segments c.args.u (λ (v : ℕ). EdgesMeetAtEnds (map_of c.args.plan.now) (edge c.args.i c.args.j) (edge c.args.u v)) _ c.last-at.ensures

pub loop-at-preserved : goal.loop-at-preserved
loop-at-preserved c =
    let m = map_of c.args.plan.now in
    let meets = moved_ends _ _ _ _ (place m c.args.i) (place m c.args.j) (place m c.args.u) (place m c.other.result) c.place-from.ensures.place c.place-to.ensures.place c.place-hub.ensures.place c.place-end.ensures.place (c.is_met.ensures.0 c.if-not-is_met.false) in
    walk_step c.args.incident.now.segments c.args.u (λ (v : ℕ). EdgesMeetAtEnds m (edge c.args.i c.args.j) (edge c.args.u v)) (λ (v : ℕ). EdgesMeetAtEnds m (edge c.args.i c.args.j) (edge c.args.u v)) c.loop-at.at (c.loop-at.at - 1) _ c.loop-at.invariant (omega arith) (λ v h. h)
    (λ v e. subst (λ (v : ℕ). EdgesMeetAtEnds m (edge c.args.i c.args.j) (edge c.args.u v)) (c.other.ensures.end any_segment ∙ sym (e any_segment)) meets) c.earlier-at.ensures

pub returns-then-not-is_met-clause-barred : goal.returns-then-not-is_met-clause-barred
returns-then-not-is_met-clause-barred c =
    let m = map_of c.args.plan.now in (
      c.other.result,
      walk_neighbour c.args.incident.now.segments c.args.u (λ (v : ℕ). EdgesMeetAtEnds m (edge c.args.i c.args.j) (edge c.args.u v)) c.loop-at.at (c.loop-at.at - 1) c.other.result c.loop-at.invariant (omega arith) c.other.ensures.end,
      λ h. false≢true (sym c.if-not-is_met.true ∙ c.is_met.ensures.1 (back_moved _ _ _ _ (place m c.args.i) (place m c.args.j) (place m c.args.u) (place m c.other.result) c.place-from.ensures.place c.place-to.ensures.place c.place-hub.ensures.place c.place-end.ensures.place h)),
    )

pub returns-clause-meet : goal.returns-clause-meet
returns-clause-meet c = λ v s. walk_end c.args.incident.now.segments c.args.u (λ (v : ℕ). EdgesMeetAtEnds (map_of c.args.plan.now) (edge c.args.i c.args.j) (edge c.args.u v)) c.loop-at.at c.loop-at.invariant (omega arith) v s
