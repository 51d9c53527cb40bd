use Rattle.std.proofs.Common.{◌-◌, ℕ, sym, subst, ◌∙◌, arith}
use Rattle.std.proofs.lemmas.Bool.{false≢true, OnFalse_from}
use Rattle.sight_names.specs.Map.{map_of}
use Rattle.sight_names.specs.Points.{place}
use Rattle.sight_names.specs.Greedy.{EdgesMeetAtEnds}
use Rattle.mesh_shape.proofs.RuleLemmas.{places_differ, moved_ends, back_moved}
use Rattle.triangulate.specs.GreedySegments.Crossed.{SegmentsMeet}
use Rattle.triangulate.proofs.IncidentSegments.KeptEdges.{any_segment}
use Rattle.triangulate.proofs.IncidentSegments.AroundPoint.{walk_start, walk_step, walk_end, walk_neighbour}
use Rattle.triangulate.proofs.GreedySegments.Crossed.{edge, bar_at}
use Rattle.triangulate.proofs.greedy_segments.clear.is_crossed.Goals as goal

pub loop-at-init : goal.loop-at-init
loop-at-init c = record { walk = walk_start c.args.incident.now.segments c.args.i (λ (v : ℕ). EdgesMeetAtEnds (map_of c.args.plan.now) (edge c.args.i c.args.j) (edge c.args.i v)) _ c.last-at.ensures; left = tt; right = tt }

pub loop-at-preserved : goal.loop-at-preserved
loop-at-preserved c =
    let m = map_of c.args.plan.now in
    let segs = c.args.incident.now.segments in
    let meets = moved_ends _ _ _ _ (place m c.args.i) (place m c.args.j) (place m c.args.i) (place m c.other-c.result) c.place-from.ensures.place c.place-to.ensures.place c.place-from.ensures.place c.place-end.ensures.place (c.is_fan.ensures.0 c.if-not-is_fan.false) in
    record {
      walk = walk_step segs c.args.i (λ (v : ℕ). EdgesMeetAtEnds m (edge c.args.i c.args.j) (edge c.args.i v)) (λ (v : ℕ). EdgesMeetAtEnds m (edge c.args.i c.args.j) (edge c.args.i v)) c.loop-at.at (c.loop-at.at - 1) _ c.loop-at.invariant.walk (omega arith) (λ v h. h)
          (λ v e. subst (λ (v : ℕ). EdgesMeetAtEnds m (edge c.args.i c.args.j) (edge c.args.i v)) (c.other-c.ensures.end any_segment ∙ sym (e any_segment)) meets) c.earlier-at.ensures;
      left = c.first_left-left.ensures.within;
      right = c.first_right-right.ensures.within;
    }

pub is_fan-requires-clause-first : goal.is_fan-requires-clause-first
is_fan-requires-clause-first c = λ e. places_differ c.args.plan.now c.place-from.ensures.plan c.args.i c.args.j (let h = c.requires.first in let p = c.requires.points in omega arith) (let h = c.requires.second in let p = c.requires.points in omega arith) c.requires.differ (sym c.place-from.ensures.place ∙ e ∙ c.place-to.ensures.place)

pub is_fan-requires-clause-second : goal.is_fan-requires-clause-second
is_fan-requires-clause-second c = λ e. places_differ c.args.plan.now c.place-from.ensures.plan c.args.i c.other-c.result (let h = c.requires.first in let p = c.requires.points in omega arith) (let h = c.other-c.ensures.within in let p = c.requires.points in omega arith) (λ f. c.other-c.ensures.differ (sym f)) (sym c.place-from.ensures.place ∙ e ∙ c.place-end.ensures.place)

pub returns-then-not-is_fan-clause-crossed : goal.returns-then-not-is_fan-clause-crossed
returns-then-not-is_fan-clause-crossed c =
    let m = map_of c.args.plan.now in
    bar_at m c.args.incident.now.segments c.args.i (edge c.args.i c.args.j) (
      c.other-c.result,
      walk_neighbour c.args.incident.now.segments c.args.i (λ (v : ℕ). EdgesMeetAtEnds m (edge c.args.i c.args.j) (edge c.args.i v)) c.loop-at.at (c.loop-at.at - 1) c.other-c.result c.loop-at.invariant.walk (omega arith) c.other-c.ensures.end,
      λ h. false≢true (sym c.if-not-is_fan.true ∙ c.is_fan.ensures.1 (back_moved _ _ _ _ (place m c.args.i) (place m c.args.j) (place m c.args.i) (place m c.other-c.result) c.place-from.ensures.place c.place-to.ensures.place c.place-from.ensures.place c.place-end.ensures.place h)),
    )

pub returns-in-Some-Some-clause-meet : goal.returns-in-Some-Some-clause-meet
returns-in-Some-Some-clause-meet c =
    let meet : SegmentsMeet (map_of c.args.plan.now) c.args.incident.now.segments c.args.i (edge c.args.i c.args.j) = λ v s. walk_end c.args.incident.now.segments c.args.i (λ (v : ℕ). EdgesMeetAtEnds (map_of c.args.plan.now) (edge c.args.i c.args.j) (edge c.args.i v)) c.loop-at.at c.loop-at.invariant.walk (omega arith) v s in
    OnFalse_from c.is_crossed_by.result (SegmentsMeet (map_of c.args.plan.now) c.args.incident.now.segments c.args.i (edge c.args.i c.args.j)) (λ e. meet)

pub returns-in_default-clause-meet : goal.returns-in_default-clause-meet
returns-in_default-clause-meet c = λ v s. walk_end c.args.incident.now.segments c.args.i (λ (v : ℕ). EdgesMeetAtEnds (map_of c.args.plan.now) (edge c.args.i c.args.j) (edge c.args.i v)) c.loop-at.at c.loop-at.invariant.walk (omega arith) v s

pub returns-in_default-2-clause-meet : goal.returns-in_default-2-clause-meet
returns-in_default-2-clause-meet c = λ v s. walk_end c.args.incident.now.segments c.args.i (λ (v : ℕ). EdgesMeetAtEnds (map_of c.args.plan.now) (edge c.args.i c.args.j) (edge c.args.i v)) c.loop-at.at c.loop-at.invariant.walk (omega arith) v s
