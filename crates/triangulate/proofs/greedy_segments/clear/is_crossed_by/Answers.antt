use Rattle.std.proofs.Common.{sym, ◌∙◌, arith}
use Rattle.std.proofs.lemmas.Bool.{false≢true}
use Rattle.sight_names.specs.Map.{map_of}
use Rattle.sight_names.specs.Points.{place}
use Rattle.mesh_shape.proofs.RuleLemmas.{places_differ, back_moved}
use Rattle.triangulate.proofs.GreedySegments.Crossed.{edge, bar_of_neighbour, OnTrue_not}
use Rattle.triangulate.proofs.greedy_segments.clear.is_crossed_by.Goals as goal

pub meet_at_ends-requires-clause-second : goal.meet_at_ends-requires-clause-second
meet_at_ends-requires-clause-second c = λ e. places_differ c.args.plan.now c.place-left.ensures.plan c.args.u c.args.v (let h = c.requires.left in let p = c.requires.points in omega arith) (let h = c.requires.right in let p = c.requires.points in omega arith) c.if-u-v.false (sym c.place-left.ensures.place ∙ e ∙ c.place-right.ensures.place)

pub meet_at_ends-requires-clause-first : goal.meet_at_ends-requires-clause-first
meet_at_ends-requires-clause-first c = λ e. places_differ c.args.plan.now c.place-left.ensures.plan c.args.i c.args.j (let h = c.requires.first in let p = c.requires.points in omega arith) (let h = c.requires.second in let p = c.requires.points in omega arith) c.requires.differ (sym c.place-from.ensures.place ∙ e ∙ c.place-to.ensures.place)

pub returns : goal.returns
returns c =
    let m = map_of c.args.plan.now in
    OnTrue_not _ _ (λ f. bar_of_neighbour m c.args.incident.now.segments c.args.u c.args.v (edge c.args.i c.args.j) (c.are_joined.ensures.0 c.if-not-are_joined.false)
    (λ h. false≢true (sym f ∙ c.meet_at_ends.ensures.1 (back_moved _ _ _ _ (place m c.args.i) (place m c.args.j) (place m c.args.u) (place m c.args.v) c.place-from.ensures.place c.place-to.ensures.place c.place-left.ensures.place c.place-right.ensures.place h))))
