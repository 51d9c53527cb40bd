use Rattle.std.proofs.Common.{◌≡◌, ◌<◌, ◌≤◌, ◌⊎◌, inl, inr, ℕ, length, subst, sym, arith}
use Rattle.std.proofs.lemmas.Bool.{OnTrue_at, OnFalse_at}
use Rattle.sight_names.specs.Map.{map_of}
use Rattle.triangulate.specs.GreedySegments.Crossed.{SegmentsMeet}
use Rattle.triangulate.specs.IncidentSegments.Incident.{AreSegments}
use Rattle.triangulate.proofs.GreedySegments.Crossed.{edge, bar_at, free_of_neighbours}
use Rattle.triangulate.proofs.GreedySegments.PointExtents.{has_extent, passed_over}
use Rattle.triangulate.proofs.greedy_segments.clear.is_clear.Goals as goal

pub next-u-requires-clause-order : goal.next-u-requires-clause-order
next-u-requires-clause-order c = omega arith

pub next-u-requires-clause-pair_extent : goal.next-u-requires-clause-pair_extent
next-u-requires-clause-pair_extent c = let e = c.pair_extent_of-pair_extent.ensures.pair_extent.from in let f = c.pair_extent_of-pair_extent.ensures.pair_extent.to in omega (arith, c.requires.order)

pub next-u-requires-clause-within : goal.next-u-requires-clause-within
next-u-requires-clause-within c = let f = c.pair_extent_of-pair_extent.ensures.pair_extent.to in let h = has_extent c.args.plan.now c.pair_extent_of-pair_extent.ensures.plan c.args.incident.now.segments c.args.extents.now.extents.items c.requires.extents c.args.j (let g = c.requires.second in let p = c.requires.points in omega arith) in omega arith

pub next-u-requires-in-loop-u-clause-order : goal.next-u-requires-in-loop-u-clause-order
next-u-requires-in-loop-u-clause-order c = let f = c.pair_extent_of-pair_extent.ensures.pair_extent.to in omega (arith, c.loop-u-test.true)

pub next-u-requires-in-loop-u-clause-pair_extent : goal.next-u-requires-in-loop-u-clause-pair_extent
next-u-requires-in-loop-u-clause-pair_extent c = let e = c.pair_extent_of-pair_extent.ensures.pair_extent.from in let f = c.pair_extent_of-pair_extent.ensures.pair_extent.to in omega (arith, c.requires.order)

pub next-u-requires-in-loop-u-clause-within : goal.next-u-requires-in-loop-u-clause-within
next-u-requires-in-loop-u-clause-within c = let f = c.pair_extent_of-pair_extent.ensures.pair_extent.to in let h = has_extent c.args.plan.now c.pair_extent_of-pair_extent.ensures.plan c.args.incident.now.segments c.args.extents.now.extents.items c.requires.extents c.args.j (let g = c.requires.second in let p = c.requires.points in omega arith) in omega arith

pub returns-then-not-segments_meet_beyond-clause-barred : goal.returns-then-not-segments_meet_beyond-clause-barred
returns-then-not-segments_meet_beyond-clause-barred c = bar_at (map_of c.args.plan.now) c.args.incident.now.segments c.loop-u.u (edge c.args.i c.args.j) (OnFalse_at c.if-not-segments_meet_beyond.true c.segments_meet_beyond.ensures.barred)

pub loop-u-init : goal.loop-u-init
loop-u-init c = λ w lt reach. passed_over c.args.plan.now c.pair_extent_of-pair_extent.ensures.plan c.args.incident.now.segments c.args.extents.now.extents.items c.args.i c.args.j c.pair_extent_of-pair_extent.result c.pair_extent_of-pair_extent.ensures.pair_extent c.requires.extents (let g = c.requires.second in let p = c.requires.points in omega arith) w
    (let h = c.next-u.ensures.to in omega (arith, lt)) (λ d. c.next-u.ensures.passed w d (omega arith) lt) reach

pub loop-u-preserved : goal.loop-u-preserved
loop-u-preserved c = λ w lt reach. elim (cases w c.loop-u.u) [
  | inl before ↦ c.loop-u.invariant w before reach
  | inr (inl same) ↦ subst (λ (v : ℕ). SegmentsMeet (map_of c.args.plan.now) c.args.incident.now.segments v (edge c.args.i c.args.j)) (sym same) (OnTrue_at c.if-not-segments_meet_beyond.false c.segments_meet_beyond.ensures.meet)
  | inr (inr behind) ↦ passed_over c.args.plan.now c.pair_extent_of-pair_extent.ensures.plan c.args.incident.now.segments c.args.extents.now.extents.items c.args.i c.args.j c.pair_extent_of-pair_extent.result c.pair_extent_of-pair_extent.ensures.pair_extent c.requires.extents (let g = c.requires.second in let p = c.requires.points in omega arith) w
      (let h = c.next-u-in-loop-u.ensures.to in omega (arith, lt)) (λ d. c.next-u-in-loop-u.ensures.passed w d (omega arith) lt) reach
]
  where
    cases : (w u : ℕ) → (w < u) ⊎ (w ≡ u) ⊎ (u < w)
    cases w u = grind arith

pub returns-clause-free : goal.returns-clause-free
returns-clause-free c =
    let each : AreSegments (length c.args.plan.now.points) c.args.incident.now.segments = subst (λ (n : ℕ). AreSegments n c.args.incident.now.segments) c.requires.points c.segments-kept.ensures.each in
    free_of_neighbours c.args.plan.now c.pair_extent_of-pair_extent.ensures.plan c.args.incident.now.segments c.args.i c.args.j c.requires.order (let h = c.requires.second in let p = c.requires.points in omega arith) each
    (λ w le reach. elim (cases w c.args.j le) [
      | inl lt ↦ c.loop-u.invariant w (omega (arith, lt, c.loop-u-test.false)) reach
      | inr same ↦ subst (λ (u : ℕ). SegmentsMeet (map_of c.args.plan.now) c.args.incident.now.segments u (edge c.args.i c.args.j)) (sym same) c.requires.far
    ])
  where
    cases : (w j : ℕ) → w ≤ j → (w < j) ⊎ (w ≡ j)
    cases w j h = grind arith
