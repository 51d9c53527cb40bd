use Rattle.std.proofs.Common.{ℕ, ◌<◌, false, true, Some, List, length, refl, sym, ap, ◌∙◌, subst, arith}
use Rattle.std.proofs.lemmas.Bool.{true≢false}
use Rattle.std.proofs.lemmas.Option.{same_Some, slice_get-get_or}
use Rattle.math_base.proofs.Lists.{item_there}
use Rattle.sight_names.specs.declared.names.Triangle.{Triangle}
use Rattle.sight_names.specs.Map.{map_of}
use Rattle.pair_answer.specs.EnteredTriangles.Marks.{IsNumberMarked}
use Rattle.pair_answer.proofs.EnteredTriangles.Stopping.{below_all, below_more, below_skip}
use Rattle.pair_answer.proofs.entered_triangles.stops.all_stops.Goals as goal
use Rattle.pair_answer.proofs.entered_triangles.stops.all_stops.Goals.{then-marks-k+in_ok-put_stops, else-marks-k}

pub loop-k-preserved : goal.loop-k-preserved
loop-k-preserved c =
    let m = map_of c.args.plan.now in
    let ts = c.args.mesh.now.triangles in
    let marks = c.args.marks.now in
    let list = c.triangles-triangles.ensures.list in
    let low : c.loop-k.k < length marks = subst (λ (n : ℕ). c.loop-k.k < n) (sym (c.requires.each ∙ ap (λ (us : List Triangle). length us) (sym list))) c.loop-k-test.true in
    elim c.if-marks-k.branch [
      | then-marks-k+in_ok-put_stops w ↦ rw w.stops-is (below_more m ts (IsNumberMarked marks) c.loop-k.k _ c.loop-k.stops.items _ (item_there c.triangles-triangles.result.now ts c.loop-k.k _ list c.loop-k-test.true) (slice_get-get_or marks c.loop-k.k false low ∙ ap Some w.if-marks-k.true) c.loop-k.invariant w.in_ok-put_stops.ensures)
      | else-marks-k w ↦ rw w.stops-is (below_skip m ts (IsNumberMarked marks) c.loop-k.k c.loop-k.stops.items c.loop-k.stops.items (λ t. true≢false (same_Some true false (sym t ∙ slice_get-get_or marks c.loop-k.k false low ∙ ap Some w.if-marks-k.false))) refl c.loop-k.invariant)
    ]

pub returns : goal.returns
returns c =
    let e = ap (λ (us : List Triangle). length us) c.triangles-triangles.ensures.list in
    below_all (map_of c.args.plan.now) c.args.mesh.now.triangles (IsNumberMarked c.args.marks.now) c.args.labels.now c.requires.good c.loop-k.k c.loop-k.stops.items (omega (arith, e)) c.loop-k.invariant
