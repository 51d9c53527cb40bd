use Rattle.std.proofs.Common.{◌≡◌, List, Bool, length, get_or, ap, ◌∙◌, subst, arith}
use Rattle.std.proofs.lemmas.Option.{slice_get-get_or}
use Rattle.sight_names.specs.Map.{map_of}
use Rattle.sight_names.proofs.Lists.{contains_of_get}
use Rattle.pair_answer.specs.EnteredTriangles.Walks.{IsMarkedByWalk}
use Rattle.pair_answer.proofs.EnteredTriangles.AllWalks.{ended_all, ended_more}
use Rattle.pair_answer.proofs.EnteredTriangles.Marking.{stored}
use Rattle.pair_answer.proofs.entered_triangles.walks.walk_all.Goals as goal

pub walk_source-requires-clause-source : goal.walk_source-requires-clause-source
walk_source-requires-clause-source c = let x = get_or c.args.sources.now c.loop-i.i 0 in c.requires.sources x (contains_of_get c.args.sources.now x c.loop-i.i (slice_get-get_or c.args.sources.now c.loop-i.i 0 c.loop-i-test.true))

pub loop-i-preserved : goal.loop-i-preserved
loop-i-preserved c =
    let m = map_of c.args.plan.now in
    let ts = c.args.mesh.now.triangles in
    let ls = c.args.labels.now in
    let x = get_or c.args.sources.now c.loop-i.i 0 in
    let same = c.walk_source.ensures.each ∙ c.as_mut_slice.ensures.len in
    let value = c.as_mut_slice.ensures.value in
    rw (stored c.walk_source.new.marks c.loop-i.marks.items c.loop-i.marks.len same)
    (ended_more m ts ls c.args.budget c.loop-i.i x c.args.sources.now c.loop-i.marks.items c.walk_source.new.marks c.in_ok-ended.ended (slice_get-get_or c.args.sources.now c.loop-i.i 0 c.loop-i-test.true) c.loop-i.invariant
    (same_length c.loop-i.marks.items c.as_mut_slice.result.now c.walk_source.new.marks value c.walk_source.ensures.each) (subst (λ (bs : List Bool). IsMarkedByWalk m ts ls c.args.budget x bs c.walk_source.new.marks c.in_ok-ended.ended) value c.in_ok-ended.ensures.walked) c.if-not-ended.false)
  where
    same_length : (old given new : List Bool) → given ≡ old → length new ≡ length given → length new ≡ length old
    same_length old given new e f = f ∙ ap (λ (bs : List Bool). length bs) e

pub returns : goal.returns
returns c = ended_all (map_of c.args.plan.now) c.args.mesh.now.triangles c.args.labels.now c.args.budget c.loop-i.i c.args.sources.now c.loop-i.marks.items (omega arith) c.loop-i.invariant
