use Rattle.std.proofs.Common.{get_or, subst, arith}
use Rattle.std.proofs.lemmas.Option.{slice_get-get_or}
use Rattle.sight_names.specs.Map.{map_of}
use Rattle.sight_names.proofs.Lists.{contains_of_get}
use Rattle.pair_answer.specs.declared.walks.Sought.{Sought}
use Rattle.pair_answer.specs.Walks.{IsSought}
use Rattle.pair_answer.proofs.Missed.{missed_all, missed_more}
use Rattle.pair_answer.proofs.walks.seek_all.Goals as goal

pub seek-requires-clause-source : goal.seek-requires-clause-source
seek-requires-clause-source c = let x = get_or c.args.sources.now c.loop-i.i 0 in c.requires.sources x (contains_of_get c.args.sources.now x c.loop-i.i (slice_get-get_or c.args.sources.now c.loop-i.i 0 c.loop-i-test.true))

pub loop-i-preserved : goal.loop-i-preserved
loop-i-preserved c =
    let g = c.args.ground.now in
    missed_more (map_of g.plan.now) g.mesh.now.triangles g.labels.now g.budget c.args.sources.now c.args.targets.now c.loop-i.i (get_or c.args.sources.now c.loop-i.i 0) c.loop-i.spent.items c.add.new.numbers.items c.in-Missed.ran_out
    (slice_get-get_or c.args.sources.now c.loop-i.i 0 c.loop-i-test.true) c.loop-i.invariant (subst (λ (s : Sought). IsSought (map_of g.plan.now) g.mesh.now.triangles g.labels.now g.budget (get_or c.args.sources.now c.loop-i.i 0) c.args.targets.now s) c.in-Missed.is c.in_ok-ray.ensures) c.in_ok-add-in-Missed.ensures

pub returns : goal.returns
returns c =
    let g = c.args.ground.now in
    missed_all (map_of g.plan.now) g.mesh.now.triangles g.labels.now g.budget c.args.sources.now c.args.targets.now c.loop-i.i c.loop-i.spent.items (omega arith) c.loop-i.invariant
