use Rattle.any_judge.proofs.ExactJudge.Stages.{few_edges, of_good_mesh, ray_broken, ray_within, walks}
use Rattle.any_judge.proofs.exact_judge.stage.walking_stage.Goals as goal

pub ray_fault-requires : goal.ray_fault-requires
ray_fault-requires c =
    let r = c.requires.over in
    of_good_mesh r.0 r.1 r.2 c.args.over.now r.3 c.in_ok-edges.edges c.in_ok-edges.ensures

pub returns-in-Some : goal.returns-in-Some
returns-in-Some c = λ p groups labelled w. ray_broken p groups labelled c.args.over.now w c.args.rays.now c.in-Some.fault c.in-Some.ensures.kind c.in-Some.ensures.fault

pub new-requires-clause-few : goal.new-requires-clause-few
new-requires-clause-few c =
    let r = c.requires.over in
    few_edges r.0 r.1 r.2 c.args.over.now r.3 c.in_ok-edges.edges c.in_ok-edges.ensures

pub new-requires-clause-within : goal.new-requires-clause-within
new-requires-clause-within c = ray_within c.args.over.now.plan.sectors c.args.rays.now c.requires.within

pub returns : goal.returns
returns c = λ p groups labelled w. walks p groups labelled c.args.over.now w c.args.rays.now c.in_ok-edges.edges c.in_ok-ground.ground c.new-2.result c.in_ok-edges.ensures c.in_default.ensures.fault c.in_ok-ground.ensures.ground c.new-2.ensures.ground (c.new-2.ensures.heard c.in_ok-ground.ensures.sized)
