use Rattle.std.proofs.Common.{List, ap, refl, subst}
use Rattle.sight_names.specs.Map.{map_of}
use Rattle.pair_budget.specs.declared.results.Reached.{Reached}
use Rattle.pair_answer.specs.Walks.{HasNoTarget, IsFoundTarget}
use Rattle.pair_answer.proofs.Hits.{early_hit, missed_so, ray_to}
use Rattle.pair_answer.proofs.walks.seek.Goals as goal

pub returns-in-Some : goal.returns-in-Some
returns-in-Some c =
    let g = c.args.ground.now in
    let w = c.in_ok-walked in
    ray_to g.plan.now c.lines.ensures.plan g.mesh.now.triangles g.labels.now c.requires.ground.good c.args.source g.budget c.args.targets.now w.walked.found w.walked.outcome c.in-Some.reached w.ensures.found w.ensures.rays w.ensures.exact
    (subst (λ (fs : List Reached). IsFoundTarget c.args.targets.now fs c.in-Some.reached) c.as_slice.ensures c.in-Some.ensures)

pub returns : goal.returns
returns c =
    let g = c.args.ground.now in
    let w = c.in_ok-walked in
    let n = c.walk_source_over.new.notice in
    let none : HasNoTarget c.args.targets.now w.walked.found = subst (λ (fs : List Reached). HasNoTarget c.args.targets.now fs) c.as_slice.ensures c.in-None.ensures in
    missed_so (map_of g.plan.now) g.mesh.now.triangles g.labels.now c.args.source g.budget c.args.targets.now w.walked.found none w.walked.outcome w.ensures.exact
    (λ all. let r = early_hit c.args.source c.args.targets.now w.walked.found n.source n.targets.now n.hit (ap (λ (t : _). t.0) w.ensures.tag) (ap (λ (t : _). t.1.now) w.ensures.tag) w.ensures.marks (w.ensures.mates all c.args.source (refl, refl)) in none r.0 r.1.there r.1.target)
    c.ran_out.result c.ran_out.ensures
