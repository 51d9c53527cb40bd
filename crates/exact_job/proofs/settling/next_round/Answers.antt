use Rattle.std.proofs.Common.{◌≡◌, ◌<◌, List, length, sym, ◌∙◌, ap, subst}
use Rattle.std.proofs.lemmas.Result.{IfOk-weaker}
use Rattle.sight_names.specs.declared.names.PairRay.{PairRay}
use Rattle.sight_names.specs.Plan.{PlanParts}
use Rattle.exact_job.specs.declared.settling.Round.{Round}
use Rattle.exact_job.proofs.Rounds.{ranges}
use Rattle.exact_job.proofs.settling.next_round.Goals as goal

pub more_rays-requires-clause-count : goal.more_rays-requires-clause-count
more_rays-requires-clause-count g c = c.requires.round.walks.one_each ∙ sym (ap (λ (q : PlanParts). q.sectors) c.plan.view_is)

pub more_rays-requires-clause-range : goal.more_rays-requires-clause-range
more_rays-requires-clause-range g c = ranges c.args.over.now.plan c.args.over.now.mesh.triangles c.args.edges.now c.args.round.joined.items c.args.round.walks.items c.requires.round.walks

pub round_of-requires-clause-rays : goal.round_of-requires-clause-rays
round_of-requires-clause-rays g c = (c.in_ok-rays.ensures c.args.over.now.plan c.args.over.now.mesh.triangles c.args.edges.now c.requires.ground.plan c.requires.round).in_order

pub returns-clause-more : goal.returns-clause-more
returns-clause-more g c =
    let more = (c.in_ok-rays.ensures c.args.over.now.plan c.args.over.now.mesh.triangles c.args.edges.now c.requires.ground.plan c.requires.round).more c.requires.found in
    IfOk-weaker c.round_of.result (λ (r : Round). r.rays.items ≡ c.in_ok-rays.rays.items) (λ (r : Round). length c.args.round.rays.items < length r.rays.items)
    (λ r e. subst (λ (rs : List PairRay). length c.args.round.rays.items < length rs) (sym e) more) c.round_of.ensures.rays
