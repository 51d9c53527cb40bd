use Rattle.std.proofs.Common.{sym, subst}
use Rattle.sight_names.specs.Plan.{PlanParts}
use Rattle.cert_judge.specs.OnGround.{plan_under}
use Rattle.cert_judge.specs.Version.{core_of}
use Rattle.cert_judge.specs.Whole.{IsReachedOn}
use Rattle.cert_judge.proofs.Grounds.{early_judged, pairs_told}
use Rattle.cert_judge.proofs.Wholes.{has_triangles, heard_over, reached_on}
use Rattle.cert_judge.proofs.on_ground.OnGround.verdict.Goals as goal

pub returns-in-Err : goal.returns-in-Err
returns-in-Err c = λ cert w.
    let p = c.args.plan.now in
    let over = plan_under p c.args.self in
    early_judged p over c.args.groups.now (core_of cert).triangles w.on.right c.args.table.now cert (has_triangles p c.args.table.now cert c.args.groups.now c.args.listed.now c.args.rays.now c.args.self w) c.in-Err.fault
    (c.in-Err.ensures.fault over (core_of cert) (heard_over p c.args.table.now cert c.args.groups.now c.args.listed.now c.args.rays.now c.args.self w))

pub verdict_over-requires : goal.verdict_over-requires
verdict_over-requires c =
    let p = c.args.plan.now in
    let cert = c.requires.0 in
    let w = c.requires.1 in
    let over = plan_under p c.args.self in (
      p,
      cert,
      subst (λ (q : PlanParts). IsReachedOn p q c.args.table.now cert c.args.groups.now c.args.listed.now c.args.rays.now c.in-Ok.reach) (sym c.over-over.ensures)
          (reached_on p c.args.table.now cert c.args.groups.now c.args.listed.now c.args.rays.now c.args.self w c.in-Ok.reach (c.in-Ok.ensures.reach over (core_of cert) (heard_over p c.args.table.now cert c.args.groups.now c.args.listed.now c.args.rays.now c.args.self w))),
    )

pub returns : goal.returns
returns c = λ cert w.
    let p = c.args.plan.now in
    let over = plan_under p c.args.self in
    let reached = c.in-Ok.ensures.reach over (core_of cert) (heard_over p c.args.table.now cert c.args.groups.now c.args.listed.now c.args.rays.now c.args.self w) in
    let on = reached_on p c.args.table.now cert c.args.groups.now c.args.listed.now c.args.rays.now c.args.self w c.in-Ok.reach reached in
    let moved = subst (λ (q : PlanParts). IsReachedOn p q c.args.table.now cert c.args.groups.now c.args.listed.now c.args.rays.now c.in-Ok.reach) (sym c.over-over.ensures) on in
    pairs_told p over c.args.groups.now (core_of cert).triangles w.on.right c.args.table.now cert (has_triangles p c.args.table.now cert c.args.groups.now c.args.listed.now c.args.rays.now c.args.self w) c.in-Ok.reach reached c.over-over.result.now c.over-over.ensures
    c.verdict_over.result c.verdict_over.ensures.kind (c.verdict_over.ensures.pairs p cert moved)
