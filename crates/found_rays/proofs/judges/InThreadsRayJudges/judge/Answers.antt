use Rattle.std.proofs.lemmas.Result.{IfOk-weaker}
use Rattle.task_crew.specs.Done.{AreTasksDone}
use Rattle.found_rays.specs.Rays.{AreFoundIn, ArePartsFound}
use Rattle.found_rays.proofs.judges.InThreadsRayJudges.judge.Goals as goal

pub shared-requires-after_bounds : goal.shared-requires-after_bounds
shared-requires-after_bounds g c κs within = λ i lt. (c.requires.ground, c.parts_of-count.ensures.within i lt)

pub returns : goal.returns
returns g c =
    let p = c.args.parts.now.over.now.plan in
    let rays = c.args.parts.now.rays.now in
    IfOk-weaker c.shared.result (λ v. AreTasksDone (AreFoundIn p rays) c.parts_of-count.result v.items) (λ v. ArePartsFound p rays v.items)
    (λ v done. record { count = c.parts_of-count.result; enough = c.parts_of-count.ensures.enough; done = done }) c.shared.ensures
