use Rattle.std.proofs.lemmas.Result.{IfOk-weaker}
use Rattle.task_crew.specs.Done.{AreTasksDone}
use Rattle.found_rays.specs.Rays.{AreFoundIn, ArePartsFound}
use Rattle.found_rays.proofs.judges.AloneRayJudges.judge.Goals as goal

pub in_turn-requires-after_bounds : goal.in_turn-requires-after_bounds
in_turn-requires-after_bounds c κs i = λ lt. (c.requires.ground, c.parts_of.ensures.within i lt)

pub returns : goal.returns
returns c =
    let p = c.args.parts.now.over.now.plan in
    let rays = c.args.parts.now.rays.now in
    IfOk-weaker c.in_turn.result (λ v. AreTasksDone (AreFoundIn p rays) c.parts_of.result v.items) (λ v. ArePartsFound p rays v.items)
    (λ v done. record { count = c.parts_of.result; enough = c.parts_of.ensures.enough; done = done }) c.in_turn.ensures
