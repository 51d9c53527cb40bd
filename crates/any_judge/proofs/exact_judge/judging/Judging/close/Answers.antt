use Rattle.std.proofs.Common.{sym, ◌∙◌}
use Rattle.std.proofs.lemmas.Result.{IfOk-weaker}
use Rattle.any_judge.specs.ExactJudge.Heard.{closed_at}
use Rattle.any_judge.specs.ExactJudge.Judging.{KeepsExactHeard}
use Rattle.any_judge.specs.ExactJudge.Stage.{IsStage}
use Rattle.any_judge.proofs.ExactJudge.Keeping.{stage_moved}
use Rattle.any_judge.proofs.exact_judge.judging.Judging.close.Goals as goal

pub returns : goal.returns
returns c = λ p t groups h k.
    let s = c.args.self.now in
    let given = c.as_slice.result.now in
    let same = c.as_slice.ensures ∙ k.groups_are in
    IfOk-weaker c.close.result (λ _. IsStage s.plan.now given (closed_at h) c.close.new.self) (λ _. KeepsExactHeard p t groups (closed_at h) (record s { stage = c.close.new.self }))
    (λ x stage. record { plan = k.plan; table = k.table; groups_are = k.groups_are; triangles = k.triangles; rays = k.rays; stage = stage_moved s.plan.now p given groups (closed_at h) c.close.new.self k.plan same stage })
    (c.close.ensures h (c.as_slice-2.ensures.value ∙ k.triangles) (c.as_slice-3.ensures.value ∙ k.rays) (stage_moved p s.plan.now groups given h s.stage (sym k.plan) (sym same) k.stage))
