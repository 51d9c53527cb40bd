use Rattle.std.proofs.Common.{sym, ◌∙◌, subst}
use Rattle.std.proofs.lemmas.Result.{IfOk-weaker}
use Rattle.cert_judge.specs.Heard.{closed_at}
use Rattle.cert_judge.specs.Judging.{KeepsListingHeard}
use Rattle.cert_judge.specs.Stage.{IsStage}
use Rattle.cert_judge.specs.Version.{Groups}
use Rattle.cert_judge.proofs.kept.Kept.close.Goals as goal

pub returns : goal.returns
returns c = λ groups h k.
    let s = c.args.self.now in
    let p = c.args.plan.now in
    IfOk-weaker c.close.result (λ _. IsStage p s.groups (closed_at h) c.close.new.self) (λ _. KeepsListingHeard p groups (closed_at h) (record { groups = s.groups; triangles = s.triangles; rays = s.rays; listed = s.listed; stage = c.close.new.self }))
    (λ x stage. record { groups_are = k.groups_are; triangles = k.triangles; rays = k.rays; listed = k.listed; stage = subst (λ (gs : Groups). IsStage p gs (closed_at h) c.close.new.self) k.groups_are stage })
    (c.close.ensures h (c.as_slice.ensures.value ∙ k.triangles) (subst (λ (gs : Groups). IsStage p gs h s.stage) (sym k.groups_are) k.stage))
