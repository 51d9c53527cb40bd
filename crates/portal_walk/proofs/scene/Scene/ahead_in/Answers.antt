use Rattle.std.proofs.Common.{◌≤◌, ◌*◌, length, subst}
use Rattle.sight_names.specs.declared.limits.TheConstants.{MOST_TRIANGLES}
use Rattle.portal_walk.specs.Scene.{SceneParts, behind}
use Rattle.portal_walk.proofs.Aheads.{kept_none, kept_some}
use Rattle.portal_walk.proofs.scene.Scene.ahead_in.Goals as goal

pub returns-then-kept : goal.returns-then-kept
returns-then-kept c = λ x at.
    let few = subst (λ (p : SceneParts). length p.edges ≤ MOST_TRIANGLES * 3) c.self.view_is c.self.invariant.3 in
    kept_none c.args.self.now.edges c.args.way (behind x c.args.way) c.kept_ahead-kept.result.now (c.kept_ahead-kept.ensures x at) few c.if-kept.true

pub returns-else-kept : goal.returns-else-kept
returns-else-kept c = λ x at.
    kept_some c.args.self.now.edges c.args.way (behind x c.args.way) c.kept_ahead-kept.result.now (c.kept_ahead-kept.ensures x at) c.if-kept.false
