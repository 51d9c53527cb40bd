use Rattle.std.proofs.Common.{◌++◌, [], ◌∷◌, sym, subst}
use Rattle.sight_names.specs.Plan.{PlanParts}
use Rattle.cert_judge.specs.OnMesh.{IsOnMesh}
use Rattle.cert_judge.proofs.on_ground.OnGround.hear_ray.Goals as goal

pub returns : goal.returns
returns c = λ groups ls rays front tree w.
    let at : PlanParts → Type 0 = λ q. IsOnMesh q ls rays front tree c.args.self.now.on in
    let new : PlanParts → Type 0 = λ q. IsOnMesh q ls (rays ++ c.args.one.now ∷ []) front tree c.hear_ray.new.self in
    record { over = w.over; right = w.right; on = subst new c.over-over.ensures (c.hear_ray.ensures ls rays front tree (subst at (sym c.over-over.ensures) w.on)) }
