use Rattle.std.proofs.Common.{refl}
use Rattle.cert_judge.proofs.OnMeshes.{none_where, with_next_ray, with_ray_behind_wrong}
use Rattle.cert_judge.proofs.on_mesh.OnMesh.hear_ray.Goals as goal

pub returns-then-is_none : goal.returns-then-is_none
returns-then-is_none c = λ ls rays front tree w. with_next_ray c.args.plan.now ls rays front tree c.args.self.now w c.args.one.now _ (none_where c.args.self.now.fault c.if-is_none.ensures) c.fault_of_ray-self.ensures.kind c.fault_of_ray-self.ensures.fault refl refl refl

pub returns-else-is_none : goal.returns-else-is_none
returns-else-is_none c = λ ls rays front tree w. with_ray_behind_wrong c.args.plan.now ls rays front tree c.args.self.now w c.args.one.now c.if-is_none.ensures
