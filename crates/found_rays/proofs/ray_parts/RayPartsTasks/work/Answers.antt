use Rattle.std.proofs.Common.{List, subst}
use Rattle.std.specs.Prelude.{All}
use Rattle.sight_names.specs.declared.names.PairRay.{PairRay}
use Rattle.found_rays.specs.Rays.{IsFoundRay}
use Rattle.found_rays.proofs.ray_parts.RayPartsTasks.work.Goals as goal

pub returns : goal.returns
returns c = λ t. subst (λ (rs : List PairRay). All (IsFoundRay c.args.self.now.over.now.plan) rs) c.rays_at-rays.ensures (c.are_found.ensures t)
