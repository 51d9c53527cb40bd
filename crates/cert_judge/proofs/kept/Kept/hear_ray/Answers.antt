use Rattle.std.proofs.Common.{List, [], ◌∷◌, ◌++◌, ap, ◌∙◌}
use Rattle.sight_names.specs.declared.names.PairRay.{PairRay}
use Rattle.cert_judge.proofs.kept.Kept.hear_ray.Goals as goal

pub returns : goal.returns
returns c = λ groups h closed k. record { groups_are = k.groups_are; triangles = k.triangles; rays = c.in_ok-keep_ray.ensures ∙ ap (λ (rs : List PairRay). rs ++ c.args.ray ∷ []) k.rays; listed = k.listed; stage = c.hear_ray.ensures groups h closed k.stage }
