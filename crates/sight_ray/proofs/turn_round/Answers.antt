use Rattle.std.proofs.Common.{subst, sym}
use Rattle.sight_names.specs.declared.names.Ray.{Ray}
use Rattle.sight_names.specs.Ray.{IsSightRay}
use Rattle.mesh_base.proofs.SightLaws.SightLaws.{turned_sight}
use Rattle.sight_ray.proofs.turn_round.Goals as goal

pub returns-clause-sight : goal.returns-clause-sight
returns-clause-sight c m a b h = subst (λ (r : Ray). IsSightRay m r b a) (sym c.reversed.ensures) (turned_sight m c.args.ray.now a b h)
