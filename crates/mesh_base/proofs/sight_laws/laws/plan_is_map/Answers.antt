use Rattle.sight_names.proofs.PlanMap.{plan_is_map as lemma_plan_is_map}
use Rattle.mesh_base.proofs.sight_laws.laws.plan_is_map.Goals as goal

pub returns : goal.returns
returns c = lemma_plan_is_map
