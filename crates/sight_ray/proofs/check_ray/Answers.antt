use Rattle.sight_names.specs.Map.{map_of}
use Rattle.sight_ray.proofs.FaultLemmas.{sight_answer, fault_answer}
use Rattle.sight_ray.proofs.check_ray.Goals as goal

pub returns-clause-sight : goal.returns-clause-sight
returns-clause-sight c = sight_answer (map_of c.args.plan.now) c.args.ray.now c.judge.result c.judge.ensures

pub returns-clause-fault : goal.returns-clause-fault
returns-clause-fault c = fault_answer (map_of c.args.plan.now) c.args.ray.now c.judge.result c.judge.ensures
