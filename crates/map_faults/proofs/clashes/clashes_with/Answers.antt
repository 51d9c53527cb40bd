use Rattle.sight_names.specs.Map.{map_of}
use Rattle.map_faults.proofs.Clashing.{clashes_in_order}
use Rattle.map_faults.proofs.clashes.clashes_with.Goals as goal

pub returns-clause-clashes : goal.returns-clause-clashes
returns-clause-clashes c = clashes_in_order (map_of c.args.plan.now) c.args.i _ c.in_order.result.items c.in_ok-find_clashes.ensures.clashes c.in_order.ensures.order
