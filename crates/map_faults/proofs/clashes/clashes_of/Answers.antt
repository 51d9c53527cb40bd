use Rattle.std.proofs.lemmas.Result.{IfOk-weaker}
use Rattle.sight_names.specs.Map.{map_of}
use Rattle.map_faults.proofs.FirstClash.{first_is_told, none_where_sound}
use Rattle.map_faults.proofs.clashes.clashes_of.Goals as goal

pub returns-clause-first : goal.returns-clause-first
returns-clause-first c = IfOk-weaker c.clashes_by.result _ _ (λ x h. first_is_told (map_of c.args.plan.now) x.first x.count h) c.clashes_by.ensures

pub returns-clause-none : goal.returns-clause-none
returns-clause-none c = IfOk-weaker c.clashes_by.result _ _ (λ x h. none_where_sound (map_of c.args.plan.now) x.first x.count h) c.clashes_by.ensures
