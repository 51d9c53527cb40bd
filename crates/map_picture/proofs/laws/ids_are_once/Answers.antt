use Rattle.map_picture.proofs.Ids.{blind_ids, heat_ids, marked_ids, pair_ids, plan_ids, row_ids, sight_ids}
use Rattle.map_picture.proofs.laws.ids_are_once.Goals as goal

pub returns-clause-plan : goal.returns-clause-plan
returns-clause-plan c = plan_ids

pub returns-clause-marked : goal.returns-clause-marked
returns-clause-marked c = marked_ids

pub returns-clause-row : goal.returns-clause-row
returns-clause-row c = row_ids

pub returns-clause-heat : goal.returns-clause-heat
returns-clause-heat c = heat_ids

pub returns-clause-pair : goal.returns-clause-pair
returns-clause-pair c = pair_ids

pub returns-clause-sight : goal.returns-clause-sight
returns-clause-sight c = sight_ids

pub returns-clause-blind : goal.returns-clause-blind
returns-clause-blind c = blind_ids
