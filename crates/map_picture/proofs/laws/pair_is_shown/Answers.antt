use Rattle.map_picture.proofs.Faced.{blind_faces, pair_shown, sight_faces}
use Rattle.map_picture.proofs.laws.pair_is_shown.Goals as goal

pub returns-clause-pair : goal.returns-clause-pair
returns-clause-pair c = pair_shown

pub returns-clause-sight : goal.returns-clause-sight
returns-clause-sight c = sight_faces

pub returns-clause-blind : goal.returns-clause-blind
returns-clause-blind c = blind_faces
