use Rattle.map_picture.proofs.Entries.{entered_shown, stops_shown}
use Rattle.map_picture.proofs.laws.entered_is_shown.Goals as goal

pub returns-clause-triangles : goal.returns-clause-triangles
returns-clause-triangles c = entered_shown

pub returns-clause-stops : goal.returns-clause-stops
returns-clause-stops c = stops_shown
