use Rattle.doomsight_c.proofs.FarVertices.{as_spelled}
use Rattle.doomsight_c.proofs.lumps.vertices_are_as_spelled.Goals as goal

pub returns : goal.returns
returns c = as_spelled
