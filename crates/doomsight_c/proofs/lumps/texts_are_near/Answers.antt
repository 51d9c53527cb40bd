use Rattle.doomsight_c.proofs.FarVertices.{texts_near}
use Rattle.doomsight_c.proofs.lumps.texts_are_near.Goals as goal

pub returns : goal.returns
returns c = texts_near
