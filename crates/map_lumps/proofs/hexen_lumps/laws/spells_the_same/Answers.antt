use Rattle.map_lumps.proofs.HexenLumps.SameMap.{spells_the_same}
use Rattle.map_lumps.proofs.hexen_lumps.laws.spells_the_same.Goals as goal

pub returns : goal.returns
returns c = spells_the_same
