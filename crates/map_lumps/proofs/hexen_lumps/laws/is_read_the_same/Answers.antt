use Rattle.map_lumps.proofs.HexenLumps.SameMap.{is_read_the_same}
use Rattle.map_lumps.proofs.hexen_lumps.laws.is_read_the_same.Goals as goal

pub returns : goal.returns
returns c = is_read_the_same
