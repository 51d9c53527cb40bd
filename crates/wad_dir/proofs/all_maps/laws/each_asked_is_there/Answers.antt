use Rattle.wad_dir.proofs.AllMaps.AskedMaps.{each_asked_is_there}
use Rattle.wad_dir.proofs.all_maps.laws.each_asked_is_there.Goals as goal

pub returns : goal.returns
returns c = each_asked_is_there
