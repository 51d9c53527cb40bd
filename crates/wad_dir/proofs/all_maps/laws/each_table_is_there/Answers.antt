use Rattle.wad_dir.proofs.AllMaps.Lasting.{each_table_is_there}
use Rattle.wad_dir.proofs.all_maps.laws.each_table_is_there.Goals as goal

pub returns : goal.returns
returns c = each_table_is_there
