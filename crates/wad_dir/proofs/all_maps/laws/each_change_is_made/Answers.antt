use Rattle.wad_dir.proofs.AllMaps.Merging.{each_change_is_made}
use Rattle.wad_dir.proofs.all_maps.laws.each_change_is_made.Goals as goal

pub returns : goal.returns
returns c = each_change_is_made
