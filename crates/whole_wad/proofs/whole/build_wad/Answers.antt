use Rattle.wad_dir.specs.Map.{entry_names}
use Rattle.wad_dir.proofs.AllMaps.InOrder.{named_in_order}
use Rattle.whole_wad.proofs.whole.build_wad.Goals as goal

pub tell_maps-requires-clause-named : goal.tell_maps-requires-clause-named
tell_maps-requires-clause-named g c κs within = named_in_order (entry_names c.args.wad.now.entries) c.args.names.now c.requires.among
