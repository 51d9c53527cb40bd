use Rattle.wad_dir.specs.Map.{entry_names}
use Rattle.wad_dir.proofs.AllMaps.InOrder.{named_in_order}
use Rattle.table_verdicts.proofs.map_list.listing.list_maps.Goals as goal

pub list_each-requires-clause-named : goal.list_each-requires-clause-named
list_each-requires-clause-named g c = named_in_order (entry_names c.args.wad.now.entries) c.args.names.now c.requires.among
