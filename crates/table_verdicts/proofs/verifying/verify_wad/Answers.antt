use Rattle.wad_dir.specs.Map.{entry_names}
use Rattle.wad_dir.proofs.AllMaps.InOrder.{named_in_order}
use Rattle.table_verdicts.proofs.verifying.verify_wad.Goals as goal

pub verify_maps-requires-clause-named : goal.verify_maps-requires-clause-named
verify_maps-requires-clause-named g c κs within = named_in_order (entry_names c.args.wad.now.entries) c.args.names.now c.requires.among
