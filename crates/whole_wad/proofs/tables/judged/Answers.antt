use Rattle.std.proofs.Common.{sym, ◌∙◌}
use Rattle.whole_wad.proofs.tables.judged.Goals as goal

pub check_par-requires-clause-sizes : goal.check_par-requires-clause-sizes
check_par-requires-clause-sizes g c κs within = c.requires.sizes ∙ sym c.has_sizes_of_map.ensures
