use Rattle.sight_names.specs.Map.{map_of}
use Rattle.sound_reach.specs.Counts.{AreRows}
use Rattle.sound_reach.proofs.count.rows_of.Given as goal

abbrev pub invariant-loop-sector : goal.invariant-loop-sector
invariant-loop-sector l = AreRows (map_of l.plan) l.dampers l.sector l.rows.items
