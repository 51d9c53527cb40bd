use Rattle.std.proofs.Common.{◌≡◌, drop}
use Rattle.wad_dir.specs.Map.{has_name, entry_names}
use Rattle.wad_dir.proofs.map.has_named.Given as goal

abbrev pub invariant-loop-entry : goal.invariant-loop-entry
invariant-loop-entry l = has_name l.name (entry_names l.entries) ≡ has_name l.name (entry_names (drop l.entry-index l.entries))
