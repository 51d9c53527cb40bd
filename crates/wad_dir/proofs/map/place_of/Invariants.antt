use Rattle.std.proofs.Common.{◌≡◌, drop}
use Rattle.std.specs.List.{position_from}
use Rattle.wad_dir.specs.Map.{place_in_run, same_name, entry_names}
use Rattle.wad_dir.proofs.map.place_of.Given as goal

abbrev pub invariant-loop-k : goal.invariant-loop-k
invariant-loop-k l = place_in_run l.name (entry_names l.run) ≡ position_from (λ n. same_name n l.name) l.k (entry_names (drop l.k l.run))
