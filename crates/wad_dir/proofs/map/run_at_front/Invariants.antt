use Rattle.std.proofs.Common.{◌≡◌, [], drop, take}
use Rattle.wad_dir.specs.Map.{run_from, entry_names}
use Rattle.wad_dir.proofs.map.run_at_front.Given as goal

abbrev pub invariant-loop-k : goal.invariant-loop-k
invariant-loop-k l = run_from l.text [] (entry_names l.entries) ≡ run_from l.text (entry_names (take l.k l.entries)) (entry_names (drop l.k l.entries))
