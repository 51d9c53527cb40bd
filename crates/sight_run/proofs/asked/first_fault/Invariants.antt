use Rattle.std.proofs.Common.{◌≡◌, drop}
use Rattle.wad_dir.specs.Map.{entry_names}
use Rattle.wad_dir.specs.AllMaps.Asked.{first_fault}
use Rattle.sight_run.proofs.asked.first_fault.Given as goal

abbrev pub invariant-loop-name : goal.invariant-loop-name
invariant-loop-name g l = first_fault (entry_names l.wad.entries) l.only ≡ first_fault (entry_names l.wad.entries) (drop l.name-index l.only)
