use Rattle.std.proofs.Common.{◌≡◌, drop}
use Rattle.wad_dir.specs.Map.{has_name}
use Rattle.sight_run.proofs.asked.is_asked.Given as goal

abbrev pub invariant-loop-name : goal.invariant-loop-name
invariant-loop-name l = has_name l.map l.only ≡ has_name l.map (drop l.name-index l.only)
