use Rattle.std.proofs.Common.{◌≡◌, ◌++◌, drop, take}
use Rattle.wad_dir.specs.AllMaps.Names.{name_before_nul}
use Rattle.wad_dir.proofs.all_maps.names.before_nul.Given as goal

abbrev pub invariant-loop-k : goal.invariant-loop-k
invariant-loop-k l = name_before_nul l.name ≡ take l.k l.name ++ name_before_nul (drop l.k l.name)
