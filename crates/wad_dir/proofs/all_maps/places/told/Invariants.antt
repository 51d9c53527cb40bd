use Rattle.std.proofs.Common.{◌≡◌, ◌-◌, ◌++◌, drop, map, replicate, take}
use Rattle.std.specs.Char.{to_ascii_uppercase}
use Rattle.wad_dir.specs.Map.{key_of}
use Rattle.wad_dir.proofs.all_maps.places.told.Given as goal

abbrev pub invariant-loop-k : goal.invariant-loop-k
invariant-loop-k l = record {
  upper : l.upper ≡ map to_ascii_uppercase (take l.k l.name) ++ replicate (8 - l.k) 0;
  key : key_of l.name ≡ map to_ascii_uppercase (take l.k l.name) ++ key_of (drop l.k l.name);
}
