use Rattle.std.proofs.Common.{◌≡◌, drop}
use Rattle.wad_dir.specs.Map.{same_name}
use Rattle.wad_dir.proofs.map.is_same_name.Given as goal

abbrev pub invariant-loop-x : goal.invariant-loop-x
invariant-loop-x l = same_name l.a l.b ≡ same_name (drop l.x-index l.a) l.rest
