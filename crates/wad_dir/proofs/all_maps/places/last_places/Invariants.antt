use Rattle.std.proofs.Common.{nat_cmp, take}
use Rattle.std.specs.BTreeMap.{get}
use Rattle.std.specs.Cmp.Lexicographic.{slice_cmp}
use Rattle.wad_dir.specs.Map.{entry_names}
use Rattle.wad_dir.specs.AllMaps.Places.{AreLast}
use Rattle.wad_dir.proofs.all_maps.places.last_places.Given as goal

abbrev pub invariant-loop-k : goal.invariant-loop-k
invariant-loop-k l = AreLast (entry_names (take l.k l.entries)) (get (slice_cmp nat_cmp) l.places)
