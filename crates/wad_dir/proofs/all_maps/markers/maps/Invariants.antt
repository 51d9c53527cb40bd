use Rattle.std.proofs.Common.{◌≡◌, ◌++◌, drop}
use Rattle.wad_dir.specs.Map.{entry_names}
use Rattle.wad_dir.specs.AllMaps.Maps.{maps_among, maps_in_names}
use Rattle.wad_dir.proofs.all_maps.markers.maps.Given as goal

abbrev pub invariant-loop-k : goal.invariant-loop-k
invariant-loop-k l = l.maps.items ++ maps_among (entry_names l.entries) (drop l.k (entry_names l.entries)) ≡ maps_in_names (entry_names l.entries)
