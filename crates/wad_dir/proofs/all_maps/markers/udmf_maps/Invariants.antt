use Rattle.std.proofs.Common.{◌≡◌, ◌++◌, drop}
use Rattle.wad_dir.specs.Map.{entry_names}
use Rattle.wad_dir.specs.AllMaps.Maps.{is_udmf, markers_among, udmf_maps_of}
use Rattle.wad_dir.proofs.all_maps.markers.udmf_maps.Given as goal

abbrev pub invariant-loop-k : goal.invariant-loop-k
invariant-loop-k l = l.maps.items ++ markers_among is_udmf (drop l.k (entry_names l.entries)) ≡ udmf_maps_of (entry_names l.entries)
