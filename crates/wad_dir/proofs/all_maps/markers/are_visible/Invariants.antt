use Rattle.std.proofs.Common.{◌≡◌, drop}
use Rattle.std.specs.List.{list_all}
use Rattle.wad_dir.specs.Map.{key_of}
use Rattle.wad_dir.specs.AllMaps.Maps.{is_visible}
use Rattle.wad_dir.proofs.all_maps.markers.are_visible.Given as goal

abbrev pub invariant-loop-c : goal.invariant-loop-c
invariant-loop-c l = list_all is_visible (key_of l.name) ≡ list_all is_visible (key_of (drop l.c-index l.name))
