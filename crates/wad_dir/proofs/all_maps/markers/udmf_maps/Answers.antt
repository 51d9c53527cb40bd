use Rattle.std.proofs.Common.{ℕ, List, ◌≤◌, length, arith}
use Rattle.wad_dir.specs.Map.{entry_names}
use Rattle.wad_dir.proofs.Names.{names_length}
use Rattle.wad_dir.proofs.AllMaps.FoundMaps.{map_more, name_there, other_more}
use Rattle.wad_dir.proofs.AllMaps.Spacing.{udmf_named}
use Rattle.wad_dir.proofs.all_maps.markers.udmf_maps.Goals as goal
use Rattle.wad_dir.proofs.all_maps.markers.udmf_maps.Goals.{then-is_udmf+in_ok-push, else-is_udmf}

pub loop-k-preserved : goal.loop-k-preserved
loop-k-preserved c = grind (arith, else-is_udmf, map_more, name_there, other_more, then-is_udmf+in_ok-push)

pub returns-clause-named : goal.returns-clause-named
returns-clause-named c =
    let names : List (List ℕ) = entry_names c.as_slice-entries.result.now in
    let le : length names ≤ c.loop-k.k = omega (arith, c.loop-k-test.false, names_length c.as_slice-entries.result.now) in
    udmf_named names c.loop-k.k c.loop-k.maps.items le c.loop-k.invariant
