use Rattle.std.proofs.Common.{◌≡◌, ◌≤◌, length, Some, None, nat_cmp, sym, arith}
use Rattle.std.specs.BTreeMap.{get}
use Rattle.std.specs.Cmp.Lexicographic.{slice_cmp}
use Rattle.sight_names.specs.declared.limits.TheConstants.{MOST_LUMPS}
use Rattle.wad_dir.specs.Map.{entry_names, last_from}
use Rattle.wad_dir.proofs.Inserted.{last_within}
use Rattle.wad_dir.proofs.Names.{found_is, names_length}
use Rattle.wad_dir.proofs.Spots.{none_found}
use Rattle.wad_dir.proofs.AllMaps.LastPlaces.{looked_up}
use Rattle.wad_dir.proofs.all_maps.places.find_at.Goals as goal

pub returns-in_default : goal.returns-in_default
returns-in_default c =
    sym (none_found (entry_names c.args.entries.now) c.args.name.now
    (looked_up (entry_names c.args.entries.now) c.args.name.now c.told.result (get (slice_cmp nat_cmp) c.args.places.now) None c.requires.last c.told.ensures c.in_default.ensures.value))

pub overflow_add-marker : goal.overflow_add-marker
overflow_add-marker c =
    let last : last_from (entry_names c.args.entries.now) c.args.name.now 0 None ≡ Some c.in-Some.place.now = looked_up (entry_names c.args.entries.now) c.args.name.now c.told.result (get (slice_cmp nat_cmp) c.args.places.now) (Some c.in-Some.place.now) c.requires.last c.told.ensures c.in-Some.ensures.value in
    let within = last_within (entry_names c.args.entries.now) c.args.name.now 0 c.in-Some.place.now last in
    let few : length c.args.entries.now ≤ MOST_LUMPS = c.requires.few in
    omega (arith, within, few, names_length c.args.entries.now)

pub split_at-requires : goal.split_at-requires
split_at-requires c =
    let last : last_from (entry_names c.args.entries.now) c.args.name.now 0 None ≡ Some c.in-Some.place.now = looked_up (entry_names c.args.entries.now) c.args.name.now c.told.result (get (slice_cmp nat_cmp) c.args.places.now) (Some c.in-Some.place.now) c.requires.last c.told.ensures c.in-Some.ensures.value in
    let within = last_within (entry_names c.args.entries.now) c.args.name.now 0 c.in-Some.place.now last in
    omega (arith, within, names_length c.args.entries.now)

pub returns : goal.returns
returns c =
    found_is c.in-Some.place.now c.args.entries.now c.split_at.result.1.now c.args.name.now c.spot_after.result
    (looked_up (entry_names c.args.entries.now) c.args.name.now c.told.result (get (slice_cmp nat_cmp) c.args.places.now) (Some c.in-Some.place.now) c.requires.last c.told.ensures c.in-Some.ensures.value)
    c.split_at.ensures.back c.spot_after.ensures.spot
