use Rattle.std.proofs.Common.{◌≡◌, ◌+◌, ◌==◌, drop, Ok, sym, ◌∙◌}
use Rattle.wad_dir.specs.Map.{entry_names, spot_of}
use Rattle.wad_dir.proofs.AllMaps.FoundMaps.{begins_here, map_found, no_map, other_name}
use Rattle.wad_dir.proofs.all_maps.markers.is_map.Goals as goal

pub returns-then-not-is_map_name : goal.returns-then-not-is_map_name
returns-then-not-is_map_name c = sym (other_name (entry_names c.args.entries.now) c.args.name.now (drop (c.args.place + 1) (entry_names c.args.entries.now)) (sym c.is_map_name.ensures ∙ c.if-not-is_map_name.true))

pub returns-in-Ok : goal.returns-in-Ok
returns-in-Ok c =
    let found : spot_of (entry_names c.args.entries.now) c.args.name.now ≡ Ok c.in-Ok.spot = sym c.find_at.ensures ∙ c.in-Ok.is in
    sym (map_found (entry_names c.args.entries.now) c.args.name.now (drop (c.args.place + 1) (entry_names c.args.entries.now)) c.in-Ok.spot (c.in-Ok.spot.marker == c.args.place)
    (sym c.is_map_name.ensures ∙ c.if-not-is_map_name.false) found (begins_here (entry_names c.args.entries.now) c.args.name.now c.args.place c.in-Ok.spot c.requires.there found))

pub returns-in-Err : goal.returns-in-Err
returns-in-Err c = sym (no_map (entry_names c.args.entries.now) c.args.name.now (drop (c.args.place + 1) (entry_names c.args.entries.now)) c.in-Err.field-0 (sym c.find_at.ensures ∙ c.in-Err.is))
