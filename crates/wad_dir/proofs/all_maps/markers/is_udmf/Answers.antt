use Rattle.std.proofs.Common.{◌≡◌, ℕ, ◌+◌, List, true, false, drop, Some, None, nat_cmp, refl, sym, ap, ◌∙◌, arith}
use Rattle.std.specs.BTreeMap.{get}
use Rattle.std.specs.Cmp.Lexicographic.{slice_cmp}
use Rattle.std.proofs.lemmas.Option.{slice_get_within}
use Rattle.wad_dir.specs.declared.parts.Entry.{Entry}
use Rattle.wad_dir.specs.Map.{begins_with_textmap, entry_names}
use Rattle.wad_dir.proofs.Names.{names_drop, names_length}
use Rattle.math_base.proofs.Numbers.{tells_other, tells_same}
use Rattle.wad_dir.proofs.AllMaps.FoundMaps.{has_last, is_last, udmf_is}
use Rattle.wad_dir.proofs.AllMaps.LastPlaces.{looked_up}
use Rattle.wad_dir.proofs.all_maps.markers.is_udmf.Goals as goal

pub returns-in_default : goal.returns-in_default
returns-in_default c =
    absurd (has_last (entry_names c.args.entries.now) c.args.name.now c.args.place 0 None c.requires.there
    (looked_up (entry_names c.args.entries.now) c.args.name.now c.told.result (get (slice_cmp nat_cmp) c.args.places.now) None c.requires.last c.told.ensures c.in_default.ensures.value))

pub returns-then-last-place : goal.returns-then-last-place
returns-then-last-place c =
    let found = looked_up (entry_names c.args.entries.now) c.args.name.now c.told.result (get (slice_cmp nat_cmp) c.args.places.now) (Some c.in-Some.last.now) c.requires.last c.told.ensures c.in-Some.ensures.value in
    sym (udmf_is c.args.name.now (drop (c.args.place + 1) (entry_names c.args.entries.now)) true false _ (sym c.is_map_name.ensures ∙ c.if-not-is_map_name.false)
    (sym (is_last (entry_names c.args.entries.now) c.args.name.now c.args.place c.in-Some.last.now c.requires.there found) ∙ tells_other c.in-Some.last.now c.args.place c.if-last-place.true) refl)

pub split_at-requires : goal.split_at-requires
split_at-requires c = let within = slice_get_within (entry_names c.args.entries.now) c.args.place c.args.name.now c.requires.there in omega (arith, within, names_length c.args.entries.now)

pub returns : goal.returns
returns c =
    let found = looked_up (entry_names c.args.entries.now) c.args.name.now c.told.result (get (slice_cmp nat_cmp) c.args.places.now) (Some c.in-Some.last.now) c.requires.last c.told.ensures c.in-Some.ensures.value in
    let behind : entry_names c.split_at.result.1.now ≡ drop (c.args.place + 1) (entry_names c.args.entries.now) = ap (λ (es : List Entry). entry_names es) c.split_at.ensures.back ∙ names_drop (c.args.place + 1) c.args.entries.now in
    sym (udmf_is c.args.name.now (drop (c.args.place + 1) (entry_names c.args.entries.now)) true true c.is_textmap_next.result (sym c.is_map_name.ensures ∙ c.if-not-is_map_name.false)
    (sym (is_last (entry_names c.args.entries.now) c.args.name.now c.args.place c.in-Some.last.now c.requires.there found) ∙ tells_same c.in-Some.last.now c.args.place c.if-last-place.false)
    (sym (c.is_textmap_next.ensures ∙ ap (λ (ns : List (List ℕ)). begins_with_textmap ns) behind)))
