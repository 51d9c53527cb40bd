use Rattle.std.proofs.Common.{◌≡◌, ℕ, ◌+◌, List, [], ◌++◌, get_or, drop, slice_get, Some, Vec, Global, sym, ap, ◌∙◌, subst, ◌≤◌, length, IsOk, arith}
use Rattle.wad_dir.specs.declared.parts.Entry.{Entry}
use Rattle.std.specs.List.{All}
use Rattle.wad_dir.specs.Map.{entry_names, spot_of}
use Rattle.wad_dir.proofs.Names.{names_length}
use Rattle.wad_dir.specs.AllMaps.Maps.{is_map, maps_among, maps_in_names}
use Rattle.wad_dir.proofs.AllMaps.FoundMaps.{map_more, name_there, other_more}
use Rattle.wad_dir.proofs.AllMaps.Spacing.{all_found, all_named}
use Rattle.wad_dir.proofs.all_maps.markers.maps.Goals as goal
use Rattle.wad_dir.proofs.all_maps.markers.maps.Goals.{then-is_map+in_ok-push, else-is_map}

pub loop-k-preserved : goal.loop-k-preserved
loop-k-preserved c =
    let es : List Entry = c.as_slice-entries.result.now in
    let names : List (List ℕ) = entry_names es in
    let none : Entry = record { name = []; at = 0; size = 0 } in
    let there : slice_get names c.loop-k.k ≡ Some (get_or es c.loop-k.k none).name = name_there es c.loop-k.k none c.loop-k-test.true in
    elim c.if-is_map.branch [
      | then-is_map+in_ok-push w ↦ subst (λ (v : Vec (List ℕ) Global). v.items ++ maps_among names (drop (c.loop-k.k + 1) names) ≡ maps_in_names names) (sym w.maps-is)
          (ap (λ (xs : List (List ℕ)). xs ++ maps_among names (drop (c.loop-k.k + 1) names)) w.in_ok-push.ensures.items
          ∙ map_more (is_map names) names c.loop-k.k (get_or es c.loop-k.k none).name w.told.result c.loop-k.maps.items (maps_in_names names) there (sym c.is_map.ensures ∙ w.if-is_map.true) w.told.ensures c.loop-k.invariant)
      | else-is_map w ↦ subst (λ (v : Vec (List ℕ) Global). v.items ++ maps_among names (drop (c.loop-k.k + 1) names) ≡ maps_in_names names) (sym w.maps-is)
          (other_more (is_map names) names c.loop-k.k (get_or es c.loop-k.k none).name c.loop-k.maps.items (maps_in_names names) there (sym c.is_map.ensures ∙ w.if-is_map.false) c.loop-k.invariant)
    ]

pub returns-clause-named : goal.returns-clause-named
returns-clause-named c = search (all_named, names_length)

pub returns-clause-found : goal.returns-clause-found
returns-clause-found c =
    let names : List (List ℕ) = entry_names c.as_slice-entries.result.now in
    let le : length names ≤ c.loop-k.k = omega (arith, c.loop-k-test.false, names_length c.as_slice-entries.result.now) in
    subst (λ (es : List Entry). All (λ (name : List ℕ). IsOk (spot_of (entry_names es) name)) c.loop-k.maps.items) c.as_slice-entries.ensures (all_found names c.loop-k.k c.loop-k.maps.items le c.loop-k.invariant)
