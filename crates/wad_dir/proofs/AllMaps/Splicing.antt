-- The lumps that the program puts together, as they are seen.
use Rattle.std.proofs.Common.{◌≡◌, ℕ, ◌-◌, ◌≤◌, List, [], ◌∷◌, ◌++◌, length, take, drop, map, Ok, sym, ap, ◌∙◌, subst, append_assoc}
use Rattle.std.specs.Prelude.{slice_range}
use Rattle.std.proofs.lemmas.List.{drop-map, drop_all, length-map, map-append, take-map, take_rest}
use Rattle.wad_dir.specs.declared.parts.Entry.{Entry}
use Rattle.wad_dir.specs.declared.parts.MapSpot.{MapSpot}
use Rattle.wad_dir.specs.declared.parts.Wad.{Wad}
use Rattle.wad_dir.specs.Kept.{reject_then}
use Rattle.wad_dir.specs.Map.{entry_names}
use Rattle.wad_dir.specs.Wad.{WadLump, file_of, lump_under, names_of_lumps}
use Rattle.wad_dir.proofs.Under.{names_read}
use Rattle.wad_dir.specs.declared.wad_rewrite.lumps.OutputLump.{OutputLump}
use Rattle.wad_dir.specs.WadRewrite.Lumps.{view, views}
use Rattle.wad_dir.specs.declared.all_maps.parts.Change.{Change}
use Rattle.wad_dir.specs.AllMaps.All.{HasInOrder, names_changed, with_all}
use Rattle.wad_dir.specs.AllMaps.Maps.{maps_in_names}
use Rattle.wad_dir.specs.AllMaps.Spliced.{AreSpaced, piece, reject_with, spliced}
use Rattle.wad_dir.proofs.AllMaps.Merging.{all_spliced, file, spaced_lumps}

-- ---- one change

range_seen : (lumps : List OutputLump) (a b : ℕ) → views (slice_range lumps a b) ≡ slice_range (views lumps) a b
range_seen lumps a b = sym (take-map view (b - a) (drop a lumps)) ∙ ap (λ (zs : List WadLump). take (b - a) zs) (sym (drop-map view a lumps))

pub piece_seen : (out lumps cut new : List OutputLump) (done place : ℕ) (spot : MapSpot) (reject : OutputLump) (table : List ℕ)
    → cut ≡ out ++ slice_range lumps done place → new ≡ cut ++ reject ∷ [] → place ≡ reject_then spot → view reject ≡ reject_with (views lumps) spot table → views new ≡ views out ++ piece (views lumps) done spot table
piece_seen out lumps cut new done place spot reject table e f at is =
    let range : views (slice_range lumps done place) ≡ slice_range (views lumps) done (reject_then spot) = range_seen lumps done place ∙ ap (λ (p : ℕ). slice_range (views lumps) done p) at in
    ap (λ (zs : List OutputLump). views zs) (f ∙ ap (λ (zs : List OutputLump). zs ++ reject ∷ []) e)
    ∙ map-append view (out ++ slice_range lumps done place) (reject ∷ [])
    ∙ ap (λ (zs : List WadLump). zs ++ view reject ∷ []) (map-append view out (slice_range lumps done place))
    ∙ append_assoc (views out) (views (slice_range lumps done place)) (view reject ∷ [])
    ∙ (λ i. views out ++ (range i ++ is i ∷ []))

-- ---- behind the last change

pub rest_seen : (names : List (List ℕ)) (out lumps new : List OutputLump) (done i : ℕ) (cs : List Change) (total : List WadLump)
    → new ≡ out ++ take (length lumps - done) (drop done lumps) → length cs ≤ i → views out ++ spliced names (views lumps) done (drop i cs) ≡ total → views new ≡ total
rest_seen names out lumps new done i cs total e le h =
    ap (λ (zs : List OutputLump). views zs) (e ∙ ap (λ (zs : List OutputLump). out ++ zs) (take_rest lumps done))
    ∙ map-append view out (drop done lumps)
    ∙ ap (λ (zs : List WadLump). views out ++ zs) (sym (drop-map view done lumps) ∙ ap (λ (xs : List Change). spliced names (views lumps) done xs) (sym (drop_all i cs le)))
    ∙ h

-- ---- all changes of a file

module _ (bytes : List ℕ) (wad : Wad) (entries : List Entry) (lumps : List OutputLump) (cs : List Change) (same : entries ≡ wad.entries) (seen : views lumps ≡ map (lump_under bytes) entries) (among : HasInOrder (maps_in_names (entry_names wad.entries)) (names_changed cs)) where
  names_are : names_of_lumps (file_of bytes wad) ≡ entry_names wad.entries
  names_are = names_read bytes (Ok wad)

  among_names : HasInOrder (maps_in_names (names_of_lumps (file_of bytes wad))) (names_changed cs)
  among_names = subst (λ (ns : List (List ℕ)). HasInOrder (maps_in_names ns) (names_changed cs)) (sym names_are) among

  lumps_are : (file_of bytes wad).lumps ≡ views lumps
  lumps_are = ap (λ (es : List Entry). map (lump_under bytes) es) (sym same) ∙ sym seen

  names_in : names_of_lumps (file_of bytes wad) ≡ entry_names entries
  names_in = names_are ∙ ap (λ (es : List Entry). entry_names es) (sym same)

  pub file_spaced : AreSpaced (entry_names entries) (length lumps) 0 cs
  file_spaced =
      let long : length (file_of bytes wad).lumps ≡ length lumps = ap (λ (zs : List WadLump). length zs) lumps_are ∙ length-map lumps view in
      subst (λ (n : ℕ). AreSpaced (entry_names entries) n 0 cs) long (subst (λ (ns : List (List ℕ)). AreSpaced ns (length (file_of bytes wad).lumps) 0 cs) names_in (spaced_lumps (file_of bytes wad) cs among_names))

  pub file_changed : (out : List OutputLump) → views out ≡ spliced (entry_names entries) (views lumps) 0 cs → with_all (file_of bytes wad) cs ≡ record { kind = wad.kind; lumps = views out }
  file_changed out is =
      all_spliced (file_of bytes wad) cs among_names
      ∙ ap (λ (zs : List WadLump). file wad.kind zs) ((λ i. spliced (names_in i) (lumps_are i) 0 cs) ∙ sym is)
