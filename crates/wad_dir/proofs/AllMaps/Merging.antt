-- All changes made one after another are what one pass over the lumps puts together.
use Rattle.std.proofs.Common.{◌≡◌, ℕ, ◌+◌, ◌<◌, ◌≤◌, List, [], ◌∷◌, ◌++◌, length, drop, map, false, Option, Some, None, Result, Ok, Err, refl, sym, ap, ◌∙◌, subst, append_assoc, arith}
use Rattle.std.specs.Prelude.{⊤}
use Rattle.std.specs.List.{insert}
use Rattle.std.proofs.lemmas.List.{length-map}
use Rattle.sight_names.specs.declared.faults.MapFault.{MapFault}
use Rattle.wad_dir.specs.declared.parts.Kind.{Kind}
use Rattle.wad_dir.specs.declared.parts.MapSpot.{MapSpot}
use Rattle.wad_dir.specs.Map.{is_run_name, shifted, spot_of}
use Rattle.wad_dir.specs.Kept.{reject_then}
use Rattle.wad_dir.specs.Print.{lumps_with_reject, with_reject}
use Rattle.wad_dir.specs.Wad.{WadFile, WadLump, names_of_lumps}
use Rattle.wad_dir.proofs.Inserted.{padded}
use Rattle.wad_dir.proofs.Moved.{further, spot_by_parts, spot_moved}
use Rattle.wad_dir.specs.declared.all_maps.parts.Change.{Change}
use Rattle.wad_dir.specs.AllMaps.All.{EachChangeIsMade, HasInOrder, IsAll, names_changed, with_all, with_change}
use Rattle.wad_dir.specs.AllMaps.Maps.{maps_in_names}
use Rattle.wad_dir.specs.AllMaps.Spliced.{AreSpaced, IsChangeBehind, piece, place_behind_reject, spliced}
use Rattle.wad_dir.proofs.AllMaps.Pieces.{change_len, change_made, change_names, names_then, shift_of, spliced_more, then_behind}
use Rattle.wad_dir.proofs.AllMaps.Spacing.{are_spaced, no_reject}

-- ---- spots that stand further on

shifted_sum : (k : ℕ) (o : Option ℕ) → shifted 1 (shifted k o) ≡ shifted (1 + k) o
shifted_sum k None = refl
shifted_sum k (Some r) = let same : 1 + (k + r) ≡ 1 + k + r = omega arith in ap (λ (i : ℕ). Some i) same

further_sum : (k : ℕ) (spot : MapSpot) → further 1 (further k spot) ≡ further (1 + k) spot
further_sum k spot = grind (arith, shifted_sum)

shifted_none : (o : Option ℕ) → o ≡ shifted 0 o
shifted_none None = refl
shifted_none (Some r) = let same : r ≡ 0 + r = omega arith in ap (λ (i : ℕ). Some i) same

further_none : (spot : MapSpot) → spot ≡ further 0 spot
further_none spot =
    let none : (x : ℕ) → x ≡ 0 + x = (λ x. omega arith) in
    (λ i. spot_by_parts (none spot.marker i) (none spot.linedefs i) (none spot.sidedefs i) (none spot.vertexes i) (none spot.sectors i) (shifted_none spot.reject i) spot.format spot.text)

ok_is_same : (a b : MapSpot) → ◌≡◌ {A = Result MapSpot MapFault} (Ok a) (Ok b) → a ≡ b
ok_is_same a b e = cc

-- each map that is found among the first names is found among the others so much further on
abbrev pub AreFurther : List (List ℕ) → List (List ℕ) → ℕ → List Change → Type 0
AreFurther first names k [] = ⊤
AreFurther first names k (c ∷ cs) = ((spot : MapSpot) → spot_of first c.name ≡ Ok spot → spot_of names c.name ≡ Ok (further k spot)) × AreFurther first names k cs

pub further_start : (names : List (List ℕ)) (cs : List Change) → AreFurther names names 0 cs
further_start names [] = tt
further_start names (c ∷ cs) = (λ spot e. e ∙ ap (λ (x : MapSpot). Ok x) (further_none spot), further_start names cs)

-- a REJECT is put in before them
further_put : (first names : List (List ℕ)) (len k i done : ℕ) (cs : List Change) → i ≤ k + done → AreSpaced first len done cs → AreFurther first names k cs → AreFurther first (insert names i padded) (1 + k) cs
further_put first names len k i done [] le spaced h = tt
further_put first names len k i done (c ∷ cs) le spaced h =
    let b : IsChangeBehind first len done c = spaced.0 in
    let begins = b.begins in
    let inside = b.inside in
    let later = then_behind b.spot in (
      λ spot e.
          let same : b.spot ≡ spot = ok_is_same b.spot spot (sym b.found ∙ e) in
          let at : done ≤ spot.marker = subst (λ (x : MapSpot). done ≤ x.marker) same begins in
          spot_moved names i c.name padded (further k spot) (no_reject c.name b.other) (omega (arith, le, at)) (h.0 spot e) ∙ ap (λ (x : MapSpot). Ok x) (further_sum k spot),
      further_put first names len k i (place_behind_reject b.spot) cs (omega (arith, le, begins, inside, later)) spaced.1 h.1,
    )

-- behind one change
further_next : (first names : List (List ℕ)) (len k : ℕ) (spot : MapSpot) (cs : List Change) → AreSpaced first len (place_behind_reject spot) cs → AreFurther first names k cs → AreFurther first (names_then names spot.sectors spot.reject k) (shift_of spot.reject k) cs
further_next first names len k spot cs spaced h = by spot.reject spaced
  where
    by : (o : Option ℕ) → AreSpaced first len (elim o [ Some r ↦ r + 1 | None ↦ spot.sectors + 1 ]) cs → AreFurther first (names_then names spot.sectors o k) (shift_of o k) cs
    by (Some r) s = h
    by None s = further_put first names len k (k + spot.sectors + 1) (spot.sectors + 1) cs (omega arith) s h

-- ---- all changes

abbrev pub file : Kind → List WadLump → WadFile
file kind lumps = record { kind = kind; lumps = lumps }

abbrev pub lump_names : List WadLump → List (List ℕ)
lump_names lumps = map (λ (l : WadLump). l.name) lumps

-- what is known of the next change, where the lumps before `done` were changed and stand in front
pub record IsStep (kind : Kind) (lumps front : List WadLump) (k done : ℕ) (c : Change) (cs : List Change) : Type 0 where
  pub spot : MapSpot
  pub first : spot_of (lump_names lumps) c.name ≡ Ok spot
  pub begins : done ≤ spot.marker
  pub inside : spot.marker < reject_then spot
  pub other : is_run_name c.name ≡ false
  pub found : spot_of (lump_names (front ++ drop done lumps)) c.name ≡ Ok (further k spot)
  pub put : with_reject (file kind (front ++ drop done lumps)) (further k spot) c.table ≡ file kind ((front ++ piece lumps done spot c.table) ++ drop (place_behind_reject spot) lumps)
  pub spaced : AreSpaced (lump_names lumps) (length lumps) (place_behind_reject spot) cs
  pub len : length (front ++ piece lumps done spot c.table) ≡ shift_of spot.reject k + place_behind_reject spot
  pub later : AreFurther (lump_names lumps) (lump_names ((front ++ piece lumps done spot c.table) ++ drop (place_behind_reject spot) lumps)) (shift_of spot.reject k) cs

pub step_of : (kind : Kind) (lumps front : List WadLump) (k done : ℕ) (c : Change) (cs : List Change) → AreSpaced (lump_names lumps) (length lumps) done (c ∷ cs) → length front ≡ k + done → AreFurther (lump_names lumps) (lump_names (front ++ drop done lumps)) k (c ∷ cs) → IsStep kind lumps front k done c cs
step_of kind lumps front k done c cs spaced len h =
    let b : IsChangeBehind (lump_names lumps) (length lumps) done c = spaced.0 in
    let spot : MapSpot = b.spot in
    let begins : done ≤ b.spot.marker = b.begins in
    let inside : b.spot.marker < reject_then b.spot = b.inside in
    let within : done ≤ reject_then b.spot = omega (arith, begins, inside) in
    let lumps_are : lumps_with_reject (front ++ drop done lumps) (further k spot) c.table ≡ (front ++ piece lumps done spot c.table) ++ drop (place_behind_reject spot) lumps = change_made front lumps k done spot c.table len within b.ends in
    let names_are : names_then (lump_names (front ++ drop done lumps)) spot.sectors spot.reject k ≡ lump_names ((front ++ piece lumps done spot c.table) ++ drop (place_behind_reject spot) lumps) = sym (change_names (front ++ drop done lumps) k spot c.table) ∙ ap (λ (zs : List WadLump). lump_names zs) lumps_are in
    record {
      spot = spot;
      first = b.found;
      begins = begins;
      inside = inside;
      other = b.other;
      found = h.0 spot b.found;
      put = ap (λ (zs : List WadLump). file kind zs) lumps_are;
      spaced = spaced.1;
      len = change_len front lumps k done spot c.table len within b.ends;
      later = subst (λ (ns : List (List ℕ)). AreFurther (lump_names lumps) ns (shift_of spot.reject k) cs) names_are (further_next (lump_names lumps) (lump_names (front ++ drop done lumps)) (length lumps) k spot cs spaced.1 h.1);
    }

pub changed_at : (w : WadFile) (c : Change) (spot : MapSpot) → spot_of (names_of_lumps w) c.name ≡ Ok spot → with_change w c ≡ with_reject w spot c.table
changed_at w c spot found = ap (λ (r : Result MapSpot MapFault). elim r [ Ok s ↦ with_reject w s c.table | Err f ↦ w ]) found

record IsMerged (kind : Kind) (lumps front : List WadLump) (done : ℕ) (cs : List Change) : Type 0 where
  all : with_all (file kind (front ++ drop done lumps)) cs ≡ file kind (front ++ spliced (lump_names lumps) lumps done cs)
  made : IsAll (file kind (front ++ drop done lumps)) cs (with_all (file kind (front ++ drop done lumps)) cs)

merged : (kind : Kind) (lumps front : List WadLump) (k done : ℕ) (cs : List Change) → AreSpaced (lump_names lumps) (length lumps) done cs → length front ≡ k + done → AreFurther (lump_names lumps) (lump_names (front ++ drop done lumps)) k cs → IsMerged kind lumps front done cs
merged kind lumps front k done [] spaced len h = record { all = refl; made = refl }
merged kind lumps front k done (c ∷ cs) spaced len h =
    let s : IsStep kind lumps front k done c cs = step_of kind lumps front k done c cs spaced len h in
    let old : WadFile = file kind (front ++ drop done lumps) in
    let next : List WadLump = front ++ piece lumps done s.spot c.table in
    let rest : IsMerged kind lumps next (place_behind_reject s.spot) cs = merged kind lumps next (shift_of s.spot.reject k) (place_behind_reject s.spot) cs s.spaced s.len s.later in
    let change : with_change old c ≡ with_reject old (further k s.spot) c.table = changed_at old c (further k s.spot) s.found in
    let one_pass : next ++ spliced (lump_names lumps) lumps (place_behind_reject s.spot) cs ≡ front ++ spliced (lump_names lumps) lumps done (c ∷ cs) = append_assoc front (piece lumps done s.spot c.table) (spliced (lump_names lumps) lumps (place_behind_reject s.spot) cs) ∙ ap (λ (zs : List WadLump). front ++ zs) (sym (spliced_more (lump_names lumps) lumps done c cs s.spot s.first)) in
    record {
      all = ap (λ (w : WadFile). with_all w cs) (change ∙ s.put) ∙ rest.all ∙ ap (λ (zs : List WadLump). file kind zs) one_pass;
      made = (further k s.spot, s.found, subst (λ (w : WadFile). IsAll (with_reject old (further k s.spot) c.table) cs (with_all w cs)) (sym change) (subst (λ (w : WadFile). IsAll w cs (with_all w cs)) (sym s.put) rest.made));
    }

pub spaced_lumps : (w : WadFile) (cs : List Change) → HasInOrder (maps_in_names (names_of_lumps w)) (names_changed cs) → AreSpaced (names_of_lumps w) (length w.lumps) 0 cs
spaced_lumps w cs among = subst (λ (n : ℕ). AreSpaced (names_of_lumps w) n 0 cs) (length-map w.lumps (λ (l : WadLump). l.name)) (are_spaced (names_of_lumps w) cs among)

whole : (w : WadFile) (cs : List Change) → HasInOrder (maps_in_names (names_of_lumps w)) (names_changed cs) → IsMerged w.kind w.lumps [] 0 cs
whole w cs among = merged w.kind w.lumps [] 0 0 cs (spaced_lumps w cs among) refl (further_start (names_of_lumps w) cs)

-- the WAD with all changes has the lumps that one pass puts together
pub all_spliced : (w : WadFile) (cs : List Change) → HasInOrder (maps_in_names (names_of_lumps w)) (names_changed cs) → with_all w cs ≡ record { kind = w.kind; lumps = spliced (names_of_lumps w) w.lumps 0 cs }
all_spliced w cs among = (whole w cs among).all

pub each_change_is_made : EachChangeIsMade
each_change_is_made w cs among = (whole w cs among).made
