-- The lumps of a map end before the marker of the next map.
use Rattle.std.proofs.Common.{◌≡◌, ℕ, zero, suc, ◌+◌, ◌-◌, ◌<◌, ◌≤◌, ◌⊎◌, inl, inr, List, [], ◌∷◌, length, get_or, drop, slice_get, Bool, true, false, not, ◌&&◌, if◌then◌else◌, is_ok, Option, Some, None, Result, Ok, Err, refl, sym, ap, ◌∙◌, subst, arith, IsOk, IsTrue, ◌++◌}
use Rattle.std.specs.Prelude.{bytes_eq, codes}
use Rattle.std.specs.List.{All, list_all, list_any, position_from}
use Rattle.std.proofs.lemmas.Bool.{false≢true}
use Rattle.std.proofs.lemmas.List.{get_or-drop, length-drop}
use Rattle.std.proofs.lemmas.Option.{get_or_from_slice_get, slice_get_within}
use Rattle.std.proofs.lemmas.Slice.Eq.{bytes_eq-Decides}
use Rattle.sight_names.specs.declared.faults.Lump.TheVariants.{Sectors}
use Rattle.sight_names.specs.declared.faults.MapFault.{MapFault}
use Rattle.sight_names.specs.declared.names.MapFormat.{MapFormat}
use Rattle.wad_dir.specs.declared.parts.MapSpot.{MapSpot}
use Rattle.wad_dir.specs.Kept.{reject_then}
use Rattle.wad_dir.specs.Map.{begins_with_textmap, has_name, is_run_name, key_of, lump_name, run_names, same_name, spot_of}
use Rattle.wad_dir.proofs.Inserted.{more, more_named, more_short, place_bound, word}
use Rattle.wad_dir.proofs.Moved.{marker_named, spot_alike}
use Rattle.wad_dir.proofs.Spots.{IsSpot, run_at, spot_at, spot_parts}
use Rattle.wad_dir.specs.declared.all_maps.parts.Change.{Change}
use Rattle.wad_dir.specs.AllMaps.All.{HasInOrder, names_changed}
use Rattle.wad_dir.specs.AllMaps.Maps.{is_map, is_map_name, is_udmf, is_visible, maps_among, maps_in_names, markers_among, told, udmf_maps_of}
use Rattle.wad_dir.specs.AllMaps.Spliced.{AreSpaced, place_behind_reject}
use Rattle.wad_dir.proofs.AllMaps.FoundMaps.{all_more, begins_here, each_marker}
use Rattle.wad_dir.proofs.AllMaps.TextRuns.{behind_text}
use Rattle.wad_dir.proofs.AllMaps.Told.{key_told}
use Rattle.math_base.proofs.Bools.{false_of_not, false_where_not_true, first_true, not_both_values, second_true}
use Rattle.math_base.proofs.Numbers.{below_or_not, is_told_same, next_is}

-- ---- where a run ends

-- the lumps of the map whose marker stands there
abbrev pub run_of : List (List ℕ) → ℕ → List (List ℕ)
run_of ns m = run_at (drop (m + 1) ns)

ends_at : (m l s v c len : ℕ) (r : Option ℕ) (text : Bool) (format : MapFormat) → c < len → ((k : ℕ) → r ≡ Some k → k < len) → (m < reject_then (spot_at m text format l s v c r)) × (place_behind_reject (spot_at m text format l s v c r) ≤ m + 1 + len)
ends_at m l s v c len None text format lt within = (omega (arith, lt), omega (arith, lt))
ends_at m l s v c len (Some k) text format lt within = let b : k < len = within k refl in (omega (arith, b), omega (arith, b))

-- the REJECT lies behind the marker and in the run, and so does the place behind SECTORS
pub spot_ends : (ns : List (List ℕ)) (name : List ℕ) (spot : MapSpot) (p : IsSpot ns name spot) → (spot.marker < reject_then spot) × (place_behind_reject spot ≤ p.marker + 1 + length (run_of ns p.marker))
spot_ends ns name spot p =
    let run : List (List ℕ) = run_of ns p.marker in
    let below : (x : List ℕ) (k : ℕ) → position_from (λ n. same_name n x) 0 run ≡ Some k → k < length run = (λ x k e. let h = place_bound (λ n. same_name n x) run 0 k e in omega (arith, h.1)) in
    let ends = ends_at p.marker p.l p.s p.v p.c (length run) p.r p.text p.format (below (lump_name (begins_with_textmap (drop (p.marker + 1) ns)) Sectors) p.c p.sectors) (λ k e. below word k (p.reject ∙ e)) in
    subst (λ (y : MapSpot). (y.marker < reject_then y) × (place_behind_reject y ≤ p.marker + 1 + length run)) (sym p.is) ends

run_fits : (ns : List (List ℕ)) (m : ℕ) → m < length ns → m + 1 + length (run_of ns m) ≤ length ns
run_fits ns m lt = let a = more_short (begins_with_textmap (drop (m + 1) ns)) [] (drop (m + 1) ns) in let b = length-drop (m + 1) ns in omega (arith, a, b, lt)

-- an entry behind the marker that isn't named as a map's lump stands behind the run of lumps
behind_lumps : (ns : List (List ℕ)) (m k : ℕ) (name : List ℕ) → m < k → slice_get ns k ≡ Some name → is_run_name name ≡ false → k < m + 1 + length (more false [] (drop (m + 1) ns)) → ⊥
behind_lumps ns m k name lt there other sooner = clash (k - (m + 1)) (omega (arith, lt)) (omega (arith, lt, sooner))
  where
    clash : (j : ℕ) → m + 1 + j ≡ k → j < length (more false [] (drop (m + 1) ns)) → ⊥
    clash j at within =
        let same : get_or (drop (m + 1) ns) j name ≡ name = get_or-drop (m + 1) ns j name ∙ ap (λ (i : ℕ). get_or ns i name) at ∙ get_or_from_slice_get ns k name name there in
        not_both_values (is_run_name name) (ap (λ (x : List ℕ). is_run_name x) (sym same) ∙ more_named [] (drop (m + 1) ns) j name within) other

pub lump_alike : (a b : List ℕ) → key_of a ≡ key_of b → is_run_name a ≡ is_run_name b
lump_alike a b e = ap (λ (key : List ℕ). list_any (λ n. bytes_eq key (key_of n)) run_names) e

-- the marker of a map that isn't named as a map's lump stands behind the run of each map before it
pub run_before : (ns : List (List ℕ)) (a name : List ℕ) (first spot : MapSpot) → spot_of ns a ≡ Ok first → spot_of ns name ≡ Ok spot → is_run_name name ≡ false → first.marker < spot.marker → first.marker + 1 + length (run_of ns first.marker) ≤ spot.marker
run_before ns a name first spot was found other lt =
    let p = spot_parts ns a first was in
    let q = spot_parts ns name spot found in
    let n = marker_named ns name spot found in
    let here : first.marker ≡ p.marker = ap (λ (y : MapSpot). y.marker) p.is in
    let there : spot.marker ≡ q.marker = ap (λ (y : MapSpot). y.marker) q.is in
    let named : slice_get ns q.marker ≡ Some n.0 = ap (λ (k : ℕ). slice_get ns k) (sym there) ∙ n.1 in
    let behind : p.marker < q.marker = omega (arith, here, there, lt) in
    let ends : p.marker + 1 + length (run_of ns p.marker) ≤ q.marker = by p.marker q.marker (begins_with_textmap (drop (p.marker + 1) ns)) (λ sooner. behind_lumps ns p.marker q.marker n.0 behind named (lump_alike n.0 name n.2 ∙ other) sooner) (λ text sooner. behind_text ns a name first spot p q text behind sooner) refl in
    let moved : first.marker + 1 + length (run_of ns first.marker) ≤ q.marker = subst (λ (m : ℕ). m + 1 + length (run_of ns m) ≤ q.marker) (sym here) ends in
    omega (arith, moved, there)
  where
    stays : (k end : ℕ) → (k < end → ⊥) → (k < end) ⊎ (end ≤ k) → end ≤ k
    stays k end never (inl sooner) = absurd (never sooner)
    stays k end never (inr le) = le

    by : (m k : ℕ) (t : Bool) → (k < m + 1 + length (more false [] (drop (m + 1) ns)) → ⊥) → (begins_with_textmap (drop (m + 1) ns) ≡ true → k < m + 1 + length (more true [] (drop (m + 1) ns)) → ⊥) → begins_with_textmap (drop (m + 1) ns) ≡ t → m + 1 + length (more t [] (drop (m + 1) ns)) ≤ k
    by m k true lumps texts is = stays k (m + 1 + length (more true [] (drop (m + 1) ns))) (texts is) (below_or_not k (m + 1 + length (more true [] (drop (m + 1) ns))))
    by m k false lumps texts is = stays k (m + 1 + length (more false [] (drop (m + 1) ns))) lumps (below_or_not k (m + 1 + length (more false [] (drop (m + 1) ns))))

-- ---- names of maps

pub no_lump_name : (name : List ℕ) → is_map_name name ≡ true → is_run_name name ≡ false
unfolding is_map_name
no_lump_name name e = false_of_not (is_run_name name) (second_true (not (same_name name []) && list_all is_visible (key_of name) && not (same_name name (codes "BEHAVIOR")) && not (same_name name (codes "TEXTMAP")) && not (same_name name (codes "ENDMAP"))) (not (is_run_name name)) e)

-- such a name isn't that of a REJECT
reject_is_lump : (name : List ℕ) → same_name word name ≡ true → is_run_name name ≡ true
reject_is_lump name e = subst (λ (key : List ℕ). list_any (λ n. bytes_eq key (key_of n)) run_names ≡ true) ((bytes_eq-Decides word (key_of name)).0 e) refl

pub no_reject : (name : List ℕ) → is_run_name name ≡ false → same_name word name ≡ false
no_reject name e = false_where_not_true (same_name word name) (λ t. not_both_values (is_run_name name) (reject_is_lump name t) e)

-- the parts of is_map
map_named : (all : List (List ℕ)) (name : List ℕ) (behind : List (List ℕ)) → is_map all name behind ≡ true → is_map_name name ≡ true
unfolding is_map
map_named all name behind e = first_true (is_map_name name) (not (has_name name behind)) (first_true (is_map_name name && not (has_name name behind)) (is_ok (spot_of all name)) e)

map_last : (all : List (List ℕ)) (name : List ℕ) (behind : List (List ℕ)) → is_map all name behind ≡ true → not (has_name name behind) ≡ true
unfolding is_map
map_last all name behind e = second_true (is_map_name name) (not (has_name name behind)) (first_true (is_map_name name && not (has_name name behind)) (is_ok (spot_of all name)) e)

ok_there : (r : Result MapSpot MapFault) → is_ok r ≡ true → (spot : MapSpot) × (r ≡ Ok spot)
ok_there (Ok spot) e = (spot, refl)
ok_there (Err f) e = absurd (false≢true e)

map_there : (all : List (List ℕ)) (name : List ℕ) (behind : List (List ℕ)) → is_map all name behind ≡ true → (spot : MapSpot) × (spot_of all name ≡ Ok spot)
unfolding is_map
map_there all name behind e = ok_there (spot_of all name) (second_true (is_map_name name && not (has_name name behind)) (is_ok (spot_of all name)) e)

-- ---- a map at an entry

rest_at : (ns : List (List ℕ)) (k : ℕ) (n : List ℕ) (ms : List (List ℕ)) → n ∷ ms ≡ drop k ns → (slice_get ns k ≡ Some n) × (ms ≡ drop (suc k) ns)
rest_at [] zero n ms e = absurd cc
rest_at [] (suc k) n ms e = absurd cc
rest_at (x ∷ ns) zero n ms e = (let same : n ≡ x = cc in ap (λ (y : List ℕ). Some y) (sym same), cc)
rest_at (x ∷ ns) (suc k) n ms e = rest_at ns k n ms e

-- the map at that entry, found by its name as it is told
record IsMapAt (ns : List (List ℕ)) (k : ℕ) (n name : List ℕ) : Type 0 where
  spot : MapSpot
  found : spot_of ns name ≡ Ok spot
  marker : spot.marker ≡ k
  inside : spot.marker < reject_then spot
  ends : place_behind_reject spot ≤ k + 1 + length (run_of ns k)
  other : is_run_name name ≡ false

map_at : (ns : List (List ℕ)) (k : ℕ) (n name : List ℕ) → slice_get ns k ≡ Some n → is_map ns n (drop (k + 1) ns) ≡ true → name ≡ told n → IsMapAt ns k n name
map_at ns k n name there is e =
    let key : key_of name ≡ key_of n = ap key_of e ∙ key_told n in
    let h = map_there ns n (drop (k + 1) ns) is in
    let p = spot_parts ns n h.0 h.1 in
    let marker : h.0.marker ≡ k = is_told_same h.0.marker k (begins_here ns n k h.0 there h.1 ∙ map_last ns n (drop (k + 1) ns) is) in
    let same : p.marker ≡ k = sym (ap (λ (y : MapSpot). y.marker) p.is) ∙ marker in
    let ends = spot_ends ns n h.0 p in
    record {
      spot = h.0;
      found = spot_alike ns name n key ∙ h.1;
      marker = marker;
      inside = ends.0;
      ends = subst (λ (m : ℕ). place_behind_reject h.0 ≤ m + 1 + length (run_of ns m)) same ends.1;
      other = lump_alike name n key ∙ no_lump_name n (map_named ns n (drop (k + 1) ns) is);
    }

-- ---- maps in order

-- every map whose marker stands from a place on begins no sooner than another place
abbrev NoSooner : List (List ℕ) → ℕ → ℕ → Type 0
NoSooner ns k done = (name : List ℕ) (spot : MapSpot) → k ≤ spot.marker → spot_of ns name ≡ Ok spot → is_run_name name ≡ false → done ≤ spot.marker

spaced_from : (ns ms : List (List ℕ)) (k done : ℕ) (cs : List Change) → ms ≡ drop k ns → done ≤ length ns → NoSooner ns k done → HasInOrder (maps_among ns ms) (names_changed cs) → AreSpaced ns (length ns) done cs
spaced_from ns [] k done [] e within sooner among = within
spaced_from ns [] k done (c ∷ cs) e within sooner among = absurd among
spaced_from ns (n ∷ ms) k done cs e within sooner among =
    let at = rest_at ns k n ms e in
    let behind : ms ≡ drop (k + 1) ns = at.1 ∙ ap (λ (i : ℕ). drop i ns) (next_is k) in
    by (is_map ns n ms) cs refl at.0 behind among (λ d xs w s a. spaced_from ns ms (k + 1) d xs behind w s a)
  where
    later : NoSooner ns (k + 1) done
    later name spot le found other = sooner name spot (omega (arith, le)) found other

    first : (c : Change) (rest : List Change) → is_map ns n ms ≡ true → slice_get ns k ≡ Some n → ms ≡ drop (k + 1) ns → c.name ≡ told n → HasInOrder (maps_among ns ms) (names_changed rest)
        → ((d : ℕ) (xs : List Change) → d ≤ length ns → NoSooner ns (k + 1) d → HasInOrder (maps_among ns ms) (names_changed xs) → AreSpaced ns (length ns) d xs)
        → AreSpaced ns (length ns) done (c ∷ rest)
    first c rest is there behind same among more_of =
        let is_at : is_map ns n (drop (k + 1) ns) ≡ true = ap (λ (xs : List (List ℕ)). is_map ns n xs) (sym behind) ∙ is in
        let m = map_at ns k n c.name there is_at same in
        let marker = m.marker in
        let begins : done ≤ m.spot.marker = sooner c.name m.spot (omega (arith, marker)) m.found m.other in
        let fits = run_fits ns k (slice_get_within ns k n there) in
        let ends = m.ends in
        let place : place_behind_reject m.spot ≤ length ns = omega (arith, fits, ends) in
        let after : NoSooner ns (k + 1) (place_behind_reject m.spot) = (λ name spot le found other.
        let b = run_before ns c.name name m.spot spot m.found found other (omega (arith, le, marker)) in
        let e : m.spot.marker + 1 + length (run_of ns m.spot.marker) ≡ k + 1 + length (run_of ns k) = ap (λ (i : ℕ). i + 1 + length (run_of ns i)) marker in
        omega (arith, b, e, ends)) in
        (record { spot = m.spot; found = m.found; begins = begins; inside = m.inside; ends = place; other = m.other }, more_of (place_behind_reject m.spot) rest place after among)

    by : (t : Bool) (xs : List Change) → is_map ns n ms ≡ t → slice_get ns k ≡ Some n → ms ≡ drop (k + 1) ns → HasInOrder (if t then told n ∷ maps_among ns ms else maps_among ns ms) (names_changed xs)
        → ((d : ℕ) (ys : List Change) → d ≤ length ns → NoSooner ns (k + 1) d → HasInOrder (maps_among ns ms) (names_changed ys) → AreSpaced ns (length ns) d ys)
        → AreSpaced ns (length ns) done xs
    by false xs is there behind among more_of = more_of done xs within later among
    by true [] is there behind among more_of = within
    by true (c ∷ rest) is there behind (inl h) more_of = first c rest is there behind h.0 h.1 more_of
    by true (c ∷ rest) is there behind (inr h) more_of = more_of done (c ∷ rest) within later h

-- where the names that are changed are some of the maps, in order, the maps lie one behind the other
pub are_spaced : (ns : List (List ℕ)) (cs : List Change) → HasInOrder (maps_in_names ns) (names_changed cs) → AreSpaced ns (length ns) 0 cs
are_spaced ns cs among = spaced_from ns ns 0 0 cs refl (omega arith) (λ name spot le found other. omega arith) among

-- ---- what is known of each map's name

pub named_alike : (a b : List ℕ) → key_of a ≡ key_of b → is_map_name a ≡ is_map_name b
unfolding is_map_name
named_alike a b e = ap (λ (key : List ℕ). not (bytes_eq key []) && list_all is_visible key && not (bytes_eq key (codes "BEHAVIOR")) && not (bytes_eq key (codes "TEXTMAP")) && not (bytes_eq key (codes "ENDMAP")) && not (list_any (λ n. bytes_eq key (key_of n)) run_names)) e

each_found : (all ns : List (List ℕ)) (k : ℕ) (d : List ℕ) → k < length (maps_among all ns) → (is_map_name (get_or (maps_among all ns) k d) ≡ true) × IsOk (spot_of all (get_or (maps_among all ns) k d))
each_found all ns k d lt = each_marker (is_map all) (λ (name : List ℕ). (is_map_name name ≡ true) × IsOk (spot_of all name)) first ns k d lt
  where
    first : (n : List ℕ) (behind : List (List ℕ)) → is_map all n behind ≡ true → (is_map_name (told n) ≡ true) × IsOk (spot_of all (told n))
    first n behind is =
        let h = map_there all n behind is in
        (named_alike (told n) n (key_told n) ∙ map_named all n behind is, ap (λ (r : Result MapSpot MapFault). is_ok r) (spot_alike all (told n) n (key_told n) ∙ h.1))

maps_are : (ns : List (List ℕ)) (k : ℕ) (maps : List (List ℕ)) → length ns ≤ k → maps ++ maps_among ns (drop k ns) ≡ maps_in_names ns → maps ≡ maps_in_names ns
maps_are ns k maps le h = all_more (is_map ns) ns k maps (maps_in_names ns) le h

-- each name can be a map's
pub maps_named : (ns : List (List ℕ)) → All (λ (name : List ℕ). IsTrue (is_map_name name)) (maps_in_names ns)
maps_named ns = λ i d lt. (each_found ns ns i d lt).0

pub all_named : (ns : List (List ℕ)) (k : ℕ) (maps : List (List ℕ)) → length ns ≤ k → maps ++ maps_among ns (drop k ns) ≡ maps_in_names ns → All (λ (name : List ℕ). IsTrue (is_map_name name)) maps
all_named ns k maps le h = subst (λ (xs : List (List ℕ)). All (λ (name : List ℕ). IsTrue (is_map_name name)) xs) (sym (maps_are ns k maps le h)) (maps_named ns)

-- and finds a map
pub all_found : (ns : List (List ℕ)) (k : ℕ) (maps : List (List ℕ)) → length ns ≤ k → maps ++ maps_among ns (drop k ns) ≡ maps_in_names ns → All (λ (name : List ℕ). IsOk (spot_of ns name)) maps
all_found ns k maps le h = subst (λ (xs : List (List ℕ)). All (λ (name : List ℕ). IsOk (spot_of ns name)) xs) (sym (maps_are ns k maps le h)) (λ i d lt. (each_found ns ns i d lt).1)

-- each name of a map of UDMF can be a map's
pub udmf_named : (ns : List (List ℕ)) (k : ℕ) (maps : List (List ℕ)) → length ns ≤ k → maps ++ markers_among is_udmf (drop k ns) ≡ udmf_maps_of ns → All (λ (name : List ℕ). IsTrue (is_map_name name)) maps
udmf_named ns k maps le h =
    subst (λ (xs : List (List ℕ)). All (λ (name : List ℕ). IsTrue (is_map_name name)) xs) (sym (all_more is_udmf ns k maps (udmf_maps_of ns) le h))
    (λ i d lt. each_marker is_udmf (λ (name : List ℕ). is_map_name name ≡ true) (λ n behind is. named_alike (told n) n (key_told n) ∙ first_true (is_map_name n) (not (has_name n behind)) (first_true (is_map_name n && not (has_name n behind)) (begins_with_textmap behind) is)) ns i d lt)
