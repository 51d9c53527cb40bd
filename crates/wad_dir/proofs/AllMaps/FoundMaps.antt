-- Which entries are the markers of maps.
use Rattle.std.proofs.Common.{◌≡◌, ℕ, zero, suc, ◌+◌, ◌<◌, ◌≤◌, ◌⊎◌, inl, inr, List, [], ◌∷◌, ◌++◌, length, get_or, drop, slice_get, Bool, true, false, not, ◌&&◌, ◌||◌, ◌==◌, if◌then◌else◌, is_ok, Option, Some, None, Result, Ok, Err, refl, sym, ap, ◌∙◌, append_assoc, append-nil, arith}
use Rattle.std.proofs.lemmas.List.{drop_all, drop_more}
use Rattle.std.proofs.lemmas.Option.{get_or_from_slice_get, slice_get_within}
use Rattle.std.proofs.lemmas.Slice.Eq.{bytes_eq-Decides}
use Rattle.sight_names.specs.declared.faults.MapFault.{MapFault}
use Rattle.wad_dir.specs.declared.parts.Entry.{Entry}
use Rattle.wad_dir.specs.declared.parts.MapSpot.{MapSpot}
use Rattle.wad_dir.specs.Map.{begins_with_textmap, entry_names, has_name, key_of, last_from, same_name, spot_of}
use Rattle.wad_dir.proofs.Inserted.{last_bound}
use Rattle.wad_dir.proofs.Spots.{spot_parts}
use Rattle.wad_dir.specs.AllMaps.Maps.{is_map, is_map_name, is_udmf, markers_among, told}
use Rattle.math_base.proofs.Numbers.{next_is, tells_other, tells_same}
use Rattle.math_base.proofs.Options.{none_is_not_some, some_is_not_none, some_is_same}

-- ---- the last of a name

pub self_same : (name : List ℕ) → same_name name name ≡ true
self_same name = (bytes_eq-Decides (key_of name) (key_of name)).1 refl

-- an earlier one is the last just where there is none among the names
last_after : (ns : List (List ℕ)) (name : List ℕ) (j i m : ℕ) → i < j → last_from ns name j (Some i) ≡ Some m → (m == i) ≡ not (has_name name ns)
last_after [] name j i m lt h = tells_same m i (sym (some_is_same i m h))
last_after (n ∷ ns) name j i m lt h = by (same_name n name) (λ g. last_after ns name (j + 1) i m (omega (arith, lt)) g) h
  where
    above : (Some j ≡ Some m) ⊎ (j + 1 ≤ m) → m ≡ i → ⊥
    above (inl e) s = let same : j ≡ m = some_is_same j m e in omega (arith, same, s, lt)
    above (inr l) s = omega (arith, l, s, lt)

    by : (t : Bool) → (last_from ns name (j + 1) (Some i) ≡ Some m → (m == i) ≡ not (has_name name ns)) → last_from ns name (j + 1) (if t then Some j else Some i) ≡ Some m → (m == i) ≡ not (t || has_name name ns)
    by true later g = tells_other m i (λ e. above (last_bound ns name (j + 1) (Some j) m g) e)
    by false later g = later g

last_here : (ns : List (List ℕ)) (name : List ℕ) (k j : ℕ) (found : Option ℕ) (m : ℕ) → slice_get ns k ≡ Some name → last_from ns name j found ≡ Some m → (m == j + k) ≡ not (has_name name (drop (suc k) ns))
last_here [] name k j found m there h = absurd (none_is_not_some name there)
last_here (n ∷ ns) name zero j found m there h = grind (arith, last_after, self_same, some_is_same)
last_here (n ∷ ns) name (suc k) j found m there h =
    let one_more : j + suc k ≡ j + 1 + k = omega arith in
    ap (λ (i : ℕ). m == i) one_more ∙ last_here ns name k (j + 1) (if same_name n name then Some j else found) m there h

-- the last entry of a name is this one just where no later one has the name
pub is_last : (ns : List (List ℕ)) (name : List ℕ) (k m : ℕ) → slice_get ns k ≡ Some name → last_from ns name 0 None ≡ Some m → (m == k) ≡ not (has_name name (drop (k + 1) ns))
is_last ns name k m there h =
    let none_more : k ≡ 0 + k = omega arith in
    ap (λ (i : ℕ). m == i) none_more ∙ last_here ns name k 0 None m there h ∙ ap (λ (i : ℕ). not (has_name name (drop i ns))) (next_is k)

-- a name that is there has a last entry
still_found : (ns : List (List ℕ)) (name : List ℕ) (j i : ℕ) → last_from ns name j (Some i) ≡ None → ⊥
still_found [] name j i h = some_is_not_none i h
still_found (n ∷ ns) name j i h = by (same_name n name) (λ k g. still_found ns name (j + 1) k g) h
  where
    by : (t : Bool) → ((k : ℕ) → last_from ns name (j + 1) (Some k) ≡ None → ⊥) → last_from ns name (j + 1) (if t then Some j else Some i) ≡ None → ⊥
    by true later g = later j g
    by false later g = later i g

pub has_last : (ns : List (List ℕ)) (name : List ℕ) (k j : ℕ) (found : Option ℕ) → slice_get ns k ≡ Some name → last_from ns name j found ≡ None → ⊥
has_last [] name k j found there h = none_is_not_some name there
has_last (n ∷ ns) name zero j found there h = grind (arith, self_same, some_is_same, still_found)
has_last (n ∷ ns) name (suc k) j found there h = has_last ns name k (j + 1) (if same_name n name then Some j else found) there h

-- a map that is found begins at an entry of its name just where no later one has the name
pub begins_here : (ns : List (List ℕ)) (name : List ℕ) (k : ℕ) (spot : MapSpot) → slice_get ns k ≡ Some name → spot_of ns name ≡ Ok spot → (spot.marker == k) ≡ not (has_name name (drop (k + 1) ns))
begins_here ns name k spot there found =
    let p = spot_parts ns name spot found in
    let marker : spot.marker ≡ p.marker = ap (λ (y : MapSpot). y.marker) p.is in
    ap (λ (i : ℕ). i == k) marker ∙ is_last ns name k p.marker there p.is_last

-- ---- what is_map says

pub other_name : (all : List (List ℕ)) (name : List ℕ) (behind : List (List ℕ)) → is_map_name name ≡ false → is_map all name behind ≡ false
unfolding is_map
other_name all name behind e = ap (λ (t : Bool). t && not (has_name name behind) && is_ok (spot_of all name)) e

by_marker : (a b c t : Bool) → a ≡ true → c ≡ true → t ≡ b → (a && b && c) ≡ t
by_marker a true c t e f g = (λ i. e i && true && f i) ∙ sym g
by_marker a false c t e f g = (λ i. e i && false && f i) ∙ sym g

pub map_found : (all : List (List ℕ)) (name : List ℕ) (behind : List (List ℕ)) (spot : MapSpot) (t : Bool) → is_map_name name ≡ true → spot_of all name ≡ Ok spot → t ≡ not (has_name name behind) → is_map all name behind ≡ t
unfolding is_map
map_found all name behind spot t named found marks = grind (arith, by_marker)

never : (a b c : Bool) → c ≡ false → (a && b && c) ≡ false
never true true c e = e
never true false c e = refl
never false b c e = refl

pub no_map : (all : List (List ℕ)) (name : List ℕ) (behind : List (List ℕ)) (f : MapFault) → spot_of all name ≡ Err f → is_map all name behind ≡ false
unfolding is_map
no_map all name behind f e = never (is_map_name name) (not (has_name name behind)) (is_ok (spot_of all name)) (ap (λ (r : Result MapSpot MapFault). is_ok r) e)

-- the parts of is_udmf
pub udmf_is : (name : List ℕ) (behind : List (List ℕ)) (a b c : Bool) → is_map_name name ≡ a → not (has_name name behind) ≡ b → begins_with_textmap behind ≡ c → is_udmf name behind ≡ (a && b && c)
udmf_is name behind a b c e f g = λ i. e i && f i && g i

-- ---- one entry more

pub name_there : (es : List Entry) (k : ℕ) (d : Entry) → k < length es → slice_get (entry_names es) k ≡ Some (get_or es k d).name
name_there [] k d lt = absurd (omega (arith, lt))
name_there (e ∷ es) zero d lt = refl
name_there (e ∷ es) (suc k) d lt = name_there es k d (omega (arith, lt))

names_from : (ns : List (List ℕ)) (k : ℕ) (n : List ℕ) → slice_get ns k ≡ Some n → drop k ns ≡ n ∷ drop (k + 1) ns
names_from ns k n there = drop_more ns k n (slice_get_within ns k n there) ∙ ap (λ (x : List ℕ). x ∷ drop (k + 1) ns) (get_or_from_slice_get ns k n n there)

module _ (is_marker : List ℕ → List (List ℕ) → Bool) where
  among_from : (ns : List (List ℕ)) (k : ℕ) (n : List ℕ) → slice_get ns k ≡ Some n
      → markers_among is_marker (drop k ns) ≡ (if is_marker n (drop (k + 1) ns) then told n ∷ markers_among is_marker (drop (k + 1) ns) else markers_among is_marker (drop (k + 1) ns))
  among_from ns k n there = ap (λ (xs : List (List ℕ)). markers_among is_marker xs) (names_from ns k n there)

  abbrev by_test : List (List ℕ) → List ℕ → Bool → List (List ℕ)
  by_test rest n t = if t then told n ∷ rest else rest

  pub map_more : (ns : List (List ℕ)) (k : ℕ) (n name : List ℕ) (maps total : List (List ℕ)) → slice_get ns k ≡ Some n → is_marker n (drop (k + 1) ns) ≡ true → name ≡ told n → maps ++ markers_among is_marker (drop k ns) ≡ total
      → (maps ++ name ∷ []) ++ markers_among is_marker (drop (k + 1) ns) ≡ total
  map_more ns k n name maps total there is e h =
      let rest : List (List ℕ) = markers_among is_marker (drop (k + 1) ns) in
      append_assoc maps (name ∷ []) rest
      ∙ ap (λ (x : List ℕ). maps ++ x ∷ rest) e
      ∙ ap (λ (xs : List (List ℕ)). maps ++ xs) (ap (by_test rest n) (sym is) ∙ sym (among_from ns k n there))
      ∙ h

  pub other_more : (ns : List (List ℕ)) (k : ℕ) (n : List ℕ) (maps total : List (List ℕ)) → slice_get ns k ≡ Some n → is_marker n (drop (k + 1) ns) ≡ false → maps ++ markers_among is_marker (drop k ns) ≡ total
      → maps ++ markers_among is_marker (drop (k + 1) ns) ≡ total
  other_more ns k n maps total there is h =
      ap (λ (xs : List (List ℕ)). maps ++ xs) (ap (by_test (markers_among is_marker (drop (k + 1) ns)) n) (sym is) ∙ sym (among_from ns k n there)) ∙ h

  -- behind the last entry
  pub all_more : (ns : List (List ℕ)) (k : ℕ) (maps total : List (List ℕ)) → length ns ≤ k → maps ++ markers_among is_marker (drop k ns) ≡ total → maps ≡ total
  all_more ns k maps total le h = sym (append-nil maps) ∙ ap (λ (xs : List (List ℕ)). maps ++ markers_among is_marker xs) (sym (drop_all k ns le)) ∙ h

  -- what holds of the name of each marker holds of each name
  pub each_marker : (P : List ℕ → Type 0) → ((n : List ℕ) (behind : List (List ℕ)) → is_marker n behind ≡ true → P (told n)) → (ns : List (List ℕ)) (k : ℕ) (d : List ℕ) → k < length (markers_among is_marker ns) → P (get_or (markers_among is_marker ns) k d)
  each_marker P first [] k d lt = absurd (omega (arith, lt))
  each_marker P first (n ∷ ns) k d lt = by (is_marker n ns) refl k lt (λ j l. each_marker P first ns j d l)
    where
      by : (t : Bool) → is_marker n ns ≡ t → (i : ℕ) → i < length (by_test (markers_among is_marker ns) n t) → ((j : ℕ) → j < length (markers_among is_marker ns) → P (get_or (markers_among is_marker ns) j d))
          → P (get_or (by_test (markers_among is_marker ns) n t) i d)
      by false is i l rest = rest i l
      by true is zero l rest = first n ns is
      by true is (suc i) l rest = rest i (omega (arith, l))
