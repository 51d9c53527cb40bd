-- The maps that are asked for by their names: some of all maps, in their order, and none of the names is lost.
use Rattle.std.proofs.Common.{◌≡◌, ℕ, ◌+◌, ◌⊎◌, inl, inr, ⊎_elim, List, [], ◌∷◌, filter, Contains, Bool, true, false, cond, not, ◌||◌, if◌then◌else◌, Option, Some, None, Result, Ok, Err, refl, sym, ap, ◌∙◌, subst, arith}
use Rattle.std.specs.Prelude.{bytes_eq}
use Rattle.std.specs.List.{AllByRecursion, list_any}
use Rattle.std.proofs.lemmas.Slice.Eq.{bytes_eq-Decides}
use Rattle.sight_names.specs.declared.faults.MapFault.{MapFault}
use Rattle.wad_dir.specs.declared.parts.MapSpot.{MapSpot}
use Rattle.wad_dir.specs.Map.{has_name, key_of, last_from, same_name, spot_of}
use Rattle.wad_dir.proofs.Moved.{spot_alike}
use Rattle.wad_dir.proofs.Spots.{spot_parts}
use Rattle.wad_dir.specs.AllMaps.All.{HasInOrder}
use Rattle.wad_dir.specs.AllMaps.Asked.{EachAskedIsThere, asked_maps_of, fault_of_name, first_fault}
use Rattle.wad_dir.specs.AllMaps.Maps.{is_map, is_map_name, maps_among, maps_in_names, told}
use Rattle.wad_dir.proofs.AllMaps.FoundMaps.{map_found, self_same}
use Rattle.wad_dir.proofs.AllMaps.InOrder.{all_in_order, kept_in_order}
use Rattle.wad_dir.proofs.AllMaps.Spacing.{named_alike}
use Rattle.wad_dir.proofs.AllMaps.Told.{key_told}
use Rattle.math_base.proofs.Bools.{by_value, not_both_values, one_true, true_by_first, true_by_second}
use Rattle.math_base.proofs.Lists.{all_of, contains_cons, contains_none}
use Rattle.math_base.proofs.Options.{none_is_not_some}

-- ---- they are some of all maps

-- the maps that one of these names has
abbrev asked_among : List (List ℕ) → List (List ℕ) → List (List ℕ)
asked_among only maps = filter (λ (name : List ℕ). has_name name only) maps

abbrev by_fault : Option MapFault → List (List ℕ) → Result (List (List ℕ)) MapFault
by_fault o maps = elim o [ None ↦ Ok maps | Some why ↦ Err why ]

same_maps : (xs ys : List (List ℕ)) → ◌≡◌ {A = Result (List (List ℕ)) MapFault} (Ok xs) (Ok ys) → xs ≡ ys
same_maps xs ys e = cc

pub asked_in_order : (names : List (List ℕ)) (only : Option (List (List ℕ))) (maps : List (List ℕ)) → asked_maps_of names only ≡ Ok maps → HasInOrder (maps_in_names names) maps
asked_in_order names None maps h = subst (HasInOrder (maps_in_names names)) (same_maps (maps_in_names names) maps h) (all_in_order (maps_in_names names))
asked_in_order names (Some only) maps h = grind (arith, asked_among, by_fault, kept_in_order, same_maps)

-- ---- a name that finds a map

has_alike : (a b : List ℕ) (names : List (List ℕ)) → key_of a ≡ key_of b → has_name a names ≡ has_name b names
has_alike a b names e = ap (λ (key : List ℕ). list_any (λ n. bytes_eq (key_of n) key) names) e

has_itself : (names : List (List ℕ)) (name : List ℕ) → Contains names name → has_name name names ≡ true
has_itself [] name c = absurd (contains_none name c)
has_itself (n ∷ ns) name c = ⊎_elim
    (λ (e : n ≡ name). true_by_first (same_name n name) (has_name name ns) (ap (λ (x : List ℕ). same_name x name) e ∙ self_same name))
    (λ (r : Contains ns name). true_by_second (same_name n name) (has_name name ns) (has_itself ns name r))
    (contains_cons name n ns c)

last_named : (ns : List (List ℕ)) (name : List ℕ) (k : ℕ) (found : Option ℕ) (m : ℕ) → last_from ns name k found ≡ Some m → (found ≡ Some m) ⊎ (has_name name ns ≡ true)
last_named [] name k found m h = inl h
last_named (n ∷ ns) name k found m h = by (same_name n name) (last_named ns name (k + 1) (if same_name n name then Some k else found) m h)
  where
    by : (t : Bool) → ((if t then Some k else found) ≡ Some m) ⊎ (has_name name ns ≡ true) → (found ≡ Some m) ⊎ ((t || has_name name ns) ≡ true)
    by true g = inr refl
    by false g = g

-- some entry has the name
named_there : (names : List (List ℕ)) (name : List ℕ) (spot : MapSpot) → spot_of names name ≡ Ok spot → has_name name names ≡ true
named_there names name spot found =
    let p = spot_parts names name spot found in
    ⊎_elim (λ e. absurd (none_is_not_some p.marker e)) (λ h. h) (last_named names name 0 None p.marker p.is_last)

-- the map that the name finds is among all maps, and stays among those that are asked for by it
module _ (all only : List (List ℕ)) (name : List ℕ) (spot : MapSpot) (named : is_map_name name ≡ true) (found : spot_of all name ≡ Ok spot) (asked : has_name name only ≡ true) where
  abbrev by_test : List (List ℕ) → List ℕ → Bool → List (List ℕ)
  by_test maps n t = if t then told n ∷ maps else maps

  abbrev by_name : List (List ℕ) → List ℕ → Bool → List (List ℕ)
  by_name maps n t = cond t (n ∷ asked_among only maps) (asked_among only maps)

  passes : (n : List ℕ) (ns : List (List ℕ)) → has_name name (asked_among only (maps_among all ns)) ≡ true → has_name name (asked_among only (maps_among all (n ∷ ns))) ≡ true
  passes n ns h = grind (arith, asked_among, by_name, by_test, true_by_second)

  begins : (n : List ℕ) (ns : List (List ℕ)) → same_name n name ≡ true → has_name name ns ≡ false → has_name name (asked_among only (maps_among all (n ∷ ns))) ≡ true
  begins n ns e none =
      let key : key_of n ≡ key_of name = (bytes_eq-Decides (key_of n) (key_of name)).0 e in
      let last : true ≡ not (has_name n ns) = sym (ap not (has_alike n name ns key ∙ none)) in
      let is : is_map all n ns ≡ true = map_found all n ns spot true (named_alike n name key ∙ named) (spot_alike all n name key ∙ found) last in
      let kept : has_name (told n) only ≡ true = has_alike (told n) name only (key_told n ∙ key) ∙ asked in
      let same : same_name (told n) name ≡ true = (bytes_eq-Decides (key_of (told n)) (key_of name)).1 (key_told n ∙ key) in
      ap (λ (t : Bool). has_name name (asked_among only (by_test (maps_among all ns) n t))) is
      ∙ ap (λ (t : Bool). has_name name (by_name (maps_among all ns) (told n) t)) kept
      ∙ true_by_first (same_name (told n) name) (has_name name (asked_among only (maps_among all ns))) same

  stays : (ns : List (List ℕ)) → has_name name ns ≡ true → has_name name (asked_among only (maps_among all ns)) ≡ true
  stays [] h = h
  stays (n ∷ ns) h = by_value (has_name name ns) (λ later. passes n ns (stays ns later)) (λ none. by none (one_true (same_name n name) (has_name name ns) h))
    where
      by : has_name name ns ≡ false → (same_name n name ≡ true) ⊎ (has_name name ns ≡ true) → has_name name (asked_among only (maps_among all (n ∷ ns))) ≡ true
      by none (inl e) = begins n ns e none
      by none (inr e) = absurd (not_both_values (has_name name ns) e none)

-- ---- no name is lost

no_fault : (names only : List (List ℕ)) (name : List ℕ) → first_fault names only ≡ None → Contains only name → fault_of_name names name ≡ None
no_fault names [] name e c = absurd (contains_none name c)
no_fault names (n ∷ ns) name e c = by (fault_of_name names n) refl e (contains_cons name n ns c) (λ q r. no_fault names ns name q r)
  where
    by : (o : Option MapFault) → fault_of_name names n ≡ o → ◌≡◌ {A = Option MapFault} (elim o [ None ↦ first_fault names ns | Some why ↦ Some why ]) None → (n ≡ name) ⊎ Contains ns name
        → (first_fault names ns ≡ None → Contains ns name → fault_of_name names name ≡ None) → fault_of_name names name ≡ None
    by None f q (inl s) later = ap (λ (x : List ℕ). fault_of_name names x) (sym s) ∙ f
    by None f q (inr r) later = later q r
    by (Some why) f q d later = absurd cc

found_by : (names : List (List ℕ)) (name : List ℕ) → fault_of_name names name ≡ None → (is_map_name name ≡ true) × ((spot : MapSpot) × (spot_of names name ≡ Ok spot))
found_by names name e = grind arith

is_there : (names only : List (List ℕ)) (name : List ℕ) → first_fault names only ≡ None → Contains only name → has_name name (asked_among only (maps_in_names names)) ≡ true
is_there names only name e c =
    let f = found_by names name (no_fault names only name e c) in
    stays names only name f.1.0 f.0 f.1.1 (has_itself only name c) names (named_there names name f.1.0 f.1.1)

pub each_asked_is_there : EachAskedIsThere
each_asked_is_there names only maps h = by (first_fault names only) refl h
  where
    by : (o : Option MapFault) → first_fault names only ≡ o → by_fault o (asked_among only (maps_in_names names)) ≡ Ok maps → AllByRecursion (λ (name : List ℕ). has_name name maps ≡ true) only
    by None e q = all_of (λ (name : List ℕ). has_name name maps ≡ true) only (λ name c. subst (λ (ms : List (List ℕ)). has_name name ms ≡ true) (same_maps (asked_among only (maps_in_names names)) maps q) (is_there names only name e c))
    by (Some why) e q = absurd cc
