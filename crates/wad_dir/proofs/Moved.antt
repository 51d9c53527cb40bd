-- Names that are the same find the same map; a name that is put in before a map moves the map by one, and one that is put in
-- behind it leaves it where it is.
use Rattle.std.proofs.Common.{◌≡◌, ℕ, zero, suc, ◌+◌, ◌-◌, ◌<◌, ◌≤◌, ◌⊎◌, inl, inr, List, [], ◌∷◌, drop, length, Bool, true, false, not, ◌&&◌, if◌then◌else◌, Option, Some, None, Ok, refl, sym, ap, ◌∙◌, subst, arith}
use Rattle.std.specs.Prelude.{bytes_eq, codes, slice_get}
use Rattle.std.specs.List.{insert}
use Rattle.wad_dir.specs.declared.parts.MapSpot.{MapSpot}
use Rattle.sight_names.specs.declared.faults.Lump.{Lump}
use Rattle.sight_names.specs.declared.faults.Lump.TheVariants.{Linedefs, Sidedefs, Vertexes, Sectors}
use Rattle.sight_names.specs.declared.names.MapFormat.{MapFormat}
use Rattle.wad_dir.specs.Map.{begins_with_name, begins_with_textmap, format_behind, format_told, key_of, last_from, lump_name, same_name, shifted, spot_of}
use Rattle.wad_dir.proofs.Inserted.{drop_behind, drop_insert, last_kept, last_within, more, more_stays}
use Rattle.wad_dir.proofs.Spots.{IsSpot, end_at, is_cut, lump_place, of_by, place, run_at, spot_at, spot_from, spot_of_by, spot_parts}
use Rattle.std.proofs.lemmas.List.{length-drop}
use Rattle.std.proofs.lemmas.Slice.Eq.{bytes_eq-Decides}
use Rattle.math_base.proofs.Numbers.{is_next}
use Rattle.math_base.proofs.Options.{none_is_not_some, some_is_same}

-- ---- names that are the same

last_alike : (ns : List (List ℕ)) (a b : List ℕ) (k : ℕ) (found : Option ℕ) → key_of a ≡ key_of b → last_from ns a k found ≡ last_from ns b k found
last_alike [] a b k found e = refl
last_alike (n ∷ ns) a b k found e =
    ap (λ (key : List ℕ). last_from ns a (k + 1) (if bytes_eq (key_of n) key then Some k else found)) e ∙ last_alike ns a b (k + 1) (if same_name n b then Some k else found) e

pub spot_alike : (ns : List (List ℕ)) (a b : List ℕ) → key_of a ≡ key_of b → spot_of ns a ≡ spot_of ns b
spot_alike ns a b e = spot_of_by ns a ∙ ap (λ (o : Option ℕ). of_by o ns) (last_alike ns a b 0 None e) ∙ sym (spot_of_by ns b)

-- ---- the last of a name

-- what is found among the names doesn't depend on what was found before them
last_any : (ns : List (List ℕ)) (name : List ℕ) (k : ℕ) (found other : Option ℕ) (m : ℕ) → (found ≡ Some m → ⊥) → last_from ns name k found ≡ Some m → last_from ns name k other ≡ Some m
last_any [] name k found other m not h = absurd (not h)
last_any (n ∷ ns) name k found other m not h = by (same_name n name) (λ g. last_any ns name (k + 1) found other m not g) h
  where
    by : (t : Bool) → (last_from ns name (k + 1) found ≡ Some m → last_from ns name (k + 1) other ≡ Some m) → last_from ns name (k + 1) (if t then Some k else found) ≡ Some m → last_from ns name (k + 1) (if t then Some k else other) ≡ Some m
    by true later g = g
    by false later g = later g

-- names that stand one further on
last_further : (ns : List (List ℕ)) (name : List ℕ) (k : ℕ) (found : Option ℕ) → last_from ns name (k + 1) (shifted 1 found) ≡ shifted 1 (last_from ns name k found)
last_further [] name k found = refl
last_further (n ∷ ns) name k found =
    ap (λ (o : Option ℕ). last_from ns name (k + 1 + 1) o) (by (same_name n name)) ∙ last_further ns name (k + 1) (if same_name n name then Some k else found)
  where
    by : (t : Bool) → (if t then Some (k + 1) else shifted 1 found) ≡ shifted 1 (if t then Some k else found)
    by true = let same : k + 1 ≡ 1 + k = omega arith in ap (λ (i : ℕ). Some i) same
    by false = refl

last_behind : (ns : List (List ℕ)) (name : List ℕ) (k : ℕ) (found : Option ℕ) (m : ℕ) → (found ≡ Some m → ⊥) → (found ≡ Some (m + 1) → ⊥) → last_from ns name k found ≡ Some m → last_from ns name (k + 1) found ≡ Some (m + 1)
last_behind ns name k found m not other h =
    let alone : last_from ns name k None ≡ Some m = last_any ns name k found None m not h in
    let one : 1 + m ≡ m + 1 = omega arith in
    let further : last_from ns name (k + 1) None ≡ Some (m + 1) = last_further ns name k None ∙ ap (shifted 1) alone ∙ ap (λ (i : ℕ). Some i) one in
    last_any ns name (k + 1) None found (m + 1) (λ e. none_is_not_some (m + 1) e) further

-- a name that isn't the map's is put in before the map's last one
last_moved : (ns : List (List ℕ)) (i : ℕ) (name x : List ℕ) (k : ℕ) (found : Option ℕ) (m : ℕ) → same_name x name ≡ false → (found ≡ Some m → ⊥) → (found ≡ Some (m + 1) → ⊥) → k + i ≤ m → last_from ns name k found ≡ Some m → last_from (insert ns i x) name k found ≡ Some (m + 1)
last_moved ns zero name x k found m apart not other le h = step (same_name x name) apart
  where
    step : (t : Bool) → t ≡ false → last_from ns name (k + 1) (if t then Some k else found) ≡ Some (m + 1)
    step true e = absurd cc
    step false e = last_behind ns name k found m not other h
last_moved [] (suc i) name x k found m apart not other le h = absurd (not h)
last_moved (n ∷ ns) (suc i) name x k found m apart not other le h =
    last_moved ns i name x (k + 1) (if same_name n name then Some k else found) m apart (sooner (same_name n name) m (omega (arith, le)) not) (sooner (same_name n name) (m + 1) (omega (arith, le)) other) (omega (arith, le)) h
  where
    sooner : (t : Bool) (j : ℕ) → k < j → (found ≡ Some j → ⊥) → (if t then Some k else found) ≡ Some j → ⊥
    sooner true j lt was e = let same : k ≡ j = some_is_same k j e in omega (arith, same, lt)
    sooner false j lt was e = was e

-- ---- the spot

-- the spot that stands so much further on
abbrev pub further : ℕ → MapSpot → MapSpot
further by spot = record { marker = by + spot.marker; linedefs = by + spot.linedefs; sidedefs = by + spot.sidedefs; vertexes = by + spot.vertexes; sectors = by + spot.sectors; reject = shifted by spot.reject; format = spot.format; text = spot.text }

abbrev pub spot_by_parts : ℕ → ℕ → ℕ → ℕ → ℕ → Option ℕ → MapFormat → Bool → MapSpot
spot_by_parts m l s v c r format text = record { marker = m; linedefs = l; sidedefs = s; vertexes = v; sectors = c; reject = r; format = format; text = text }

shifted_more : (m : ℕ) (r : Option ℕ) → shifted (m + 1 + 1) r ≡ shifted 1 (shifted (m + 1) r)
shifted_more m None = refl
shifted_more m (Some k) = let same : m + 1 + 1 + k ≡ 1 + (m + 1 + k) = omega arith in ap (λ (i : ℕ). Some i) same

at_further : (m l s v c : ℕ) (r : Option ℕ) (format : MapFormat) (text : Bool) → spot_at (m + 1) text format l s v c r ≡ further 1 (spot_at m text format l s v c r)
at_further m l s v c r format text =
    let em : m + 1 ≡ 1 + m = omega arith in
    let el : m + 1 + 1 + l ≡ 1 + (m + 1 + l) = omega arith in
    let es : m + 1 + 1 + s ≡ 1 + (m + 1 + s) = omega arith in
    let ev : m + 1 + 1 + v ≡ 1 + (m + 1 + v) = omega arith in
    let ec : m + 1 + 1 + c ≡ 1 + (m + 1 + c) = omega arith in
    (λ i. spot_by_parts (em i) (el i) (es i) (ev i) (ec i) (shifted_more m r i) (format_told text format) text)

-- a map behind a name that is put in stands one further on
pub spot_moved : (ns : List (List ℕ)) (i : ℕ) (name x : List ℕ) (spot : MapSpot) → same_name x name ≡ false → i ≤ spot.marker → spot_of ns name ≡ Ok spot → spot_of (insert ns i x) name ≡ Ok (further 1 spot)
spot_moved ns i name x spot apart le found =
    let p = spot_parts ns name spot found in
    let marker : spot.marker ≡ p.marker = ap (λ (y : MapSpot). y.marker) p.is in
    let within : p.marker < 0 + length ns = last_within ns name 0 p.marker p.is_last in
    let after : drop (p.marker + 1 + 1) (insert ns i x) ≡ drop (p.marker + 1) ns = ap (λ (k : ℕ). drop k (insert ns i x)) (is_next (p.marker + 1)) ∙ drop_behind ns i (p.marker + 1) x (omega (arith, le, marker)) (omega (arith, le, marker, within)) in
    spot_from (insert ns i x) name (spot_at (p.marker + 1) p.text p.format p.l p.s p.v p.c p.r) (record {
      marker = p.marker + 1;
      is_last = last_moved ns i name x 0 None p.marker apart (λ e. none_is_not_some p.marker e) (λ e. none_is_not_some (p.marker + 1) e) (omega (arith, le, marker)) p.is_last;
      text = p.text;
      is_text = ap (λ (ys : List (List ℕ)). begins_with_textmap ys) after ∙ p.is_text;
      whole = ap (λ (ys : List (List ℕ)). is_cut ys) after ∙ p.whole;
      format = p.format;
      behind_run = ap (λ (ys : List (List ℕ)). format_behind (end_at ys)) after ∙ p.behind_run;
      l = p.l;
      s = p.s;
      v = p.v;
      c = p.c;
      r = p.r;
      linedefs = ap (λ (ys : List (List ℕ)). lump_place Linedefs ys) after ∙ p.linedefs;
      sidedefs = ap (λ (ys : List (List ℕ)). lump_place Sidedefs ys) after ∙ p.sidedefs;
      vertexes = ap (λ (ys : List (List ℕ)). lump_place Vertexes ys) after ∙ p.vertexes;
      sectors = ap (λ (ys : List (List ℕ)). lump_place Sectors ys) after ∙ p.sectors;
      reject = ap (λ (ys : List (List ℕ)). place (codes "REJECT") (run_at ys)) after ∙ p.reject;
      is = refl;
    })
    ∙ ap (λ (y : MapSpot). Ok y) (at_further p.marker p.l p.s p.v p.c p.r p.format p.text ∙ ap (further 1) (sym p.is))

-- ---- a name that is put in behind

next_stays : (xs : List (List ℕ)) (n p : ℕ) (x : List ℕ) → n < p → p ≤ length xs → format_behind (drop n (insert xs p x)) ≡ format_behind (drop n xs)
next_stays xs n zero x lt le = absurd (omega (arith, lt))
next_stays [] n (suc p) x lt le = absurd (omega (arith, le))
next_stays (y ∷ xs) zero (suc p) x lt le = refl
next_stays (y ∷ xs) (suc n) (suc p) x lt le = next_stays xs n p x (omega (arith, lt)) (omega (arith, le))

pub head_stays : (name : List ℕ) (xs : List (List ℕ)) (n p : ℕ) (x : List ℕ) → n < p → p ≤ length xs → begins_with_name name (drop n (insert xs p x)) ≡ begins_with_name name (drop n xs)
head_stays name xs n zero x lt le = absurd (omega (arith, lt))
head_stays name [] n (suc p) x lt le = absurd (omega (arith, le))
head_stays name (y ∷ xs) zero (suc p) x lt le = refl
head_stays name (y ∷ xs) (suc n) (suc p) x lt le = head_stays name xs n p x (omega (arith, lt)) (omega (arith, le))

-- what stands behind a marker, where a name is put in behind the run and its end
module _ (after : List (List ℕ)) (q : ℕ) (x : List ℕ) (lt : length (run_at after) < q) (within : q ≤ length after) where
  text_stays : begins_with_textmap (insert after q x) ≡ begins_with_textmap after
  text_stays = head_stays (codes "TEXTMAP") after 0 q x (omega (arith, lt)) within

  run_stays : run_at (insert after q x) ≡ run_at after
  run_stays = ap (λ (t : Bool). more t [] (insert after q x)) text_stays ∙ more_stays (begins_with_textmap after) q [] after x lt within

  place_stays : (lump : Lump) → lump_place lump (insert after q x) ≡ lump_place lump after
  place_stays lump = λ i. place (lump_name (text_stays i) lump) (run_stays i)

  end_stays : begins_with_name (codes "ENDMAP") (end_at (insert after q x)) ≡ begins_with_name (codes "ENDMAP") (end_at after)
  end_stays = ap (λ (ys : List (List ℕ)). begins_with_name (codes "ENDMAP") (drop (length ys) (insert after q x))) run_stays ∙ head_stays (codes "ENDMAP") after (length (run_at after)) q x lt within

  cut_stays : is_cut (insert after q x) ≡ is_cut after
  cut_stays = λ i. text_stays i && not (end_stays i)

  format_stays : format_behind (end_at (insert after q x)) ≡ format_behind (end_at after)
  format_stays = ap (λ (ys : List (List ℕ)). format_behind (drop (length ys) (insert after q x))) run_stays ∙ next_stays after (length (run_at after)) q x lt within

stays_at : (ns : List (List ℕ)) (name x : List ℕ) (spot : MapSpot) (p : IsSpot ns name spot) (q : ℕ) → same_name x name ≡ false → length (run_at (drop (p.marker + 1) ns)) < q → p.marker + 1 + q ≤ length ns → spot_of (insert ns (p.marker + 1 + q) x) name ≡ Ok spot
stays_at ns name x spot p q apart lt le =
    let new : List (List ℕ) = insert ns (p.marker + 1 + q) x in
    let after : List (List ℕ) = drop (p.marker + 1) ns in
    let long = length-drop (p.marker + 1) ns in
    let within : q ≤ length after = omega (arith, long, le) in
    let after_is : drop (p.marker + 1) new ≡ insert after q x = drop_insert ns (p.marker + 1) q x (omega (arith, le)) in
    let there : (lump : Lump) → lump_place lump (drop (p.marker + 1) new) ≡ lump_place lump after = (λ lump. ap (λ (ys : List (List ℕ)). lump_place lump ys) after_is ∙ place_stays after q x lt within lump) in
    spot_from new name (spot_at p.marker p.text p.format p.l p.s p.v p.c p.r) (record {
      marker = p.marker;
      is_last = last_kept ns (p.marker + 1 + q) name x 0 None p.marker apart (omega arith) p.is_last;
      text = p.text;
      is_text = ap (λ (ys : List (List ℕ)). begins_with_textmap ys) after_is ∙ text_stays after q x lt within ∙ p.is_text;
      whole = ap (λ (ys : List (List ℕ)). is_cut ys) after_is ∙ cut_stays after q x lt within ∙ p.whole;
      format = p.format;
      behind_run = ap (λ (ys : List (List ℕ)). format_behind (end_at ys)) after_is ∙ format_stays after q x lt within ∙ p.behind_run;
      l = p.l;
      s = p.s;
      v = p.v;
      c = p.c;
      r = p.r;
      linedefs = there Linedefs ∙ p.linedefs;
      sidedefs = there Sidedefs ∙ p.sidedefs;
      vertexes = there Vertexes ∙ p.vertexes;
      sectors = there Sectors ∙ p.sectors;
      reject = ap (λ (ys : List (List ℕ)). place (codes "REJECT") (run_at ys)) after_is ∙ ap (λ (ys : List (List ℕ)). place (codes "REJECT") ys) (run_stays after q x lt within) ∙ p.reject;
      is = refl;
    })
    ∙ ap (λ (y : MapSpot). Ok y) (sym p.is)

-- a map before a name that is put in behind the end of its run stays
pub spot_stays : (ns : List (List ℕ)) (i : ℕ) (name x : List ℕ) (spot : MapSpot) → same_name x name ≡ false → spot_of ns name ≡ Ok spot → spot.marker + 1 + length (run_at (drop (spot.marker + 1) ns)) < i → i ≤ length ns → spot_of (insert ns i x) name ≡ Ok spot
spot_stays ns i name x spot apart found lt le =
    let p = spot_parts ns name spot found in
    let marker : spot.marker ≡ p.marker = ap (λ (y : MapSpot). y.marker) p.is in
    let behind : p.marker + 1 + length (run_at (drop (p.marker + 1) ns)) < i = subst (λ (m : ℕ). m + 1 + length (run_at (drop (m + 1) ns)) < i) marker lt in
    let at : p.marker + 1 + (i - (p.marker + 1)) ≡ i = omega (arith, behind) in
    ap (λ (j : ℕ). spot_of (insert ns j x) name) (sym at) ∙ stays_at ns name x spot p (i - (p.marker + 1)) apart (omega (arith, behind)) (omega (arith, behind, le))

-- ---- the marker's name

record IsNamed (ns : List (List ℕ)) (name : List ℕ) (k m : ℕ) : Type 0 where
  j : ℕ
  at : m ≡ k + j
  n : List ℕ
  there : slice_get ns j ≡ Some n
  same : same_name n name ≡ true

named_in : (ns : List (List ℕ)) (name : List ℕ) (k : ℕ) (found : Option ℕ) (m : ℕ) → last_from ns name k found ≡ Some m → (found ≡ Some m) ⊎ IsNamed ns name k m
named_in [] name k found m h = inl h
named_in (n ∷ ns) name k found m h = by (same_name n name) refl (named_in ns name (k + 1) (if same_name n name then Some k else found) m h)
  where
    by : (t : Bool) → same_name n name ≡ t → ((if t then Some k else found) ≡ Some m) ⊎ IsNamed ns name (k + 1) m → (found ≡ Some m) ⊎ IsNamed (n ∷ ns) name k m
    by true e (inl g) = inr (record { j = 0; at = (let same : k ≡ m = some_is_same k m g in omega (arith, same)); n = n; there = refl; same = e })
    by false e (inl g) = inl g
    by t e (inr r) = inr (record { j = suc r.j; at = (let at = r.at in omega (arith, at)); n = r.n; there = r.there; same = r.same })

-- the entry of the marker has the map's name
pub marker_named : (ns : List (List ℕ)) (name : List ℕ) (spot : MapSpot) → spot_of ns name ≡ Ok spot → (n : List ℕ) × (slice_get ns spot.marker ≡ Some n) × (key_of n ≡ key_of name)
marker_named ns name spot found =
    let p = spot_parts ns name spot found in
    let marker : spot.marker ≡ p.marker = ap (λ (y : MapSpot). y.marker) p.is in
    by p.marker marker (named_in ns name 0 None p.marker p.is_last)
  where
    by : (m : ℕ) → spot.marker ≡ m → (None ≡ Some m) ⊎ IsNamed ns name 0 m → (n : List ℕ) × (slice_get ns spot.marker ≡ Some n) × (key_of n ≡ key_of name)
    by m e (inl g) = absurd (none_is_not_some m g)
    by m e (inr r) =
        let at = r.at in
        let here : spot.marker ≡ r.j = omega (arith, e, at) in
        (r.n, ap (λ (i : ℕ). slice_get ns i) here ∙ r.there, (bytes_eq-Decides (key_of r.n) (key_of name)).0 r.same)
