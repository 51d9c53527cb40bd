-- The run of a map's lumps, and the places in it, where a REJECT is put into the run.
use Rattle.std.proofs.Common.{◌≡◌, ℕ, zero, suc, ◌+◌, ◌<◌, ◌≤◌, ◌⊎◌, inl, inr, List, [], ◌∷◌, ◌++◌, length, get_or, drop, Bool, true, false, not, ◌&&◌, ◌||◌, if◌then◌else◌, Option, Some, None, refl, sym, ap, ◌∙◌, subst, append_assoc, arith}
use Rattle.std.specs.Prelude.{codes, bytes_eq}
use Rattle.std.specs.List.{insert, list_any, position_from}
use Rattle.std.proofs.lemmas.List.{append-nil}
use Rattle.std.proofs.lemmas.List.Folds.{list_any-append}
use Rattle.std.proofs.lemmas.Slice.Eq.{bytes_eq-Decides}
use Rattle.wad_dir.specs.Map.{belongs, ends_text_map, has_name, is_run_name, key_of, last_from, run_from, same_name, stands_once}
use Rattle.math_base.proofs.Bools.{first_false, first_true, second_false}

-- ---- an element put into a list

pub drop_insert : {X : Type 0} (xs : List X) (m p : ℕ) (x : X) → m ≤ length xs → drop m (insert xs (m + p) x) ≡ insert (drop m xs) p x
drop_insert xs zero p x le =
    let same : 0 + p ≡ p = omega arith in
    ap (λ (k : ℕ). insert xs k x) same
drop_insert [] (suc m) p x le = absurd (omega (arith, le))
drop_insert (y ∷ xs) (suc m) p x le =
    let same : suc m + p ≡ suc (m + p) = omega arith in
    ap (λ (k : ℕ). drop (suc m) (insert (y ∷ xs) k x)) same ∙ drop_insert xs m p x (omega (arith, le))

-- what stands behind n elements, the new one among them
pub drop_behind : {X : Type 0} (xs : List X) (p n : ℕ) (x : X) → p ≤ n → p ≤ length xs → drop (suc n) (insert xs p x) ≡ drop n xs
drop_behind xs zero n x le within = refl
drop_behind [] (suc p) n x le within = absurd (omega (arith, within))
drop_behind (y ∷ xs) (suc p) zero x le within = absurd (omega (arith, le))
drop_behind (y ∷ xs) (suc p) (suc n) x le within = drop_behind xs p n x (omega (arith, le)) (omega (arith, within))

-- ---- the last of a name

pub last_bound : (ns : List (List ℕ)) (name : List ℕ) (k : ℕ) (found : Option ℕ) (m : ℕ) → last_from ns name k found ≡ Some m → (found ≡ Some m) ⊎ (k ≤ m)
last_bound [] name k found m h = inl h
last_bound (n ∷ ns) name k found m h = by (same_name n name) (last_bound ns name (k + 1) (if same_name n name then Some k else found) m h)
  where
    by : (c : Bool) → ((if c then Some k else found) ≡ Some m) ⊎ (k + 1 ≤ m) → (found ≡ Some m) ⊎ (k ≤ m)
    by true (inl e) = inr (let same : k ≡ m = cc in omega (arith, same))
    by false (inl e) = inl e
    by c (inr l) = inr (omega (arith, l))

last_same : (ns : List (List ℕ)) (name : List ℕ) (k : ℕ) (found : Option ℕ) (m : ℕ) → m < k → last_from ns name k found ≡ Some m → (j : ℕ) → last_from ns name j found ≡ Some m
last_same [] name k found m lt h j = h
last_same (n ∷ ns) name k found m lt h j = by (same_name n name) (λ g. last_same ns name (k + 1) found m (omega (arith, lt)) g (j + 1)) h
  where
    never : (Some k ≡ Some m) ⊎ (k + 1 ≤ m) → ⊥
    never (inl e) = let same : k ≡ m = cc in omega (arith, same, lt)
    never (inr l) = omega (arith, l, lt)

    by : (c : Bool) → (last_from ns name (k + 1) found ≡ Some m → last_from ns name (j + 1) found ≡ Some m) → last_from ns name (k + 1) (if c then Some k else found) ≡ Some m → last_from ns name (j + 1) (if c then Some j else found) ≡ Some m
    by true later g = absurd (never (last_bound ns name (k + 1) (Some k) m g))
    by false later g = later g

-- a name that isn't the map's is put behind the map's last one
pub last_kept : (ns : List (List ℕ)) (i : ℕ) (name x : List ℕ) (k : ℕ) (found : Option ℕ) (m : ℕ) → same_name x name ≡ false → m < k + i → last_from ns name k found ≡ Some m → last_from (insert ns i x) name k found ≡ Some m
last_kept ns zero name x k found m other lt h = step (same_name x name) other
  where
    step : (c : Bool) → c ≡ false → last_from ns name (k + 1) (if c then Some k else found) ≡ Some m
    step true e = absurd cc
    step false e = last_same ns name k found m (omega (arith, lt)) h (k + 1)
last_kept [] (suc i) name x k found m other lt h = search
last_kept (n ∷ ns) (suc i) name x k found m other lt h = last_kept ns i name x (k + 1) (if same_name n name then Some k else found) m other (omega (arith, lt)) h

-- the last of a name is among them
pub last_within : (ns : List (List ℕ)) (name : List ℕ) (k : ℕ) (m : ℕ) → last_from ns name k None ≡ Some m → m < k + length ns
last_within ns name k m h = by (among ns k None h)
  where
    among : (xs : List (List ℕ)) (j : ℕ) (found : Option ℕ) → last_from xs name j found ≡ Some m → (found ≡ Some m) ⊎ (m < j + length xs)
    among [] j found e = inl e
    among (x ∷ xs) j found e = step (same_name x name) (among xs (j + 1) (if same_name x name then Some j else found) e)
      where
        step : (c : Bool) → ((if c then Some j else found) ≡ Some m) ⊎ (m < j + 1 + length xs) → (found ≡ Some m) ⊎ (m < j + length (x ∷ xs))
        step true (inl g) = inr (let same : j ≡ m = cc in omega (arith, same))
        step false (inl g) = inl g
        step c (inr l) = inr (omega (arith, l))

    by : (None ≡ Some m) ⊎ (m < k + length ns) → m < k + length ns
    by (inl e) = absurd cc
    by (inr l) = l

-- ---- the run

-- what the names behind those before them add to a run, which is of UDMF or not
unfoldable pub more : Bool → List (List ℕ) → List (List ℕ) → List (List ℕ)
more text before [] = []
more text before (n ∷ ns) = if belongs text n before then n ∷ more text (before ++ n ∷ []) ns else []

pub run_is : (text : Bool) (before ns : List (List ℕ)) → run_from text before ns ≡ before ++ more text before ns
unfolding more
run_is text before [] = sym (append-nil before)
run_is text before (n ∷ ns) = by (belongs text n before) (run_is text (before ++ n ∷ []) ns)
  where
    by : (c : Bool) → run_from text (before ++ n ∷ []) ns ≡ (before ++ n ∷ []) ++ more text (before ++ n ∷ []) ns → (if c then run_from text (before ++ n ∷ []) ns else before) ≡ before ++ (if c then n ∷ more text (before ++ n ∷ []) ns else [])
    by true rest = rest ∙ append_assoc before (n ∷ []) (more text (before ++ n ∷ []) ns)
    by false rest = sym (append-nil before)

-- a run is no longer than the names
pub more_short : (text : Bool) (before ns : List (List ℕ)) → length (more text before ns) ≤ length ns
unfolding more
more_short text before [] = omega arith
more_short text before (n ∷ ns) = by (belongs text n before) (more_short text (before ++ n ∷ []) ns)
  where
    by : (c : Bool) → length (more text (before ++ n ∷ []) ns) ≤ length ns → length (if c then n ∷ more text (before ++ n ∷ []) ns else []) ≤ length (n ∷ ns)
    by true rest = omega (arith, rest)
    by false rest = omega arith

-- what holds of each name that belongs to a run holds of all that are added
more_each : (text : Bool) (P : List ℕ → Type 0) → ((n : List ℕ) (seen : List (List ℕ)) → belongs text n seen ≡ true → P n) → (before ns : List (List ℕ)) (j : ℕ) (d : List ℕ) → j < length (more text before ns) → P (get_or ns j d)
unfolding more
more_each text P named before [] j d lt = absurd (omega (arith, lt))
more_each text P named before (n ∷ ns) j d lt = by (belongs text n before) refl (λ k l. more_each text P named (before ++ n ∷ []) ns k d l) j lt
  where
    by : (c : Bool) → belongs text n before ≡ c → ((k : ℕ) → k < length (more text (before ++ n ∷ []) ns) → P (get_or ns k d)) → (i : ℕ) → i < length (if c then n ∷ more text (before ++ n ∷ []) ns else []) → P (get_or (n ∷ ns) i d)
    by true e rest zero l = named n before e
    by true e rest (suc i) l = rest i (omega (arith, l))
    by false e rest i l = absurd (omega (arith, l))

-- each of the names that are added is that of a map's lump
pub more_named : (before ns : List (List ℕ)) (j : ℕ) (d : List ℕ) → j < length (more false before ns) → is_run_name (get_or ns j d) ≡ true
more_named before ns j d lt = more_each false (λ (n : List ℕ). is_run_name n ≡ true) (λ n seen e. first_true (is_run_name n) (not (has_name n seen)) e) before ns j d lt

-- .. and in a map of UDMF none that ends it
pub more_goes_on : (before ns : List (List ℕ)) (j : ℕ) (d : List ℕ) → j < length (more true before ns) → not (ends_text_map (get_or ns j d)) ≡ true
more_goes_on before ns j d lt = more_each true (λ (n : List ℕ). not (ends_text_map n) ≡ true) (λ n seen e. first_true (not (ends_text_map n)) (not (stands_once n && has_name n seen)) e) before ns j d lt

-- a name that is put in behind what ends a run leaves the run as it is
pub more_stays : (text : Bool) (p : ℕ) (before ns : List (List ℕ)) (x : List ℕ) → length (more text before ns) < p → p ≤ length ns → more text before (insert ns p x) ≡ more text before ns
unfolding more
more_stays text zero before ns x lt le = absurd (omega (arith, lt))
more_stays text (suc p) before [] x lt le = absurd (omega (arith, le))
more_stays text (suc p) before (n ∷ ns) x lt le = by (belongs text n before) (λ l. more_stays text p (before ++ n ∷ []) ns x l (omega (arith, le))) lt
  where
    by : (c : Bool) → (length (more text (before ++ n ∷ []) ns) < p → more text (before ++ n ∷ []) (insert ns p x) ≡ more text (before ++ n ∷ []) ns) → length (if c then n ∷ more text (before ++ n ∷ []) ns else []) < suc p
        → (if c then n ∷ more text (before ++ n ∷ []) (insert ns p x) else []) ≡ (if c then n ∷ more text (before ++ n ∷ []) ns else [])
    by true rest l = ap (λ (ms : List (List ℕ)). n ∷ ms) (rest (omega (arith, l)))
    by false rest l = refl

abbrev pub word : List ℕ
word = codes "REJECT"

-- the name that the new lump has
abbrev pub padded : List ℕ
padded = codes "REJECT" ++ 0 ∷ 0 ∷ []

-- the one list has the names of the other, and a REJECT
abbrev HasAlso : List (List ℕ) → List (List ℕ) → Type 0
HasAlso before after = (n : List ℕ) → has_name n after ≡ (has_name n before || same_name padded n)

or_false : (b : Bool) → (b || false) ≡ b
or_false true = refl
or_false false = refl

shuffled : (a b c : Bool) → ((a || b) || (c || false)) ≡ ((a || (c || false)) || b)
shuffled true b c = refl
shuffled false true true = refl
shuffled false true false = refl
shuffled false false true = refl
shuffled false false false = refl

also_pushed : (before after : List (List ℕ)) (x : List ℕ) → HasAlso before after → HasAlso (before ++ x ∷ []) (after ++ x ∷ [])
also_pushed before after x h n = grind (arith, list_any-append, padded, shuffled)

-- a name that is the padded one is that of a REJECT
is_reject : (n : List ℕ) → same_name padded n ≡ true → same_name n word ≡ true
is_reject n h = subst (λ (k : List ℕ). bytes_eq k word ≡ true) ((bytes_eq-Decides word (key_of n)).0 h) refl

-- what belongs to a run behind names, and a REJECT or not
belongs_by : (text r e o b s : Bool) → Bool
belongs_by true r e o b s = not e && not (o && (b || s))
belongs_by false r e o b s = r && not (b || s)

also_belongs : (text : Bool) (before after : List (List ℕ)) (n : List ℕ) → HasAlso before after → belongs text n after ≡ belongs_by text (is_run_name n) (ends_text_map n) (stands_once n) (has_name n before) (same_name padded n)
unfolding belongs_by
also_belongs true before after n also = ap (λ (b : Bool). not (ends_text_map n) && not (stands_once n && b)) (also n)
also_belongs false before after n also = ap (λ (b : Bool). is_run_name n && not b) (also n)

as_before : (text : Bool) (before : List (List ℕ)) (n : List ℕ) → belongs text n before ≡ belongs_by text (is_run_name n) (ends_text_map n) (stands_once n) (has_name n before) false
unfolding belongs_by
as_before true before n = ap (λ (b : Bool). not (ends_text_map n) && not (stands_once n && b)) (sym (or_false (has_name n before)))
as_before false before n = ap (λ (b : Bool). is_run_name n && not b) (sym (or_false (has_name n before)))

-- a name that doesn't belong doesn't belong behind more names
no_more : (text r e o b s : Bool) → belongs_by text r e o b false ≡ false → belongs_by text r e o b s ≡ false
unfolding belongs_by
no_more true r true o b s h = refl
no_more true r false false b s h = absurd cc
no_more true r false true true s h = refl
no_more true r false true false s h = absurd cc
no_more false false e o b s h = refl
no_more false true e o true s h = refl
no_more false true e o false s h = absurd cc

-- a REJECT before the names changes nothing, where there is none among what they add
more_same : (text : Bool) (before after ns : List (List ℕ)) → HasAlso before after → has_name word (more text before ns) ≡ false → more text after ns ≡ more text before ns
unfolding more
more_same text before after [] also none = refl
more_same text before after (n ∷ ns) also none = by (belongs text n before) (same_name padded n) (belongs text n after) refl (as_before text before n) (also_belongs text before after n also) none (λ q. more_same text (before ++ n ∷ []) (after ++ n ∷ []) ns (also_pushed before after n also) q)
  where
    named : same_name padded n ≡ true → has_name word (n ∷ more text (before ++ n ∷ []) ns) ≡ false → ⊥
    named s e = by_name (same_name n word) (is_reject n s) e
      where
        by_name : (b : Bool) → b ≡ true → (b || has_name word (more text (before ++ n ∷ []) ns)) ≡ false → ⊥
        by_name true p q = absurd cc
        by_name false p q = absurd cc

    tests : Bool → Bool
    tests s = belongs_by text (is_run_name n) (ends_text_map n) (stands_once n) (has_name n before) s

    by : (c s a : Bool) → same_name padded n ≡ s → c ≡ tests false → a ≡ tests s → has_name word (if c then n ∷ more text (before ++ n ∷ []) ns else []) ≡ false
        → (has_name word (more text (before ++ n ∷ []) ns) ≡ false → more text (after ++ n ∷ []) ns ≡ more text (before ++ n ∷ []) ns)
        → (if a then n ∷ more text (after ++ n ∷ []) ns else []) ≡ (if c then n ∷ more text (before ++ n ∷ []) ns else [])
    by true true a is e f q rest = absurd (named is q)
    by true false true is e f q rest = ap (λ (ms : List (List ℕ)). n ∷ ms) (rest (second_false (same_name n word) (has_name word (more text (before ++ n ∷ []) ns)) q))
    by true false false is e f q rest = absurd (let both : true ≡ false = e ∙ sym f in cc)
    by false s true is e f q rest = absurd (let both : true ≡ false = f ∙ no_more text (is_run_name n) (ends_text_map n) (stands_once n) (has_name n before) s (sym e) in cc)
    by false s false is e f q rest = refl

-- a REJECT that is put into what is added, where there is none yet, is added
pub more_insert : (text : Bool) (p : ℕ) (before ns : List (List ℕ)) → p ≤ length (more text before ns) → has_name word before ≡ false → has_name word (more text before ns) ≡ false → more text before (insert ns p padded) ≡ insert (more text before ns) p padded
unfolding more
more_insert text zero before ns le none fresh = ap (λ (c : Bool). if c then padded ∷ more text (before ++ padded ∷ []) ns else []) (fits text) ∙ ap (λ (ms : List (List ℕ)). padded ∷ ms) (more_same text before (before ++ padded ∷ []) ns also fresh)
  where
    also : HasAlso before (before ++ padded ∷ [])
    also n = list_any-append (λ y. same_name y n) before (padded ∷ []) ∙ ap (λ (b : Bool). has_name n before || b) (or_false (same_name padded n))

    fits : (t : Bool) → belongs t padded before ≡ true
    fits true = ap not none
    fits false = ap not none
more_insert text (suc p) before [] le none fresh = absurd (omega (arith, le))
more_insert text (suc p) before (n ∷ ns) le none fresh = by (belongs text n before) (λ l a b. more_insert text p (before ++ n ∷ []) ns l a b) le fresh
  where
    behind : same_name n word ≡ false → has_name word (before ++ n ∷ []) ≡ false
    behind e = list_any-append (λ y. same_name y word) before (n ∷ []) ∙ ap (λ (b : Bool). b || (same_name n word || false)) none ∙ ap (λ (b : Bool). b || false) e

    by : (c : Bool) → (p ≤ length (more text (before ++ n ∷ []) ns) → has_name word (before ++ n ∷ []) ≡ false → has_name word (more text (before ++ n ∷ []) ns) ≡ false → more text (before ++ n ∷ []) (insert ns p padded) ≡ insert (more text (before ++ n ∷ []) ns) p padded)
        → suc p ≤ length (if c then n ∷ more text (before ++ n ∷ []) ns else []) → has_name word (if c then n ∷ more text (before ++ n ∷ []) ns else []) ≡ false
        → (if c then n ∷ more text (before ++ n ∷ []) (insert ns p padded) else []) ≡ insert (if c then n ∷ more text (before ++ n ∷ []) ns else []) (suc p) padded
    by true rest l q = ap (λ (ms : List (List ℕ)). n ∷ ms) (rest (omega (arith, l)) (behind (first_false (same_name n word) (has_name word (more text (before ++ n ∷ []) ns)) q)) (second_false (same_name n word) (has_name word (more text (before ++ n ∷ []) ns)) q))
    by false rest l q = absurd (omega (arith, l))

-- ---- places

pub place_bound : {X : Type 0} (test : X → Bool) (xs : List X) (k m : ℕ) → position_from test k xs ≡ Some m → (k ≤ m) × (m < k + length xs)
place_bound test [] k m h = absurd cc
place_bound test (x ∷ xs) k m h = by (test x) (λ e. place_bound test xs (k + 1) m e) h
  where
    by : (c : Bool) → (position_from test (k + 1) xs ≡ Some m → (k + 1 ≤ m) × (m < k + 1 + length xs)) → (if c then Some k else position_from test (k + 1) xs) ≡ Some m → (k ≤ m) × (m < k + length (x ∷ xs))
    by true later e = let same : k ≡ m = cc in (omega (arith, same), omega (arith, same))
    by false later e = let rest = later e in (omega (arith, rest.0), omega (arith, rest.1))

place_later : {X : Type 0} (test : X → Bool) (xs : List X) (k m : ℕ) → position_from test k xs ≡ Some m → position_from test (k + 1) xs ≡ Some (m + 1)
place_later test [] k m h = absurd cc
place_later test (x ∷ xs) k m h = by (test x) (λ e. place_later test xs (k + 1) m e) h
  where
    by : (c : Bool) → (position_from test (k + 1) xs ≡ Some m → position_from test (k + 1 + 1) xs ≡ Some (m + 1)) → (if c then Some k else position_from test (k + 1) xs) ≡ Some m → (if c then Some (k + 1) else position_from test (k + 1 + 1) xs) ≡ Some (m + 1)
    by true later e = let same : k ≡ m = cc in ap (λ (i : ℕ). Some (i + 1)) same
    by false later e = later e

-- what stands before the new element stays
pub place_before : {X : Type 0} (test : X → Bool) (xs : List X) (p k m : ℕ) (x : X) → position_from test k xs ≡ Some m → m < k + p → position_from test k (insert xs p x) ≡ Some m
place_before test xs zero k m x h lt = absurd (let b = place_bound test xs k m h in omega (arith, b.0, lt))
place_before test [] (suc p) k m x h lt = absurd cc
place_before test (y ∷ ys) (suc p) k m x h lt = by (test y) (λ e. place_before test ys p (k + 1) m x e (omega (arith, lt))) h
  where
    by : (c : Bool) → (position_from test (k + 1) ys ≡ Some m → position_from test (k + 1) (insert ys p x) ≡ Some m) → (if c then Some k else position_from test (k + 1) ys) ≡ Some m → (if c then Some k else position_from test (k + 1) (insert ys p x)) ≡ Some m
    by true later e = e
    by false later e = later e

-- what stands behind it moves by one, where it isn't one itself
pub place_behind : {X : Type 0} (test : X → Bool) (xs : List X) (p k m : ℕ) (x : X) → position_from test k xs ≡ Some m → k + p ≤ m → test x ≡ false → position_from test k (insert xs p x) ≡ Some (m + 1)
place_behind test xs zero k m x h le other = by (test x) other
  where
    by : (c : Bool) → c ≡ false → (if c then Some k else position_from test (k + 1) xs) ≡ Some (m + 1)
    by true e = absurd cc
    by false e = place_later test xs k m h
place_behind test [] (suc p) k m x h le other = absurd cc
place_behind test (y ∷ ys) (suc p) k m x h le other = by (test y) (λ e. place_behind test ys p (k + 1) m x e (omega (arith, le)) other) h
  where
    by : (c : Bool) → (position_from test (k + 1) ys ≡ Some m → position_from test (k + 1) (insert ys p x) ≡ Some (m + 1)) → (if c then Some k else position_from test (k + 1) ys) ≡ Some m → (if c then Some k else position_from test (k + 1) (insert ys p x)) ≡ Some (m + 1)
    by true later e = absurd (let same : k ≡ m = cc in omega (arith, same, le))
    by false later e = later e

-- the new element is found where there was none
pub place_new : {X : Type 0} (test : X → Bool) (xs : List X) (p k : ℕ) (x : X) → position_from test k xs ≡ None → test x ≡ true → p ≤ length xs → position_from test k (insert xs p x) ≡ Some (k + p)
place_new test xs zero k x h is le = by (test x) is
  where
    by : (c : Bool) → c ≡ true → (if c then Some k else position_from test (k + 1) xs) ≡ Some (k + 0)
    by true e = let same : k ≡ k + 0 = omega arith in ap Some same
    by false e = absurd cc
place_new test [] (suc p) k x h is le = absurd (omega (arith, le))
place_new test (y ∷ ys) (suc p) k x h is le = by (test y) (λ e. place_new test ys p (k + 1) x e is (omega (arith, le))) h
  where
    by : (c : Bool) → (position_from test (k + 1) ys ≡ None → position_from test (k + 1) (insert ys p x) ≡ Some (k + 1 + p)) → (if c then Some k else position_from test (k + 1) ys) ≡ None → (if c then Some k else position_from test (k + 1) (insert ys p x)) ≡ Some (k + suc p)
    by true later e = absurd cc
    by false later e = let same : k + 1 + p ≡ k + suc p = omega arith in later e ∙ ap Some same

-- where none is found, none is there
pub none_there : {X : Type 0} (test : X → Bool) (xs : List X) (k : ℕ) → position_from test k xs ≡ None → list_any test xs ≡ false
none_there test [] k h = refl
none_there test (x ∷ xs) k h = by (test x) (λ e. none_there test xs (k + 1) e) h
  where
    by : (c : Bool) → (position_from test (k + 1) xs ≡ None → list_any test xs ≡ false) → (if c then Some k else position_from test (k + 1) xs) ≡ None → (c || list_any test xs) ≡ false
    by true later e = absurd cc
    by false later e = later e

-- one place isn't that of two names
pub apart : (a b : List ℕ) (xs : List (List ℕ)) (k m : ℕ) → bytes_eq (key_of a) (key_of b) ≡ false → position_from (λ n. same_name n a) k xs ≡ Some m → position_from (λ n. same_name n b) k xs ≡ Some m → ⊥
apart a b [] k m other p q = absurd cc
apart a b (x ∷ xs) k m other p q = by (same_name x a) (same_name x b) refl refl (λ e f. apart a b xs (k + 1) m other e f) p q
  where
    clash : same_name x a ≡ true → same_name x b ≡ true → ⊥
    clash s t = let same : bytes_eq (key_of a) (key_of b) ≡ true = (bytes_eq-Decides (key_of a) (key_of b)).1 (sym ((bytes_eq-Decides (key_of x) (key_of a)).0 s) ∙ (bytes_eq-Decides (key_of x) (key_of b)).0 t) in absurd cc

    later : position_from (λ n. same_name n a) (k + 1) xs ≡ Some m → Some k ≡ Some m → ⊥
    later s e = let same : k ≡ m = cc in let b = place_bound (λ n. same_name n a) xs (k + 1) m s in omega (arith, same, b.0)

    sooner : position_from (λ n. same_name n b) (k + 1) xs ≡ Some m → Some k ≡ Some m → ⊥
    sooner s e = let same : k ≡ m = cc in let b = place_bound (λ n. same_name n b) xs (k + 1) m s in omega (arith, same, b.0)

    by : (c d : Bool) → same_name x a ≡ c → same_name x b ≡ d
        → (position_from (λ n. same_name n a) (k + 1) xs ≡ Some m → position_from (λ n. same_name n b) (k + 1) xs ≡ Some m → ⊥) → (if c then Some k else position_from (λ n. same_name n a) (k + 1) xs) ≡ Some m → (if d then Some k else position_from (λ n. same_name n b) (k + 1) xs) ≡ Some m → ⊥
    by true true s t rest e f = clash s t
    by true false s t rest e f = sooner f e
    by false true s t rest e f = later e f
    by false false s t rest e f = rest e f
