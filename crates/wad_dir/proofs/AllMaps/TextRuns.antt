-- No marker of a map lies among the lumps of a map of UDMF.
use Rattle.std.proofs.Common.{◌≡◌, ℕ, zero, suc, ◌+◌, ◌-◌, ◌<◌, ◌≤◌, ◌⊎◌, inl, inr, List, [], ◌∷◌, ◌++◌, length, get_or, drop, Bool, true, false, not, ◌&&◌, ◌||◌, if◌then◌else◌, Some, refl, sym, ap, ◌∙◌, subst, arith}
use Rattle.std.specs.Prelude.{bytes_eq, codes}
use Rattle.std.specs.List.{list_any, position_from}
use Rattle.std.proofs.lemmas.List.{get_or-drop}
use Rattle.std.proofs.lemmas.List.Folds.{list_any-append}
use Rattle.std.proofs.lemmas.Slice.Eq.{bytes_eq-Decides}
use Rattle.sight_names.specs.declared.faults.Lump.TheVariants.{Linedefs}
use Rattle.wad_dir.specs.declared.parts.MapSpot.{MapSpot}
use Rattle.wad_dir.specs.Map.{begins_with_name, begins_with_textmap, belongs, ends_text_map, has_name, is_run_name, key_of, lump_name, run_names, same_name, stands_once, text_ends}
use Rattle.wad_dir.proofs.Inserted.{more, more_goes_on, more_named, place_bound}
use Rattle.wad_dir.proofs.Spots.{IsSpot, is_cut, place}
use Rattle.math_base.proofs.Bools.{false_where_not_true, not_both_values, second_true}
use Rattle.math_base.proofs.Numbers.{below_or_not}
use Rattle.math_base.proofs.Options.{some_is_same}

abbrev textmap : List ℕ
textmap = codes "TEXTMAP"

abbrev endmap : List ℕ
endmap = codes "ENDMAP"

abbrev at : List (List ℕ) → ℕ → List ℕ
at ns k = get_or ns k []

-- ---- names

-- one name isn't two
two_names : (n a b : List ℕ) → bytes_eq (key_of a) (key_of b) ≡ false → same_name n a ≡ true → same_name n b ≡ true → ⊥
two_names n a b other s t =
    let same : bytes_eq (key_of a) (key_of b) ≡ true = (bytes_eq-Decides (key_of a) (key_of b)).1 (sym ((bytes_eq-Decides (key_of n) (key_of a)).0 s) ∙ (bytes_eq-Decides (key_of n) (key_of b)).0 t) in
    not_both_values (bytes_eq (key_of a) (key_of b)) same other

linedefs_end : (n : List ℕ) → same_name n (codes "LINEDEFS") ≡ true → ends_text_map n ≡ true
linedefs_end n e = subst (λ (key : List ℕ). list_any (λ m. bytes_eq key (key_of m)) text_ends ≡ true) (sym ((bytes_eq-Decides (key_of n) (codes "LINEDEFS")).0 e)) refl

endmap_is_none : (n : List ℕ) → same_name n endmap ≡ true → is_run_name n ≡ false
endmap_is_none n e = subst (λ (key : List ℕ). list_any (λ m. bytes_eq key (key_of m)) run_names ≡ false) (sym ((bytes_eq-Decides (key_of n) endmap).0 e)) refl

-- the first of what is left is the name
head_there : (ns : List (List ℕ)) (k : ℕ) (name : List ℕ) → begins_with_name name (drop k ns) ≡ true → same_name (at ns k) name ≡ true
head_there [] zero name h = absurd (not_both_values false h refl)
head_there [] (suc k) name h = absurd (not_both_values false h refl)
head_there (n ∷ ns) zero name h = h
head_there (n ∷ ns) (suc k) name h = head_there ns k name h

-- a run is the names that it is made of
more_front : (text : Bool) (before ns : List (List ℕ)) (j : ℕ) → j < length (more text before ns) → at (more text before ns) j ≡ at ns j
unfolding more
more_front text before [] j lt = refl
more_front text before (n ∷ ns) j lt = by (belongs text n before) (λ k l. more_front text (before ++ n ∷ []) ns k l) j lt
  where
    by : (c : Bool) → ((k : ℕ) → k < length (more text (before ++ n ∷ []) ns) → at (more text (before ++ n ∷ []) ns) k ≡ at ns k) → (i : ℕ) → i < length (if c then n ∷ more text (before ++ n ∷ []) ns else []) → at (if c then n ∷ more text (before ++ n ∷ []) ns else []) i ≡ at (n ∷ ns) i
    by true rest zero l = refl
    by true rest (suc i) l = rest i (omega (arith, l))
    by false rest i l = absurd (omega (arith, l))

-- what is found passes the test
place_passes : (test : List ℕ → Bool) (xs : List (List ℕ)) (k j : ℕ) → position_from test k xs ≡ Some (k + j) → test (at xs j) ≡ true
place_passes test [] k j h = absurd cc
place_passes test (x ∷ xs) k j h = by (test x) refl j h (λ i e. place_passes test xs (k + 1) i e)
  where
    by : (c : Bool) → test x ≡ c → (i : ℕ) → (if c then Some k else position_from test (k + 1) xs) ≡ Some (k + i) → ((o : ℕ) → position_from test (k + 1) xs ≡ Some (k + 1 + o) → test (at xs o) ≡ true) → test (at (x ∷ xs) i) ≡ true
    by true is zero e rest = is
    by true is (suc i) e rest = absurd (let same : k ≡ k + suc i = some_is_same k (k + suc i) e in omega (arith, same))
    by false is zero e rest = absurd (let b = place_bound test xs (k + 1) (k + 0) e in omega (arith, b.0))
    by false is (suc i) e rest = let same : k + suc i ≡ k + 1 + i = omega arith in rest i (e ∙ ap (λ (n : ℕ). Some n) same)

-- behind a TEXTMAP no other belongs to the run
more_once : (before ns : List (List ℕ)) (j : ℕ) → has_name textmap before ≡ true → j < length (more true before ns) → same_name (at ns j) textmap ≡ false
unfolding more
more_once before [] j seen lt = absurd (omega (arith, lt))
more_once before (n ∷ ns) j seen lt = by (belongs true n before) refl j lt (λ i l. more_once (before ++ n ∷ []) ns i later l)
  where
    later : has_name textmap (before ++ n ∷ []) ≡ true
    later = list_any-append (λ m. same_name m textmap) before (n ∷ []) ∙ ap (λ (b : Bool). b || has_name textmap (n ∷ [])) seen

    other : belongs true n before ≡ true → same_name n textmap ≡ false
    other is = false_where_not_true (same_name n textmap) (λ t. twice t (second_true (not (ends_text_map n)) (not (stands_once n && has_name n before)) is))
      where
        twice : same_name n textmap ≡ true → not (stands_once n && has_name n before) ≡ true → ⊥
        twice t e =
            let key : key_of n ≡ textmap = (bytes_eq-Decides (key_of n) textmap).0 t in
            let there : has_name n before ≡ true = ap (λ (k : List ℕ). list_any (λ m. bytes_eq (key_of m) k) before) key ∙ seen in
            let none : not (true && true) ≡ true = sym (λ i. not ((t i || same_name n (codes "REJECT")) && there i)) ∙ e in
            not_both_values false none refl

    by : (c : Bool) → belongs true n before ≡ c → (i : ℕ) → i < length (if c then n ∷ more true (before ++ n ∷ []) ns else []) → ((o : ℕ) → o < length (more true (before ++ n ∷ []) ns) → same_name (at ns o) textmap ≡ false) → same_name (at (n ∷ ns) i) textmap ≡ false
    by true is zero l rest = other is
    by true is (suc i) l rest = rest i (omega (arith, l))
    by false is i l rest = absurd (omega (arith, l))

-- none but the first of a run that begins with TEXTMAP is another one
first_once : (ns : List (List ℕ)) (j : ℕ) → begins_with_textmap ns ≡ true → suc j < length (more true [] ns) → same_name (at ns (suc j)) textmap ≡ false
unfolding more
first_once [] j first lt = absurd (omega (arith, lt))
first_once (n ∷ ns) j first lt = by (belongs true n []) lt
  where
    seen : has_name textmap (n ∷ []) ≡ true
    seen = ap (λ (b : Bool). b || false) first

    by : (c : Bool) → suc j < length (if c then n ∷ more true (n ∷ []) ns else []) → same_name (at ns j) textmap ≡ false
    by true l = more_once (n ∷ []) ns j seen (omega (arith, l))
    by false l = absurd (omega (arith, l))

-- ---- the two kinds of runs

-- so many entries behind a marker, and the end behind them
record IsTextRun (ns : List (List ℕ)) (m len : ℕ) : Type 0 where
  goes_on : (k : ℕ) → m < k → k < m + 1 + len → not (ends_text_map (at ns k)) ≡ true
  once : (k : ℕ) → m + 1 < k → k < m + 1 + len → same_name (at ns k) textmap ≡ false
  ended : same_name (at ns (m + 1 + len)) endmap ≡ true

in_drop : (ns : List (List ℕ)) (m j k : ℕ) → m + 1 + j ≡ k → at (drop (m + 1) ns) j ≡ at ns k
in_drop ns m j k e = get_or-drop (m + 1) ns j [] ∙ ap (λ (i : ℕ). at ns i) e

text_run : (ns : List (List ℕ)) (m : ℕ) → begins_with_textmap (drop (m + 1) ns) ≡ true → is_cut (drop (m + 1) ns) ≡ false → IsTextRun ns m (length (more true [] (drop (m + 1) ns)))
text_run ns m text whole = record {
  goes_on = λ k lt le.
      let e : m + 1 + (k - (m + 1)) ≡ k = omega (arith, lt) in
      ap (λ (n : List ℕ). not (ends_text_map n)) (sym (in_drop ns m (k - (m + 1)) k e)) ∙ more_goes_on [] (drop (m + 1) ns) (k - (m + 1)) [] (omega (arith, lt, le));
  once = λ k lt le.
      let e : m + 1 + suc (k - (m + 2)) ≡ k = omega (arith, lt) in
      ap (λ (n : List ℕ). same_name n textmap) (sym (in_drop ns m (suc (k - (m + 2))) k e)) ∙ first_once (drop (m + 1) ns) (k - (m + 2)) text (omega (arith, lt, le));
  ended =
      let after : List (List ℕ) = drop (m + 1) ns in
      let len : ℕ = length (more true [] after) in
      let there : begins_with_name endmap (drop len after) ≡ true = has_end (begins_with_name endmap (drop len after)) (sym (λ i. text i && not (begins_with_name endmap (drop (length (more (text i) [] after)) after))) ∙ whole) in
      ap (λ (n : List ℕ). same_name n endmap) (sym (in_drop ns m len (m + 1 + len) refl)) ∙ head_there after len endmap there;
}
  where
    has_end : (b : Bool) → (true && not b) ≡ false → b ≡ true
    has_end true e = refl
    has_end false e = absurd (not_both_values true refl e)

-- the entries behind a marker up to LINEDEFS
record IsLumpRun (ns : List (List ℕ)) (m : ℕ) : Type 0 where
  l : ℕ
  behind : m < l
  linedefs : same_name (at ns l) (codes "LINEDEFS") ≡ true
  named : (k : ℕ) → m < k → k ≤ l → is_run_name (at ns k) ≡ true

lump_run : (ns : List (List ℕ)) (m l : ℕ) → place (codes "LINEDEFS") (more false [] (drop (m + 1) ns)) ≡ Some l → IsLumpRun ns m
lump_run ns m l h =
    let after : List (List ℕ) = drop (m + 1) ns in
    let b = place_bound (λ n. same_name n (codes "LINEDEFS")) (more false [] after) 0 l h in
    let none : l ≡ 0 + l = omega arith in record {
      l = m + 1 + l;
      behind = omega arith;
      linedefs = ap (λ (n : List ℕ). same_name n (codes "LINEDEFS")) (sym (more_front false [] after l (omega (arith, b.1)) ∙ in_drop ns m l (m + 1 + l) refl)) ∙ place_passes (λ n. same_name n (codes "LINEDEFS")) (more false [] after) 0 l (h ∙ ap (λ (n : ℕ). Some n) none);
      named = λ k lt le.
          let e : m + 1 + (k - (m + 1)) ≡ k = omega (arith, lt) in
          ap (λ (n : List ℕ). is_run_name n) (sym (in_drop ns m (k - (m + 1)) k e)) ∙ more_named [] after (k - (m + 1)) [] (omega (arith, lt, le, b.1));
    }

-- no LINEDEFS is reached from an entry of the run of a map of UDMF
never_both : (ns : List (List ℕ)) (m len q : ℕ) → IsTextRun ns m len → IsLumpRun ns q → m < q → q < m + 1 + len → ⊥
never_both ns m len q t r lt le = by (below_or_not r.l (m + 1 + len))
  where
    by : (r.l < m + 1 + len) ⊎ (m + 1 + len ≤ r.l) → ⊥
    by (inl sooner) =
        let behind : q < r.l = r.behind in
        let e : not true ≡ true = sym (ap not (linedefs_end (at ns r.l) r.linedefs)) ∙ t.goes_on r.l (omega (arith, behind, lt)) sooner in
        not_both_values false e refl
    by (inr later) = not_both_values (is_run_name (at ns (m + 1 + len))) (r.named (m + 1 + len) le later) (endmap_is_none (at ns (m + 1 + len)) t.ended)

-- and no TEXTMAP stands right behind it
never_text : (ns : List (List ℕ)) (m len q : ℕ) → IsTextRun ns m len → m < q → q < m + 1 + len → begins_with_textmap (drop (q + 1) ns) ≡ false
never_text ns m len q t lt le = false_where_not_true (begins_with_textmap (drop (q + 1) ns)) (λ is. by (below_or_not (q + 1) (m + 1 + len)) (head_there ns (q + 1) textmap is))
  where
    by : (q + 1 < m + 1 + len) ⊎ (m + 1 + len ≤ q + 1) → same_name (at ns (q + 1)) textmap ≡ true → ⊥
    by (inl sooner) is = not_both_values (same_name (at ns (q + 1)) textmap) is (t.once (q + 1) (omega (arith, lt)) sooner)
    by (inr later) is =
        let same : m + 1 + len ≡ q + 1 = omega (arith, later, le) in
        two_names (at ns (q + 1)) textmap endmap refl is (subst (λ (k : ℕ). same_name (at ns k) endmap ≡ true) same t.ended)

-- the marker of a map lies behind the run of a map of UDMF before it
pub behind_text : (ns : List (List ℕ)) (a name : List ℕ) (first spot : MapSpot) (p : IsSpot ns a first) (q : IsSpot ns name spot) → begins_with_textmap (drop (p.marker + 1) ns) ≡ true → p.marker < q.marker → q.marker < p.marker + 1 + length (more true [] (drop (p.marker + 1) ns)) → ⊥
behind_text ns a name first spot p q text lt le =
    let t = text_run ns p.marker text p.whole in
    let len : ℕ = length (more true [] (drop (p.marker + 1) ns)) in
    let other : begins_with_textmap (drop (q.marker + 1) ns) ≡ false = never_text ns p.marker len q.marker t lt le in
    let there : place (codes "LINEDEFS") (more false [] (drop (q.marker + 1) ns)) ≡ Some q.l = sym (λ i. place (lump_name (other i) Linedefs) (more (other i) [] (drop (q.marker + 1) ns))) ∙ q.linedefs in
    never_both ns p.marker len q.marker t (lump_run ns q.marker q.l there) lt le
