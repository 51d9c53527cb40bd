-- The changes that what comes of maps makes, and how many there are.
use Rattle.std.proofs.Common.{◌≡◌, ℕ, ◌+◌, ◌<◌, inl, List, [], ◌∷◌, ◌++◌, length, get_or, take, map, Result, Ok, Err, refl, sym, ap, ◌∙◌, arith}
use Rattle.std.specs.List.{cons_option}
use Rattle.std.proofs.lemmas.List.{length-append, take_more}
use Rattle.std.proofs.lemmas.List.Elements.{filter_map-append}
use Rattle.wad_dir.specs.declared.all_maps.parts.Change.{Change}
use Rattle.wad_dir.specs.AllMaps.All.{HasInOrder, names_changed}
use Rattle.wad_dir.proofs.AllMaps.InOrder.{passed}
use Rattle.map_answers.specs.declared.sight_status.status.Status.{Status}
use Rattle.whole_wad.specs.declared.fate.Fate.{Fate}
use Rattle.whole_wad.specs.declared.fate.Fate.TheVariants as fate
use Rattle.whole_wad.specs.declared.outcomes.MapOutcome.{MapOutcome}
use Rattle.whole_wad.specs.declared.tables.MapTable.{MapTable}
use Rattle.whole_wad.specs.Outcomes.{change_by, changes_of, clear_in, clears_of, refusal_in, refusals_of, table_in, tables_of}

-- ---- the names that are changed are some of the maps, in order

pub changed_in_order : (outcomes : List MapOutcome) → HasInOrder (map (λ (o : MapOutcome). o.name) outcomes) (names_changed (changes_of outcomes))
changed_in_order [] = tt
changed_in_order (o ∷ os) = by o.made o.fate (changed_in_order os)
  where
    by : (r : Result MapTable Status) (f : Fate) → HasInOrder (map (λ (x : MapOutcome). x.name) os) (names_changed (changes_of os))
        → HasInOrder (o.name ∷ map (λ (x : MapOutcome). x.name) os) (names_changed (cons_option (change_by o.name r f) (changes_of os)))
    by (Ok made) f later = inl (refl, later)
    by (Err refusal) (fate.Cleared table) later = inl (refl, later)
    by (Err refusal) f later = passed o.name (map (λ (x : MapOutcome). x.name) os) (names_changed (changes_of os)) later

-- ---- how many there are

-- each map is built or refused
pub counted : (outcomes : List MapOutcome) → length outcomes ≡ length (tables_of outcomes) + length (refusals_of outcomes)
counted [] = refl
counted (o ∷ os) = by o.made (counted os)
  where
    by : (r : Result MapTable Status) → length os ≡ length (tables_of os) + length (refusals_of os)
        → length (o ∷ os) ≡ length (cons_option (table_in r) (tables_of os)) + length (cons_option (refusal_in r) (refusals_of os))
    by (Ok made) later = omega (arith, later)
    by (Err refusal) later = omega (arith, later)

-- each change is a table that was built or a clear one
pub changed : (outcomes : List MapOutcome) → length (changes_of outcomes) ≡ length (tables_of outcomes) + length (clears_of outcomes)
changed [] = refl
changed (o ∷ os) = by o.made o.fate (changed os)
  where
    by : (r : Result MapTable Status) (f : Fate) → length (changes_of os) ≡ length (tables_of os) + length (clears_of os)
        → length (cons_option (change_by o.name r f) (changes_of os)) ≡ length (cons_option (table_in r) (tables_of os)) + length (cons_option (clear_in r f) (clears_of os))
    by (Ok made) f later = omega (arith, later)
    by (Err refusal) (fate.Cleared table) later = omega (arith, later)
    by (Err refusal) f later = omega (arith, later)

-- ---- one more

pub change_more : (outcomes : List MapOutcome) (k : ℕ) (d o : MapOutcome) (changes more : List Change) → k < length outcomes → o ≡ get_or outcomes k d → changes ≡ changes_of (take k outcomes) → more ≡ changes ++ changes_of (o ∷ []) → more ≡ changes_of (take (k + 1) outcomes)
change_more outcomes k d o changes more lt is before pushed =
    pushed ∙ ap (λ (cs : List Change). cs ++ changes_of (o ∷ [])) before ∙ ap (λ (x : MapOutcome). changes_of (take k outcomes) ++ changes_of (x ∷ [])) is
    ∙ sym (filter_map-append (λ (x : MapOutcome). change_by x.name x.made x.fate) (take k outcomes) (get_or outcomes k d ∷ []))
    ∙ ap changes_of (sym (take_more outcomes k d lt))

pub built_more : (outcomes : List MapOutcome) (k : ℕ) (d o : MapOutcome) (count one : ℕ) → k < length outcomes → o ≡ get_or outcomes k d → count ≡ length (tables_of (take k outcomes)) → one ≡ length (tables_of (o ∷ [])) → count + one ≡ length (tables_of (take (k + 1) outcomes))
built_more outcomes k d o count one lt is before here =
    let parts : tables_of (take (k + 1) outcomes) ≡ tables_of (take k outcomes) ++ tables_of (o ∷ []) =
    ap tables_of (take_more outcomes k d lt) ∙ filter_map-append (λ (x : MapOutcome). table_in x.made) (take k outcomes) (get_or outcomes k d ∷ []) ∙ ap (λ (x : MapOutcome). tables_of (take k outcomes) ++ tables_of (x ∷ [])) (sym is) in
    let long : length (tables_of (take (k + 1) outcomes)) ≡ length (tables_of (take k outcomes)) + length (tables_of (o ∷ [])) = ap length parts ∙ length-append (tables_of (take k outcomes)) (tables_of (o ∷ [])) in
    omega (arith, before, here, long)
