-- What comes of the maps of a WAD by one method and one choice is one: each map has one table and one list, or one flaw. So is the
-- refusal that stops all.
use Rattle.std.proofs.Common.{◌≡◌, Bool, List, [], ◌∷◌, map, ℕ, Option, Some, None, Result, Ok, Err, sym, ap, ◌∙◌, subst, refl}
use Rattle.std.specs.List.{AllByRecursion}
use Rattle.sight_names.specs.declared.faults.LineFault.{LineFault}
use Rattle.sight_names.specs.declared.names.Method.{Method}
use Rattle.sight_names.specs.declared.names.Side.{Side}
use Rattle.sight_names.specs.Groups.{HasClosedFaces}
use Rattle.sight_names.specs.Map.{Map}
use Rattle.map_audit.proofs.AuditLemmas.{not_sound, one_fault}
use Rattle.face_groups.specs.TriSectors.Verdict.{IsClosedSide}
use Rattle.wad_dir.specs.Wad.{WadFile}
use Rattle.map_answers.specs.declared.sight_status.status.Flaw.TheVariants as flaw
use Rattle.map_answers.specs.declared.sight_status.status.Status.{Status}
use Rattle.map_answers.specs.declared.sight_status.status.Status.TheVariants as status
use Rattle.map_answers.specs.Input.{map_named}
use Rattle.map_answers.proofs.Flaws.{one_side}
use Rattle.wad_dir.specs.AllMaps.Names.{name_before_nul}
use Rattle.whole_wad.specs.declared.outcomes.MapOutcome.{MapOutcome}
use Rattle.whole_wad.specs.declared.tables.MapTable.{MapTable}
use Rattle.refused_maps.specs.declared.Refused.{Refused}
use Rattle.whole_wad.specs.Outcomes.{AreOutcomes, ComesOf, OutcomesAreOne, stop_of_all}
use Rattle.whole_wad.specs.Rejects.{fate_of, reject_named}
use Rattle.whole_wad.specs.Stop.{IsThisOr, StopsAt}
use Rattle.whole_wad.specs.Tables.{Gets, IsFlawOf, IsTableOfMap, built_with}
use Rattle.whole_wad.proofs.OneTable.{one_table}

-- ---- of one map

pub one_made : (m : Map) (by : Method) (one other : MapTable) → IsTableOfMap m by one → IsTableOfMap m by other → one ≡ other
one_made m by one other h k =
    let same = one_table m by (built_with one h.cert) (built_with other k.cert) h.is_built k.is_built in
    λ i. record { table = same.table i; listed = same.listed i }

-- a map that gets a table has no flaw
pub no_flaw : (m : Map) (s : Status) → HasClosedFaces m → IsFlawOf m s → ⊥
no_flaw m (status.BadMap (flaw.Line fault)) sound h = not_sound m fault h sound.ends
no_flaw m (status.BadMap (flaw.Open side)) sound h = h.1.against (sound.closed side)
no_flaw m s sound h = h

one_flaw : (m : Map) (s t : Status) → IsFlawOf m s → IsFlawOf m t → s ≡ t
one_flaw m (status.BadMap (flaw.Line f)) (status.BadMap (flaw.Line g)) h k = ap (λ (x : LineFault). status.BadMap (flaw.Line x)) (one_fault m f g h k)
one_flaw m (status.BadMap (flaw.Line f)) (status.BadMap (flaw.Open side)) h k = absurd (not_sound m f h k.0)
one_flaw m (status.BadMap (flaw.Line f)) t h k = absurd k
one_flaw m (status.BadMap (flaw.Open side)) (status.BadMap (flaw.Line g)) h k = absurd (not_sound m g k h.0)
one_flaw m (status.BadMap (flaw.Open side)) (status.BadMap (flaw.Open other)) h k = ap (λ (x : Side). status.BadMap (flaw.Open x)) (sym (one_side (IsClosedSide m) side other h.1 k.1))
one_flaw m (status.BadMap (flaw.Open side)) t h k = absurd k
one_flaw m s t h k = absurd h

one_of_map : (m : Map) (by : Method) (one other : Result MapTable Status) → Gets (Ok m) by one → Gets (Ok m) by other → one ≡ other
one_of_map m by (Ok one) (Ok other) h k = ap (λ (x : MapTable). Ok x) (one_made m by one other h k)
one_of_map m by (Ok one) (Err t) h k = absurd (no_flaw m t h.is_built.fit k)
one_of_map m by (Err s) (Ok other) h k = absurd (no_flaw m s k.is_built.fit h)
one_of_map m by (Err s) (Err t) h k = ap (λ (x : Status). Err x) (one_flaw m s t h k)

pub one_got : (said : Result Map Status) (by : Method) (one other : Result MapTable Status) → Gets said by one → Gets said by other → one ≡ other
one_got (Ok m) by one other h k = one_of_map m by one other h k
one_got (Err s) by one other h k = h ∙ sym k

-- ---- of all maps

named : List MapOutcome → List (List ℕ)
named os = map (λ (o : MapOutcome). o.name) os

abbrev first_name : List (List ℕ) → List ℕ
first_name [] = []
first_name (n ∷ ns) = n

abbrev other_names : List (List ℕ) → List (List ℕ)
other_names [] = []
other_names (n ∷ ns) = ns

one_outcome : (w : WadFile) (large : Bool) (by : Method) (choice : Refused) (one other : MapOutcome) → one.name ≡ other.name → ComesOf w large by choice one → ComesOf w large by choice other → one ≡ other
one_outcome w large by choice one other e h k =
    let made = one_got (map_named large w (name_before_nul other.name)) by one.made other.made (subst (λ (n : List ℕ). Gets (map_named large w (name_before_nul n)) by one.made) e h.gets) k.gets in
    let fate : one.fate ≡ other.fate = h.fate ∙ (λ i. fate_of choice (map_named large w (name_before_nul (e i))) (reject_named w (name_before_nul (e i))) (made i)) ∙ sym k.fate in
    λ i. record { name = e i; made = made i; fate = fate i }

one_list : (w : WadFile) (large : Bool) (by : Method) (choice : Refused) (ones others : List MapOutcome) → named ones ≡ named others → AllByRecursion (ComesOf w large by choice) ones → AllByRecursion (ComesOf w large by choice) others → ones ≡ others
unfolding named
one_list w large by choice [] [] e h k = refl
one_list w large by choice [] (o ∷ os) e h k = absurd cc
one_list w large by choice (o ∷ os) [] e h k = absurd cc
one_list w large by choice (o ∷ os) (p ∷ ps) e h k =
    let first = one_outcome w large by choice o p (ap first_name e) h.0 k.0 in
    let rest = one_list w large by choice os ps (ap other_names e) h.1 k.1 in
    λ i. first i ∷ rest i

pub outcomes_are_one : OutcomesAreOne
unfolding named
outcomes_are_one w large names by choice one other h k = one_list w large by choice one other (h.each ∙ sym k.each) h.comes k.comes

-- ---- what stops all

-- a refusal that stops all, or later, by what a map gets
one_this : (r : Option Status) (s t : Status) (Later Others : Type 0) → (Later → Others → s ≡ t) → IsThisOr r s Later → IsThisOr r t Others → s ≡ t
one_this (Some stop) s t Later Others later h k = h ∙ sym k
one_this None s t Later Others later h k = later h k

pub one_stop : (w : WadFile) (large : Bool) (by : Method) (choice : Refused) (s t : Status) (names : List (List ℕ)) → StopsAt w large by choice s names → StopsAt w large by choice t names → s ≡ t
one_stop w large by choice s t [] h k = absurd h
one_stop w large by choice s t (n ∷ ns) h k =
    let made = one_got (map_named large w (name_before_nul n)) by h.0 k.0 h.1 k.1 in
    one_this (stop_of_all choice k.0) s t (StopsAt w large by choice s ns) (StopsAt w large by choice t ns) (one_stop w large by choice s t ns)
    (subst (λ (r : Result MapTable Status). IsThisOr (stop_of_all choice r) s (StopsAt w large by choice s ns)) made h.2) k.2

none_this : (r : Option Status) (s : Status) (Later : Type 0) → r ≡ None → IsThisOr r s Later → Later
none_this None s Later e h = h
none_this (Some stop) s Later e h = absurd cc

goes_past : (w : WadFile) (large : Bool) (by : Method) (choice : Refused) (s : Status) (names : List (List ℕ)) (outcomes : List MapOutcome) → named outcomes ≡ names → AllByRecursion (ComesOf w large by choice) outcomes → AllByRecursion (λ (o : MapOutcome). stop_of_all choice o.made ≡ None) outcomes → StopsAt w large by choice s names → ⊥
unfolding named
goes_past w large by choice s [] os e h g k = absurd k
goes_past w large by choice s (n ∷ ns) [] e h g k = absurd cc
goes_past w large by choice s (n ∷ ns) (o ∷ os) e h g k =
    let gets = subst (λ (x : List ℕ). Gets (map_named large w (name_before_nul x)) by o.made) (ap first_name e) h.0.gets in
    let made = one_got (map_named large w (name_before_nul n)) by o.made k.0 gets k.1 in
    goes_past w large by choice s ns os (ap other_names e) h.1 g.1 (none_this (stop_of_all choice k.0) s (StopsAt w large by choice s ns) (subst (λ (r : Result MapTable Status). stop_of_all choice r ≡ None) made g.0) k.2)

-- where something comes of all maps, none stops them
pub none_stops : (w : WadFile) (large : Bool) (by : Method) (choice : Refused) (s : Status) (names : List (List ℕ)) (outcomes : List MapOutcome) → AreOutcomes w large names by choice outcomes → StopsAt w large by choice s names → ⊥
unfolding named
none_stops w large by choice s names outcomes h k = goes_past w large by choice s names outcomes h.each h.comes h.goes_on k
