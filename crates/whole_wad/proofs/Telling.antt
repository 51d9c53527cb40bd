-- One map more in a list of what comes of maps, and one that stops all.
use Rattle.std.proofs.Common.{◌≡◌, ℕ, Bool, ◌+◌, ◌<◌, List, [], ◌∷◌, ◌++◌, length, drop, get_or, take, map, Option, Some, None, refl, sym, ap, subst, ◌∙◌}
use Rattle.std.specs.List.{AllByRecursion}
use Rattle.std.proofs.lemmas.List.{drop_more, flat_map_more, take_more}
use Rattle.math_base.proofs.Lists.{all_join, map_pushed}
use Rattle.sight_names.specs.declared.names.Method.{Method}
use Rattle.wad_dir.specs.Wad.{WadFile}
use Rattle.wad_dir.specs.AllMaps.Names.{name_before_nul}
use Rattle.refused_maps.specs.declared.Refused.{Refused}
use Rattle.row_spelling.specs.declared.Spelling.{Spelling}
use Rattle.map_answers.specs.declared.sight_status.status.Status.{Status}
use Rattle.map_answers.specs.Input.{map_named}
use Rattle.whole_wad.specs.declared.outcomes.MapOutcome.{MapOutcome}
use Rattle.whole_wad.specs.Outcomes.{ComesOf, stop_of_all}
use Rattle.whole_wad.specs.Report.{map_row, outcomes_report}
use Rattle.whole_wad.specs.Stop.{IsThisOr, StopsAt}
use Rattle.whole_wad.specs.Tables.{Gets}

-- the next name
pub name_more : (names : List (List ℕ)) (k : ℕ) (d : List ℕ) (outcomes more : List MapOutcome) (o : MapOutcome) → k < length names → map (λ (x : MapOutcome). x.name) outcomes ≡ take k names → o.name ≡ get_or names k d
    → more ≡ outcomes ++ o ∷ [] → map (λ (x : MapOutcome). x.name) more ≡ take (k + 1) names
name_more names k d outcomes more o lt e is pushed =
    ap (λ (os : List MapOutcome). map (λ (x : MapOutcome). x.name) os) pushed
    ∙ map_pushed (λ (x : MapOutcome). x.name) outcomes o
    ∙ ap (λ (ns : List (List ℕ)). ns ++ o.name ∷ []) e
    ∙ ap (λ (n : List ℕ). take k names ++ n ∷ []) is
    ∙ sym (take_more names k d lt)

pub comes_more : (P : MapOutcome → Type 0) (outcomes more : List MapOutcome) (o : MapOutcome) → AllByRecursion P outcomes → P o → more ≡ outcomes ++ o ∷ [] → AllByRecursion P more
comes_more P outcomes more o all h pushed = subst (AllByRecursion P) (sym pushed) (all_join P outcomes (o ∷ []) all (h, tt))

lines_more : (spelled : Spelling) (outcomes : List MapOutcome) (o : MapOutcome) → outcomes_report spelled outcomes ++ map_row spelled o ≡ outcomes_report spelled (outcomes ++ o ∷ [])
lines_more spelled outcomes o = flat_map_more (map_row spelled) [] outcomes o

-- the next line
pub report_more : (spelled : Spelling) (outcomes more : List MapOutcome) (o : MapOutcome) (old line new : List ℕ) → old ≡ outcomes_report spelled outcomes → line ≡ map_row spelled o → new ≡ old ++ line → more ≡ outcomes ++ o ∷ [] → new ≡ outcomes_report spelled more
report_more spelled outcomes more o old line new before is pushed e =
    pushed ∙ ap (λ (xs : List ℕ). xs ++ line) before ∙ ap (λ (xs : List ℕ). outcomes_report spelled outcomes ++ xs) is ∙ lines_more spelled outcomes o ∙ ap (outcomes_report spelled) (sym e)

-- ---- the first that stops all

module _ (w : WadFile) (large : Bool) (by : Method) (choice : Refused) (names : List (List ℕ)) (k : ℕ) (d : List ℕ) (o : MapOutcome) (lt : k < length names) (is : o.name ≡ get_or names k d) (comes : ComesOf w large by choice o) (ahead : (s : Status) → StopsAt w large by choice s (drop k names) → StopsAt w large by choice s names) where
  -- what this map says of the first that stops all among it and those behind it
  among : (s : Status) → IsThisOr (stop_of_all choice o.made) s (StopsAt w large by choice s (drop (k + 1) names)) → StopsAt w large by choice s names
  among s this =
      let here : StopsAt w large by choice s (get_or names k d ∷ drop (k + 1) names) = (o.made, subst (λ (n : List ℕ). Gets (map_named large w (name_before_nul n)) by o.made) is comes.gets, this) in
      ahead s (subst (λ (ns : List (List ℕ)). StopsAt w large by choice s ns) (sym (drop_more names k d lt)) here)

  pub stops_here : (s : Status) → Some s ≡ stop_of_all choice o.made → StopsAt w large by choice s names
  stops_here s e = among s (subst (λ (r : Option Status). IsThisOr r s (StopsAt w large by choice s (drop (k + 1) names))) e refl)

  pub stops_later : None ≡ stop_of_all choice o.made → (s : Status) → StopsAt w large by choice s (drop (k + 1) names) → StopsAt w large by choice s names
  stops_later e s later = among s (subst (λ (r : Option Status). IsThisOr r s (StopsAt w large by choice s (drop (k + 1) names))) e later)
