-- Names of a part of the entries.
use Rattle.std.proofs.Common.{◌≡◌, ℕ, ◌+◌, ◌≤◌, List, [], length, take, drop, Bool, true, false, not, ◌&&◌, if◌then◌else◌, Some, None, Result, Err, sym, ap, ◌∙◌, arith}
use Rattle.std.specs.Prelude.{codes}
use Rattle.std.proofs.lemmas.List.{drop-map, length-map, length-take}
use Rattle.sight_names.specs.declared.faults.MapFault.{MapFault}
use Rattle.sight_names.specs.declared.faults.MapFault.TheVariants as fault
use Rattle.sight_names.specs.declared.names.MapFormat.{MapFormat}
use Rattle.wad_dir.specs.Map.{begins_with_name, begins_with_textmap, entry_names, spot_behind, spot_in, spot_of, run_from, format_behind, last_from}
use Rattle.wad_dir.specs.declared.parts.Entry.{Entry}
use Rattle.wad_dir.specs.declared.parts.MapSpot.{MapSpot}

pub names_drop : (k : ℕ) (es : List Entry) → entry_names (drop k es) ≡ drop k (entry_names es)
names_drop k es = sym (drop-map (λ (e : Entry). e.name) k es)

pub names_length : (es : List Entry) → length (entry_names es) ≡ length es
names_length es = length-map es (λ (e : Entry). e.name)

pub names_take_length : (k : ℕ) (es : List Entry) → k ≤ length es → length (entry_names (take k es)) ≡ k
names_take_length k es le = omega (arith, names_length (take k es), length-take k es)

pub ruleset names = (names_drop, names_length, names_take_length)

-- the run, and what stands behind it
module _ (text : Bool) (marker r : ℕ) (es run rest : List Entry) (is_text : text ≡ begins_with_textmap (entry_names es)) (len : r ≡ length (run_from text [] (entry_names es))) (names : entry_names (take r es) ≡ run_from text [] (entry_names es)) (is_run : run ≡ take r es) (is_rest : rest ≡ drop r es) where
  abbrev front : Bool → List (List ℕ)
  front t = run_from t [] (entry_names es)

  rest_names : entry_names rest ≡ drop (length (front text)) (entry_names es)
  rest_names = ap (λ (x : List Entry). entry_names x) is_rest ∙ names_drop r es ∙ ap (λ (k : ℕ). drop k (entry_names es)) len

  run_names_are : entry_names run ≡ front text
  run_names_are = ap (λ (x : List Entry). entry_names x) is_run ∙ names

  abbrev spot_by_run : Bool → List (List ℕ) → List (List ℕ) → Result MapSpot MapFault
  spot_by_run t behind ns = if t && not (begins_with_name (codes "ENDMAP") behind) then Err fault.NoEnd else spot_in marker t (format_behind behind) ns

  behind_is : spot_by_run text (entry_names rest) (entry_names run) ≡ spot_behind marker (entry_names es)
  unfolding spot_behind
  behind_is =
      (λ i. spot_by_run text (rest_names i) (run_names_are i))
      ∙ ap (λ (t : Bool). spot_by_run t (drop (length (front t)) (entry_names es)) (front t)) is_text

  abbrev lacks_end : Bool
  lacks_end = text && not (begins_with_name (codes "ENDMAP") (entry_names rest))

  abbrev spot_if : Bool → MapFormat → Result MapSpot MapFault
  spot_if cut format = if cut then Err fault.NoEnd else spot_in marker text format (entry_names run)

  pub cut_is : lacks_end ≡ true → ◌≡◌ {A = Result MapSpot MapFault} (Err fault.NoEnd) (spot_behind marker (entry_names es))
  cut_is e = sym (ap (λ (b : Bool). spot_if b (format_behind (entry_names rest))) e) ∙ behind_is

  pub whole_is : (format : MapFormat) (spot : Result MapSpot MapFault) → lacks_end ≡ false → format ≡ format_behind (entry_names rest) → spot ≡ spot_in marker text format (entry_names run) → spot ≡ spot_behind marker (entry_names es)
  whole_is format spot e b is = is ∙ ap (λ (f : MapFormat). spot_if false f) b ∙ sym (ap (λ (b : Bool). spot_if b (format_behind (entry_names rest))) e) ∙ behind_is

-- the marker is found
pub found_is : (marker : ℕ) (es after : List Entry) (name : List ℕ) (spot : Result MapSpot MapFault) → last_from (entry_names es) name 0 None ≡ Some marker → after ≡ drop (marker + 1) es → spot ≡ spot_behind marker (entry_names after) → spot ≡ spot_of (entry_names es) name
unfolding spot_of
found_is marker es after name spot last e is = grind (arith, names_drop)
