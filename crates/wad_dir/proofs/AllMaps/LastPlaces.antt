-- The places of the last entries of names, one entry more.
use Rattle.std.proofs.Common.{◌≡◌, ℕ, ◌+◌, ◌<◌, List, [], ◌∷◌, ◌++◌, length, get_or, take, cond, if◌then◌else◌, Option, Some, None, is_eq, nat_cmp, sym, ap, ◌∙◌, arith}
use Rattle.std.specs.Cmp.Lexicographic.{slice_cmp}
use Rattle.std.proofs.lemmas.List.{take_more}
use Rattle.wad_dir.specs.declared.parts.Entry.{Entry}
use Rattle.wad_dir.specs.Map.{entry_names, last_from, same_name}
use Rattle.wad_dir.specs.AllMaps.Maps.{told}
use Rattle.wad_dir.specs.AllMaps.Places.{AreLast}
use Rattle.wad_dir.proofs.AllMaps.Told.{compares_equal, told_same}
use Rattle.math_base.proofs.Lists.{map_pushed}

last_pushed : (ns : List (List ℕ)) (x name : List ℕ) (j : ℕ) (found : Option ℕ) (m : ℕ) → j + length ns ≡ m → last_from (ns ++ x ∷ []) name j found ≡ (if same_name x name then Some m else last_from ns name j found)
last_pushed [] x name j found m e = let same : j ≡ m = omega (arith, e) in ap (λ (i : ℕ). if same_name x name then Some i else found) same
last_pushed (n ∷ ns) x name j found m e = last_pushed ns x name (j + 1) (if same_name n name then Some j else found) m (omega (arith, e))

-- one more name
pub last_more : (ns : List (List ℕ)) (x key : List ℕ) (old new : List ℕ → Option ℕ) (k : ℕ) → AreLast ns old → length ns ≡ k → key ≡ told x → ((q : List ℕ) → new q ≡ cond (is_eq (slice_cmp nat_cmp key q)) (Some k) (old q)) → AreLast (ns ++ x ∷ []) new
last_more ns x key old new k h len is update = grind (arith, compares_equal, last_pushed, told_same)

-- the names of the first entries, one more
pub names_more : (es : List Entry) (k : ℕ) (d : Entry) → k < length es → entry_names (take (k + 1) es) ≡ entry_names (take k es) ++ (get_or es k d).name ∷ []
names_more es k d lt = ap (λ (xs : List Entry). entry_names xs) (take_more es k d lt) ∙ map_pushed (λ (e : Entry). e.name) (take k es) (get_or es k d)

-- what is looked up is the place of the last
pub looked_up : (ns : List (List ℕ)) (name key : List ℕ) (places : List ℕ → Option ℕ) (o : Option ℕ) → AreLast ns places → key ≡ told name → o ≡ places key → last_from ns name 0 None ≡ o
looked_up ns name key places o h e is = sym (h name) ∙ ap places (sym e) ∙ sym is
