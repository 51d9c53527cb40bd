-- One more in the list of what maps of a WAD hold, and its line.
use Rattle.std.proofs.Common.{◌≡◌, ℕ, ◌+◌, ◌<◌, List, [], ◌∷◌, ◌++◌, length, get_or, take, map, sym, ap, ◌∙◌}
use Rattle.std.specs.List.{flat_map}
use Rattle.std.proofs.lemmas.List.{flat_map_more, take_more}
use Rattle.math_base.proofs.Lists.{map_pushed}

module _ {X Y : Type 0} (f : X → Y) (xs : List X) (k : ℕ) (d : X) (lt : k < length xs) where
  next_of : map f (take k xs) ++ f (get_or xs k d) ∷ [] ≡ map f (take (k + 1) xs)
  next_of = sym (map_pushed f (take k xs) (get_or xs k d)) ∙ ap (map f) (sym (take_more xs k d lt))

  -- the next entry
  pub entries_more : (old new : List Y) (y : Y) → old ≡ map f (take k xs) → y ≡ f (get_or xs k d) → new ≡ old ++ y ∷ [] → new ≡ map f (take (k + 1) xs)
  entries_more old new y before is pushed =
      pushed ∙ ap (λ (ys : List Y). ys ++ y ∷ []) before ∙ ap (λ (z : Y). map f (take k xs) ++ z ∷ []) is ∙ next_of

  -- the next line
  pub lines_more : (line : Y → List ℕ) (old said new : List ℕ) (y : Y) → old ≡ flat_map line (map f (take k xs)) → y ≡ f (get_or xs k d) → said ≡ line y → new ≡ old ++ said → new ≡ flat_map line (map f (take (k + 1) xs))
  lines_more line old said new y before is told pushed =
      pushed ∙ ap (λ (ys : List ℕ). ys ++ said) before ∙ ap (λ (ys : List ℕ). flat_map line (map f (take k xs)) ++ ys) (told ∙ ap line is) ∙ flat_map_more line [] (map f (take k xs)) (f (get_or xs k d)) ∙ ap (flat_map line) next_of
