-- One more in a list of what comes of things with names: its name, what holds of it, and its line.
use Rattle.std.proofs.Common.{◌≡◌, ℕ, ◌+◌, ◌<◌, List, [], ◌∷◌, ◌++◌, length, get_or, take, map, sym, ap, subst, ◌∙◌}
use Rattle.std.specs.List.{AllByRecursion, flat_map}
use Rattle.std.proofs.lemmas.List.{flat_map_more, take_more}
use Rattle.math_base.proofs.Lists.{all_join, map_pushed}

-- the next name
pub name_more : {X : Type 0} (name : X → List ℕ) (names : List (List ℕ)) (k : ℕ) (d : List ℕ) (xs more : List X) (x : X) → k < length names → map name xs ≡ take k names → name x ≡ get_or names k d
    → more ≡ xs ++ x ∷ [] → map name more ≡ take (k + 1) names
name_more {X} name names k d xs more x lt e is pushed =
    ap (λ (ys : List X). map name ys) pushed
    ∙ map_pushed name xs x
    ∙ ap (λ (ns : List (List ℕ)). ns ++ name x ∷ []) e
    ∙ ap (λ (n : List ℕ). take k names ++ n ∷ []) is
    ∙ sym (take_more names k d lt)

pub comes_more : {X : Type 0} (P : X → Type 0) (xs more : List X) (x : X) → AllByRecursion P xs → P x → more ≡ xs ++ x ∷ [] → AllByRecursion P more
comes_more P xs more x all h pushed = subst (AllByRecursion P) (sym pushed) (all_join P xs (x ∷ []) all (h, tt))

-- the next line
pub report_more : {X : Type 0} (line : X → List ℕ) (xs more : List X) (x : X) (old said new : List ℕ) → old ≡ flat_map line xs → said ≡ line x → new ≡ old ++ said → more ≡ xs ++ x ∷ [] → new ≡ flat_map line more
report_more line xs more x old said new before is pushed e =
    pushed ∙ ap (λ (ys : List ℕ). ys ++ said) before ∙ ap (λ (ys : List ℕ). flat_map line xs ++ ys) is ∙ flat_map_more line [] xs x ∙ ap (flat_map line) (sym e)
