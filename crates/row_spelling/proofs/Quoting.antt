-- What is said of one element more, and of the last one; texts behind each other.
use Rattle.std.proofs.Common.{◌≡◌, ℕ, ◌+◌, ◌<◌, ◌≤◌, List, ◌++◌, length, get_or, take, append_assoc, sym, ap, ◌∙◌}
use Rattle.std.specs.List.{flat_map}
use Rattle.std.proofs.lemmas.List.{flat_map_more, take_all, take_more}

-- the next element
pub spelled_more : {X : Type 0} (f : X → List ℕ) (xs : List X) (k : ℕ) (d : X) (begun old new : List ℕ) → k < length xs → old ≡ begun ++ flat_map f (take k xs) → new ≡ old ++ f (get_or xs k d) → new ≡ begun ++ flat_map f (take (k + 1) xs)
spelled_more f xs k d begun old new lt before is =
    is ∙ ap (λ (ys : List ℕ). ys ++ f (get_or xs k d)) before ∙ flat_map_more f begun (take k xs) (get_or xs k d) ∙ ap (λ ys. begun ++ flat_map f ys) (sym (take_more xs k d lt))

-- behind the last one
pub spelled_all : {X : Type 0} (f : X → List ℕ) (xs : List X) (k : ℕ) (begun new : List ℕ) → length xs ≤ k → new ≡ begun ++ flat_map f (take k xs) → new ≡ begun ++ flat_map f xs
spelled_all f xs k begun new past is = is ∙ ap (λ ys. begun ++ flat_map f ys) (take_all k xs past)

-- a text behind a text behind a text
pub then_text : (old b c one two : List ℕ) → two ≡ one ++ c → one ≡ old ++ b → two ≡ old ++ (b ++ c)
then_text old b c one two h g = h ∙ ap (λ (ys : List ℕ). ys ++ c) g ∙ append_assoc old b c
