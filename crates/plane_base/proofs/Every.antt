-- What holds of each member of a list.
use Rattle.std.proofs.Common.{List, [], ◌∷◌, inl, inr, subst}
use Rattle.std.specs.List.{AllByRecursion}
use Rattle.plane_base.proofs.Search.{In}

pub all_weaker : {A : Type 0} (P Q : A → Type 0) → ((x : A) → P x → Q x) → (xs : List A) → AllByRecursion P xs → AllByRecursion Q xs
all_weaker P Q f [] h = tt
all_weaker P Q f (x ∷ xs) h = (f x h.0, all_weaker P Q f xs h.1)

pub all_in : {A : Type 0} (P : A → Type 0) (xs : List A) → AllByRecursion P xs → (x : A) → In x xs → P x
all_in P [] h x i = absurd i
all_in P (y ∷ ys) h x i = elim i as (λ _. P x) [ inl e ↦ subst P e h.0 | inr j ↦ all_in P ys h.1 x j ]
