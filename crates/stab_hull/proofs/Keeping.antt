-- That a list begins with the members of another one: where the two are the same, and where one more follows.
use Rattle.std.proofs.Common.{◌≡◌, List, [], ◌∷◌, ◌++◌, length, refl, sym, arith, subst}
use Rattle.std.proofs.lemmas.List.{take-append-le}
use Rattle.math_base.proofs.Lists.{length_pushed}
use Rattle.stab_hull.specs.Stacks.{KeepsFirst}

pub kept_push : {X : Type 0} (xs : List X) (x : X) → KeepsFirst (length xs) xs (xs ++ x ∷ [])
kept_push xs x = (take-append-le (length xs) xs (x ∷ []) (omega arith), let k = length_pushed xs x in omega (arith, k))

pub kept_same : {X : Type 0} (xs ys : List X) → ys ≡ xs → KeepsFirst (length xs) xs ys
kept_same xs ys e = subst (KeepsFirst (length xs) xs) (sym e) (refl, omega arith)

pub kept_more : {X : Type 0} (xs ys : List X) (x : X) → ys ≡ xs ++ x ∷ [] → KeepsFirst (length xs) xs ys
kept_more xs ys x e = subst (KeepsFirst (length xs) xs) (sym e) (kept_push xs x)
