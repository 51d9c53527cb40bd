-- Truth values.
use Rattle.std.proofs.Common.{◌≡◌, Bool, true, false, not, ◌&&◌, ◌||◌, ◌⊎◌, inl, inr, refl}

pub by_value : {A : Type 0} (b : Bool) → (b ≡ true → A) → (b ≡ false → A) → A
by_value true f g = f refl
by_value false f g = g refl

pub not_both_values : (b : Bool) → b ≡ true → b ≡ false → ⊥
not_both_values b h k = cc

pub not_not : (b : Bool) → not (not b) ≡ b
not_not true = refl
not_not false = refl

pub false_of_not : (b : Bool) → not b ≡ true → b ≡ false
false_of_not true e = cc
false_of_not false e = refl

pub false_where_not_true : (b : Bool) → (b ≡ true → ⊥) → b ≡ false
false_where_not_true true h = absurd (h refl)
false_where_not_true false h = refl

pub both_true : (b c : Bool) → b ≡ true → c ≡ true → (b && c) ≡ true
both_true true c e f = f
both_true false c e f = e

pub first_true : (b c : Bool) → (b && c) ≡ true → b ≡ true
first_true true c e = refl
first_true false c e = e

pub second_true : (b c : Bool) → (b && c) ≡ true → c ≡ true
second_true true c e = e
second_true false c e = absurd cc

pub one_true : (b c : Bool) → (b || c) ≡ true → (b ≡ true) ⊎ (c ≡ true)
one_true true c h = inl refl
one_true false c h = inr h

pub true_by_first : (b c : Bool) → b ≡ true → (b || c) ≡ true
true_by_first true c h = refl
true_by_first false c h = cc

pub true_by_second : (b c : Bool) → c ≡ true → (b || c) ≡ true
true_by_second true c h = refl
true_by_second false c h = h

pub first_false : (b c : Bool) → (b || c) ≡ false → b ≡ false
first_false true c e = absurd cc
first_false false c e = refl

pub second_false : (b c : Bool) → (b || c) ≡ false → c ≡ false
second_false true c e = absurd cc
second_false false c e = e

pub only_middle : (b c d : Bool) → b ≡ false → c ≡ true → d ≡ false → (not b && c && not d) ≡ true
only_middle b c d e f g = cc

pub first_is_not : (b c d : Bool) → (not b && c && d) ≡ true → b ≡ false
first_is_not true c d e = cc
first_is_not false c d e = refl
