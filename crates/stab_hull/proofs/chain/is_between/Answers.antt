use Rattle.std.proofs.Common.{arith, ℤ, pos, ◌≡◌, ◌≤◌, ◌^◌, ◌≤ℤ◌, ◌+ℤ◌, ◌-ℤ◌, ◌*ℤ◌, unsigned_abs, int_le, IsTrue, FitsSigned, w64, to_z, of_z, to_z-of_z, ℕ, sym, ap, ap₂, ◌∙◌, subst}
use Rattle.std.proofs.lemmas.Int.{ints}
use mir.Syntax.{w32}
use Rattle.stab_hull.proofs.Chains.{between_by}
use Rattle.stab_hull.proofs.chain.is_between.Goals as goal

-- what the numbers say that were passed
fits_near : (x : ℤ) → unsigned_abs x ≤ 2 ^ 25 → FitsSigned w32 x
fits_near x h = omega (arith, ints)

passed_near : (x : ℤ) → unsigned_abs x ≤ 2 ^ 25 → unsigned_abs (to_z w32 (of_z w32 x)) ≤ 2 ^ 25
passed_near x h = subst (λ (z : ℤ). unsigned_abs z ≤ 2 ^ 25) (sym (to_z-of_z (fits_near x h))) h

fits_way : (x : ℤ) → unsigned_abs x ≤ 2 ^ 26 → FitsSigned w64 x
fits_way x h = omega (arith, ints)

passed_way : (x : ℤ) → unsigned_abs x ≤ 2 ^ 26 → unsigned_abs (to_z w64 (of_z w64 x)) ≤ 2 ^ 26
passed_way x h = subst (λ (z : ℤ). unsigned_abs z ≤ 2 ^ 26) (sym (to_z-of_z (fits_way x h))) h

passed_difference : (r a b : ℤ) → unsigned_abs a ≤ 2 ^ 25 → unsigned_abs b ≤ 2 ^ 25 → r ≡ to_z w32 (of_z w32 b) -ℤ to_z w32 (of_z w32 a) → r ≡ b -ℤ a
passed_difference r a b f g e = e ∙ ap₂ (λ (v w : ℤ). v -ℤ w) (to_z-of_z (fits_near b g)) (to_z-of_z (fits_near a f))

passed_product : (r x y : ℤ) → unsigned_abs x ≤ 2 ^ 26 → unsigned_abs y ≤ 2 ^ 26 → r ≡ to_z w64 (of_z w64 x) *ℤ to_z w64 (of_z w64 y) → r ≡ x *ℤ y
passed_product r x y f g e = e ∙ ap₂ (λ (v w : ℤ). v *ℤ w) (to_z-of_z (fits_way x f)) (to_z-of_z (fits_way y g))

same_product : (u v : ℤ) → unsigned_abs u ≤ 2 ^ 52 → unsigned_abs v ≤ 2 ^ 52 → of_z w64 u ≡ of_z w64 v → u ≡ v
same_product u v a b e =
    let fits : FitsSigned w64 u = omega (arith, ints) in
    let fit : FitsSigned w64 v = omega (arith, ints) in
    sym (to_z-of_z fits) ∙ ap (λ (n : ℕ). to_z w64 n) e ∙ to_z-of_z fit

nonneg : (z : ℤ) → IsTrue (int_le (pos 0) z) → pos 0 ≤ℤ z
nonneg z h = grind (arith, ints)

sum_nonneg : (u v : ℤ) → unsigned_abs u ≤ 2 ^ 52 → unsigned_abs v ≤ 2 ^ 52 → IsTrue (int_le (pos 0) (to_z w64 (of_z w64 (to_z w64 (of_z w64 u) +ℤ to_z w64 (of_z w64 v))))) → pos 0 ≤ℤ (u +ℤ v)
sum_nonneg u v a b h =
    let fits : FitsSigned w64 u = omega (arith, ints) in
    let fit : FitsSigned w64 v = omega (arith, ints) in
    let sum : FitsSigned w64 (u +ℤ v) = omega (arith, ints) in
    let same : to_z w64 (of_z w64 u) +ℤ to_z w64 (of_z w64 v) ≡ u +ℤ v = ap₂ (λ (x y : ℤ). x +ℤ y) (to_z-of_z fits) (to_z-of_z fit) in
    nonneg (u +ℤ v) (subst (λ (z : ℤ). IsTrue (int_le (pos 0) z)) (ap (λ (z : ℤ). to_z w64 (of_z w64 z)) same ∙ to_z-of_z sum) h)

pub difference-ax-requires-clause-from : goal.difference-ax-requires-clause-from
difference-ax-requires-clause-from c = passed_near c.args.a.x c.args.a.near_x

pub difference-ax-requires-clause-to : goal.difference-ax-requires-clause-to
difference-ax-requires-clause-to c = passed_near c.args.b.x c.args.b.near_x

pub difference-ay-requires-clause-from : goal.difference-ay-requires-clause-from
difference-ay-requires-clause-from c = passed_near c.args.a.y c.args.a.near_y

pub difference-ay-requires-clause-to : goal.difference-ay-requires-clause-to
difference-ay-requires-clause-to c = passed_near c.args.b.y c.args.b.near_y

pub difference-bx-requires-clause-from : goal.difference-bx-requires-clause-from
difference-bx-requires-clause-from c = passed_near c.args.b.x c.args.b.near_x

pub difference-bx-requires-clause-to : goal.difference-bx-requires-clause-to
difference-bx-requires-clause-to c = passed_near c.args.c.x c.args.c.near_x

pub difference-by-requires-clause-from : goal.difference-by-requires-clause-from
difference-by-requires-clause-from c = passed_near c.args.b.y c.args.b.near_y

pub difference-by-requires-clause-to : goal.difference-by-requires-clause-to
difference-by-requires-clause-to c = passed_near c.args.c.y c.args.c.near_y

pub product-turn-requires-clause-left : goal.product-turn-requires-clause-left
product-turn-requires-clause-left c = passed_way c.difference-ax.result c.difference-ax.ensures.bound

pub product-turn-requires-clause-right : goal.product-turn-requires-clause-right
product-turn-requires-clause-right c = passed_way c.difference-by.result c.difference-by.ensures.bound

pub product-back-requires-clause-left : goal.product-back-requires-clause-left
product-back-requires-clause-left c = passed_way c.difference-ay.result c.difference-ay.ensures.bound

pub product-back-requires-clause-right : goal.product-back-requires-clause-right
product-back-requires-clause-right c = passed_way c.difference-bx.result c.difference-bx.ensures.bound

pub product-along-requires-clause-left : goal.product-along-requires-clause-left
product-along-requires-clause-left c = passed_way c.difference-ax.result c.difference-ax.ensures.bound

pub product-along-requires-clause-right : goal.product-along-requires-clause-right
product-along-requires-clause-right c = passed_way c.difference-bx.result c.difference-bx.ensures.bound

pub product-rise-requires-clause-left : goal.product-rise-requires-clause-left
product-rise-requires-clause-left c = passed_way c.difference-ay.result c.difference-ay.ensures.bound

pub product-rise-requires-clause-right : goal.product-rise-requires-clause-right
product-rise-requires-clause-right c = passed_way c.difference-by.result c.difference-by.ensures.bound

pub overflow_add-result : goal.overflow_add-result
overflow_add-result c = omega (arith, ints)

pub returns : goal.returns
returns c h =
    let ax = passed_difference c.difference-ax.result c.args.a.x c.args.b.x c.args.a.near_x c.args.b.near_x c.difference-ax.ensures.value in
    let ay = passed_difference c.difference-ay.result c.args.a.y c.args.b.y c.args.a.near_y c.args.b.near_y c.difference-ay.ensures.value in
    let bx = passed_difference c.difference-bx.result c.args.b.x c.args.c.x c.args.b.near_x c.args.c.near_x c.difference-bx.ensures.value in
    let by = passed_difference c.difference-by.result c.args.b.y c.args.c.y c.args.b.near_y c.args.c.near_y c.difference-by.ensures.value in
    let both = λ (v w : ℤ). v *ℤ w in
    between_by c.args.a c.args.b c.args.c c.product-turn.result c.product-back.result c.product-along.result c.product-rise.result
    (passed_product _ c.difference-ax.result c.difference-by.result c.difference-ax.ensures.bound c.difference-by.ensures.bound c.product-turn.ensures.value ∙ ap₂ both ax by)
    (passed_product _ c.difference-ay.result c.difference-bx.result c.difference-ay.ensures.bound c.difference-bx.ensures.bound c.product-back.ensures.value ∙ ap₂ both ay bx)
    (passed_product _ c.difference-ax.result c.difference-bx.result c.difference-ax.ensures.bound c.difference-bx.ensures.bound c.product-along.ensures.value ∙ ap₂ both ax bx)
    (passed_product _ c.difference-ay.result c.difference-by.result c.difference-ay.ensures.bound c.difference-by.ensures.bound c.product-rise.ensures.value ∙ ap₂ both ay by)
    (same_product c.product-turn.result c.product-back.result c.product-turn.ensures.bound c.product-back.ensures.bound c.if-turn-back.false)
    (sum_nonneg c.product-along.result c.product-rise.result c.product-along.ensures.bound c.product-rise.ensures.bound h)
