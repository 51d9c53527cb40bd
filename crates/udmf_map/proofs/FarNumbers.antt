-- Numbers of digits with a power of ten: when they are beyond the grid, and when zeros at their end go.
use Rattle.std.proofs.Common.{◌≡◌, ◌≤◌, ◌<◌, ℕ, zero, suc, ◌-◌, ◌*◌, ◌/◌, ◌%◌, ◌^◌, eqb, cond, Bool, true, false, ℤ, pos, negsuc, nat_abs, ◌<ℤ◌, ◌≤ℤ◌, refl, sym, ap, ◌∙◌, arith}
use Rattle.std.proofs.Math.Nat.{one-le-pow, pow-le-pow_right, mul-le-mul_left, mul-le-mul_right}
use Rattle.std.proofs.lemmas.Int.{ints}
use Rattle.sight_names.specs.declared.limits.TheConstants.{FARTHEST}
use Rattle.udmf_map.specs.declared.values.Coordinate.TheVariants.{OffGrid, At}
use Rattle.udmf_map.specs.Values.{signed, lowered, scaled_coordinate}

pub too_far : (negative : Bool) (n places : ℕ) → FARTHEST < n → signed negative n places ≡ OffGrid
too_far negative n places far = grind (arith, far)

pub far_mantissa : (m k : ℕ) → FARTHEST < m → FARTHEST < m * 10 ^ k
far_mantissa m k far =
    let one = one-le-pow k 10 (omega arith) in
    let most : m * 1 ≤ m * 10 ^ k = mul-le-mul_left m one in
    omega (arith, most, far)

pub far_power : (m k : ℕ) → 1 ≤ m → 7 < k → FARTHEST < m * 10 ^ k
far_power m k some far =
    let some_base : 0 < 10 = omega arith in
    let eight : 10 ^ 8 ≤ 10 ^ k = pow-le-pow_right {n = 10} some_base {i = 8} {j = k} (omega (arith, far)) in
    let most : 1 * 10 ^ k ≤ m * 10 ^ k = mul-le-mul_right (10 ^ k) some in
    omega (arith, most, eight)

-- ---- zeros at the end of decimal places

-- one goes
pub one_goes : (negative : Bool) (m k : ℕ) → 0 < k → m % 10 ≡ 0 → lowered negative (m / 10) (k - 1) ≡ lowered negative m k
one_goes negative m zero some e = absurd (omega (arith, some))
one_goes negative m (suc k) some e =
    let one : suc k - 1 ≡ k = omega arith in
    ap (lowered negative (m / 10)) one ∙ sym (ap (λ b. cond b (lowered negative (m / 10) k) (signed negative m (suc k))) (ap (λ n. eqb n 0) e))

-- ---- a number times a power of ten

none_lowered : (negative : Bool) (k : ℕ) → lowered negative 0 k ≡ At (pos 0) 0
none_lowered true zero = refl
none_lowered false zero = refl
none_lowered negative (suc k) = none_lowered negative k

none_signed : (negative : Bool) → signed negative 0 0 ≡ At (pos 0) 0
none_signed true = refl
none_signed false = refl

pub zero_scaled : (negative : Bool) (m : ℕ) (scale : ℤ) → m ≡ 0 → At (pos 0) 0 ≡ scaled_coordinate negative m scale
zero_scaled negative m scale e = sym (ap (λ n. scaled_coordinate negative n scale) e ∙ by_scale scale)
  where
    by_scale : (z : ℤ) → scaled_coordinate negative 0 z ≡ At (pos 0) 0
    by_scale (pos k) =
        let none : 0 * 10 ^ k ≡ 0 = omega arith in
        ap (λ n. signed negative n 0) none ∙ none_signed negative
    by_scale (negsuc k) = none_lowered negative (suc k)

pub lowered_scaled : (negative : Bool) (m : ℕ) (scale : ℤ) → scale <ℤ pos 0 → lowered negative m (nat_abs scale) ≡ scaled_coordinate negative m scale
lowered_scaled negative m (pos k) below = absurd (omega (arith, ints, below))
lowered_scaled negative m (negsuc k) below = refl

pub raised_scaled : (negative : Bool) (m : ℕ) (scale : ℤ) → pos 0 ≤ℤ scale → signed negative (m * 10 ^ nat_abs scale) 0 ≡ scaled_coordinate negative m scale
raised_scaled negative m (pos k) above = refl
raised_scaled negative m (negsuc k) above = absurd (omega (arith, ints, above))
