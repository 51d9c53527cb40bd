-- That coordinates are exact.
use Rattle.std.proofs.Common.{◌≡◌, ◌≢◌, ℕ, zero, suc, ◌*◌, ◌/◌, ◌%◌, ◌^◌, leb, eqb, ◌&&◌, Bool, true, false, cond, ◌⊎◌, inl, inr, refl, sym, ap, ◌∙◌, arith, ℤ, pos, negsuc, neg_ℤ, nat_abs}
use Rattle.std.proofs.lemmas.Bool.{eqb-true, eqb-false}
use Rattle.std.proofs.Math.Nat.{pow-succ', div-add-mod}
use Rattle.sight_names.specs.declared.limits.TheConstants.{FARTHEST}
use Rattle.udmf_map.specs.declared.values.Coordinate.{Coordinate}
use Rattle.udmf_map.specs.declared.values.Coordinate.TheVariants.{OffGrid, At}
use Rattle.udmf_map.specs.Values.{signed, lowered, scaled_coordinate}
use Rattle.udmf_map.specs.Exact.{IsValueExact, CoordinatesAreExact}

abs_side : (negative : Bool) (n : ℕ) → nat_abs (cond negative (neg_ℤ (pos n)) (pos n)) ≡ n
abs_side true zero = refl
abs_side true (suc n) = refl
abs_side false n = refl

-- what a coordinate of so many units tells of them
record IsSigned (negative : Bool) (n places : ℕ) (units : ℤ) (own : ℕ) : Type 0 where
  abs : nat_abs units ≡ n
  side : units ≡ cond negative (neg_ℤ (pos (nat_abs units))) (pos (nat_abs units))
  same : own ≡ places

signed_is : (negative : Bool) (n places : ℕ) (units : ℤ) (own : ℕ) → signed negative n places ≡ At units own → IsSigned negative n places units own
signed_is negative n places units own e = by_bound (leb n FARTHEST && leb places 7) e
  where
    z : ℤ
    z = cond negative (neg_ℤ (pos n)) (pos n)

    by_bound : (b : Bool) → ◌≡◌ {A = Coordinate} (cond b (At z places) OffGrid) (At units own) → IsSigned negative n places units own
    by_bound true e =
        let units_is : units ≡ z = cc in
        let own_is : own ≡ places = cc in
        let abs : nat_abs units ≡ n = ap nat_abs units_is ∙ abs_side negative n in
        record { abs = abs; side = units_is ∙ ap (λ k. cond negative (neg_ℤ (pos k)) (pos k)) (sym abs); same = own_is }
    by_bound false e = absurd cc

-- ten times as much on both sides
tenfold : (u p p10 d q m : ℕ) → p10 ≡ 10 * p → u * p ≡ d * q → 10 * d ≡ m → u * p10 ≡ m * q
tenfold u p p10 d q m e f g =
    let a : u * (10 * p) ≡ 10 * (u * p) = grind arith in
    let b : 10 * (d * q) ≡ 10 * d * q = grind arith in
    ap (λ x. u * x) e ∙ a ∙ ap (λ x. 10 * x) f ∙ b ∙ ap (λ x. x * q) g

record IsLowered (negative : Bool) (m k : ℕ) (units : ℤ) (places : ℕ) : Type 0 where
  value : nat_abs units * 10 ^ k ≡ m * 10 ^ places
  side : units ≡ cond negative (neg_ℤ (pos (nat_abs units))) (pos (nat_abs units))
  last : (places ≡ 0) ⊎ (nat_abs units % 10 ≢ 0)

lowered_is : (negative : Bool) (m k : ℕ) (units : ℤ) (places : ℕ) → lowered negative m k ≡ At units places → IsLowered negative m k units places
lowered_is negative m zero units places e =
    let s = signed_is negative m 0 units places e in
    record { value = λ i. s.abs i * 10 ^ sym s.same i; side = s.side; last = inl s.same }
lowered_is negative m (suc k) units places e = by_last (eqb (m % 10) 0) (λ less. lowered_is negative (m / 10) k units places less) refl e
  where
    by_last : (b : Bool) → (lowered negative (m / 10) k ≡ At units places → IsLowered negative (m / 10) k units places) → eqb (m % 10) 0 ≡ b → ◌≡◌ {A = Coordinate} (cond b (lowered negative (m / 10) k) (signed negative m (suc k))) (At units places) → IsLowered negative m (suc k) units places
    by_last true less z e =
        let r = less e in
        let none = eqb-true (m % 10) 0 z in
        let whole : 10 * (m / 10) ≡ m = let parts = div-add-mod m 10 in omega (arith, parts, none) in
        record { value = tenfold (nat_abs units) (10 ^ k) (10 ^ suc k) (m / 10) (10 ^ places) m (pow-succ' 10 k) r.value whole; side = r.side; last = r.last }
    by_last false less z e =
        let s = signed_is negative m (suc k) units places e in
        record { value = λ i. s.abs i * 10 ^ sym s.same i; side = s.side; last = inr (λ none. eqb-false (m % 10) 0 z (ap (λ n. n % 10) (sym s.abs) ∙ none)) }

scaled_is : (negative : Bool) (m : ℕ) (scale units : ℤ) (places : ℕ) → scaled_coordinate negative m scale ≡ At units places → IsValueExact negative m scale units places
scaled_is negative m (pos k) units places e =
    let s = signed_is negative (m * 10 ^ k) 0 units places e in
    let one : nat_abs units * 1 ≡ nat_abs units = grind arith in
    let last : m * 10 ^ k * 10 ^ 0 ≡ m * 10 ^ k = grind arith in
    record { value = one ∙ s.abs ∙ sym last ∙ ap (λ n. m * 10 ^ k * 10 ^ n) (sym s.same); side = s.side; last = inl s.same }
scaled_is negative m (negsuc k) units places e =
    let r = lowered_is negative m (suc k) units places e in
    let one : m * 10 ^ places ≡ m * 1 * 10 ^ places = grind arith in
    record { value = r.value ∙ one; side = r.side; last = r.last }

pub coordinates_are_exact : CoordinatesAreExact
coordinates_are_exact d units places e = scaled_is d.negative d.mantissa d.scale units places e
