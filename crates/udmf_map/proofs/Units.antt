-- A number of units in a finer unit fits 64 bits.
use Rattle.std.proofs.Common.{◌≡◌, ◌≤◌, ℕ, ◌^◌, arith, ℤ, pos, unsigned_abs, ◌*ℤ◌, w32, w64, FitsSigned, lit<}
use Rattle.std.proofs.lemmas.Int.{fits_signed_mul, ints}
use Rattle.std.proofs.Math.Nat.{pow-le-pow_right}

pub wide_fits : (n : ℤ) → FitsSigned w32 n → FitsSigned w64 n
wide_fits n small = omega (arith, ints, small)

pub finer_fits : (n p : ℤ) (k : ℕ) → FitsSigned w32 n → p ≡ pos (10 ^ k) → k ≤ 7 → FitsSigned w64 (n *ℤ p)
finer_fits n p k small is few =
    let power : 10 ^ k ≤ 10 ^ 7 = pow-le-pow_right {n = 10} (omega arith) {i = k} {j = 7} few in
    let abs : unsigned_abs n ≤ 2 ^ 31 = omega (arith, ints, small) in
    rw is (fits_signed_mul w64 n (pos (10 ^ k)) (2 ^ 31) (10 ^ 7) abs power (lit< tt))
