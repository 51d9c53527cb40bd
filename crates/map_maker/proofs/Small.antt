-- Products of small numbers.
use Rattle.std.proofs.Common.{ℕ, ◌*◌, ◌≤◌}
use Rattle.std.proofs.Math.Nat.{mul-le-mul}

pub product_small : (a b : ℕ) → a ≤ 18 → b ≤ 18 → a * b ≤ 324
product_small a b p q = mul-le-mul p q

pub ruleset products = (product_small)
