-- Signs of weights.
use Rattle.std.specs.Prelude.{ℤ, pos, ◌+ℤ◌, ◌≤ℤ◌, ◌<ℤ◌}

-- 0 is between the two numbers
pub record HasZeroBetween (least greatest : ℤ) : Type 0 where
  pub low : least ≤ℤ pos 0
  pub high : pos 0 ≤ℤ greatest

-- none is below 0, and one is above
pub record AreWeights (l m n : ℤ) : Type 0 where
  pub first : pos 0 ≤ℤ l
  pub second : pos 0 ≤ℤ m
  pub third : pos 0 ≤ℤ n
  pub some : pos 0 <ℤ (l +ℤ m +ℤ n)

-- none is above 0, and one is below
pub record AreOpposite (l m n : ℤ) : Type 0 where
  pub first : l ≤ℤ pos 0
  pub second : m ≤ℤ pos 0
  pub third : n ≤ℤ pos 0
  pub some : (l +ℤ m +ℤ n) <ℤ pos 0
