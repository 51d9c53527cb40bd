-- How many pairs of numbers are of a kind, and the first of them.
use Rattle.std.specs.Prelude.{◌≡◌, ℕ, ◌<◌, ◌↔◌, Bool, IsTrue, Option, Some, None}
use Rattle.std.specs.List.{count_by, range_with_len, sum_by}
use Rattle.sight_names.specs.declared.names.Pair.{Pair}
use Rattle.sight_names.specs.Order.{PairBefore}

-- how many pairs of the first n numbers pass the test, row by row
abbrev pub pairs_by : (ℕ → ℕ → Bool) → ℕ → ℕ
pairs_by test n = sum_by (λ a. count_by (test a) (range_with_len 0 n)) (range_with_len 0 n)

-- So many pairs of the first n numbers are of this kind: some test tells which are, and so many pass it.
pub record IsCountOf (n : ℕ) (P : ℕ → ℕ → Type 0) (count : ℕ) : Type 0 where
  pub test : ℕ → ℕ → Bool
  pub tells : (a b : ℕ) → a < n → b < n → IsTrue (test a b) ↔ P a b
  pub passed : count ≡ pairs_by test n

-- it is of this kind, and none before it is: by the first number, then by the second
pub record IsFirstSuchPair (n : ℕ) (P : ℕ → ℕ → Type 0) (pair : Pair) : Type 0 where
  pub row : pair.a < n
  pub column : pair.b < n
  pub is : P pair.a pair.b
  pub before : (a b : ℕ) → a < n → b < n → PairBefore (record { a = a; b = b }) pair → ¬ P a b

-- the first pair of this kind, or none exactly where there is none
abbrev pub IsFirstOf : ℕ → (ℕ → ℕ → Type 0) → Option Pair → Type 0
IsFirstOf n P (Some pair) = IsFirstSuchPair n P pair
IsFirstOf n P None = (a b : ℕ) → a < n → b < n → ¬ P a b
