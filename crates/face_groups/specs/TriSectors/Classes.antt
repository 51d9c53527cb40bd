-- Numbers in classes, each class named by its least member.
use Rattle.std.specs.Prelude.{◌≡◌, ℕ, ◌<◌, ◌≤◌, ◌⊎◌, ◌↔◌, ◌==◌, List, length, slice_index_or, if◌then◌else◌}

-- the class of a number
abbrev pub class_of : List ℕ → ℕ → ℕ
class_of cs k = slice_index_or cs k 0

-- each class is named by its least member
pub record AreLeast (cs : List ℕ) : Type 0 where
  pub least : (k : ℕ) → k < length cs → class_of cs k ≤ k
  pub own : (k : ℕ) → k < length cs → class_of cs (class_of cs k) ≡ class_of cs k

-- each number alone
pub record AreSingles (n : ℕ) (cs : List ℕ) : Type 0 where
  pub len : length cs ≡ n
  pub alone : (k : ℕ) → k < n → class_of cs k ≡ k

-- of one class before, or the one of a's class and the other of b's
abbrev pub WillBeOne : List ℕ → ℕ → ℕ → ℕ → ℕ → Type 0
WillBeOne old a b k j = (class_of old k ≡ class_of old j)
    ⊎ ((class_of old k ≡ class_of old a) × (class_of old j ≡ class_of old b))
    ⊎ ((class_of old k ≡ class_of old b) × (class_of old j ≡ class_of old a))

-- the classes of a and b are put together, and the others stay
pub record AreMerged (a b : ℕ) (old new : List ℕ) : Type 0 where
  pub len : length new ≡ length old
  pub named : AreLeast new
  pub exactly : (k j : ℕ) → k < length old → j < length old → (class_of new k ≡ class_of new j) ↔ WillBeOne old a b k j

-- the number y becomes x
abbrev pub renamed : ℕ → ℕ → ℕ → ℕ
renamed from to c = if c == from then to else c

pub record AreRenamed (from to : ℕ) (old new : List ℕ) : Type 0 where
  pub len : length new ≡ length old
  pub each : (k : ℕ) → k < length old → class_of new k ≡ renamed from to (class_of old k)

abbrev pub IsBelow : ℕ → ℕ → Type 0
IsBelow n k = k < n
