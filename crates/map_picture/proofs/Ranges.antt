-- Texts of the numbers of a range, one after the other.
use Rattle.std.proofs.Common.{◌≡◌, ◌∙◌, ℕ, suc, ◌+◌, ◌-◌, ◌<◌, ◌≤◌, List, ◌++◌, ap, sym, arith}
use Rattle.std.specs.List.{flat_map, range_with_len}
use Rattle.std.proofs.lemmas.List.{append-nil}

pub one_more : (f : ℕ → List ℕ) (k n : ℕ) → k < n → flat_map f (range_with_len k (n - k)) ≡ f k ++ flat_map f (range_with_len (k + 1) (n - (k + 1)))
one_more f k n lt = let e : n - k ≡ suc (n - (k + 1)) = omega arith in ap (λ (d : ℕ). flat_map f (range_with_len k d)) e

-- when none is left, all are there
pub all_there : (f : ℕ → List ℕ) (k n : ℕ) (old out : List ℕ) → n ≤ k → out ++ flat_map f (range_with_len k (n - k)) ≡ old ++ flat_map f (range_with_len 0 (n - 0)) → out ≡ old ++ flat_map f (range_with_len 0 n)
all_there f k n old out past left =
    let none : 0 ≡ n - k = omega arith in
    let whole : n - 0 ≡ n = omega arith in
    sym (append-nil out) ∙ ap (λ (d : ℕ). out ++ flat_map f (range_with_len k d)) none ∙ left ∙ ap (λ (d : ℕ). old ++ flat_map f (range_with_len 0 d)) whole
