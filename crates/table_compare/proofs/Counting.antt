-- Counts over runs of numbers: two alike, one in two parts, rows of one length, and the digits of a number.
use Rattle.std.proofs.Common.{◌≡◌, ℕ, zero, suc, ◌+◌, ◌*◌, ◌/◌, ◌%◌, ◌^◌, ◌<◌, ◌==◌, Bool, false, cond, ◌∙◌, ap, refl, sym, subst, arith, pow-suc}
use Rattle.std.specs.Int.{bit_at}
use Rattle.std.specs.Int.RustNames.{count_ones}
use Rattle.std.specs.List.{count_by, range_with_len, sum_by}
use Rattle.std.proofs.lemmas.List.Sums.{sum_by-cons}
use Rattle.std.proofs.lemmas.Nat.Bits.{bit_at-suc, bit_at_lowest}
use Rattle.std.proofs.lemmas.Nat.{ones_le_self}
use lib.Count.{ones_step}

count_next : (p : ℕ → Bool) (a n : ℕ) → count_by p (range_with_len a (suc n)) ≡ cond (p a) 1 0 + count_by p (range_with_len (a + 1) n)
count_next p a n = sum_by-cons (λ x. cond (p x) 1 0) a (range_with_len (a + 1) n)

-- two runs on which the tests agree
pub count_alike : (p q : ℕ → Bool) (a b n : ℕ) → ((j : ℕ) → j < n → p (a + j) ≡ q (b + j)) → count_by p (range_with_len a n) ≡ count_by q (range_with_len b n)
count_alike p q a b zero h = refl
count_alike p q a b (suc n) h =
    let here : ◌≡◌ {A = ℕ} (cond (p a) 1 0) (cond (q b) 1 0) = ap (λ (t : Bool). cond t 1 0) (at (p a) (q b) (ap p (plain a)) (h 0 (omega arith)) (ap q (plain b))) in
    let rest : count_by p (range_with_len (a + 1) n) ≡ count_by q (range_with_len (b + 1) n) = count_alike p q (a + 1) (b + 1) n (λ j lt. ap p (moved a j) ∙ h (j + 1) (omega arith) ∙ ap q (sym (moved b j))) in
    omega (arith, count_next p a n, count_next q b n, here, rest)
  where
    plain : (a : ℕ) → a ≡ a + 0
    plain a = omega arith

    moved : (a j : ℕ) → a + 1 + j ≡ a + (j + 1)
    moved a j = omega arith

    at : (s t : Bool) {u v : Bool} → s ≡ u → u ≡ v → t ≡ v → s ≡ t
    at s t e f g = e ∙ f ∙ sym g

-- a run in two parts
pub count_parts : (p : ℕ → Bool) (a m j : ℕ) → count_by p (range_with_len a (m + j)) ≡ count_by p (range_with_len a m) + count_by p (range_with_len (a + m) j)
count_parts p a zero j =
    let e : count_by p (range_with_len a (0 + j)) ≡ count_by p (range_with_len a j) = ap (λ (k : ℕ). count_by p (range_with_len a k)) (none j) in
    let f : count_by p (range_with_len (a + 0) j) ≡ count_by p (range_with_len a j) = ap (λ (k : ℕ). count_by p (range_with_len k j)) (plain a) in
    omega (arith, e, f)
  where
    none : (j : ℕ) → 0 + j ≡ j
    none j = omega arith

    plain : (a : ℕ) → a + 0 ≡ a
    plain a = omega arith
count_parts p a (suc m) j =
    let e : count_by p (range_with_len a (suc m + j)) ≡ count_by p (range_with_len a (suc (m + j))) = ap (λ (k : ℕ). count_by p (range_with_len a k)) (one m j) in
    let f : count_by p (range_with_len (a + suc m) j) ≡ count_by p (range_with_len (a + 1 + m) j) = ap (λ (k : ℕ). count_by p (range_with_len k j)) (moved a m) in
    omega (arith, e, f, count_next p a (m + j), count_next p a m, count_parts p (a + 1) m j)
  where
    one : (m j : ℕ) → suc m + j ≡ suc (m + j)
    one m j = omega arith

    moved : (a m : ℕ) → a + suc m ≡ a + 1 + m
    moved a m = omega arith

-- a run on which nothing passes
pub count_none : (p : ℕ → Bool) (a n : ℕ) → ((j : ℕ) → j < n → p (a + j) ≡ false) → count_by p (range_with_len a n) ≡ 0
count_none p a zero h = refl
count_none p a (suc n) h =
    let here : ◌≡◌ {A = ℕ} (cond (p a) 1 0) 0 = ap (λ (t : Bool). cond t 1 0) (ap p (plain a) ∙ h 0 (omega arith)) in
    omega (arith, count_next p a n, here, count_none p (a + 1) n (λ j lt. ap p (moved a j) ∙ h (j + 1) (omega arith)))
  where
    plain : (a : ℕ) → a ≡ a + 0
    plain a = omega arith

    moved : (a j : ℕ) → a + 1 + j ≡ a + (j + 1)
    moved a j = omega arith

-- ---- rows of one length

pub count_rows : (p : ℕ → Bool) (n r k : ℕ) → sum_by (λ a. count_by (λ b. p (a * n + b)) (range_with_len 0 n)) (range_with_len r k) ≡ count_by p (range_with_len (r * n) (k * n))
count_rows p n r zero = sym (ap (λ (m : ℕ). count_by p (range_with_len (r * n) m)) (no_row n))
  where
    no_row : (n : ℕ) → 0 * n ≡ 0
    no_row n = omega arith
count_rows p n r (suc k) =
    let row : count_by (λ b. p (r * n + b)) (range_with_len 0 n) ≡ count_by p (range_with_len (r * n) n) = count_alike (λ b. p (r * n + b)) p 0 (r * n) n (λ j lt. ap (λ (b : ℕ). p (r * n + b)) (plain j)) in
    let more : count_by p (range_with_len (r * n) (suc k * n)) ≡ count_by p (range_with_len (r * n) (n + k * n)) = ap (λ (m : ℕ). count_by p (range_with_len (r * n) m)) (one k n) in
    let behind : count_by p (range_with_len ((r + 1) * n) (k * n)) ≡ count_by p (range_with_len (r * n + n) (k * n)) = ap (λ (m : ℕ). count_by p (range_with_len m (k * n))) (next r n) in
    omega (arith, row, more, behind, sum_by-cons (λ a. count_by (λ b. p (a * n + b)) (range_with_len 0 n)) r (range_with_len (r + 1) k), count_rows p n (r + 1) k, count_parts p (r * n) n (k * n))
  where
    plain : (j : ℕ) → 0 + j ≡ j
    plain j = omega arith

    one : (k n : ℕ) → suc k * n ≡ n + k * n
    one k n = omega arith

    next : (r n : ℕ) → (r + 1) * n ≡ r * n + n
    next r n = omega arith

-- ---- the digits of a number

pub ones_are : (k v : ℕ) → v < 2 ^ k → count_ones v ≡ count_by (λ i. bit_at v i == 1) (range_with_len 0 k)
ones_are zero v h = omega (arith, ones_le_self v)
ones_are (suc k) v h =
    let here : v % 2 ≡ cond (bit_at v 0 == 1) 1 0 = last (v % 2) (omega arith) ∙ sym (ap (λ (b : ℕ). cond (b == 1) 1 0) (bit_at_lowest v)) in
    let rest : count_by (λ i. bit_at v i == 1) (range_with_len 1 k) ≡ count_by (λ i. bit_at (v / 2) i == 1) (range_with_len 0 k) = count_alike (λ i. bit_at v i == 1) (λ i. bit_at (v / 2) i == 1) 1 0 k (λ j lt. ap (λ (b : ℕ). b == 1) (up j)) in
    omega (arith, here, rest, ones_step v, count_next (λ i. bit_at v i == 1) 0 k, ones_are k (v / 2) (half v (2 ^ k) (subst (λ (w : ℕ). v < w) (pow-suc 2 k) h)))
  where
    last : (b : ℕ) → b < 2 → b ≡ cond (b == 1) 1 0
    last zero h = refl
    last (suc zero) h = refl
    last (suc (suc b)) h = absurd (omega arith)

    half : (v w : ℕ) → v < w * 2 → v / 2 < w
    half v w h = omega arith

    up : (j : ℕ) → bit_at v (1 + j) ≡ bit_at (v / 2) (0 + j)
    up j = ap (bit_at v) (is_suc j) ∙ bit_at-suc v j ∙ ap (bit_at (v / 2)) (plain j)
      where
        is_suc : (j : ℕ) → 1 + j ≡ suc j
        is_suc j = omega arith

        plain : (j : ℕ) → j ≡ 0 + j
        plain j = omega arith
