-- The bits of words: what both of two rows have, and whether a row has a bit.
use Rattle.std.proofs.Common.{◌≡◌, ◌≢◌, ℕ, zero, suc, ◌+◌, ◌*◌, ◌/◌, ◌%◌, ◌^◌, ◌<◌, ◌≤◌, ◌-◌, min, inl, inr, List, [], ◌∷◌, drop, Bool, true, false, not, ◌==◌, ◌||◌, length, slice_index, bit_and, refl, sym, ◌∙◌, ap, arith}
use Rattle.std.specs.Int.{bit_at}
use Rattle.std.proofs.lemmas.Nat.Bits.{bit_at-lt, bit_at_lowest, bit_at-suc, bit_at_and, bit_at_ones}
use Rattle.std.proofs.lemmas.Nat.{and_le_l, and_le_r, and_mask, mod-pow-add}
use Rattle.std.proofs.lemmas.List.{get_or-take, get_or-drop}
use Rattle.math_base.proofs.Numbers.{same_or_not, tells_same, tells_other}
use Rattle.math_base.proofs.Bools.{one_true, true_by_first, true_by_second, not_both_values}
use Rattle.gate_floods.specs.RowJudge.Words.{both_words, has_bit_in_words, row_in_words}

-- ---- one word

none_in : (w : ℕ) → w % 2 ^ 64 ≡ 0 → not (w % 2 ^ 64 == 0) ≡ false
none_in w e = ap (λ (b : Bool). not b) (tells_same (w % 2 ^ 64) 0 e)

some_in : (w : ℕ) → w % 2 ^ 64 ≢ 0 → not (w % 2 ^ 64 == 0) ≡ true
some_in w n = ap (λ (b : Bool). not b) (tells_other (w % 2 ^ 64) 0 n)

some_bit : (n w : ℕ) → w % 2 ^ n ≢ 0 → (i : ℕ) × (i < n) × (bit_at w i ≡ 1)
some_bit zero w h = absurd (h (omega arith))
some_bit (suc n) w h = elim (same_or_not (w % 2) 1) as (λ _. (i : ℕ) × (i < suc n) × (bit_at w i ≡ 1)) [
  | inl e ↦ (0, omega arith, bit_at_lowest w ∙ e)
  | inr other ↦ (let r = some_bit n (w / 2) (λ none. h (halves none other)) in (suc r.0, (let l : r.0 < n = r.1 in omega (arith, l)), bit_at-suc w r.0 ∙ r.2))
]
  where
    halves : w / 2 % 2 ^ n ≡ 0 → w % 2 ≢ 1 → w % 2 ^ suc n ≡ 0
    halves none other =
        let parts : w % 2 ^ (n + 1) ≡ (w / 2 ^ 1 % 2 ^ n) * 2 ^ 1 + w % 2 ^ 1 = mod-pow-add w n 1 in
        let even : w % 2 ≡ 0 = omega (arith, other) in
        ap (λ (k : ℕ). w % 2 ^ k) (omega arith) ∙ parts ∙ (λ i. none i * 2 + even i)

no_bit : (w i : ℕ) → w % 2 ^ 64 ≡ 0 → i < 64 → bit_at w i ≡ 0
no_bit w i e l =
    let a : bit_at (bit_and w (2 ^ 64 - 1)) i ≡ min (bit_at w i) (bit_at (2 ^ 64 - 1) i) = bit_at_and w (2 ^ 64 - 1) i in
    let o : bit_at (2 ^ 64 - 1) i ≡ 1 = bit_at_ones 64 i l in
    let z : bit_at (bit_and w (2 ^ 64 - 1)) i ≡ 0 = ap (λ (n : ℕ). bit_at n i) (and_mask w 64 ∙ e) ∙ empty i in
    let s : bit_at w i < 2 = bit_at-lt w i in
    small (bit_at w i) (bit_at (2 ^ 64 - 1) i) (sym a ∙ z) o s
  where
    empty : (i : ℕ) → bit_at 0 i ≡ 0
    empty i = bit_at-zero_here i
      where
        bit_at-zero_here : (i : ℕ) → bit_at 0 i ≡ 0
        bit_at-zero_here zero = bit_at_lowest 0
        bit_at-zero_here (suc i) = bit_at-suc 0 i ∙ bit_at-zero_here i

    small : (x y : ℕ) → min x y ≡ 0 → y ≡ 1 → x < 2 → x ≡ 0
    small x y e f l = omega (arith, e, f, l)

-- ---- a bit of a row

pub found_bit : (ws : List ℕ) → has_bit_in_words ws ≡ true → (c : ℕ) × (bit_at (slice_index ws (c / 64)) (c % 64) ≡ 1)
found_bit ws h = let r = found ws h in (r.0 * 64 + r.1, number ws r.0 r.1 r.2 r.3)
  where
    number : (ws : List ℕ) (k i : ℕ) → i < 64 → bit_at (slice_index ws k) i ≡ 1 → bit_at (slice_index ws ((k * 64 + i) / 64)) ((k * 64 + i) % 64) ≡ 1
    number ws k i l e =
        let q : (k * 64 + i) / 64 ≡ k = omega (arith, l) in
        let r : (k * 64 + i) % 64 ≡ i = omega (arith, l) in
        (λ j. bit_at (slice_index ws (q j)) (r j)) ∙ e

    found : (ws : List ℕ) → has_bit_in_words ws ≡ true → (k : ℕ) × (i : ℕ) × (i < 64) × (bit_at (slice_index ws k) i ≡ 1)
    found [] h = absurd (not_both_values false h refl)
    found (w ∷ ws) h = elim (one_true (not (w % 2 ^ 64 == 0)) (has_bit_in_words ws) h) as (λ _. (k : ℕ) × (i : ℕ) × (i < 64) × (bit_at (slice_index (w ∷ ws) k) i ≡ 1)) [
      | inl e ↦ (let r = some_bit 64 w (λ n. not_both_values (not (w % 2 ^ 64 == 0)) e (none_in w n)) in (0, r.0, r.1, r.2))
      | inr e ↦ (let r = found ws e in (suc r.0, r.1, r.2, r.3))
    ]

pub bit_found : (ws : List ℕ) (c : ℕ) → bit_at (slice_index ws (c / 64)) (c % 64) ≡ 1 → has_bit_in_words ws ≡ true
bit_found ws c e = found ws (c / 64) (c % 64) (omega arith) e
  where
    one_not_zero : (x : ℕ) → x ≡ 0 → x ≡ 1 → ⊥
    one_not_zero x e f = omega (arith, e, f)

    found : (ws : List ℕ) (k i : ℕ) → i < 64 → bit_at (slice_index ws k) i ≡ 1 → has_bit_in_words ws ≡ true
    found [] k i l e = absurd (one_not_zero (bit_at 0 i) (no_bit 0 i refl l) e)
    found (w ∷ ws) zero i l e = true_by_first (not (w % 2 ^ 64 == 0)) (has_bit_in_words ws) (some_in w (λ n. one_not_zero (bit_at w i) (no_bit w i n l) e))
    found (w ∷ ws) (suc k) i l e = true_by_second (not (w % 2 ^ 64 == 0)) (has_bit_in_words ws) (found ws k i l e)

-- ---- the words of both rows

nothing_and : (y : ℕ) → 0 ≡ bit_and 0 y
nothing_and y = let l : bit_and 0 y ≤ 0 = and_le_l 0 y in omega (arith, l)

pub and_nothing : (x : ℕ) → 0 ≡ bit_and x 0
and_nothing x = let l : bit_and x 0 ≤ 0 = and_le_r x 0 in omega (arith, l)

pub word_of_both : (xs ys : List ℕ) (k : ℕ) → slice_index (both_words xs ys) k ≡ bit_and (slice_index xs k) (slice_index ys k)
word_of_both [] ys k = nothing_and (slice_index ys k)
word_of_both (x ∷ xs) [] zero = and_nothing x
word_of_both (x ∷ xs) [] (suc k) = word_of_both xs [] k
word_of_both (x ∷ xs) (y ∷ ys) zero = refl
word_of_both (x ∷ xs) (y ∷ ys) (suc k) = word_of_both xs ys k

pub length_of_both : (xs ys : List ℕ) → length (both_words xs ys) ≡ length xs
length_of_both [] ys = refl
length_of_both (x ∷ xs) [] = ap suc (length_of_both xs [])
length_of_both (x ∷ xs) (y ∷ ys) = ap suc (length_of_both xs ys)

abbrev bit_of : List ℕ → ℕ → ℕ
bit_of ws c = bit_at (slice_index ws (c / 64)) (c % 64)

bit_of_both : (xs ys : List ℕ) (c : ℕ) → bit_of (both_words xs ys) c ≡ min (bit_of xs c) (bit_of ys c)
bit_of_both xs ys c = ap (λ (w : ℕ). bit_at w (c % 64)) (word_of_both xs ys (c / 64)) ∙ bit_at_and (slice_index xs (c / 64)) (slice_index ys (c / 64)) (c % 64)

pub in_both : (xs ys : List ℕ) (c : ℕ) → bit_at (slice_index xs (c / 64)) (c % 64) ≡ 1 → bit_at (slice_index ys (c / 64)) (c % 64) ≡ 1 → bit_at (slice_index (both_words xs ys) (c / 64)) (c % 64) ≡ 1
in_both xs ys c e f = let b = bit_of_both xs ys c in b ∙ least (bit_of xs c) (bit_of ys c) e f
  where
    least : (x y : ℕ) → x ≡ 1 → y ≡ 1 → min x y ≡ 1
    least x y e f = omega (arith, e, f)

pub in_each : (xs ys : List ℕ) (c : ℕ) → bit_at (slice_index (both_words xs ys) (c / 64)) (c % 64) ≡ 1 → (bit_at (slice_index xs (c / 64)) (c % 64) ≡ 1) × (bit_at (slice_index ys (c / 64)) (c % 64) ≡ 1)
in_each xs ys c h =
    let b : min (bit_of xs c) (bit_of ys c) ≡ 1 = sym (bit_of_both xs ys c) ∙ h in
    (one (bit_of xs c) (bit_of ys c) b (bit_at-lt (slice_index xs (c / 64)) (c % 64)), one_too (bit_of xs c) (bit_of ys c) b (bit_at-lt (slice_index ys (c / 64)) (c % 64)))
  where
    one : (x y : ℕ) → min x y ≡ 1 → x < 2 → x ≡ 1
    one x y e l = omega (arith, e, l)

    one_too : (x y : ℕ) → min x y ≡ 1 → y < 2 → y ≡ 1
    one_too x y e l = omega (arith, e, l)

-- ---- whether the two have a bit in common, word by word

pub they_meet : (xs ys : List ℕ) (k : ℕ) → bit_and (slice_index xs k) (slice_index ys k) % 2 ^ 64 ≢ 0 → has_bit_in_words (both_words xs ys) ≡ true
they_meet xs ys k n = at (both_words xs ys) k (λ e. n (ap (λ (w : ℕ). w % 2 ^ 64) (sym (word_of_both xs ys k)) ∙ e))
  where
    at : (ws : List ℕ) (k : ℕ) → slice_index ws k % 2 ^ 64 ≢ 0 → has_bit_in_words ws ≡ true
    at [] k n = absurd (n refl)
    at (w ∷ ws) zero n = true_by_first (not (w % 2 ^ 64 == 0)) (has_bit_in_words ws) (some_in w n)
    at (w ∷ ws) (suc k) n = true_by_second (not (w % 2 ^ 64 == 0)) (has_bit_in_words ws) (at ws k n)

pub they_dont : (xs ys : List ℕ) (n : ℕ) → ((k : ℕ) → k < n → bit_and (slice_index xs k) (slice_index ys k) ≡ 0) → n ≡ min (length xs) (length ys) → has_bit_in_words (both_words xs ys) ≡ false
they_dont [] ys n none e = refl
they_dont (x ∷ xs) [] n none e = rest xs
  where
    both_none : (b c : Bool) → b ≡ false → c ≡ false → (b || c) ≡ false
    both_none b c e f = cc

    rest : (xs : List ℕ) → has_bit_in_words (both_words (0 ∷ xs) []) ≡ false
    rest [] = refl
    rest (x ∷ xs) = both_none false (has_bit_in_words (both_words (x ∷ xs) [])) refl (rest xs)
they_dont (x ∷ xs) (y ∷ ys) zero none e = absurd (omega (arith, e))
they_dont (x ∷ xs) (y ∷ ys) (suc n) none e = both_none (not (bit_and x y % 2 ^ 64 == 0)) (has_bit_in_words (both_words xs ys)) (none_in (bit_and x y) (let h : bit_and x y ≡ 0 = none 0 (omega arith) in omega (arith, h))) (they_dont xs ys n (λ k l. none (suc k) (omega (arith, l))) (omega (arith, e)))
  where
    both_none : (b c : Bool) → b ≡ false → c ≡ false → (b || c) ≡ false
    both_none b c e f = cc

-- a word of 64 bits
pub no_bit_left : (w x : ℕ) → w ≤ x → x < 2 ^ 64 → w % 2 ^ 64 ≡ 0 → w ≡ 0
no_bit_left w x l m e = omega (arith, l, m, e)

-- ---- the words of a row

pub word_of_row : (xs : List ℕ) (w at i : ℕ) → i < w → slice_index (row_in_words xs w at) i ≡ slice_index xs (at + i)
word_of_row xs w at i l = get_or-take w (drop at xs) i 0 l ∙ get_or-drop at xs i 0

pub beyond : (xs : List ℕ) (i : ℕ) → length xs ≤ i → slice_index xs i ≡ 0
beyond [] i l = refl
beyond (x ∷ xs) zero l = absurd (omega (arith, l))
beyond (x ∷ xs) (suc i) l = beyond xs i (omega (arith, l))
