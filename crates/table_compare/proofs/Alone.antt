-- Bits that one byte has and another hasn't.
use Rattle.std.proofs.Common.{◌≡◌, ℕ, zero, suc, ◌+◌, ◌-◌, ◌*◌, ◌/◌, ◌%◌, ◌^◌, ◌<◌, ◌≤◌, ◌⊎◌, inl, inr, ◌==◌, ◌&&◌, false, min, List, slice_index, Some, None, ◌∙◌, ap, refl, sym, arith, bit_and, bit_xor}
use Rattle.std.specs.Prelude.{IsTrue}
use Rattle.std.specs.Int.{bit_at, trailing_zeros, w8}
use Rattle.std.specs.Int.RustNames.{count_ones}
use Rattle.std.specs.List.{count_by, range_with_len}
use Rattle.std.proofs.lemmas.Bool.{false≢true}
use Rattle.std.proofs.lemmas.Nat.Bits.{bit_at_and, bit_at-lt, bit_at-trailing_zeros, bit_at-zero}
use Rattle.reject_bits.proofs.Bits.{turned_bit}
use Rattle.table_compare.specs.Compared.{has_alone, is_alone, IsFirstBelow}
use Rattle.table_compare.proofs.Counting.{count_alike, count_parts, ones_are}

abbrev pub alone_of : ℕ → ℕ → ℕ
alone_of byte other = bit_and byte (bit_xor other 255)

both_are : (x y : ℕ) → x < 2 → y < 2 → (min x (1 - y) == 1) ≡ ((x == 1) && (y == 0))
both_are zero zero hx hy = refl
both_are zero (suc zero) hx hy = refl
both_are (suc zero) zero hx hy = refl
both_are (suc zero) (suc zero) hx hy = refl
both_are (suc (suc x)) y hx hy = absurd (omega arith)
both_are zero (suc (suc y)) hx hy = absurd (omega arith)
both_are (suc zero) (suc (suc y)) hx hy = absurd (omega arith)

-- a bit of the number is one that the byte has alone
pub tells_alone : (byte other i : ℕ) → i < 8 → (bit_at (alone_of byte other) i == 1) ≡ has_alone byte other i
tells_alone byte other i lt =
    ap (λ (b : ℕ). b == 1) (bit_at_and byte (bit_xor other 255) i ∙ ap (λ (b : ℕ). min (bit_at byte i) b) (turned_bit other i lt))
    ∙ both_are (bit_at byte i) (bit_at other i) (bit_at-lt byte i) (bit_at-lt other i)

pub count_of_byte : (byte other : ℕ) → alone_of byte other < 2 ^ 8 → count_ones (alone_of byte other) ≡ count_by (has_alone byte other) (range_with_len 0 8)
count_of_byte byte other fits =
    ones_are 8 (alone_of byte other) fits ∙ count_alike (λ i. bit_at (alone_of byte other) i == 1) (has_alone byte other) 0 0 8 (λ j lt. tells_alone byte other (0 + j) (omega arith))

-- ---- the first

not_here : (b : ℕ) → b ≡ 0 → (b == 1) ≡ false
not_here b e = ap (λ (x : ℕ). x == 1) e

pub no_bit : (byte other : ℕ) → alone_of byte other ≡ 0 → IsFirstBelow 8 (has_alone byte other) None
no_bit byte other e j lt told =
    false≢true (sym (not_here (bit_at (alone_of byte other) j) (ap (λ (n : ℕ). bit_at n j) e ∙ bit_at-zero j)) ∙ tells_alone byte other j lt ∙ told)

pub least_bit : (byte other : ℕ) → 0 < alone_of byte other → alone_of byte other < 2 ^ 8 → IsFirstBelow 8 (has_alone byte other) (Some (trailing_zeros w8 (alone_of byte other)))
least_bit byte other some fits =
    let h = bit_at-trailing_zeros w8 (alone_of byte other) some fits in (
      h.0,
      sym (tells_alone byte other (trailing_zeros w8 (alone_of byte other)) h.0) ∙ ap (λ (b : ℕ). b == 1) h.1,
      λ j lt told. false≢true (sym (not_here (bit_at (alone_of byte other) j) (h.2 j lt)) ∙ tells_alone byte other j (below j lt h.0) ∙ told),
    )
  where
    below : (j : ℕ) {n : ℕ} → j < n → n < 8 → j < 8
    below j lt le = omega arith

-- ---- byte by byte

module _ (one other : List ℕ) where
  -- a bit of one byte
  pub of_byte : (i j : ℕ) → j < 8 → is_alone one other (8 * i + j) ≡ has_alone (slice_index one i) (slice_index other i) j
  of_byte i j lt =
      ap (λ (k : ℕ). has_alone (slice_index one k) (slice_index other k) ((8 * i + j) % 8)) (byte i j lt)
      ∙ ap (λ (k : ℕ). has_alone (slice_index one i) (slice_index other i) k) (bit i j lt)
    where
      byte : (i j : ℕ) → j < 8 → (8 * i + j) / 8 ≡ i
      byte i j lt = omega arith

      bit : (i j : ℕ) → j < 8 → (8 * i + j) % 8 ≡ j
      bit i j lt = omega arith

  pub count_more : (i count more : ℕ) → count ≡ count_by (is_alone one other) (range_with_len 0 (8 * i)) → more ≡ count_by (has_alone (slice_index one i) (slice_index other i)) (range_with_len 0 8)
      → count + more ≡ count_by (is_alone one other) (range_with_len 0 (8 * (i + 1)))
  count_more i count more before here =
      let byte : count_by (is_alone one other) (range_with_len (0 + 8 * i) 8) ≡ count_by (has_alone (slice_index one i) (slice_index other i)) (range_with_len 0 8) =
      count_alike (is_alone one other) (has_alone (slice_index one i) (slice_index other i)) (0 + 8 * i) 0 8 (λ j lt. ap (is_alone one other) (place i j) ∙ of_byte i (0 + j) (omega arith)) in
      let all : count_by (is_alone one other) (range_with_len 0 (8 * (i + 1))) ≡ count_by (is_alone one other) (range_with_len 0 (8 * i + 8)) = ap (λ (m : ℕ). count_by (is_alone one other) (range_with_len 0 m)) (next i) in
      omega (arith, before, here, byte, all, count_parts (is_alone one other) 0 (8 * i) 8)
    where
      place : (i j : ℕ) → 0 + 8 * i + j ≡ 8 * i + (0 + j)
      place i j = omega arith

      next : (i : ℕ) → 8 * (i + 1) ≡ 8 * i + 8
      next i = omega arith

  -- none of the first n bits
  abbrev pub AreNone : ℕ → Type 0
  AreNone n = (k : ℕ) → k < n → ¬ IsTrue (is_alone one other k)

  beside : (k i : ℕ) → 8 * i ≤ k → k ≡ 8 * i + (k - 8 * i)
  beside k i le = omega arith

  pub none_more : (i : ℕ) → AreNone (8 * i) → IsFirstBelow 8 (has_alone (slice_index one i) (slice_index other i)) None → AreNone (8 * (i + 1))
  none_more i before here k lt told = elim (where_is k i lt) [
    | inl low ↦ before k low told
    | inr at ↦ here (k - 8 * i) at.1 (sym (ap (is_alone one other) (beside k i at.0) ∙ of_byte i (k - 8 * i) at.1) ∙ told)
  ]
    where
      where_is : (k i : ℕ) → k < 8 * (i + 1) → (k < 8 * i) ⊎ ((8 * i ≤ k) × (k - 8 * i < 8))
      where_is k i lt = grind arith

  pub first_here : (i bit n : ℕ) → i < n → AreNone (8 * i) → IsFirstBelow 8 (has_alone (slice_index one i) (slice_index other i)) (Some bit) → IsFirstBelow (8 * n) (is_alone one other) (Some (8 * i + bit))
  first_here i bit n lt before here = (
    within i bit n lt here.0,
    of_byte i bit here.0 ∙ here.1,
    λ k less told. elim (where_is k i bit less) [
      | inl low ↦ before k low told
      | inr at ↦ here.2 (k - 8 * i) at.1 (sym (ap (is_alone one other) (beside k i at.0) ∙ of_byte i (k - 8 * i) (lower (k - 8 * i) bit at.1 here.0)) ∙ told)
    ],
  )
    where
      within : (i bit n : ℕ) → i < n → bit < 8 → 8 * i + bit < 8 * n
      within i bit n lt h = omega arith

      lower : (j bit : ℕ) → j < bit → bit < 8 → j < 8
      lower j bit lt h = omega arith

      where_is : (k i bit : ℕ) → k < 8 * i + bit → (k < 8 * i) ⊎ ((8 * i ≤ k) × (k - 8 * i < bit))
      where_is k i bit lt = grind arith
