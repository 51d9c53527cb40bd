-- One bit of a set in words: what a write to one word changes.
use Rattle.std.proofs.Common.{◌≡◌, ◌≢◌, ℕ, ◌*◌, ◌/◌, ◌%◌, ◌^◌, ◌<◌, ◌⊎◌, inl, inr, ◌↔◌, List, length, refl, sym, ◌∙◌, ap, subst, arith, slice_set, slice_index, get_or-set_same, get_or-set_other, bit_or}
use Rattle.std.specs.Int.{bit_at, w64}
use Rattle.std.proofs.lemmas.Nat.Bits.{bit_at_set_same, bit_at_set_other}
use Rattle.gate_floods.specs.GateMasks.Words.{HasBit}

-- the bit as a number
abbrev bit_of : List ℕ → ℕ → ℕ
bit_of ws c = bit_at (slice_index ws (c / 64)) (c % 64)

-- a bit of another word
bit_other : (ws : List ℕ) (i v c : ℕ) → c / 64 ≢ i → bit_of (slice_set ws i v) c ≡ bit_of ws c
bit_other ws i v c h = ap (λ (x : ℕ). bit_at x (c % 64)) (get_or-set_other ws i (c / 64) v 0 h)

-- a bit of the word that is written
bit_same : (ws : List ℕ) (i v c : ℕ) → c / 64 ≡ i → i < length ws → bit_of (slice_set ws i v) c ≡ bit_at v (c % 64)
bit_same ws i v c h l = subst (λ (j : ℕ). bit_at (slice_index (slice_set ws i v) j) (c % 64) ≡ bit_at v (c % 64)) (sym h) (ap (λ (x : ℕ). bit_at x (c % 64)) (get_or-set_same ws i v 0 l))

pub bit_set : (ws : List ℕ) (k : ℕ) → k < 64 * length ws → HasBit (slice_set ws (k / 64) (bit_or (slice_index ws (k / 64)) (1 * 2 ^ (k % 64) % 18446744073709551616))) k
bit_set ws k h = bit_same ws (k / 64) _ k refl (omega arith) ∙ bit_at_set_same w64 (slice_index ws (k / 64)) (k % 64) (omega arith)

bit_kept : (ws : List ℕ) (k i : ℕ) → k < 64 * length ws → i ≢ k → bit_of (slice_set ws (k / 64) (bit_or (slice_index ws (k / 64)) (1 * 2 ^ (k % 64) % 18446744073709551616))) i ≡ bit_of ws i
bit_kept ws k i h differ = elim (where_is k i differ) [
  | inl other ↦ bit_other ws (k / 64) _ i other
  | inr here ↦ bit_same ws (k / 64) _ i here.0 (omega arith) ∙ bit_at_set_other w64 (slice_index ws (k / 64)) (k % 64) (omega arith) (i % 64) here.1 ∙ ap (λ (j : ℕ). bit_at (slice_index ws j) (i % 64)) (sym here.0)
]
  where
    where_is : (k i : ℕ) → i ≢ k → (i / 64 ≢ k / 64) ⊎ ((i / 64 ≡ k / 64) × (i % 64 ≢ k % 64))
    where_is k i h = grind arith

pub bits_kept : (ws : List ℕ) (k i : ℕ) → k < 64 * length ws → i ≢ k → HasBit (slice_set ws (k / 64) (bit_or (slice_index ws (k / 64)) (1 * 2 ^ (k % 64) % 18446744073709551616))) i ↔ HasBit ws i
bits_kept ws k i h differ = let e = bit_kept ws k i h differ in ((λ x. sym e ∙ x), (λ x. e ∙ x))
