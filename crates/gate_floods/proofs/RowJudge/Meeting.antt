-- A row that is met with a mask and put behind, word by word: all else stays.
use Rattle.std.proofs.Common.{◌≡◌, ℕ, ◌+◌, ◌-◌, ◌<◌, ◌≤◌, ◌⊎◌, inl, inr, List, take, drop, length, slice_index, bit_and, refl, sym, ◌∙◌, ap, subst, arith}
use Rattle.std.proofs.lemmas.List.{length-drop, length-take-le, get_or-take, ext_get_or}
use Rattle.math_base.proofs.Numbers.{below_or_not}
use Rattle.gate_floods.specs.RowJudge.Words.{both_words, row_in_words, HasMet, IsCleared}
use Rattle.gate_floods.proofs.RowJudge.Bits.{word_of_both, length_of_both, word_of_row, beyond, and_nothing}

-- ---- word by word

module _ (old : List ℕ) (from : ℕ) where
  pub cleared_none : IsCleared old from 0 old
  cleared_none = record { len = refl; none = λ j l. absurd (omega (arith, l)); others = λ j s. refl }

pub cleared_short : (old : List ℕ) (from w n : ℕ) → w ≤ n → IsCleared old from (w - n) old
cleared_short old from w n l = let none : 0 ≡ w - n = omega (arith, l) in subst (λ (k : ℕ). IsCleared old from k old) none (cleared_none old from)

-- ---- the row that was put

module _ (old mask mid new : List ℕ) (at w : ℕ) (short : length mask ≤ w) (room : at + w + w ≤ length old) (h : HasMet old mask at (at + w) (length mask) mid) (c : IsCleared mid (at + w + length mask) (w - length mask) new) where
  pub put_len : length new ≡ length old
  put_len = c.len ∙ h.len

  pub put_kept : take (at + w) new ≡ take (at + w) old
  put_kept =
      let long : length (take (at + w) new) ≡ at + w = length-take-le (at + w) new (omega (arith, room, put_len)) in
      let long_too : length (take (at + w) old) ≡ at + w = length-take-le (at + w) old (omega (arith, room)) in
      ext_get_or 0 (take (at + w) new) (take (at + w) old) (long ∙ sym long_too) (λ j l.
      let m : j < at + w = omega (arith, l, long) in
      get_or-take (at + w) new j 0 m ∙ c.others j (inl (omega (arith, m))) ∙ h.others j (inl m) ∙ sym (get_or-take (at + w) old j 0 m))

  row_long : (rows : List ℕ) (from : ℕ) → from + w ≤ length rows → length (row_in_words rows w from) ≡ w
  row_long rows from l = length-take-le w (drop from rows) (let d : length (drop from rows) ≡ length rows - from = length-drop from rows in omega (arith, d, l))

  pub put_row : row_in_words new w (at + w) ≡ both_words (row_in_words old w at) mask
  put_row =
      let long : length (row_in_words new w (at + w)) ≡ w = row_long new (at + w) (omega (arith, room, put_len)) in
      let long_too : length (both_words (row_in_words old w at) mask) ≡ w = length_of_both (row_in_words old w at) mask ∙ row_long old at (omega (arith, room)) in
      ext_get_or 0 (row_in_words new w (at + w)) (both_words (row_in_words old w at) mask) (long ∙ sym long_too) (λ j l.
      let m : j < w = omega (arith, l, long) in
      word_of_row new w (at + w) j m ∙ at_word j m (below_or_not j (length mask)) ∙ sym (word_of_both (row_in_words old w at) mask j ∙ ap (λ (x : ℕ). bit_and x (slice_index mask j)) (word_of_row old w at j m)))
    where
      at_word : (j : ℕ) → j < w → (j < length mask) ⊎ (length mask ≤ j) → slice_index new (at + w + j) ≡ bit_and (slice_index old (at + j)) (slice_index mask j)
      at_word j m (inl l) = c.others (at + w + j) (inl (omega (arith, l))) ∙ h.met j l
      at_word j m (inr l) =
          let place : at + w + length mask + (j - length mask) ≡ at + w + j = omega (arith, l) in
          ap (λ (n : ℕ). slice_index new n) (sym place) ∙ c.none (j - length mask) (omega (arith, l, m)) ∙ and_nothing (slice_index old (at + j)) ∙ ap (λ (x : ℕ). bit_and (slice_index old (at + j)) x) (sym (beyond mask j l))
