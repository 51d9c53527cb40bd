-- Words and rows out of which bits were taken.
use Rattle.std.proofs.Common.{◌≡◌, ℕ, ◌+◌, ◌*◌, ◌/◌, ◌%◌, ◌^◌, ◌<◌, ◌≤◌, ◌⊎◌, inl, inr, min, List, drop, Option, Some, None, Bool, true, false, not, length, slice_index, slice_set, bit_and, refl, sym, ◌∙◌, ap, subst, arith, length-set}
use Rattle.std.specs.Int.{bit_at, bit_not, w64}
use mir.Val.{bits}
use Rattle.std.proofs.lemmas.Nat.Bits.{bit_at-lt, bit_at-zero, bit_at_and, bit_at_clear_same}
use Rattle.std.proofs.lemmas.List.{length-take, get_or-set_same, get_or-set_other}
use Rattle.math_base.proofs.Numbers.{same_or_not, below_or_not, below_or_last, tells_same, tells_other, is_told_same}
use Rattle.math_base.proofs.Bools.{false_of_not, not_both_values}
use Rattle.gate_floods.specs.RowJudge.Words.{is_in, is_away, row_in_words, both_words}
use Rattle.gate_floods.specs.RowJudge.Asked.{row_left, leaves}
use Rattle.gate_floods.proofs.RowJudge.Bits.{found_bit, bit_found, in_both, in_each, beyond, word_of_row}
use Rattle.row_trees.specs.Thinner.{IsPartOf, IsRowWithin, AreThinner}

-- ---- one word

pub and_left : (x y : ℕ) → IsPartOf (bit_and x y) x
and_left x y = λ k h. one (bit_at x k) (bit_at y k) (sym (bit_at_and x y k) ∙ h) (bit_at-lt x k)
  where
    one : (a b : ℕ) → min a b ≡ 1 → a < 2 → a ≡ 1
    one a b e l = omega (arith, e, l)

pub and_right : (x y : ℕ) → IsPartOf (bit_and x y) y
and_right x y = λ k h. one (bit_at x k) (bit_at y k) (sym (bit_at_and x y k) ∙ h) (bit_at-lt y k)
  where
    one : (a b : ℕ) → min a b ≡ 1 → b < 2 → b ≡ 1
    one a b e l = omega (arith, e, l)

-- ---- words

pub thinner_through : (xs ys zs : List ℕ) → AreThinner xs ys → AreThinner ys zs → AreThinner xs zs
thinner_through xs ys zs t u = record { len = u.len ∙ t.len; words = λ j k h. t.words j k (u.words j k h) }

pub thinner_set : (xs : List ℕ) (i v : ℕ) → i < length xs → IsPartOf v (slice_index xs i) → AreThinner xs (slice_set xs i v)
thinner_set xs i v l part = record { len = length-set xs i v; words = λ j. at j (same_or_not j i) }
  where
    at : (j : ℕ) → (j ≡ i) ⊎ (j ≡ i → ⊥) → IsPartOf (slice_index (slice_set xs i v) j) (slice_index xs j)
    at j (inl e) = λ k h. subst (λ (n : ℕ). bit_at (slice_index xs n) k ≡ 1) (sym e) (part k (sym (ap (λ (w : ℕ). bit_at w k) (ap (λ (n : ℕ). slice_index (slice_set xs i v) n) e ∙ get_or-set_same xs i v 0 l)) ∙ h))
    at j (inr n) = λ k h. sym (ap (λ (w : ℕ). bit_at w k) (get_or-set_other xs i j v 0 n)) ∙ h

-- ---- a row of words

pub in_bit : (xs : List ℕ) (c : ℕ) → is_in xs c ≡ true → bit_at (slice_index xs (c / 64)) (c % 64) ≡ 1
in_bit xs c h = is_told_same (bit_at (slice_index xs (c / 64)) (c % 64)) 1 h

pub bit_in : (xs : List ℕ) (c : ℕ) → bit_at (slice_index xs (c / 64)) (c % 64) ≡ 1 → is_in xs c ≡ true
bit_in xs c h = tells_same (bit_at (slice_index xs (c / 64)) (c % 64)) 1 h

-- what a row has is in one of its words
pub in_width : (xs : List ℕ) (w at c : ℕ) → is_in (row_in_words xs w at) c ≡ true → c / 64 < w
in_width xs w at c h = elim (below_or_not (c / 64) w) as (λ _. c / 64 < w) [
  | inl l ↦ l
  | inr l ↦ (
      let short : length (row_in_words xs w at) ≡ min w (length (drop at xs)) = length-take w (drop at xs) in
      let none : slice_index (row_in_words xs w at) (c / 64) ≡ 0 = beyond (row_in_words xs w at) (c / 64) (omega (arith, l, short)) in
      absurd (no (bit_at (slice_index (row_in_words xs w at) (c / 64)) (c % 64)) (ap (λ (n : ℕ). bit_at n (c % 64)) none ∙ bit_at-zero (c % 64)) (in_bit (row_in_words xs w at) c h))
      )
]
  where
    no : (b : ℕ) → b ≡ 0 → b ≡ 1 → ⊥
    no b e f = omega (arith, e, f)

-- a row whose words are parts of the words of another row is within it
pub row_within : (xs ys : List ℕ) (w at to : ℕ) → ((k : ℕ) → k < w → IsPartOf (slice_index xs (at + k)) (slice_index ys (to + k))) → IsRowWithin (row_in_words xs w at) (row_in_words ys w to)
row_within xs ys w at to parts = λ c h.
    let l : c / 64 < w = in_width xs w at c h in
    let b = sym (ap (λ (n : ℕ). bit_at n (c % 64)) (word_of_row xs w at (c / 64) l)) ∙ in_bit (row_in_words xs w at) c h in
    bit_in (row_in_words ys w to) c (ap (λ (n : ℕ). bit_at n (c % 64)) (word_of_row ys w to (c / 64) l) ∙ parts (c / 64) l (c % 64) b)

pub thinner_row : (xs ys : List ℕ) → AreThinner xs ys → (w at : ℕ) → IsRowWithin (row_in_words ys w at) (row_in_words xs w at)
thinner_row xs ys t w at = row_within ys xs w at at (λ k l. t.words (at + k))

-- ---- what is left behind a mask

pub left_within : (row : List ℕ) (o : Option (List ℕ)) → IsRowWithin (row_left row o) row
left_within row None = λ c h. h
left_within row (Some mask) = λ c h. bit_in row c (in_each row mask c (in_bit (both_words row mask) c h)).0

pub leaves_more : (xs ys : List ℕ) (o : Option (List ℕ)) → IsRowWithin xs ys → leaves xs o ≡ true → leaves ys o ≡ true
leaves_more xs ys None in' h = refl
leaves_more xs ys (Some mask) in' h =
    let f = found_bit (both_words xs mask) h in
    let e = in_each xs mask f.0 f.1 in
    bit_found (both_words ys mask) f.0 (in_both ys mask f.0 (in_bit ys f.0 (in' f.0 (bit_in xs f.0 e.0))) e.1)

-- ---- sectors that a row doesn't have

pub out_of : (xs ys : List ℕ) (c : ℕ) → IsRowWithin xs ys → is_in ys c ≡ false → is_in xs c ≡ false
out_of xs ys c in' h = by (is_in xs c) refl
  where
    by : (b : Bool) → is_in xs c ≡ b → is_in xs c ≡ false
    by false e = e
    by true e = absurd (not_both_values (is_in ys c) (in' c e) h)

pub away_more : (xs ys : List ℕ) (o : Option ℕ) → IsRowWithin xs ys → is_away ys o ≡ true → is_away xs o ≡ true
away_more xs ys None in' h = refl
away_more xs ys (Some c) in' h = ap not (out_of xs ys c in' (false_of_not (is_in ys c) h))

pub away_of : (xs : List ℕ) (c : ℕ) → is_in xs c ≡ false → is_away xs (Some c) ≡ true
away_of xs c h = ap not h

pub within_through : (xs ys zs : List ℕ) → IsRowWithin xs ys → IsRowWithin ys zs → IsRowWithin xs zs
within_through xs ys zs f g = λ c h. g c (f c h)

-- ---- a bit taken out

pub bit_gone : (xs : List ℕ) (c : ℕ) → c / 64 < length xs → is_in (slice_set xs (c / 64) (bit_and (slice_index xs (c / 64)) (bit_not w64 (1 * 2 ^ (c % 64) % 2 ^ bits w64)))) c ≡ false
bit_gone xs c l = tells_other _ 1 (λ h. no (bit_at (bit_and (slice_index xs (c / 64)) (bit_not w64 (1 * 2 ^ (c % 64) % 2 ^ bits w64))) (c % 64)) (bit_at_clear_same w64 (slice_index xs (c / 64)) (c % 64) (omega arith)) (sym (ap (λ (n : ℕ). bit_at n (c % 64)) (get_or-set_same xs (c / 64) (bit_and (slice_index xs (c / 64)) (bit_not w64 (1 * 2 ^ (c % 64) % 2 ^ bits w64))) 0 l)) ∙ h))
  where
    no : (b : ℕ) → b ≡ 0 → b ≡ 1 → ⊥
    no b e f = omega (arith, e, f)

-- ---- word by word, a row becomes what the first has too

-- so many words of the row are done
pub record HasMet (old new : List ℕ) (at count : ℕ) : Type 0 where
  pub thinner : AreThinner old new
  pub done : (k : ℕ) → k < count → IsPartOf (slice_index new (at + k)) (slice_index new k)

pub one_met : (old xs : List ℕ) (at count : ℕ) → at + count < length xs → HasMet old xs at count → HasMet old (slice_set xs (at + count) (bit_and (slice_index xs (at + count)) (slice_index xs count))) at (count + 1)
one_met old xs at count l h = record {
  thinner = thinner_through old xs new h.thinner (thinner_set xs (at + count) v l (and_left (slice_index xs (at + count)) (slice_index xs count)));
  done = λ k low. elim (below_or_last k count low) as (λ _. IsPartOf (slice_index new (at + k)) (slice_index new k)) [
    | inl less ↦ (λ b e. kept k b (λ q. differs k count less q) (λ q. differs (k) (at + count) (omega (arith, less)) q) (h.done k less b (back (at + k) b (λ q. differs (at + k) (at + count) (omega (arith, less)) q) e)))
    | inr same ↦ subst (λ (n : ℕ). IsPartOf (slice_index new (at + n)) (slice_index new n)) (sym same) last
  ];
}
  where
    v : ℕ
    v = bit_and (slice_index xs (at + count)) (slice_index xs count)

    new : List ℕ
    new = slice_set xs (at + count) v

    differs : (a b : ℕ) → a < b → a ≡ b → ⊥
    differs a b l e = omega (arith, l, e)

    other : (j : ℕ) → (j ≡ at + count → ⊥) → slice_index new j ≡ slice_index xs j
    other j n = get_or-set_other xs (at + count) j v 0 n

    kept : (k b : ℕ) → (k ≡ count → ⊥) → (k ≡ at + count → ⊥) → bit_at (slice_index xs k) b ≡ 1 → bit_at (slice_index new k) b ≡ 1
    kept k b m n e = ap (λ (x : ℕ). bit_at x b) (other k n) ∙ e

    back : (j b : ℕ) → (j ≡ at + count → ⊥) → bit_at (slice_index new j) b ≡ 1 → bit_at (slice_index xs j) b ≡ 1
    back j b n e = sym (ap (λ (x : ℕ). bit_at x b) (other j n)) ∙ e

    here : slice_index new (at + count) ≡ v
    here = get_or-set_same xs (at + count) v 0 l

    last : IsPartOf (slice_index new (at + count)) (slice_index new count)
    last = elim (same_or_not count (at + count)) as (λ _. IsPartOf (slice_index new (at + count)) (slice_index new count)) [
      | inl e ↦ (λ b g. ap (λ (n : ℕ). bit_at (slice_index new n) b) e ∙ g)
      | inr n ↦ (λ b g. ap (λ (x : ℕ). bit_at x b) (other count n) ∙ and_right (slice_index xs (at + count)) (slice_index xs count) b (sym (ap (λ (x : ℕ). bit_at x b) here) ∙ g))
    ]

pub met_row : (old new : List ℕ) (at count width : ℕ) → width ≤ count → HasMet old new at count → IsRowWithin (row_in_words new width at) (row_in_words new width 0)
met_row old new at count width l h = row_within new new width at 0 (λ k low. subst (λ (n : ℕ). IsPartOf (slice_index new (at + k)) (slice_index new n)) (omega arith) (h.done k (omega (arith, l, low))))
