-- The pairs of a table by the places of their bits.
use Rattle.std.proofs.Common.{◌≡◌, ℕ, zero, suc, ◌+◌, ◌-◌, ◌*◌, ◌^◌, ◌<◌, ◌≤◌, ◌⊎◌, inl, inr, ◌==◌, ◌&&◌, ◌↔◌, Bool, List, length, Option, Some, None, ◌∙◌, ap, refl, sym, subst, arith}
use Rattle.std.specs.Prelude.{IsTrue}
use Rattle.std.specs.Int.{div_ceil}
use Rattle.std.specs.List.{count_by, range_with_len}
use Rattle.std.proofs.lemmas.Nat.{mul-lt}
use Rattle.std.proofs.lemmas.Nat.Bits.{bit_at-lt}
use Rattle.math_base.proofs.Bools.{both_true, false_where_not_true, first_true, second_true}
use Rattle.math_base.proofs.Numbers.{below_or_not, is_told_same, place_within, row_within, tells_same}
use Rattle.sight_names.specs.declared.names.Pair.{Pair}
use Rattle.sight_names.specs.Table.{IsTable, table_bit}
use Rattle.reject_bits.specs.Parts.{IsTableWhole, TableParts}
use Rattle.table_compare.specs.Compared.{is_alone, IsFirstBelow, SetsAlone}
use Rattle.table_compare.specs.Counts.{IsCountOf, IsFirstSuchPair, IsFirstOf}
use Rattle.table_compare.proofs.Counting.{count_none, count_parts, count_rows}

bits_tell : (x y : ℕ) → x < 2 → y < 2 → IsTrue ((x == 1) && (y == 0)) ↔ ((x ≡ 1) × ¬ (y ≡ 1))
bits_tell x y hx hy = (
  (λ told. (is_told_same x 1 (first_true (x == 1) (y == 0) told), clear y (is_told_same y 0 (second_true (x == 1) (y == 0) told)))),
  (λ h. both_true (x == 1) (y == 0) (tells_same x 1 h.0) (tells_same y 0 (zero_of y hy h.1))),
)
  where
    clear : (y : ℕ) → y ≡ 0 → y ≡ 1 → ⊥
    clear y e f = omega arith

    zero_of : (y : ℕ) → y < 2 → (y ≡ 1 → ⊥) → y ≡ 0
    zero_of zero h not_one = refl
    zero_of (suc zero) h not_one = absurd (not_one refl)
    zero_of (suc (suc y)) h not_one = absurd (omega arith)

-- a table has few bytes
pub short : (n : ℕ) (bytes : List ℕ) → n < 65536 → IsTable n bytes → length bytes < 2 ^ 32
short n bytes lt e = few (length bytes) (n * n) e (mul-lt n n 65536 65536 lt lt)
  where
    few : (l m : ℕ) → l ≡ div_ceil m 8 → m < 65536 * 65536 → l < 2 ^ 32
    few l m e h = omega arith

-- tables of so many sectors have so many bytes
pub same_length : (one other : TableParts) → other.n ≡ one.n → IsTableWhole one → IsTableWhole other → length other.bytes ≡ length one.bytes
same_length one other same whole too = too.len ∙ ap (λ (n : ℕ). div_ceil (n * n) 8) same ∙ sym whole.len

-- the first below, by the bytes of the two
pub by_bytes : (one other : TableParts) (xs ys : List ℕ) (found : Option ℕ) → xs ≡ one.bytes → ys ≡ other.bytes → IsFirstBelow (8 * length xs) (is_alone xs ys) found → IsFirstBelow (8 * length one.bytes) (is_alone one.bytes other.bytes) found
by_bytes one other xs ys found e f h =
    subst (λ (bs : List ℕ). IsFirstBelow (8 * length one.bytes) (is_alone one.bytes bs) found) f (subst (λ (bs : List ℕ). IsFirstBelow (8 * length bs) (is_alone bs ys) found) e h)

module _ (one other : TableParts) (same : other.n ≡ one.n) (whole : IsTableWhole one) where
  abbrev is_at : ℕ → Bool
  is_at k = is_alone one.bytes other.bytes k

  pub tells_place : (k : ℕ) → IsTrue (is_at k) ↔ ((table_bit one.bytes k ≡ 1) × ¬ (table_bit other.bytes k ≡ 1))
  tells_place k = bits_tell (table_bit one.bytes k) (table_bit other.bytes k) (bit_at-lt _ _) (bit_at-lt _ _)

  pub tells_pair : (a b : ℕ) → IsTrue (is_at (a * one.n + b)) ↔ SetsAlone one other a b
  tells_pair a b = (
    (λ told. let h = (tells_place (a * one.n + b)).0 told in (h.0, λ set. h.1 (ap (λ (m : ℕ). table_bit other.bytes (a * m + b)) (sym same) ∙ set))),
    (λ h. (tells_place (a * one.n + b)).1 (h.0, λ set. h.1 (ap (λ (m : ℕ). table_bit other.bytes (a * m + b)) same ∙ set))),
  )

  -- behind the last pair nothing is set
  spare : (k : ℕ) → one.n * one.n ≤ k → k < 8 * length one.bytes → ¬ IsTrue (is_at k)
  spare k le lt told = let set = ((tells_place k).0 told).0 in let clear = whole.no_spare k le lt in omega arith

  enough : one.n * one.n ≤ 8 * length one.bytes
  enough = fits (length one.bytes) (one.n * one.n) whole.len
    where
      fits : (l m : ℕ) → l ≡ div_ceil m 8 → m ≤ 8 * l
      fits l m e = omega arith

  -- the places of the pairs, then the spare ones
  all_places : count_by is_at (range_with_len 0 (8 * length one.bytes)) ≡ count_by is_at (range_with_len 0 (one.n * one.n))
  all_places =
      let parts = count_parts is_at 0 (one.n * one.n) (8 * length one.bytes - one.n * one.n) in
      let split : count_by is_at (range_with_len 0 (one.n * one.n + (8 * length one.bytes - one.n * one.n))) ≡ count_by is_at (range_with_len 0 (8 * length one.bytes)) =
      ap (λ (m : ℕ). count_by is_at (range_with_len 0 m)) (both (one.n * one.n) (8 * length one.bytes) enough) in
      let rest : count_by is_at (range_with_len (0 + one.n * one.n) (8 * length one.bytes - one.n * one.n)) ≡ 0 =
      count_none is_at (0 + one.n * one.n) (8 * length one.bytes - one.n * one.n) (λ j lt. false_where_not_true _ (spare (0 + one.n * one.n + j) (above (one.n * one.n) j) (inside (one.n * one.n) (8 * length one.bytes) j lt))) in
      omega (arith, parts, split, rest)
    where
      both : (m l : ℕ) → m ≤ l → m + (l - m) ≡ l
      both m l le = omega arith

      above : (m j : ℕ) → m ≤ 0 + m + j
      above m j = omega arith

      inside : (m l j : ℕ) → j < l - m → 0 + m + j < l
      inside m l j lt = omega arith

  -- so the bits are the pairs
  pub counts_pairs : (count : ℕ) → count ≡ count_by is_at (range_with_len 0 (8 * length one.bytes)) → IsCountOf one.n (SetsAlone one other) count
  counts_pairs count e = record {
    test = λ a b. is_at (a * one.n + b);
    tells = λ a b la lb. tells_pair a b;
    passed = e ∙ all_places ∙ sym (count_rows is_at one.n 0 one.n ∙ ap (λ (m : ℕ). count_by is_at (range_with_len m (one.n * one.n))) (none one.n));
  }
    where
      none : (n : ℕ) → 0 * n ≡ 0
      none n = omega arith

  -- ---- the first

  -- it is the place of a pair
  pub is_pairs : (place : ℕ) → IsFirstBelow (8 * length one.bytes) is_at (Some place) → place < one.n * one.n
  is_pairs place h = elim (below_or_not place (one.n * one.n)) [
    | inl lt ↦ lt
    | inr le ↦ absurd (spare place le h.0 h.1)
  ]

  within : (a b : ℕ) → a < one.n → b < one.n → a * one.n + b < 8 * length one.bytes
  within a b la lb = let p = place_within a b one.n la lb in omega (arith, p, enough)

  earlier : (a b c d m : ℕ) → b < m → (a < c) ⊎ ((a ≡ c) × (b < d)) → a * m + b < c * m + d
  earlier a b c d m lb (inl lt) = let r = row_within a m c lt in omega arith
  earlier a b c d m lb (inr h) = subst (λ (x : ℕ). a * m + b < x * m + d) h.0 (more (a * m) h.1)
    where
      more : (x : ℕ) → b < d → x + b < x + d
      more x lt = omega arith

  pub first_is : (place : ℕ) (pair : Pair) → IsFirstBelow (8 * length one.bytes) is_at (Some place) → pair.a < one.n → pair.b < one.n → place ≡ pair.a * one.n + pair.b → IsFirstSuchPair one.n (SetsAlone one other) pair
  first_is place pair h row column e = record {
    row = row;
    column = column;
    is = (tells_pair pair.a pair.b).0 (subst (λ (k : ℕ). IsTrue (is_at k)) e h.1);
    before = λ a b la lb less alone. h.2 (a * one.n + b) (subst (λ (k : ℕ). a * one.n + b < k) (sym e) (earlier a b pair.a pair.b one.n lb less)) ((tells_pair a b).1 alone);
  }

  pub none_is : IsFirstBelow (8 * length one.bytes) is_at None → IsFirstOf one.n (SetsAlone one other) None
  none_is h a b la lb alone = h (a * one.n + b) (within a b la lb) ((tells_pair a b).1 alone)
