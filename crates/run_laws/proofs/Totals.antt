-- The totals that the checker counts are the counts of a build's line.
use Rattle.std.proofs.Common.{◌≡◌, ℕ, zero, suc, ◌+◌, ◌-◌, ◌*◌, ◌/◌, ◌<◌, ◌≤◌, ◌||◌, Bool, true, false, cond, List, length, refl, sym, ap, ◌∙◌, arith}
use Rattle.std.specs.List.{range_with_len, sum_by}
use Rattle.std.proofs.lemmas.Bool.Decides.{Decides-eqb}
use Rattle.std.proofs.lemmas.List.Sums.{sum_by-cons, sum-map}
use Rattle.sight_names.specs.declared.names.Pair.{Pair}
use Rattle.sight_names.specs.Table.{table_bit}
use Rattle.reject_bits.specs.Parts.{Rejects, TableParts}
use Rattle.cert_checker.specs.declared.verdict.Totals.{Totals}
use Rattle.cert_checker.specs.Pairs.{AreTotals, count_of_pairs, either_set, one_if, pairs_in_row, set_in_row, set_pairs as either_pairs}
use Rattle.map_answers.specs.declared.counts.Counts.{Counts}
use Rattle.map_answers.specs.Counts.{counts_with, is_pair_set, pair_count, set_from, set_pairs}

sum_same : (f g : ℕ → ℕ) (a n : ℕ) → ((i : ℕ) → a ≤ i → i < a + n → f i ≡ g i) → sum_by f (range_with_len a n) ≡ sum_by g (range_with_len a n)
sum_same f g a zero h = refl
sum_same f g a (suc n) h =
    sum_by-cons f a (range_with_len (a + 1) n)
    ∙ (λ i. h a (omega arith) (omega arith) i + sum_same f g (a + 1) n (λ j l k. h j (omega (arith, l)) (omega (arith, k))) i)
    ∙ sym (sum_by-cons g a (range_with_len (a + 1) n))

-- ---- what is set

module _ (t : TableParts) (symmetric : (x y : ℕ) → x < t.n → y < t.n → Rejects t x y → Rejects t y x) where
  one_bit : (a b : ℕ) → a < t.n → b < t.n → one_if (either_set t a b) ≡ cond (is_pair_set t a b) 1 0
  one_bit a b p q = by (is_pair_set t a b) (is_pair_set t b a) refl refl
    where
      by : (x y : Bool) → is_pair_set t a b ≡ x → is_pair_set t b a ≡ y → one_if (x || y) ≡ cond x 1 0
      by true y e f = refl
      by false false e f = refl
      by false true e f =
          let back : is_pair_set t a b ≡ true = (Decides-eqb (table_bit t.bytes (a * t.n + b)) 1).1 (symmetric b a q p ((Decides-eqb (table_bit t.bytes (b * t.n + a)) 1).0 f)) in
          absurd cc

  row_same : (a : ℕ) → a < t.n → set_in_row t t.n a ≡ set_from t a
  unfolding set_from
  row_same a lt = sum-map (λ b. one_if (either_set t a b)) (range_with_len a (t.n - a)) ∙ sum_same (λ b. one_if (either_set t a b)) (λ b. cond (is_pair_set t a b) 1 0) a (t.n - a) (λ b l h. one_bit a b lt (omega (arith, h, lt, l)))

  set_same : either_pairs t t.n ≡ set_pairs t
  unfolding set_pairs
  set_same = sum-map (set_in_row t t.n) (range_with_len 0 t.n) ∙ sum_same (set_in_row t t.n) (set_from t) 0 t.n (λ a l h. row_same a (omega (arith, h)))

-- ---- how many pairs there are

triangle : (n a k : ℕ) → a + k ≡ n → 2 * sum_by (pairs_in_row n) (range_with_len a k) ≡ k * (k + 1)
triangle n a zero e = refl
triangle n a (suc k) e =
    let first = sum_by-cons (pairs_in_row n) a (range_with_len (a + 1) k) in
    let rest = triangle n (a + 1) k (omega (arith, e)) in
    let here : n - a ≡ suc k = omega (arith, e) in
    let square : suc k * (suc k + 1) ≡ k * (k + 1) + 2 * suc k = omega arith in
    omega (arith, first, rest, here, square)

half : (x s : ℕ) → 2 * s ≡ x → x / 2 ≡ s
half x s e = omega (arith, e)

all_same : (n : ℕ) → count_of_pairs n ≡ pair_count n
all_same n =
    let sums = sum-map (pairs_in_row n) (range_with_len 0 n) in
    let twice = triangle n 0 n (omega arith) in
    sums ∙ sym (half (n * (n + 1)) (sum_by (pairs_in_row n) (range_with_len 0 n)) twice)

-- ---- the counts

abbrev counted : ℕ → ℕ → ℕ → ℕ → Counts
counted n s c l = record { sectors = n; set = s; clear = c; listed = l }

pub same_counts : (t : TableParts) (pairs : List Pair) (n : ℕ) (totals : Totals) → ((x y : ℕ) → x < t.n → y < t.n → Rejects t x y → Rejects t y x) → t.n ≡ n → AreTotals t pairs n totals
    → counted n totals.set totals.clear totals.listed ≡ counts_with t (length pairs)
same_counts t pairs n totals symmetric e h =
    let set : totals.set ≡ set_pairs t = h.set ∙ ap (either_pairs t) (sym e) ∙ set_same t symmetric in
    let all : totals.set + totals.clear + totals.listed ≡ pair_count t.n = h.all ∙ all_same n ∙ ap pair_count (sym e) in
    let clear : totals.clear ≡ pair_count t.n - set_pairs t - length pairs = (let l = h.listed in omega (arith, all, set, l)) in
    (λ i. counted (sym e i) (set i) (clear i) (h.listed i))
