-- How many findings of each kind a table and its list make.
use Rattle.std.proofs.Common.{◌≡◌, ◌≢◌, ◌∙◌, ℕ, zero, suc, ◌+◌, ◌-◌, ◌*◌, ◌/◌, ◌<◌, ◌≤◌, ◌⊎◌, inl, inr, ◌==◌, ◌||◌, Bool, true, false, cond, List, [], ◌∷◌, map, length, refl, sym, ap, arith, Contains, flat_map}
use Rattle.std.specs.List.{AllByRecursion, count_by, range_with_len, sum_by}
use Rattle.std.proofs.lemmas.Bool.{true≢false}
use Rattle.std.proofs.lemmas.List.{length-append, length-map}
use Rattle.std.proofs.lemmas.List.FromFn.{length-map-range_with_len}
use Rattle.std.proofs.lemmas.List.Sums.{sum_by-append, sum_by-cons}
use Rattle.math_base.proofs.Bools.{both_true, one_true}
use Rattle.math_base.proofs.Lists.{contains_here, contains_there}
use Rattle.math_base.proofs.Numbers.{same_or_not, tells_other, tells_same}
use Rattle.sight_names.specs.declared.names.Pair.{Pair}
use Rattle.sight_names.specs.Order.{Ascends, PairBefore}
use Rattle.sight_names.specs.Table.{table_bit}
use Rattle.sight_names.proofs.Lists.{ascends_head, ascends_tail}
use Rattle.listeners.specs.declared.finding.Finding.{Finding}
use Rattle.listeners.specs.declared.finding.Kind.{Kind}
use Rattle.listeners.specs.declared.finding.Kind.TheVariants as kind
use Rattle.reject_bits.specs.Parts.{TableParts}
use Rattle.listeners.specs.Findings.{all_pairs_of, pairs_in_row_from}
use Rattle.listeners.specs.Listening.{clears_in, is_clear_kind, is_listed_kind, is_set_kind, lists_in, sets_in}
use Rattle.listeners.specs.PairFindings.Counted.{FindingsAreCounted}
use Rattle.listeners.specs.PairFindings.Found.{IsPairBelow, finding_of_pair, findings_of, is_pair_listed, is_pair, kind_by, pair}
use Rattle.listeners.proofs.PairFindings.Places.{is_other, its_first, its_second}

-- ---- counts

count_first : {X : Type 0} (p : X → Bool) (x : X) (xs : List X) → count_by p (x ∷ xs) ≡ cond (p x) 1 0 + count_by p xs
count_first p x xs = sum_by-cons (λ y. cond (p y) 1 0) x xs

-- two tests that agree
count_same : {X Y : Type 0} (p : Y → Bool) (q : X → Bool) (f : X → Y) → ((x : X) → p (f x) ≡ q x) → (xs : List X) → count_by p (map f xs) ≡ count_by q xs
count_same p q f h [] = refl
count_same p q f h (x ∷ xs) =
    let here : ◌≡◌ {A = ℕ} (cond (p (f x)) 1 0) (cond (q x) 1 0) = ap (λ (b : Bool). cond b 1 0) (h x) in
    omega (arith, count_first p (f x) (map f xs), count_first q x xs, here, count_same p q f h xs)

-- a test that passes where just one of two others does
count_either : {X : Type 0} (p q r : X → Bool) → ((x : X) → cond (p x) 1 0 ≡ cond (q x) 1 0 + cond (r x) 1 0) → (xs : List X) → count_by p xs ≡ count_by q xs + count_by r xs
count_either p q r h [] = refl
count_either p q r h (x ∷ xs) = omega (arith, count_first p x xs, count_first q x xs, count_first r x xs, h x, count_either p q r h xs)

count_none : {X : Type 0} (p : X → Bool) → ((x : X) → p x ≡ false) → (xs : List X) → count_by p xs ≡ 0
count_none p h [] = refl
count_none p h (x ∷ xs) =
    let here : ◌≡◌ {A = ℕ} (cond (p x) 1 0) 0 = ap (λ (b : Bool). cond b 1 0) (h x) in
    omega (arith, count_first p x xs, here, count_none p h xs)

count_flat : {X Y : Type 0} (p : Y → Bool) (f : X → List Y) (xs : List X) → count_by p (flat_map f xs) ≡ sum_by (λ x. count_by p (f x)) xs
count_flat p f [] = refl
count_flat p f (x ∷ xs) = sum_by-append (λ y. cond (p y) 1 0) (f x) (flat_map f xs) ∙ ap (λ (k : ℕ). count_by p (f x) + k) (count_flat p f xs) ∙ sym (sum_by-cons (λ y. count_by p (f y)) x xs)

-- ---- a term that is 0 but at one number

module _ (f : ℕ → ℕ) (q : ℕ) (none : (k : ℕ) → k ≢ q → f k ≡ 0) where
  sum_beside : (a n : ℕ) → (q < a) ⊎ (a + n ≤ q) → sum_by f (range_with_len a n) ≡ 0
  sum_beside a zero h = refl
  sum_beside a (suc n) h =
      let here : f a ≡ 0 = none a (beside a n h) in
      omega (arith, sum_by-cons f a (range_with_len (a + 1) n), here, sum_beside (a + 1) n (next a n h))
    where
      beside : (a n : ℕ) → (q < a) ⊎ (a + suc n ≤ q) → a ≢ q
      beside a n h e = omega arith

      next : (a n : ℕ) → (q < a) ⊎ (a + suc n ≤ q) → (q < a + 1) ⊎ (a + 1 + n ≤ q)
      next a n h = elim h [ inl l ↦ inl (omega arith) | inr l ↦ inr (omega arith) ]

  sum_at : (a n : ℕ) → a ≤ q → q < a + n → sum_by f (range_with_len a n) ≡ f q
  sum_at a zero le lt = absurd (omega arith)
  sum_at a (suc n) le lt = elim (same_or_not a q) [
    | inl e ↦ omega (arith, sum_by-cons f a (range_with_len (a + 1) n), ap f e, sum_beside (a + 1) n (inl (omega (arith, e))))
    | inr other ↦ omega (arith, sum_by-cons f a (range_with_len (a + 1) n), none a other, sum_at (a + 1) n (omega arith) (omega arith))
  ]

-- ---- one pair among all

module _ (q : Pair) where
  abbrev row_count : ℕ → ℕ → ℕ
  row_count n a = count_by (λ b. is_pair a b q) (range_with_len a (n - a))

  other_row : (n a : ℕ) → a ≢ q.a → row_count n a ≡ 0
  other_row n a other = count_none (λ b. is_pair a b q) (λ b. is_other a b q (λ e f. other (sym e))) (range_with_len a (n - a))

  its_row : (n : ℕ) → q.a < q.b → q.b < n → row_count n q.a ≡ 1
  its_row n order within =
      sum_at (λ b. cond (is_pair q.a b q) 1 0) q.b (λ b other. ap (λ (x : Bool). cond x 1 0) (is_other q.a b q (λ e f. other (sym f)))) q.a (n - q.a) (omega arith) (omega arith)
      ∙ ap (λ (x : Bool). cond x 1 0) (both_true (q.a == q.a) (q.b == q.b) (tells_same q.a q.a refl) (tells_same q.b q.b refl))

  count_one : (n : ℕ) → q.a < q.b → q.b < n → count_by (λ (p : Pair). is_pair p.a p.b q) (all_pairs_of n) ≡ 1
  count_one n order within =
      count_flat (λ (p : Pair). is_pair p.a p.b q) (pairs_in_row_from n) (range_with_len 0 n)
      ∙ sum_rows (range_with_len 0 n)
      ∙ sum_at (row_count n) q.a (other_row n) 0 n (omega arith) (omega arith)
      ∙ its_row n order within
    where
      row : (a : ℕ) → count_by (λ (p : Pair). is_pair p.a p.b q) (pairs_in_row_from n a) ≡ row_count n a
      row a = count_same (λ (p : Pair). is_pair p.a p.b q) (λ b. is_pair a b q) (pair a) (λ b. refl) (range_with_len a (n - a))

      sum_rows : (xs : List ℕ) → sum_by (λ a. count_by (λ (p : Pair). is_pair p.a p.b q) (pairs_in_row_from n a)) xs ≡ sum_by (row_count n) xs
      sum_rows [] = refl
      sum_rows (x ∷ xs) = omega (arith, sum_by-cons (λ a. count_by (λ (p : Pair). is_pair p.a p.b q) (pairs_in_row_from n a)) x xs, sum_by-cons (row_count n) x xs, row x, sum_rows xs)

-- ---- the listed ones among all

pub listed_there : (a b : ℕ) (ps : List Pair) → is_pair_listed ps a b ≡ true → (p : Pair) × Contains ps p × (p.a ≡ a) × (p.b ≡ b)
listed_there a b [] e = absurd cc
listed_there a b (p ∷ ps) e = elim (one_true (is_pair a b p) (is_pair_listed ps a b) e) [
  | inl here ↦ (p, contains_here p ps, its_first a b p here, its_second a b p here)
  | inr there ↦ (let h = listed_there a b ps there in (h.0, contains_there h.0 p ps h.1, h.2, h.3))
]

either_counts : (x y : Bool) → (x ≡ true → y ≡ true → ⊥) → cond (x || y) 1 0 ≡ cond x 1 0 + cond y 1 0
either_counts true true h = absurd (h refl refl)
either_counts true false h = refl
either_counts false true h = refl
either_counts false false h = refl

not_again : (p q r : Pair) → PairBefore q r → q.a ≡ p.a → q.b ≡ p.b → r.a ≡ p.a → r.b ≡ p.b → ⊥
not_again p q r h = numbers q.a q.b r.a r.b p.a p.b h
  where
    numbers : (a b c d e f : ℕ) → (a < c) ⊎ ((a ≡ c) × (b < d)) → a ≡ e → b ≡ f → c ≡ e → d ≡ f → ⊥
    numbers a b c d e f h s t u v = omega arith

count_listed : (n : ℕ) (listed : List Pair) → Ascends PairBefore listed → AllByRecursion (IsPairBelow n) listed → count_by (λ (p : Pair). is_pair_listed listed p.a p.b) (all_pairs_of n) ≡ length listed
count_listed n [] up pairs = count_none (λ (p : Pair). is_pair_listed [] p.a p.b) (λ p. refl) (all_pairs_of n)
count_listed n (q ∷ qs) up pairs =
    let both = count_either (λ (p : Pair). is_pair_listed (q ∷ qs) p.a p.b) (λ (p : Pair). is_pair p.a p.b q) (λ (p : Pair). is_pair_listed qs p.a p.b) (λ p. either_counts (is_pair p.a p.b q) (is_pair_listed qs p.a p.b) (once p)) (all_pairs_of n) in
    let one = count_one q n pairs.0.0 pairs.0.1 in
    let others = count_listed n qs (ascends_tail PairBefore q qs up) pairs.1 in
    omega (arith, both, one, others)
  where
    once : (p : Pair) → is_pair p.a p.b q ≡ true → is_pair_listed qs p.a p.b ≡ true → ⊥
    once p here there =
        let h = listed_there p.a p.b qs there in
        not_again p q h.0 (ascends_head PairBefore q h.0 qs up h.1) (its_first p.a p.b q here) (its_second p.a p.b q here) h.2 h.3

-- ---- how many pairs there are

triangle : (n a k : ℕ) → a + k ≡ n → 2 * length (flat_map (pairs_in_row_from n) (range_with_len a k)) ≡ k * (k + 1)
triangle n a zero e = refl
triangle n a (suc k) e =
    let row : length (pairs_in_row_from n a) ≡ suc k = length-map-range_with_len (pair a) a (n - a) ∙ (omega (arith, e)) in
    let rest = triangle n (a + 1) k (omega (arith, e)) in
    let both = length-append (pairs_in_row_from n a) (flat_map (pairs_in_row_from n) (range_with_len (a + 1) k)) in
    let square : suc k * (suc k + 1) ≡ k * (k + 1) + 2 * suc k = omega arith in
    omega (arith, both, row, rest, square)

count_pairs : (n : ℕ) → length (all_pairs_of n) ≡ n * (n + 1) / 2
count_pairs n = half (length (all_pairs_of n)) (n * (n + 1)) (triangle n 0 n (omega arith))
  where
    half : (x y : ℕ) → 2 * x ≡ y → x ≡ y / 2
    half x y e = omega (arith, e)

-- a row at a time
pub sets_by_rows : (t : TableParts) → count_by (λ (p : Pair). table_bit t.bytes (p.a * t.n + p.b) == 1) (all_pairs_of t.n) ≡ sum_by (λ a. count_by (λ b. table_bit t.bytes (a * t.n + b) == 1) (range_with_len a (t.n - a))) (range_with_len 0 t.n)
sets_by_rows t = count_flat (λ (p : Pair). table_bit t.bytes (p.a * t.n + p.b) == 1) (pairs_in_row_from t.n) (range_with_len 0 t.n) ∙ rows (range_with_len 0 t.n)
  where
    row : (a : ℕ) → count_by (λ (p : Pair). table_bit t.bytes (p.a * t.n + p.b) == 1) (pairs_in_row_from t.n a) ≡ count_by (λ b. table_bit t.bytes (a * t.n + b) == 1) (range_with_len a (t.n - a))
    row a = count_same (λ (p : Pair). table_bit t.bytes (p.a * t.n + p.b) == 1) (λ b. table_bit t.bytes (a * t.n + b) == 1) (pair a) (λ b. refl) (range_with_len a (t.n - a))

    rows : (xs : List ℕ) → sum_by (λ a. count_by (λ (p : Pair). table_bit t.bytes (p.a * t.n + p.b) == 1) (pairs_in_row_from t.n a)) xs ≡ sum_by (λ a. count_by (λ b. table_bit t.bytes (a * t.n + b) == 1) (range_with_len a (t.n - a))) xs
    rows [] = refl
    rows (x ∷ xs) = omega (arith, sum_by-cons (λ a. count_by (λ (p : Pair). table_bit t.bytes (p.a * t.n + p.b) == 1) (pairs_in_row_from t.n a)) x xs, sum_by-cons (λ a. count_by (λ b. table_bit t.bytes (a * t.n + b) == 1) (range_with_len a (t.n - a))) x xs, row x, rows xs)

-- ---- the findings

set_by : (l s : Bool) → (l ≡ true → s ≡ false) → is_set_kind (kind_by l s) ≡ s
set_by true true h = absurd (true≢false (h refl))
set_by true false h = refl
set_by false true h = refl
set_by false false h = refl

listed_by : (l s : Bool) → is_listed_kind (kind_by l s) ≡ l
listed_by true s = refl
listed_by false true = refl
listed_by false false = refl

one_kind : (k : Kind) → cond (is_set_kind k) 1 0 + cond (is_clear_kind k) 1 0 + cond (is_listed_kind k) 1 0 ≡ 1
one_kind kind.Clear = refl
one_kind kind.Set = refl
one_kind kind.Listed = refl

pub all_kinds : (fs : List Finding) → sets_in fs + clears_in fs + lists_in fs ≡ length fs
all_kinds [] = refl
all_kinds (f ∷ fs) =
    omega (arith, count_first (λ (g : Finding). is_set_kind g.kind) f fs, count_first (λ (g : Finding). is_clear_kind g.kind) f fs, count_first (λ (g : Finding). is_listed_kind g.kind) f fs, one_kind f.kind, all_kinds fs)

pub findings_are_counted : FindingsAreCounted
findings_are_counted t listed up pairs clear = record {
  sets = count_same (λ (f : Finding). is_set_kind f.kind) (λ (p : Pair). table_bit t.bytes (p.a * t.n + p.b) == 1) (finding_of_pair t listed) (λ p. set_by (is_pair_listed listed p.a p.b) (table_bit t.bytes (p.a * t.n + p.b) == 1) (not_set p)) (all_pairs_of t.n);
  lists = count_same (λ (f : Finding). is_listed_kind f.kind) (λ (p : Pair). is_pair_listed listed p.a p.b) (finding_of_pair t listed) (λ p. listed_by (is_pair_listed listed p.a p.b) (table_bit t.bytes (p.a * t.n + p.b) == 1)) (all_pairs_of t.n) ∙ count_listed t.n listed up pairs;
  all = all_kinds (findings_of t listed) ∙ length-map (all_pairs_of t.n) (finding_of_pair t listed) ∙ count_pairs t.n;
}
  where
    not_set : (p : Pair) → is_pair_listed listed p.a p.b ≡ true → (table_bit t.bytes (p.a * t.n + p.b) == 1) ≡ false
    not_set p there =
        let h = listed_there p.a p.b listed there in
        tells_other (table_bit t.bytes (p.a * t.n + p.b)) 1 (λ e. clear h.0 h.1 (ap (λ (k : ℕ). table_bit t.bytes (k * t.n + h.0.b)) h.2 ∙ ap (λ (k : ℕ). table_bit t.bytes (p.a * t.n + k)) h.3 ∙ e))
