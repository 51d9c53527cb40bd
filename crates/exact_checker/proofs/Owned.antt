-- Ranks, and the row of what a group owns, word by word.
use Rattle.std.proofs.Common.{◌≡◌, ◌≢◌, ℕ, zero, suc, ◌+◌, ◌-◌, ◌*◌, ◌/◌, ◌%◌, ◌^◌, ◌<◌, ◌≤◌, min, max, ◌⊎◌, ◌↔◌, inl, inr, List, [], ◌∷◌, ◌++◌, length, get_or, Some, Bool, true, false, not, ◌==◌, ◌&&◌, ◌||◌, slice_index, slice_set, bit_and, bit_or, refl, sym, ◌∙◌, ap, subst, arith}
use Rattle.std.specs.Cmp.{both_ways}
use Rattle.std.specs.List.{slice_get}
use Rattle.std.specs.Int.{bit_at, bit_not, w64}
use Rattle.std.specs.Int.Count.{ones}
use Rattle.std.specs.Prelude.{nat_lt}
use Rattle.std.proofs.Math.Nat.{pow-suc}
use Rattle.std.proofs.lemmas.Bool.{ltb-true, lt-ltb}
use Rattle.std.proofs.lemmas.List.{get_or-set_same, get_or-set_other}
use Rattle.std.proofs.lemmas.Nat.{ones_cat, ones_le_self, zero_from_ones}
use Rattle.std.proofs.lemmas.Nat.Bits.{bit_at-lt, bit_at_lowest, bit_at-suc, bit_at-zero, bit_at_and, bit_at_not, bit_at_or, bit_at_set_same, bit_at_set_other}
use Rattle.std.proofs.lemmas.Option.{get_or_from_slice_get}
use Rattle.sight_names.specs.declared.names.PairRay.{PairRay}
use Rattle.math_base.proofs.Bools.{both_true, first_true, second_true, one_true, true_by_first, true_by_second, false_of_not, false_where_not_true, not_both_values}
use Rattle.math_base.proofs.Lists.{get_there, length_pushed, pushed_at}
use Rattle.math_base.proofs.Numbers.{same_or_not, tells_same, tells_other, is_told_same, below_or_not}
use Rattle.gate_floods.specs.Bits.{bits_from, count_bits, is_joined, rank_of, ranks_before}
use Rattle.gate_floods.specs.declared.gate_masks.masks.Row.{Row}
use Rattle.gate_floods.specs.GateMasks.Words.{HasBit, AreBitsOf}
use Rattle.gate_floods.specs.GateMasks.Masks.{IsInRowOf}
use Rattle.gate_floods.specs.RowJudge.Words.{is_in}
use Rattle.exact_checker.specs.Rows.{AreJoinedRows}
use Rattle.exact_checker.specs.Owning.{rank_at, AreRanks, RanksBehind, IsOwnedBit, KnowsOwning, OwningParts, RanksFrom}

-- ---- counting

abbrev one_if : Bool → ℕ
one_if true = 1
one_if false = 0

few_if : (b : Bool) → one_if b ≤ 1
few_if true = omega arith
few_if false = omega arith

count_one : (b : Bool) (bs : List Bool) → count_bits (b ∷ bs) ≡ one_if b + count_bits bs
count_one true bs = refl
count_one false bs = omega arith

count_both : (test : ℕ → Bool) (k m n : ℕ) → count_bits (bits_from test k (m + n)) ≡ count_bits (bits_from test k m) + count_bits (bits_from test (k + m) n)
count_both test k zero n =
    let none : zero + n ≡ n = omega arith in
    let here : k + zero ≡ k = omega arith in
    let whole : count_bits (bits_from test k (zero + n)) ≡ count_bits (bits_from test k n) = ap (λ (j : ℕ). count_bits (bits_from test k j)) none in
    let behind : count_bits (bits_from test (k + zero) n) ≡ count_bits (bits_from test k n) = ap (λ (j : ℕ). count_bits (bits_from test j n)) here in
    omega (arith, whole, behind)
count_both test k (suc m) n =
    let more : suc m + n ≡ suc (m + n) = omega arith in
    let there : suc k + m ≡ k + suc m = omega arith in
    let rest : count_bits (bits_from test (suc k) (m + n)) ≡ count_bits (bits_from test (suc k) m) + count_bits (bits_from test (suc k + m) n) = count_both test (suc k) m n in
    let whole : count_bits (bits_from test k (suc m + n)) ≡ one_if (test k) + count_bits (bits_from test (suc k) (m + n)) = ap (λ (j : ℕ). count_bits (bits_from test k j)) more ∙ count_one (test k) (bits_from test (suc k) (m + n)) in
    let part : count_bits (bits_from test k (suc m)) ≡ one_if (test k) + count_bits (bits_from test (suc k) m) = count_one (test k) (bits_from test (suc k) m) in
    let behind : count_bits (bits_from test (suc k + m) n) ≡ count_bits (bits_from test (k + suc m) n) = ap (λ (j : ℕ). count_bits (bits_from test j n)) there in
    omega (arith, rest, whole, part, behind)

count_none : (test : ℕ → Bool) (k n : ℕ) → ((i : ℕ) → k ≤ i → test i ≡ false) → count_bits (bits_from test k n) ≡ 0
count_none test k zero none = refl
count_none test k (suc n) none =
    let rest : count_bits (bits_from test (suc k) n) ≡ 0 = count_none test (suc k) n (λ i l. none i (omega (arith, l))) in
    let first : one_if (test k) ≡ 0 = ap one_if (none k (omega arith)) in
    let whole : count_bits (bits_from test k (suc n)) ≡ one_if (test k) + count_bits (bits_from test (suc k) n) = count_one (test k) (bits_from test (suc k) n) in
    omega (arith, rest, first, whole)

count_few : (test : ℕ → Bool) (k n : ℕ) → count_bits (bits_from test k n) ≤ n
count_few test k zero = omega arith
count_few test k (suc n) =
    let rest : count_bits (bits_from test (suc k) n) ≤ n = count_few test (suc k) n in
    let first : one_if (test k) ≤ 1 = few_if (test k) in
    let whole : count_bits (bits_from test k (suc n)) ≡ one_if (test k) + count_bits (bits_from test (suc k) n) = count_one (test k) (bits_from test (suc k) n) in
    omega (arith, rest, first, whole)

same_tests : (test other : ℕ → Bool) (k n : ℕ) → ((i : ℕ) → k ≤ i → i < k + n → test i ≡ other i) → bits_from test k n ≡ bits_from other k n
same_tests test other k zero same = refl
same_tests test other k (suc n) same = λ j. same k (omega arith) (omega arith) j ∷ same_tests test other (suc k) n (λ i low high. same i (omega (arith, low)) (omega (arith, high))) j

-- ---- the ones of a word

no_ones : (w : ℕ) → w ≡ 0 → ones w ≡ 0
no_ones w e = let l : ones w ≤ w = ones_le_self w in omega (arith, l, e)

one_one : ones 1 ≡ 1
one_one = elim (same_or_not (ones 1) 0) as (λ _. ones 1 ≡ 1) [
  | inl e ↦ (let z : 1 ≡ 0 = zero_from_ones 1 e in absurd (omega (arith, z)))
  | inr n ↦ (let l : ones 1 ≤ 1 = ones_le_self 1 in omega (arith, l, n))
]

low_one : (w : ℕ) → one_if (w % 2 == 1) ≡ ones (w % 2)
low_one w = elim (same_or_not (w % 2) 1) as (λ _. one_if (w % 2 == 1) ≡ ones (w % 2)) [
  | inl e ↦ ap one_if (tells_same (w % 2) 1 e) ∙ sym (ap ones e ∙ one_one)
  | inr n ↦ ap one_if (tells_other (w % 2) 1 n) ∙ sym (no_ones (w % 2) (omega (arith, n)))
]

-- from k on the test tells the n bits of the number
ones_counted : (test : ℕ → Bool) (n w k : ℕ) → w < 2 ^ n → ((i : ℕ) → i < n → test (k + i) ≡ (bit_at w i == 1)) → count_bits (bits_from test k n) ≡ ones w
ones_counted test zero w k small same = sym (no_ones w (omega (arith, small)))
ones_counted test (suc n) w k small same =
    let half : w / 2 < 2 ^ n = omega (arith, pow-suc 2 n, small) in
    let here : k + 0 ≡ k = omega arith in
    let low : test k ≡ (w % 2 == 1) = sym (ap test here) ∙ same 0 (omega arith) ∙ ap (λ (b : ℕ). b == 1) (bit_at_lowest w) in
    let first : one_if (test k) ≡ ones (w % 2) = ap one_if low ∙ low_one w in
    let rest : count_bits (bits_from test (suc k) n) ≡ ones (w / 2) = ones_counted test n (w / 2) (suc k) half (λ i l. ap test (next k i) ∙ same (suc i) (omega (arith, l)) ∙ ap (λ (b : ℕ). b == 1) (bit_at-suc w i)) in
    let counted : count_bits (bits_from test k (suc n)) ≡ one_if (test k) + count_bits (bits_from test (suc k) n) = count_one (test k) (bits_from test (suc k) n) in
    let split : w / 2 * 2 ^ 1 + w % 2 ≡ w = omega arith in
    let parts : ones w ≡ ones (w / 2) + ones (w % 2) = ap ones (sym split) ∙ ones_cat 1 (w / 2) (w % 2) (omega arith) in
    omega (arith, first, rest, counted, parts)
  where
    next : (k i : ℕ) → suc k + i ≡ k + suc i
    next k i = omega arith

place_of : (k i : ℕ) → i < 64 → ((64 * k + i) / 64 ≡ k) × ((64 * k + i) % 64 ≡ i)
place_of k i l = (omega (arith, l), omega (arith, l))

word_counted : (ws : List ℕ) (k w : ℕ) → w < 2 ^ 64 → slice_index ws k ≡ w → count_bits (bits_from (is_in ws) (64 * k) 64) ≡ ones w
word_counted ws k w small at = ones_counted (is_in ws) 64 w (64 * k) small (λ i l. let p = place_of k i l in (λ j. bit_at (slice_index ws (p.0 j)) (p.1 j) == 1) ∙ ap (λ (x : ℕ). bit_at x i == 1) at)

-- what a sum that stands still at its greatest number has of the first words
pub count_more : (ws : List ℕ) (k w most found new : ℕ) → w < 2 ^ 64 → slice_index ws k ≡ w → found ≡ min (count_bits (bits_from (is_in ws) 0 (64 * k))) most → new ≡ min (found + ones w) most → new ≡ min (count_bits (bits_from (is_in ws) 0 (64 * (k + 1)))) most
count_more ws k w most found new small at e is =
    let next : 64 * k + 64 ≡ 64 * (k + 1) = omega arith in
    let there : 0 + 64 * k ≡ 64 * k = omega arith in
    let whole : count_bits (bits_from (is_in ws) 0 (64 * k + 64)) ≡ count_bits (bits_from (is_in ws) 0 (64 * k)) + count_bits (bits_from (is_in ws) (0 + 64 * k) 64) = count_both (is_in ws) 0 (64 * k) 64 in
    let last : count_bits (bits_from (is_in ws) (0 + 64 * k) 64) ≡ ones w = ap (λ (j : ℕ). count_bits (bits_from (is_in ws) j 64)) there ∙ word_counted ws k w small at in
    let same : count_bits (bits_from (is_in ws) 0 (64 * (k + 1))) ≡ count_bits (bits_from (is_in ws) 0 (64 * k + 64)) = ap (λ (j : ℕ). count_bits (bits_from (is_in ws) 0 j)) (sym next) in
    omega (arith, e, is, whole, last, same)

-- ---- bits as tests

pub is_in_of : (ws : List ℕ) (c : ℕ) → HasBit ws c → is_in ws c ≡ true
is_in_of ws c h = tells_same (bit_at (slice_index ws (c / 64)) (c % 64)) 1 h

pub of_is_in : (ws : List ℕ) (c : ℕ) → is_in ws c ≡ true → HasBit ws c
of_is_in ws c h = is_told_same (bit_at (slice_index ws (c / 64)) (c % 64)) 1 h

-- ---- ranks

module _ (n : ℕ) (rays : List PairRay) (rows : List Row) (all : AreJoinedRows n rays rows) where
  -- below n the row of a group has the bits of what is joined with it
  joined_bit : (f : ℕ) (r : Row) → slice_get rows f ≡ Some r → (k : ℕ) → k < n → is_in r.words.items k ≡ is_joined rays f k
  joined_bit f r at k lt = both_ways (is_in r.words.items k) (is_joined rays f k) (λ h. ((all.bits f r at k).0 (of_is_in r.words.items k h)).1) (λ h. is_in_of r.words.items k ((all.bits f r at k).1 (lt, h)))

  joined_told : (f k : ℕ) → IsInRowOf rows f k → is_joined rays f k ≡ true
  joined_told f k w = ((all.bits f w.0 w.1 k).0 w.2).1

  joined_tells : (f k : ℕ) → f < n → k < n → is_joined rays f k ≡ true → IsInRowOf rows f k
  joined_tells f k low low_too h = (row.0, row.1, (all.bits f row.0 row.1 k).1 (low_too, h))
    where
      row : (r : Row) × (slice_get rows f ≡ Some r)
      row = get_there rows f (let l = all.len in omega (arith, low, l))

  -- it has no others
  none_beyond : (f : ℕ) (r : Row) → slice_get rows f ≡ Some r → (k : ℕ) → n ≤ k → is_in r.words.items k ≡ false
  none_beyond f r at k high = false_where_not_true (is_in r.words.items k) (λ h. let l : k < n = ((all.bits f r at k).0 (of_is_in r.words.items k h)).0 in omega (arith, l, high))

  pub rank_is : (f : ℕ) (r : Row) (found : ℕ) → n ≤ 65535 → slice_get rows f ≡ Some r → found ≡ min (count_bits (bits_from (is_in r.words.items) 0 (64 * length r.words.items))) 65535 → found ≡ rank_of rays n f
  rank_is f r found few at e =
      let test = is_in r.words.items in
      let size = 64 * length r.words.items in
      let room : n ≤ 64 * length r.words.items = all.room f r at in
      let parts : n + (size - n) ≡ size = omega (arith, room) in
      let whole : count_bits (bits_from test 0 size) ≡ count_bits (bits_from test 0 n) + count_bits (bits_from test (0 + n) (size - n)) = ap (λ (j : ℕ). count_bits (bits_from test 0 j)) (sym parts) ∙ count_both test 0 n (size - n) in
      let behind : count_bits (bits_from test (0 + n) (size - n)) ≡ 0 = count_none test (0 + n) (size - n) (λ i low. none_beyond f r at i (omega (arith, low))) in
      let within : count_bits (bits_from test 0 n) ≤ n = count_few test 0 n in
      let rank : count_bits (bits_from test 0 n) ≡ rank_of rays n f = ap count_bits (same_tests test (is_joined rays f) 0 n (λ i low high. joined_bit f r at i (omega (arith, high)))) in
      omega (arith, few, e, whole, behind, within, rank)

-- the first m groups have their ranks
pub record RanksBelow (n m : ℕ) (rays : List PairRay) (ranks : List ℕ) : Type 0 where
  pub len : length ranks ≡ m
  pub each : (f r : ℕ) → slice_get ranks f ≡ Some r → r ≡ rank_of rays n f

pub ranks_more : (n m : ℕ) (rays : List PairRay) (ranks : List ℕ) (r : ℕ) → RanksBelow n m rays ranks → r ≡ rank_of rays n m → RanksBelow n (m + 1) rays (ranks ++ r ∷ [])
ranks_more n m rays ranks r all is = record {
  len = let e = length_pushed ranks r in let l = all.len in omega (arith, e, l);
  each = λ f s at. elim (pushed_at ranks r s f at) as (λ _. s ≡ rank_of rays n f) [
    | inl h ↦ all.each f s h
    | inr (e, same) ↦ sym same ∙ is ∙ ap (rank_of rays n) (sym (e ∙ all.len))
  ];
}

pub ranks_all : (n m : ℕ) (rays : List PairRay) (ranks : List ℕ) → m ≡ n → RanksBelow n m rays ranks → AreRanks n rays ranks
ranks_all n m rays ranks e all = record {
  len = all.len ∙ e;
  each = λ f lt. let w = get_there ranks f (let l = all.len in omega (arith, lt, l, e)) in w.1 ∙ ap (λ (x : ℕ). Some x) (all.each f w.0 w.1);
}

-- ---- who owns

ranks_same : (rank other : ℕ → ℕ) (f k : ℕ) → rank f ≡ other f → rank k ≡ other k → ranks_before rank f k ≡ ranks_before other f k
ranks_same rank other f k e h = λ i. nat_lt (e i) (h i) || (e i == h i && nat_lt f k)

rank_told : (n : ℕ) (rays : List PairRay) (ranks : List ℕ) → AreRanks n rays ranks → (f : ℕ) → f < n → rank_at ranks f ≡ rank_of rays n f
rank_told n rays ranks are f lt = get_or_from_slice_get ranks f (rank_of rays n f) 0 (are.each f lt)

-- the numbers from one on to another, and the others of the word: each has its bit by its rank
module _ (known : OwningParts) (f first end middle rank component low high both : ℕ) (is_middle : middle ≡ min (max (f + 1) first) end) (is_end : end ≡ min (first + 64) known.count)
    (is_rank : rank ≡ rank_at known.ranks f) (is_component : component ≡ get_or known.components f 0)
    (smaller : (i : ℕ) → (bit_at low i ≡ 1) ↔ ((first ≤ first + i) × (first + i < middle) × RanksFrom known component (rank + 1) (first + i)))
    (greater : (i : ℕ) → (bit_at high i ≡ 1) ↔ ((middle ≤ first + i) × (first + i < end) × RanksFrom known component rank (first + i)))
    (is_both : both ≡ bit_or low high) where
  either_bit : (x y : ℕ) → x < 2 → y < 2 → max x y ≡ 1 → (x ≡ 1) ⊎ (y ≡ 1)
  either_bit x y l r e = elim (same_or_not x 1) as (λ _. (x ≡ 1) ⊎ (y ≡ 1)) [ inl h ↦ inl h | inr n ↦ inr (omega (arith, l, r, e, n)) ]

  bit_of_both : (i : ℕ) → bit_at both i ≡ max (bit_at low i) (bit_at high i)
  bit_of_both i = ap (λ (x : ℕ). bit_at x i) is_both ∙ bit_at_or low high i

  in_either : (i : ℕ) → (bit_at low i ≡ 1) ⊎ (bit_at high i ≡ 1) → bit_at both i ≡ 1
  in_either i (inl h) = bit_of_both i ∙ (let l : bit_at high i < 2 = bit_at-lt high i in omega (arith, h, l))
  in_either i (inr h) = bit_of_both i ∙ (let l : bit_at low i < 2 = bit_at-lt low i in omega (arith, h, l))

  before : (k : ℕ) → (rank_at known.ranks f < rank_at known.ranks k) ⊎ ((rank_at known.ranks f ≡ rank_at known.ranks k) × (f < k)) → ranks_before (rank_at known.ranks) f k ≡ true
  before k (inl l) = true_by_first (nat_lt (rank_at known.ranks f) (rank_at known.ranks k)) (rank_at known.ranks f == rank_at known.ranks k && nat_lt f k) (lt-ltb (rank_at known.ranks f) (rank_at known.ranks k) l)
  before k (inr (e, l)) = true_by_second (nat_lt (rank_at known.ranks f) (rank_at known.ranks k)) (rank_at known.ranks f == rank_at known.ranks k && nat_lt f k)
      (both_true (rank_at known.ranks f == rank_at known.ranks k) (nat_lt f k) (tells_same (rank_at known.ranks f) (rank_at known.ranks k) e) (lt-ltb f k l))

  is_before : (k : ℕ) → ranks_before (rank_at known.ranks) f k ≡ true → (rank_at known.ranks f < rank_at known.ranks k) ⊎ ((rank_at known.ranks f ≡ rank_at known.ranks k) × (f < k))
  is_before k h = elim (one_true (nat_lt (rank_at known.ranks f) (rank_at known.ranks k)) (rank_at known.ranks f == rank_at known.ranks k && nat_lt f k) h) as (λ _. (rank_at known.ranks f < rank_at known.ranks k) ⊎ ((rank_at known.ranks f ≡ rank_at known.ranks k) × (f < k))) [
    | inl l ↦ inl (ltb-true (rank_at known.ranks f) (rank_at known.ranks k) l)
    | inr e ↦ inr (is_told_same (rank_at known.ranks f) (rank_at known.ranks k) (first_true (rank_at known.ranks f == rank_at known.ranks k) (nat_lt f k) e), ltb-true f k (second_true (rank_at known.ranks f == rank_at known.ranks k) (nat_lt f k) e))
  ]

  not_less : (x y : ℕ) → x ≤ y → (x < y) ⊎ (x ≡ y)
  not_less x y l = elim (same_or_not x y) as (λ _. (x < y) ⊎ (x ≡ y)) [ inl e ↦ inr e | inr n ↦ inl (omega (arith, l, n)) ]

  to : (i : ℕ) → bit_at both i ≡ 1 → RanksBehind known f (first + i)
  to i h = elim (either_bit (bit_at low i) (bit_at high i) (bit_at-lt low i) (bit_at-lt high i) (sym (bit_of_both i) ∙ h)) as (λ _. RanksBehind known f (first + i)) [
    | inl b ↦ (let w = (smaller i).0 b in let l : first + i < middle = w.1 in let r : rank + 1 ≤ rank_at known.ranks (first + i) = w.2.1 in
        (omega (arith, l, is_middle, is_end), w.2.0 ∙ is_component, before (first + i) (inl (omega (arith, r, is_rank)))))
    | inr b ↦ (let w = (greater i).0 b in let m : middle ≤ first + i = w.0 in let l : first + i < end = w.1 in let r : rank ≤ rank_at known.ranks (first + i) = w.2.1 in (
      omega (arith, l, is_end),
      w.2.0 ∙ is_component,
      before (first + i) (elim (not_less (rank_at known.ranks f) (rank_at known.ranks (first + i)) (omega (arith, r, is_rank))) as (λ _. (rank_at known.ranks f < rank_at known.ranks (first + i)) ⊎ ((rank_at known.ranks f ≡ rank_at known.ranks (first + i)) × (f < first + i))) [
        | inl s ↦ inl s
        | inr e ↦ inr (e, omega (arith, m, l, is_middle))
      ]),
    ))
  ]

  back : (i : ℕ) → i < 64 → RanksBehind known f (first + i) → bit_at both i ≡ 1
  back i small (low_k, same, h) = in_either i (elim (below_or_not (first + i) middle) as (λ _. (bit_at low i ≡ 1) ⊎ (bit_at high i ≡ 1)) [
    | inl l ↦ inl ((smaller i).1 (omega arith, l, (same ∙ sym is_component, less l (is_before (first + i) h))))
    | inr m ↦ inr ((greater i).1 (m, omega (arith, small, low_k, is_end), (same ∙ sym is_component, most (is_before (first + i) h))))
  ])
    where
      less : first + i < middle → (rank_at known.ranks f < rank_at known.ranks (first + i)) ⊎ ((rank_at known.ranks f ≡ rank_at known.ranks (first + i)) × (f < first + i)) → rank + 1 ≤ rank_at known.ranks (first + i)
      less l (inl s) = omega (arith, s, is_rank)
      less l (inr (e, s)) = absurd (omega (arith, l, s, is_middle))

      most : (rank_at known.ranks f < rank_at known.ranks (first + i)) ⊎ ((rank_at known.ranks f ≡ rank_at known.ranks (first + i)) × (f < first + i)) → rank ≤ rank_at known.ranks (first + i)
      most (inl s) = omega (arith, s, is_rank)
      most (inr (e, s)) = omega (arith, e, is_rank)

  pub behind_is : (i : ℕ) → i < 64 → (bit_at both i ≡ 1) ↔ RanksBehind known f (first + i)
  behind_is i small = ((λ h. to i h), (λ h. back i small h))

-- a word of the groups that rank behind, without those of the row of what is joined
module _ (rays : List PairRay) (known : OwningParts) (are : KnowsOwning rays known) (f place : ℕ) (within : f < known.count) (behind : ℕ) (is_behind : (i : ℕ) → i < 64 → (bit_at behind i ≡ 1) ↔ RanksBehind known f (64 * place + i))
    (row : List ℕ) (is_row : (c : ℕ) → HasBit row c ↔ IsInRowOf known.joined f c) (joined : ℕ) (is_joined_word : joined ≡ slice_index row place) (small : joined < 2 ^ 64) where
  in_word : (i : ℕ) → i < 64 → bit_at (slice_index row ((64 * place + i) / 64)) ((64 * place + i) % 64) ≡ bit_at joined i
  in_word i l = let p = place_of place i l in (λ j. bit_at (slice_index row (p.0 j)) (p.1 j)) ∙ ap (λ (x : ℕ). bit_at x i) (sym is_joined_word)

  less_joined : (i : ℕ) → i < 64 → bit_at (bit_and behind (bit_not w64 joined)) i ≡ min (bit_at behind i) (1 - bit_at joined i)
  less_joined i l = bit_at_and behind (bit_not w64 joined) i ∙ ap (min (bit_at behind i)) (bit_at_not w64 joined i small l)

  by_rank : (k : ℕ) → k < known.count → ranks_before (rank_at known.ranks) f k ≡ ranks_before (rank_of rays known.count) f k
  by_rank k low = ranks_same (rank_at known.ranks) (rank_of rays known.count) f k (rank_told known.count rays known.ranks are.ranks f within) (rank_told known.count rays known.ranks are.ranks k low)

  both_bits : (x y : ℕ) → x < 2 → y < 2 → min x (1 - y) ≡ 1 → (x ≡ 1) × (y ≡ 0)
  both_bits x y l r e = (omega (arith, l, r, e), omega (arith, l, r, e))

  owned : (i : ℕ) → i < 64 → bit_at (bit_and behind (bit_not w64 joined)) i ≡ 1 → IsOwnedBit rays known.components known.count f (64 * place + i)
  owned i l h =
      let k = 64 * place + i in
      let b = both_bits (bit_at behind i) (bit_at joined i) (bit_at-lt behind i) (bit_at-lt joined i) (sym (less_joined i l) ∙ h) in
      let is = (is_behind i l).0 b.0 in
      let apart : is_joined rays f k ≡ false = false_where_not_true (is_joined rays f k) (λ j. let one : bit_at joined i ≡ 1 = sym (in_word i l) ∙ (is_row k).1 (joined_tells known.count rays known.joined are.joined f k within is.0 j) in let none : bit_at joined i ≡ 0 = b.1 in omega (arith, one, none)) in (
        is.0,
        both_true (get_or known.components f 0 == get_or known.components k 0) (ranks_before (rank_of rays known.count) f k && not (is_joined rays f k)) (tells_same (get_or known.components f 0) (get_or known.components k 0) (sym is.1))
            (both_true (ranks_before (rank_of rays known.count) f k) (not (is_joined rays f k)) (sym (by_rank k is.0) ∙ is.2) (ap not apart)),
      )

  back_owned : (i : ℕ) → i < 64 → IsOwnedBit rays known.components known.count f (64 * place + i) → bit_at (bit_and behind (bit_not w64 joined)) i ≡ 1
  back_owned i l (low, h) =
      let k = 64 * place + i in
      let connected = is_told_same (get_or known.components f 0) (get_or known.components k 0) (first_true (get_or known.components f 0 == get_or known.components k 0) (ranks_before (rank_of rays known.count) f k && not (is_joined rays f k)) h) in
      let rest = second_true (get_or known.components f 0 == get_or known.components k 0) (ranks_before (rank_of rays known.count) f k && not (is_joined rays f k)) h in
      let ranks : ranks_before (rank_at known.ranks) f k ≡ true = by_rank k low ∙ first_true (ranks_before (rank_of rays known.count) f k) (not (is_joined rays f k)) rest in
      let apart : is_joined rays f k ≡ false = false_of_not (is_joined rays f k) (second_true (ranks_before (rank_of rays known.count) f k) (not (is_joined rays f k)) rest) in
      let one : bit_at behind i ≡ 1 = (is_behind i l).1 (low, sym connected, ranks) in
      let less : bit_at joined i < 2 = bit_at-lt joined i in
      let none : bit_at joined i ≢ 1 = (λ e. not_both_values (is_joined rays f k) (joined_told known.count rays known.joined are.joined f k ((is_row k).0 (in_word i l ∙ e))) apart) in
      less_joined i l ∙ omega (arith, one, less, none)

  pub owned_is : (i : ℕ) → i < 64 → (bit_at (bit_and behind (bit_not w64 joined)) i ≡ 1) ↔ IsOwnedBit rays known.components known.count f (64 * place + i)
  owned_is i l = ((λ h. owned i l h), (λ h. back_owned i l h))

-- ---- bits put into a word

-- of the groups from one number on to another those that pass, by how far they are from the first
abbrev pub BitsBetween : (ℕ → Type 0) → ℕ → ℕ → ℕ → ℕ → Type 0
BitsBetween P first from to bits = (i : ℕ) → (bit_at bits i ≡ 1) ↔ ((from ≤ first + i) × (first + i < to) × P (first + i))

pub between_none : (P : ℕ → Type 0) (first from : ℕ) → BitsBetween P first from from 0
between_none P first from i = (
  (λ h. let z : bit_at 0 i ≡ 0 = bit_at-zero i in absurd (omega (arith, h, z))),
  (λ h. let l : from ≤ first + i = h.0 in let u : first + i < from = h.1 in absurd (omega (arith, l, u))),
)

module _ (P : ℕ → Type 0) (first from m bits : ℕ) (below : BitsBetween P first from m bits) (order : first ≤ m) (reached : from ≤ m) where
  last_or_not : (i : ℕ) → (i ≡ m - first) ⊎ (i ≢ m - first)
  last_or_not i = same_or_not i (m - first)

  pub between_more : m - first < 64 → P m → BitsBetween P first from (m + 1) (bit_or bits (1 * 2 ^ (m - first) % 18446744073709551616))
  between_more room passes i = (
    (λ h. elim (last_or_not i) as (λ _. (from ≤ first + i) × (first + i < m + 1) × P (first + i)) [
      | inl e ↦ (let s : m ≡ first + i = omega (arith, e, order) in (omega (arith, s, reached), omega (arith, s), subst P s passes))
      | inr n ↦ (let w = (below i).0 (sym (bit_at_set_other w64 bits (m - first) room i n) ∙ h) in let l : first + i < m = w.1 in (w.0, omega (arith, l), w.2))
    ]),
    (λ h. elim (last_or_not i) as (λ _. bit_at (bit_or bits (1 * 2 ^ (m - first) % 18446744073709551616)) i ≡ 1) [
      | inl e ↦ ap (bit_at (bit_or bits (1 * 2 ^ (m - first) % 18446744073709551616))) e ∙ bit_at_set_same w64 bits (m - first) room
      | inr n ↦ (let l : first + i < m + 1 = h.1 in bit_at_set_other w64 bits (m - first) room i n ∙ (below i).1 (h.0, omega (arith, l, n, order), h.2))
    ]),
  )

  pub between_same : ¬ P m → BitsBetween P first from (m + 1) bits
  between_same fails i = (
    (λ h. let w = (below i).0 h in let l : first + i < m = w.1 in (w.0, omega (arith, l), w.2)),
    (λ h. elim (same_or_not (first + i) m) as (λ _. bit_at bits i ≡ 1) [
      | inl e ↦ absurd (fails (subst P e h.2))
      | inr n ↦ (let l : first + i < m + 1 = h.1 in (below i).1 (h.0, omega (arith, l, n), h.2))
    ]),
  )

-- ---- words put one after another

-- the words below this place have the bits of which P holds
abbrev pub WordsBelow : (ℕ → Type 0) → ℕ → List ℕ → Type 0
WordsBelow P place ws = AreBitsOf ws (λ k. (k < 64 * place) × P k)

pub none_put : (P : ℕ → Type 0) (ws : List ℕ) → ((c : ℕ) → ¬ HasBit ws c) → WordsBelow P 0 ws
none_put P ws none k = ((λ h. absurd (none k h)), (λ h. let l : k < 64 * 0 = h.0 in absurd (omega (arith, l))))

pub all_put : (P : ℕ → Type 0) (place n : ℕ) (ws : List ℕ) → n ≤ 64 * place → ((k : ℕ) → P k → k < n) → WordsBelow P place ws → AreBitsOf ws P
all_put P place n ws e within below k = ((λ h. ((below k).0 h).1), (λ h. (below k).1 (let l : k < n = within k h in omega (arith, l, e), h)))

module _ (P : ℕ → Type 0) (place w : ℕ) (ws : List ℕ) (below : WordsBelow P place ws) (room : place < length ws) (is : (i : ℕ) → i < 64 → (bit_at w i ≡ 1) ↔ P (64 * place + i)) where
  of_word : (k : ℕ) → k / 64 ≡ place → 64 * place + k % 64 ≡ k
  of_word k e = omega (arith, e)

  other_word : (k : ℕ) → k / 64 ≢ place → bit_at (slice_index (slice_set ws place w) (k / 64)) (k % 64) ≡ bit_at (slice_index ws (k / 64)) (k % 64)
  other_word k n = ap (λ (x : ℕ). bit_at x (k % 64)) (get_or-set_other ws place (k / 64) w 0 n)

  same_word : (k : ℕ) → k / 64 ≡ place → bit_at (slice_index (slice_set ws place w) (k / 64)) (k % 64) ≡ bit_at w (k % 64)
  same_word k e = subst (λ (j : ℕ). bit_at (slice_index (slice_set ws place w) j) (k % 64) ≡ bit_at w (k % 64)) (sym e) (ap (λ (x : ℕ). bit_at x (k % 64)) (get_or-set_same ws place w 0 room))

  pub word_put : WordsBelow P (place + 1) (slice_set ws place w)
  word_put k = elim (same_or_not (k / 64) place) as (λ _. HasBit (slice_set ws place w) k ↔ ((k < 64 * (place + 1)) × P k)) [
    | inl e ↦ ((λ h. (omega (arith, e), subst P (of_word k e) ((is (k % 64) (omega arith)).0 (sym (same_word k e) ∙ h)))), (λ h. same_word k e ∙ (is (k % 64) (omega arith)).1 (subst P (sym (of_word k e)) h.1)))
    | inr n ↦ ((λ h. let v = (below k).0 (sym (other_word k n) ∙ h) in let l : k < 64 * place = v.0 in (omega (arith, l), v.1)), (λ h. let l : k < 64 * (place + 1) = h.0 in other_word k n ∙ (below k).1 (omega (arith, l, n), h.1)))
  ]
