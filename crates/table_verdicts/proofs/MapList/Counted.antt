-- The set bits of a REJECT are those that its table has alone beside the clear one.
use Rattle.std.proofs.Common.{◌≡◌, ℕ, zero, suc, ◌+◌, ◌*◌, ◌<◌, ◌≤◌, ◌↔◌, Bool, true, false, List, length, Option, Some, None, refl, sym, ap, ◌∙◌, subst, arith}
use Rattle.std.specs.Cmp.{both_ways}
use Rattle.std.specs.Prelude.{IsTrue, if◌then◌else◌, nat_lt, replicate}
use Rattle.std.specs.List.{count_by, range_with_len, sum_by}
use Rattle.std.proofs.lemmas.Bool.Decides.{nat_tests}
use Rattle.std.proofs.lemmas.List.Sums.{sum_by-cons}
use Rattle.math_base.proofs.Numbers.{is_told_same, place_within, tells_same}
use Rattle.sight_names.specs.Table.{table_bit}
use Rattle.reject_bits.specs.Parts.{Rejects, TableParts}
use Rattle.table_compare.specs.Compared.{SetsAlone}
use Rattle.table_compare.specs.Counts.{IsCountOf, pairs_by}
use Rattle.table_compare.proofs.Counting.{count_alike}
use Rattle.table_compare.proofs.OneKind.{count_so}
use Rattle.group_job.proofs.Marks.{clear_has_none}
use Rattle.whole_wad.specs.Rejects.{table_len}
use Rattle.table_verdicts.specs.MapList.Entry.{is_bit_set, set_bits}
use Rattle.table_verdicts.specs.Own.{IsAtFront}

pub set_counted : (own clear : TableParts) (k count : ℕ) → clear.bytes ≡ replicate k 0 → IsCountOf own.n (SetsAlone own clear) count → IsCountOf own.n (Rejects own) count
set_counted own clear k count e h = count_so own.n (SetsAlone own clear) (Rejects own) (λ a b la lb. ((λ alone. alone.0), (λ set. (set, clear_has_none clear k e a b)))) count h

-- ---- two tests that tell one kind of pairs

sums_alike : (f g : ℕ → ℕ) (a n : ℕ) → ((k : ℕ) → k < n → f (a + k) ≡ g (a + k)) → sum_by f (range_with_len a n) ≡ sum_by g (range_with_len a n)
sums_alike f g a zero h = refl
sums_alike f g a (suc n) h =
    let here : f a ≡ g a = subst (λ (x : ℕ). f x ≡ g x) (plain a) (h 0 (omega arith)) in
    let rest : sum_by f (range_with_len (a + 1) n) ≡ sum_by g (range_with_len (a + 1) n) = sums_alike f g (a + 1) n (λ k lt. subst (λ (x : ℕ). f x ≡ g x) (moved a k) (h (k + 1) (omega arith))) in
    omega (arith, here, rest, sum_by-cons f a (range_with_len (a + 1) n), sum_by-cons g a (range_with_len (a + 1) n))
  where
    plain : (a : ℕ) → a + 0 ≡ a
    plain a = omega arith

    moved : (a k : ℕ) → a + (k + 1) ≡ a + 1 + k
    moved a k = omega arith

pairs_alike : (p q : ℕ → ℕ → Bool) (n : ℕ) → ((a b : ℕ) → a < n → b < n → p a b ≡ q a b) → pairs_by p n ≡ pairs_by q n
pairs_alike p q n h =
    sums_alike (λ a. count_by (p a) (range_with_len 0 n)) (λ a. count_by (q a) (range_with_len 0 n)) 0 n
    (λ a la. count_alike (p (0 + a)) (q (0 + a)) 0 0 n (λ b lb. h (0 + a) (0 + b) (omega arith) (omega arith)))

-- ---- the bits of a REJECT

not_less : (l len : ℕ) → len ≤ l → nat_lt l len ≡ false
not_less l len le = grind (arith, nat_tests)

is_less : (l len : ℕ) → l < len → nat_lt l len ≡ true
is_less l len lt = grind (arith, nat_tests)

module _ (n : ℕ) (reject : List ℕ) where
  abbrev counted_where : (b : Bool) → Option ℕ
  counted_where b = if b then None else Some (pairs_by (is_bit_set n reject) n)

  module _ (own : TableParts) (front : IsAtFront n reject own) where
    own_bit : (a b : ℕ) → a < n → b < n → table_bit own.bytes (a * own.n + b) ≡ table_bit reject (a * n + b)
    own_bit a b la lb = ap (λ (m : ℕ). table_bit own.bytes (a * m + b)) front.sectors ∙ front.bits (a * n + b) (place_within a b n la lb)

    tells : (a b : ℕ) → a < n → b < n → Rejects own a b ↔ IsTrue (is_bit_set n reject a b)
    tells a b la lb = (
      (λ set. tells_same (table_bit reject (a * n + b)) 1 (sym (own_bit a b la lb) ∙ set)),
      (λ told. own_bit a b la lb ∙ is_told_same (table_bit reject (a * n + b)) 1 told),
    )

    pub set_are : (count : ℕ) → IsCountOf own.n (Rejects own) count → Some count ≡ set_bits n reject
    set_are count h =
        let k : IsCountOf n (Rejects own) count = subst (λ (m : ℕ). IsCountOf m (Rejects own) count) front.sectors h in
        let same : (a b : ℕ) → a < n → b < n → k.test a b ≡ is_bit_set n reject a b =
        λ a b la lb. both_ways (k.test a b) (is_bit_set n reject a b) (λ told. (tells a b la lb).0 ((k.tells a b la lb).0 told)) (λ told. (k.tells a b la lb).1 ((tells a b la lb).1 told)) in
        ap (λ (x : ℕ). Some x) (k.passed ∙ pairs_alike k.test (is_bit_set n reject) n same) ∙ sym (ap counted_where (not_less (length reject) (table_len n) front.enough))

  pub none_are : length reject < table_len n → None ≡ set_bits n reject
  none_are lt = sym (ap counted_where (is_less (length reject) (table_len n) lt))
