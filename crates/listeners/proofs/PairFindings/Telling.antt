-- What the findings of a table and a list tell of each pair.
use Rattle.std.proofs.Common.{◌≡◌, ◌∙◌, inl, inr, ℕ, zero, suc, ◌+◌, ◌-◌, ◌*◌, ◌<◌, ◌≤◌, ◌==◌, Bool, true, false, List, [], ◌∷◌, map, refl, ap, subst, arith, Contains, flat_map}
use Rattle.std.specs.List.{AllByRecursion, range_with_len}
use Rattle.std.proofs.lemmas.List.Elements.{All-from_recursion}
use Rattle.math_base.proofs.Bools.{both_true, not_both_values, true_by_first, true_by_second}
use Rattle.math_base.proofs.Lists.{all_join, contains_cons, contains_none}
use Rattle.math_base.proofs.Numbers.{is_told_same, tells_same}
use Rattle.sight_names.specs.declared.names.Pair.{Pair}
use Rattle.sight_names.specs.Table.{table_bit}
use Rattle.reject_bits.specs.Parts.{TableParts}
use Rattle.listeners.specs.Findings.{all_pairs_of, pair_of_finding, pairs_in_row_from}
use Rattle.listeners.specs.PairFindings.Found.{FindingsTellPairs, IsFindingBy, IsKindBy, finding_of_pair, findings_of, is_pair_listed, is_pair, kind_by, pair}
use Rattle.listeners.proofs.PairFindings.Counted.{listed_there}

listed_of : (a b : ℕ) (ps : List Pair) → Contains ps (pair a b) → is_pair_listed ps a b ≡ true
listed_of a b [] c = absurd (contains_none (pair a b) c)
listed_of a b (p ∷ ps) c = elim (contains_cons (pair a b) p ps c) [
  | inl e ↦ true_by_first (is_pair a b p) (is_pair_listed ps a b) (ap (is_pair a b) e ∙ both_true (a == a) (b == b) (tells_same a a refl) (tells_same b b refl))
  | inr there ↦ true_by_second (is_pair a b p) (is_pair_listed ps a b) (listed_of a b ps there)
]

module _ (t : TableParts) (listed : List Pair) where
  kind_is : (a b : ℕ) (l s : Bool) → is_pair_listed listed a b ≡ l → (table_bit t.bytes (a * t.n + b) == 1) ≡ s → IsKindBy t listed a b (kind_by l s)
  kind_is a b true s e f =
      let h = listed_there a b listed e in
      let same : h.0 ≡ pair a b = λ i. record { a = h.2 i; b = h.3 i } in
      subst (λ (p : Pair). Contains listed p) same h.1
  kind_is a b false true e f = (λ c. not_both_values (is_pair_listed listed a b) (listed_of a b listed c) e, is_told_same (table_bit t.bytes (a * t.n + b)) 1 f)
  kind_is a b false false e f = (
    λ c. not_both_values (is_pair_listed listed a b) (listed_of a b listed c) e,
    λ one. not_both_values (table_bit t.bytes (a * t.n + b) == 1) (tells_same (table_bit t.bytes (a * t.n + b)) 1 one) f,
  )

  abbrev IsWithin : Pair → Type 0
  IsWithin p = (p.a ≤ p.b) × (p.b < t.n)

  row_within : (a b k : ℕ) → a ≤ b → b + k ≤ t.n → AllByRecursion IsWithin (map (pair a) (range_with_len b k))
  row_within a b zero le fits = tt
  row_within a b (suc k) le fits = ((le, omega arith), row_within a (b + 1) k (omega arith) (omega arith))

  rows_within : (a k : ℕ) → a + k ≤ t.n → AllByRecursion IsWithin (flat_map (pairs_in_row_from t.n) (range_with_len a k))
  rows_within a zero fits = tt
  rows_within a (suc k) fits = all_join IsWithin (pairs_in_row_from t.n a) (flat_map (pairs_in_row_from t.n) (range_with_len (a + 1) k)) (row_within a a (t.n - a) (omega arith) (omega arith)) (rows_within (a + 1) k (omega arith))

  each_by : (ps : List Pair) → AllByRecursion IsWithin ps → AllByRecursion (IsFindingBy t listed) (map (finding_of_pair t listed) ps)
  each_by [] h = tt
  each_by (p ∷ ps) h = (
    record { order = h.0.0; within = h.0.1; kind = kind_is p.a p.b (is_pair_listed listed p.a p.b) (table_bit t.bytes (p.a * t.n + p.b) == 1) refl refl },
    each_by ps h.1,
  )

  same_pairs : (ps : List Pair) → map pair_of_finding (map (finding_of_pair t listed) ps) ≡ ps
  same_pairs [] = refl
  same_pairs (p ∷ ps) = ap (λ (l : List Pair). p ∷ l) (same_pairs ps)

pub findings_tell_pairs : FindingsTellPairs
findings_tell_pairs t listed = record {
  pairs = same_pairs t listed (all_pairs_of t.n);
  each = All-from_recursion (IsFindingBy t listed) (findings_of t listed) (each_by t listed (all_pairs_of t.n) (rows_within t listed 0 t.n (omega arith)));
}
