-- The findings that are left to tell, a pair on and a row on.
use Rattle.std.proofs.Common.{◌≡◌, ◌∙◌, ℕ, suc, ◌+◌, ◌-◌, ◌*◌, ◌<◌, ◌≤◌, ◌==◌, Bool, List, [], ◌∷◌, ◌++◌, map, ap, sym, arith, flat_map}
use Rattle.std.specs.List.{range_with_len}
use Rattle.std.proofs.lemmas.List.{map-append}
use Rattle.sight_names.specs.declared.names.Pair.{Pair}
use Rattle.sight_names.specs.Table.{table_bit}
use Rattle.reject_bits.specs.Parts.{TableParts}
use Rattle.listeners.specs.declared.finding.Finding.{Finding}
use Rattle.listeners.specs.declared.finding.Kind.{Kind}
use Rattle.listeners.specs.Findings.{pairs_in_row_from}
use Rattle.listeners.specs.PairFindings.Found.{finding_of_pair, findings_of, is_pair_listed, kind_by, pair, row_from}

range_more : (a n : ℕ) → a < n → range_with_len a (n - a) ≡ a ∷ range_with_len (a + 1) (n - (a + 1))
range_more a n lt =
    let e : n - a ≡ suc (n - (a + 1)) = omega arith in
    ap (range_with_len a) e

range_none : (a n : ℕ) → n ≤ a → range_with_len a (n - a) ≡ []
range_none a n le =
    let e : n - a ≡ 0 = omega arith in
    ap (range_with_len a) e

module _ (t : TableParts) (listed : List Pair) where
  -- the pair that comes next, and what was found of it
  pub row_more : (a b : ℕ) (is : Bool) (kind : Kind) → b < t.n → is ≡ is_pair_listed listed a b → kind ≡ kind_by is (table_bit t.bytes (a * t.n + b) == 1)
      → row_from t listed a b ≡ record { a = a; b = b; kind = kind } ∷ [] ++ row_from t listed a (b + 1)
  row_more a b is kind lt e f =
      ap (λ (l : List ℕ). map (finding_of_pair t listed) (map (pair a) l)) (range_more b t.n lt)
      ∙ ap (λ (k : Kind). record { a = a; b = b; kind = k } ∷ row_from t listed a (b + 1)) (sym (f ∙ ap (λ (x : Bool). kind_by x (table_bit t.bytes (a * t.n + b) == 1)) e))

  pub row_none : (a b : ℕ) → t.n ≤ b → row_from t listed a b ≡ []
  row_none a b le = ap (λ (l : List ℕ). map (finding_of_pair t listed) (map (pair a) l)) (range_none b t.n le)

  -- the findings of all pairs from this a on
  abbrev pub rows_from : ℕ → List Finding
  rows_from a = map (finding_of_pair t listed) (flat_map (pairs_in_row_from t.n) (range_with_len a (t.n - a)))

  pub rows_all : rows_from 0 ≡ findings_of t listed
  rows_all =
      let e : t.n - 0 ≡ t.n = omega arith in
      ap (λ (k : ℕ). map (finding_of_pair t listed) (flat_map (pairs_in_row_from t.n) (range_with_len 0 k))) e

  pub rows_more : (a : ℕ) → a < t.n → rows_from a ≡ row_from t listed a a ++ rows_from (a + 1)
  rows_more a lt =
      ap (λ (l : List ℕ). map (finding_of_pair t listed) (flat_map (pairs_in_row_from t.n) l)) (range_more a t.n lt)
      ∙ map-append (finding_of_pair t listed) (pairs_in_row_from t.n a) (flat_map (pairs_in_row_from t.n) (range_with_len (a + 1) (t.n - (a + 1))))

  pub rows_none : (a : ℕ) → t.n ≤ a → rows_from a ≡ []
  rows_none a le = ap (λ (l : List ℕ). map (finding_of_pair t listed) (flat_map (pairs_in_row_from t.n) l)) (range_none a t.n le)
