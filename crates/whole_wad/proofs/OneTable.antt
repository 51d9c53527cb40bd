-- All builds of a map by one method have one table, byte for byte, and one list: the sequences of the sources fix what is listed, and sight fixes each bit of a pair that isn't.
use Rattle.std.proofs.Common.{◌≡◌, ℕ, zero, suc, ◌+◌, ◌*◌, ◌/◌, ◌%◌, ◌<◌, ◌≤◌, inl, inr, List, length, get_or, Contains, sym, ap, ◌∙◌, subst, arith, zero-lt-suc}
use Rattle.std.specs.Int.{bit_at, div_ceil}
use Rattle.std.proofs.Math.Nat.{div-lt_iff_lt-mul, mod-lt}
use Rattle.std.proofs.lemmas.List.{ext_get_or, get_or_past}
use Rattle.std.proofs.lemmas.Nat.{div-add-mod'}
use Rattle.std.proofs.lemmas.Nat.Bits.{bit_at-lt, bit_at-zero, same_from_bits_below}
use Rattle.sight_names.specs.declared.names.Budget.{Budget}
use Rattle.sight_names.specs.declared.names.Method.{Method}
use Rattle.sight_names.specs.declared.names.Method.TheVariants as method
use Rattle.sight_names.specs.declared.names.Pair.{Pair}
use Rattle.sight_names.specs.Groups.{IsListedByGroups}
use Rattle.sight_names.specs.Map.{Map}
use Rattle.sight_names.specs.Table.{table_bit}
use Rattle.sight_names.proofs.Lists.{same_ascending}
use Rattle.reject_bits.specs.Parts.{IsTableWhole, Rejects, TableParts}
use Rattle.cert_format.specs.declared.cert_groups.cert.AnyCert.TheVariants.{One, Two}
use Rattle.cert_format.proofs.CertGroups.PartLaws.{none_ascend}
use Rattle.certificates.specs.declared.certificate.Certificate.{Certificate}
use Rattle.certificates.specs.declared.certificate.Certificate.TheVariants.{Listing, Exact}
use Rattle.certificates.specs.Grammar.{IsInOrder}
use Rattle.sight_names.specs.Order.{Ascends, PairBefore}
use Rattle.whole_wad.specs.declared.building.Built.{Built}
use Rattle.whole_wad.specs.Built.{AreBytes, DecidedBy, HaveOneTable, IsBuiltOf, ask_of}
use Rattle.math_base.proofs.Numbers.{same_bit, below_or_not}
use Rattle.group_job.proofs.OneWalk.{same_budget}

-- ---- numbers

some_sector : (k n : ℕ) → k < n * n → 0 < n
some_sector k zero h = absurd (omega arith)
some_sector k (suc n) h = zero-lt-suc n

past_bytes : (l k : ℕ) → 8 * l ≤ k → l ≤ k / 8
past_bytes l k h = omega arith

-- ---- bytes by their bits

byte_of : (i j : ℕ) → j < 8 → (8 * i + j) / 8 ≡ i
byte_of i j h = omega (arith, h)

bit_in_byte : (i j : ℕ) → j < 8 → (8 * i + j) % 8 ≡ j
bit_in_byte i j h = omega (arith, h)

-- a bit of a byte is the bit at its place in the list
placed_bit : (xs : List ℕ) (i j : ℕ) → j < 8 → table_bit xs (8 * i + j) ≡ bit_at (get_or xs i 0) j
placed_bit xs i j h = (λ k. bit_at (get_or xs (byte_of i j h k) 0) (bit_in_byte i j h k))

same_bytes : (xs ys : List ℕ) → length xs ≡ length ys → AreBytes xs → AreBytes ys → ((k : ℕ) → table_bit xs k ≡ table_bit ys k) → xs ≡ ys
same_bytes xs ys len fit fit_too bits = ext_get_or 0 xs ys len (λ i lt. same_from_bits_below 8 (get_or xs i 0) (get_or ys i 0) (fit i) (fit_too i) (λ j small. sym (placed_bit xs i j small) ∙ bits (8 * i + j) ∙ placed_bit ys i j small))

-- ---- pairs in order

not_before_itself : (p : Pair) → PairBefore p p → ⊥
not_before_itself p (inl h) = omega (arith, h)
not_before_itself p (inr h) = let k = h.1 in omega arith

not_both_before : (p q : Pair) → PairBefore p q → PairBefore q p → ⊥
not_both_before p q (inl h) (inl k) = omega (arith, h, k)
not_both_before p q (inl h) (inr k) = let e = k.0 in omega (arith, h)
not_both_before p q (inr h) (inl k) = let e = h.0 in omega (arith, k)
not_both_before p q (inr h) (inr k) = let e = h.1 in let f = k.1 in omega arith

-- a bit past those of the pairs is clear
pub spare_clear : (n : ℕ) (t : TableParts) → t.n ≡ n → IsTableWhole t → (k : ℕ) → n * n ≤ k → table_bit t.bytes k ≡ 0
spare_clear n t sectors whole k h = elim (below_or_not k (8 * length t.bytes)) as (λ _. table_bit t.bytes k ≡ 0) [
  | inl lt ↦ whole.no_spare k (subst (λ (x : ℕ). x * x ≤ k) (sym sectors) h) lt
  | inr past ↦ ap (λ (x : ℕ). bit_at x (k % 8)) (get_or_past t.bytes (k / 8) 0 (past_bytes (length t.bytes) k past)) ∙ bit_at-zero (k % 8)
]

-- ---- two builds

-- the list of what is built ascends
pub list_ascends : (m : Map) (by : Method) (built : Built) → IsBuiltOf m by built → Ascends PairBefore built.listed
list_ascends m (method.Within ask) built is = within built.cert is.in_order is.by_method
  where
    within : (cert : Certificate) → IsInOrder cert → DecidedBy m (method.Within ask) (record { table = built.table; listed = built.listed; cert = cert }) → Ascends PairBefore built.listed
    within (Listing (One c)) order d = absurd d
    within (Listing (Two c sizes)) order d = subst (λ (ps : List Pair). Ascends PairBefore ps) d.same_list order.listed_ascend
    within (Exact c) order d = absurd d
list_ascends m method.Exact built is = subst (λ (ps : List Pair). Ascends PairBefore ps) (sym is.by_method.none_listed) none_ascend

module _ (m : Map) (by : Method) (one other : Built) (is_one : IsBuiltOf m by one) (is_other : IsBuiltOf m by other) where
  budgets : is_one.decided.budget ≡ is_other.decided.budget
  budgets = same_budget m (ask_of by) is_one.decided.budget is_other.decided.budget is_one.decided.is_budget is_other.decided.is_budget

  listed_too : (q : Pair) → Contains one.listed q → Contains other.listed q
  listed_too q c =
      let h = (is_one.decided.listed_are q).0 c in
      (is_other.decided.listed_are q).1 (h.0, subst (λ (b : Budget). IsListedByGroups m b q.a q.b) budgets h.1)

  set_too : (a b : ℕ) → a < m.sectors → b < m.sectors → Rejects one.table a b → Rejects other.table a b
  set_too a b la lb bit =
      let h = (is_one.decided.bits a b la lb).0 bit in
      (is_other.decided.bits a b la lb).1 (h.0, λ l. h.1 (subst (λ (x : Budget). IsListedByGroups m x a b) (sym budgets) l))

module _ (m : Map) (by : Method) (one other : Built) (is_one : IsBuiltOf m by one) (is_other : IsBuiltOf m by other) where
  -- the bit of a pair, by its place
  place_is : (t : TableParts) → t.n ≡ m.sectors → (a b k : ℕ) → a * m.sectors + b ≡ k → table_bit t.bytes (a * t.n + b) ≡ table_bit t.bytes k
  place_is t sectors a b k e = ap (λ (n : ℕ). table_bit t.bytes (a * n + b)) sectors ∙ ap (table_bit t.bytes) e

  pair_bit : (k : ℕ) → k < m.sectors * m.sectors → table_bit one.table.bytes k ≡ table_bit other.table.bytes k
  pair_bit k h =
      let some = some_sector k m.sectors h in
      let a = k / m.sectors in
      let b = k % m.sectors in
      let la : a < m.sectors = (div-lt_iff_lt-mul some).1 h in
      let lb : b < m.sectors = mod-lt k some in
      let e : a * m.sectors + b ≡ k = div-add-mod' k m.sectors in
      let here = place_is one.table is_one.sectors a b k e in
      let there = place_is other.table is_other.sectors a b k e in
      same_bit _ _ (bit_at-lt _ _) (bit_at-lt _ _)
      (λ bit. sym there ∙ set_too m by one other is_one is_other a b la lb (here ∙ bit))
      (λ bit. sym here ∙ set_too m by other one is_other is_one a b la lb (there ∙ bit))

  one_bit : (k : ℕ) → table_bit one.table.bytes k ≡ table_bit other.table.bytes k
  one_bit k = elim (below_or_not k (m.sectors * m.sectors)) as (λ _. table_bit one.table.bytes k ≡ table_bit other.table.bytes k) [
    | inl lt ↦ pair_bit k lt
    | inr past ↦ spare_clear m.sectors one.table is_one.sectors is_one.table_is_whole k past ∙ sym (spare_clear m.sectors other.table is_other.sectors is_other.table_is_whole k past)
  ]

  -- they have one table and one list
  pub one_table : HaveOneTable one other
  one_table = record {
    table = λ i. record { n = sectors i; bytes = bytes i };
    listed = same_ascending PairBefore not_before_itself not_both_before one.listed other.listed (list_ascends m by one is_one) (list_ascends m by other is_other)
        (listed_too m by one other is_one is_other) (listed_too m by other one is_other is_one);
  }
    where
      sectors : one.table.n ≡ other.table.n
      sectors = is_one.sectors ∙ sym is_other.sectors

      len : length one.table.bytes ≡ length other.table.bytes
      len = is_one.table_is_whole.len ∙ ap (λ (n : ℕ). div_ceil (n * n) 8) sectors ∙ sym is_other.table_is_whole.len

      bytes : one.table.bytes ≡ other.table.bytes
      bytes = same_bytes one.table.bytes other.table.bytes len is_one.are_bytes is_other.are_bytes one_bit
