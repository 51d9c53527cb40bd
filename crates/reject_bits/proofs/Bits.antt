-- One bit of a table: what a write to one byte changes.
use Rattle.std.proofs.Common.{◌≡◌, ◌≢◌, ℕ, zero, suc, ◌+◌, ◌-◌, ◌*◌, ◌/◌, ◌%◌, ◌^◌, ◌<◌, ◌≤◌, ◌⊎◌, inl, inr, List, length, min, refl, sym, ◌∙◌, ap, subst, arith, slice_set, slice_index, ◌↔◌, get_or-set_same, get_or-set_other, length-set, bit_and, bit_or, bit_xor}
use Rattle.std.specs.Int.{bit_at, div_ceil, w8}
use Rattle.std.proofs.lemmas.Nat.Bits.{bit_at_xor, bit_at_and, bit_at_ones, bit_at_ones_above, bit_at-lt, bit_at_set_same, bit_at_set_other}
use Rattle.std.proofs.lemmas.Nat.{mul-add-lt, same_from_place}
use Rattle.sight_names.specs.Table.{table_bit, IsTable, HasNoSpareBit}
use Rattle.reject_bits.specs.Parts.{TableParts, HasSameBits, HasOtherBits, SetsPair, KeepsOtherPairs}

-- a bit of another byte
pub table_bit_other : (t : List ℕ) (i v k : ℕ) → k / 8 ≢ i → table_bit (slice_set t i v) k ≡ table_bit t k
table_bit_other t i v k h = ap (λ (x : ℕ). bit_at x (k % 8)) (get_or-set_other t i (k / 8) v 0 h)

-- a bit of the byte that is written
pub table_bit_same : (t : List ℕ) (i v k : ℕ) → k / 8 ≡ i → i < length t → table_bit (slice_set t i v) k ≡ bit_at v (k % 8)
table_bit_same t i v k h l = subst (λ (j : ℕ). bit_at (slice_index (slice_set t i v) j) (k % 8) ≡ bit_at v (k % 8)) (sym h) (ap (λ (x : ℕ). bit_at x (k % 8)) (get_or-set_same t i v 0 l))

-- `1 << u` in a byte
pub one_shl : (u : ℕ) → u < 8 → 1 * 2 ^ u % 256 ≡ 2 ^ u
one_shl zero h = refl
one_shl (suc zero) h = refl
one_shl (suc (suc zero)) h = refl
one_shl (suc (suc (suc zero))) h = refl
one_shl (suc (suc (suc (suc zero)))) h = refl
one_shl (suc (suc (suc (suc (suc zero))))) h = refl
one_shl (suc (suc (suc (suc (suc (suc zero)))))) h = refl
one_shl (suc (suc (suc (suc (suc (suc (suc zero))))))) h = refl
one_shl (suc (suc (suc (suc (suc (suc (suc (suc u)))))))) h = absurd (omega arith)

min_one : (a : ℕ) → a < 2 → min a 1 ≡ a
min_one a h = omega arith

-- the low bits stay under a mask of ones
pub mask_below : (x u i : ℕ) → u < 8 → i < u → bit_at (bit_and x (1 * 2 ^ u % 256 - 1)) i ≡ bit_at x i
mask_below x u i h l = rw (one_shl u h, bit_at_and x (2 ^ u - 1) i, bit_at_ones u i l) (min_one (bit_at x i) (bit_at-lt x i))

-- the others become zero
pub mask_above : (x u i : ℕ) → u < 8 → u ≤ i → bit_at (bit_and x (1 * 2 ^ u % 256 - 1)) i ≡ 0
mask_above x u i h l = rw (one_shl u h, bit_at_and x (2 ^ u - 1) i, bit_at_ones_above u i l) (omega arith)

module _ (n : ℕ) (t : List ℕ) (whole : IsTable n t) (spare : n * n % 8 ≢ 0) where
  abbrev masked : List ℕ
  masked = slice_set t (length t - 1) (bit_and (slice_index t (length t - 1)) (1 * 2 ^ (n * n % 8) % 256 - 1))

  last_is : length t ≡ n * n / 8 + 1
  last_is = parts (length t) (n * n) whole spare
    where
      parts : (l m : ℕ) → l ≡ div_ceil m 8 → m % 8 ≢ 0 → l ≡ m / 8 + 1
      parts l m h s = omega arith

  -- the masked byte keeps the bits of the pairs
  pub masked_keeps : HasSameBits n t masked
  masked_keeps k h = elim (where_is k (length t - 1) (n * n) h (ap (λ (x : ℕ). x - 1) last_is)) [
    | inl other ↦ table_bit_other t (length t - 1) _ k other
    | inr here ↦ table_bit_same t (length t - 1) _ k here.0 (omega (arith, last_is)) ∙ mask_below _ (n * n % 8) (k % 8) (omega arith) here.1 ∙ ap (λ (j : ℕ). bit_at (slice_index t j) (k % 8)) (sym here.0)
  ]
    where
      where_is : (k l m : ℕ) → k < m → l ≡ m / 8 + 1 - 1 → (k / 8 ≢ l) ⊎ ((k / 8 ≡ l) × (k % 8 < m % 8))
      where_is k l m h e = grind arith

  -- and no other bit
  pub masked_ends : HasNoSpareBit n masked
  masked_ends k h l = let p = where_is k (length t) (n * n) h (subst (λ (x : ℕ). k < 8 * x) (length-set t (length t - 1) _) l) last_is in table_bit_same t (length t - 1) _ k p.0 (omega (arith, last_is)) ∙ mask_above _ (n * n % 8) (k % 8) (omega arith) p.1
    where
      where_is : (k l m : ℕ) → m ≤ k → k < 8 * l → l ≡ m / 8 + 1 → (k / 8 ≡ l - 1) × (m % 8 ≤ k % 8)
      where_is k l m h b e = (omega arith, omega arith)

-- ---- a bit that is set

pub bit_set : (t : List ℕ) (k : ℕ) → k < 8 * length t → table_bit (slice_set t (k / 8) (bit_or (slice_index t (k / 8)) (1 * 2 ^ (k % 8) % 256))) k ≡ 1
bit_set t k h = table_bit_same t (k / 8) _ k refl (omega arith) ∙ bit_at_set_same w8 (slice_index t (k / 8)) (k % 8) (omega arith)

pub bit_kept : (t : List ℕ) (k i : ℕ) → k < 8 * length t → i ≢ k → table_bit (slice_set t (k / 8) (bit_or (slice_index t (k / 8)) (1 * 2 ^ (k % 8) % 256))) i ≡ table_bit t i
bit_kept t k i h differ = elim (where_is k i differ) [
  | inl other ↦ table_bit_other t (k / 8) _ i other
  | inr here ↦ table_bit_same t (k / 8) _ i here.0 (omega arith) ∙ bit_at_set_other w8 (slice_index t (k / 8)) (k % 8) (omega arith) (i % 8) here.1 ∙ ap (λ (j : ℕ). bit_at (slice_index t j) (i % 8)) (sym here.0)
]
  where
    where_is : (k i : ℕ) → i ≢ k → (i / 8 ≢ k / 8) ⊎ ((i / 8 ≡ k / 8) × (i % 8 ≢ k % 8))
    where_is k i h = grind arith

-- two pairs with one place are one pair
pub same_place : (n a b c d : ℕ) → b < n → d < n → c * n + d ≡ a * n + b → (c ≡ a) × (d ≡ b)
same_place n a b c d hb hd e = same_from_place c d a b n hd hb e

-- where one bit is set, the other pairs are rejected as before
pub keeps_of_sets : (old new : TableParts) (a b : ℕ) → b < old.n → SetsPair old new a b → KeepsOtherPairs old new a b
keeps_of_sets old new a b hb h c d hc hd differ =
    let kept : table_bit new.bytes (c * new.n + d) ≡ table_bit old.bytes (c * old.n + d) =
    ap (λ (n : ℕ). table_bit new.bytes (c * n + d)) h.sectors ∙ h.others (c * old.n + d) (λ e. apart (same_place old.n a b c d hb hd e) differ) in
    ((λ r. sym kept ∙ r), (λ r. kept ∙ r))
  where
    apart : (c ≡ a) × (d ≡ b) → (c ≢ a) ⊎ (d ≢ b) → ⊥
    apart same differ = elim differ [ inl x ↦ x same.0 | inr y ↦ y same.1 ]

-- ---- all bits turned round

pub turned_bit : (x i : ℕ) → i < 8 → bit_at (bit_xor x 255) i ≡ 1 - bit_at x i
turned_bit x i lt = bit_at_xor x 255 i ∙ other (bit_at x i) (bit_at 255 i) (bit_at-lt x i) (bit_at_ones 8 i lt)
  where
    other : (a b : ℕ) → a < 2 → b ≡ 1 → (a + b) % 2 ≡ 1 - a
    other a b h e = omega (arith, h, e)

-- the bits of the first i bytes are turned round
pub record TurnedUpTo (i : ℕ) (old new : List ℕ) : Type 0 where
  pub len : length new ≡ length old
  pub done : (k : ℕ) → k < 8 * i → k < 8 * length old → table_bit new k ≡ 1 - table_bit old k
  pub rest : (k : ℕ) → 8 * i ≤ k → table_bit new k ≡ table_bit old k

pub turned_none : (t : List ℕ) → TurnedUpTo 0 t t
turned_none t = record { len = refl; done = λ k lt l. absurd (omega arith); rest = λ k le. refl }

pub turned_more : (i v : ℕ) (old new : List ℕ) → i < length new → TurnedUpTo i old new → ((j : ℕ) → j < 8 → bit_at v j ≡ 1 - bit_at (slice_index new i) j) → TurnedUpTo (i + 1) old (slice_set new i v)
turned_more i v old new lt before turns = record {
  len = length-set new i v ∙ before.len;
  done = λ k less l. elim (where_is k i less) [
    | inl h ↦ table_bit_other new i v k h.1 ∙ before.done k h.0 l
    | inr here ↦ table_bit_same new i v k here.0 lt ∙ (turns (k % 8) (omega arith) ∙ ap (λ (b : ℕ). 1 - b) (ap (λ (j : ℕ). bit_at (slice_index new j) (k % 8)) (sym here.0) ∙ before.rest k here.1))
  ];
  rest = λ k le. table_bit_other new i v k (behind k i le) ∙ before.rest k (omega arith);
}
  where
    where_is : (k i : ℕ) → k < 8 * (i + 1) → ((k < 8 * i) × (k / 8 ≢ i)) ⊎ ((k / 8 ≡ i) × (8 * i ≤ k))
    where_is k i less = grind arith

    behind : (k i : ℕ) → 8 * (i + 1) ≤ k → k / 8 ≢ i
    behind k i le = omega arith

pub turned_all : (i : ℕ) (old new : List ℕ) → length old ≤ i → TurnedUpTo i old new → (k : ℕ) → k < 8 * length old → table_bit new k ≡ 1 - table_bit old k
turned_all i old new le h k lt = h.done k (omega arith) lt

-- where all bits are turned round, the bits of the pairs are the other ones
pub others_of : (n : ℕ) (old mid new : List ℕ) → IsTable n old → ((k : ℕ) → k < 8 * length old → table_bit mid k ≡ 1 - table_bit old k) → HasSameBits n mid new
    → HasOtherBits (record { n = n; bytes = old }) (record { n = n; bytes = new })
others_of n old mid new whole turns same = record { sectors_are = refl; bits = λ a b la lb. at (a * n + b) (mul-add-lt a n b n la lb) }
  where
    within : (k l m : ℕ) → l ≡ div_ceil m 8 → k < m → k < 8 * l
    within k l m e lt = omega arith

    other : (a b : ℕ) → b < 2 → a ≡ 1 - b → (a ≡ 1) ↔ (¬ (b ≡ 1))
    other a b h e = ((λ one is. let x : 1 ≡ 1 - 1 = sym one ∙ (e ∙ ap (λ (c : ℕ). 1 - c) is) in omega (arith, x)), (λ not_one. zero_or_one a b h e not_one))
      where
        zero_or_one : (a b : ℕ) → b < 2 → a ≡ 1 - b → b ≢ 1 → a ≡ 1
        zero_or_one a b h e differ = omega arith

    at : (k : ℕ) → k < n * n → (table_bit new k ≡ 1) ↔ (¬ (table_bit old k ≡ 1))
    at k lt = other (table_bit new k) (table_bit old k) (bit_at-lt (slice_index old (k / 8)) (k % 8)) (same k lt ∙ turns k (within k (length old) (n * n) whole lt))

-- ---- the next bit that is set, or clear

pub none_in_byte : (byte bit k : ℕ) → bit < 2 → k < 8 → byte ≡ 255 * (1 - bit) → bit_at byte k ≡ 1 - bit
none_in_byte byte zero k lt in' e = subst (λ (x : ℕ). bit_at x k ≡ 1) (sym e) (bit_at_ones 8 k in')
none_in_byte byte (suc zero) k lt in' e = subst (λ (x : ℕ). bit_at x k ≡ 0) (sym e) (bit_at_ones_above 0 k (omega arith))
none_in_byte byte (suc (suc bit)) k lt in' e = absurd (omega (arith, lt))
