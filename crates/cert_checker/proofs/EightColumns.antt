-- Eight columns of a table beside each other, as they are put and read.
use Rattle.std.proofs.Common.{◌≡◌, ℕ, ◌+◌, ◌-◌, ◌*◌, ◌/◌, ◌%◌, ◌^◌, ◌<◌, ◌≤◌, inl, inr, ◌↔◌, List, length, min, slice_index, slice_set, bit_and, nat_eq, IsTrue, sym, ◌∙◌, ap, subst, arith, eq-eqb, get_or-set_same, get_or-set_other}
use Rattle.std.specs.Int.{bit_at}
use Rattle.std.proofs.lemmas.Bool.{cases_lt, eqb-true}
use Rattle.std.proofs.lemmas.Nat.{shr-shr}
use Rattle.std.proofs.lemmas.Nat.Bits.{bit_at_and, bit_at_cat_high, bit_at_cat_low, bit_at_ones, bit_at-lt, shr_and_one}
use Rattle.math_base.proofs.Numbers.{below_or_last}
use Rattle.sight_names.specs.Table.{table_bit}
use Rattle.reject_bits.specs.Parts.{TableParts, Rejects}
use Rattle.cert_checker.specs.declared.columns.Columns.{Columns}
use Rattle.cert_checker.specs.Columns.{AreColumns, HasColumn}

-- ---- eight bits that lie across two bytes

table_at : (bytes : List ℕ) (k j r : ℕ) → k / 8 ≡ j → k % 8 ≡ r → bit_at (slice_index bytes j) r ≡ table_bit bytes k
table_at bytes k j r e f = sym (ap (λ (x : ℕ). bit_at (slice_index bytes x) (k % 8)) e ∙ ap (bit_at (slice_index bytes j)) f)

pub eight : (bytes : List ℕ) (bit i low high : ℕ) → i < 8 → low < 256 → low ≡ slice_index bytes (bit / 8) → high ≡ slice_index bytes (bit / 8 + 1) → bit_at (bit_and ((high * 256 + low) / 2 ^ (bit % 8)) 255) i ≡ table_bit bytes (bit + i)
eight bytes bit i low high l fits e f = masked ∙ ap (λ (x : ℕ). x % 2) (shr-shr (high * 256 + low) (bit % 8) i) ∙ elim (cases_lt (bit % 8 + i) 8) as (λ _. bit_at (high * 256 + low) (bit % 8 + i) ≡ table_bit bytes (bit + i)) [
  | inl h ↦ bit_at_cat_low high 8 low (bit % 8 + i) h ∙ ap (λ (x : ℕ). bit_at x (bit % 8 + i)) e ∙ table_at bytes (bit + i) (bit / 8) (bit % 8 + i) (omega (arith, h)) (omega (arith, h))
  | inr h ↦ bit_at_cat_high high 8 low (bit % 8 + i) fits h ∙ ap (λ (x : ℕ). bit_at x (bit % 8 + i - 8)) f ∙ table_at bytes (bit + i) (bit / 8 + 1) (bit % 8 + i - 8) (omega (arith, h, l)) (omega (arith, h, l))
]
  where
    one : (x y : ℕ) → x < 2 → y ≡ 1 → min x y ≡ x
    one x y h e = omega (arith, h, e)

    masked : bit_at (bit_and ((high * 256 + low) / 2 ^ (bit % 8)) 255) i ≡ bit_at ((high * 256 + low) / 2 ^ (bit % 8)) i
    masked = bit_at_and ((high * 256 + low) / 2 ^ (bit % 8)) 255 i ∙ one (bit_at ((high * 256 + low) / 2 ^ (bit % 8)) i) (bit_at 255 i) (bit_at-lt ((high * 256 + low) / 2 ^ (bit % 8)) i) (bit_at_ones 8 i l)

-- ---- a byte for each row

-- the bytes of the rows from the first one on and before this one have been put
abbrev pub ArePut : TableParts → ℕ → ℕ → List ℕ → Type 0
ArePut t first row bytes = (b i : ℕ) → first ≤ b → b < row → i < 8 → (bit_at (slice_index bytes b) i ≡ 1) ↔ Rejects t b (first + i)

pub put_more : (t : TableParts) (first row v : ℕ) (bytes : List ℕ) → row < length bytes → ArePut t first row bytes → ((i : ℕ) → i < 8 → (bit_at v i ≡ 1) ↔ Rejects t row (first + i)) → ArePut t first (row + 1) (slice_set bytes row v)
put_more t first row v bytes within old here b i l h k = elim (below_or_last b row h) as (λ _. (bit_at (slice_index (slice_set bytes row v) b) i ≡ 1) ↔ Rejects t b (first + i)) [
  | inl m ↦ subst (λ (x : ℕ). (bit_at x i ≡ 1) ↔ Rejects t b (first + i)) (sym (get_or-set_other bytes row b v 0 (λ e. omega (arith, m, e)))) (old b i l m k)
  | inr e ↦ subst (λ (c : ℕ). (bit_at (slice_index (slice_set bytes row v) c) i ≡ 1) ↔ Rejects t c (first + i)) (sym e) (subst (λ (x : ℕ). (bit_at x i ≡ 1) ↔ Rejects t row (first + i)) (sym (get_or-set_same bytes row v 0 within)) (here i k))
]

-- ---- a bit

pub rejects_told : (t : TableParts) (c : Columns) (row column byte : ℕ) → AreColumns t c → row < length c.bytes.items → HasColumn c column → column ≤ row → byte ≡ slice_index c.bytes.items row
    → IsTrue (nat_eq (bit_and (byte / 2 ^ (column - c.first)) 1) 1) ↔ Rejects t row column
rejects_told t c row column byte are within has le is = ((λ e. told.0 (sym bit ∙ eqb-true _ _ e)), (λ r. eq-eqb _ _ (bit ∙ told.1 r)))
  where
    bit : bit_and (byte / 2 ^ (column - c.first)) 1 ≡ bit_at (slice_index c.bytes.items row) (column - c.first)
    bit = shr_and_one byte (column - c.first) ∙ ap (λ (x : ℕ). bit_at x (column - c.first)) is

    back : c.first + (column - c.first) ≡ column
    back = let h = has.0 in omega (arith, h)

    told : (bit_at (slice_index c.bytes.items row) (column - c.first) ≡ 1) ↔ Rejects t row column
    told = subst (λ (x : ℕ). (bit_at (slice_index c.bytes.items row) (column - c.first) ≡ 1) ↔ Rejects t row x) back (are.bits row (column - c.first) (let h = has.0 in omega (arith, h, le)) (let e = are.len in omega (arith, e, within)) (let h = has.1 in omega (arith, h)))
