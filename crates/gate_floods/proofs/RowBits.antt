-- Rows as bits: what both of two rows have, whether a row has a bit, and the rows of what is joined.
use Rattle.std.proofs.Common.{◌≡◌, ℕ, zero, suc, ◌+◌, ◌<◌, inl, inr, List, [], ◌∷◌, Some, slice_get, Bool, true, false, ◌==◌, ◌&&◌, ◌||◌, Contains, refl, sym, ap, ◌∙◌, arith}
use Rattle.sight_names.specs.declared.names.Pair.{Pair}
use Rattle.sight_names.specs.declared.names.PairRay.{PairRay}
use Rattle.sight_names.proofs.Lists.{contains_cases, contains_tail}
use Rattle.cert_format.specs.Parts.{CertParts}
use Rattle.cert_checker.specs.AcceptedGroups.Accepted.{AreGroupsJoined}
use Rattle.math_base.proofs.Bools.{both_true, first_true, second_true, one_true, true_by_first, true_by_second, first_false, second_false, not_both_values}
use Rattle.math_base.proofs.Lists.{contains_none, contains_here}
use Rattle.math_base.proofs.Numbers.{same_or_not, tells_same, tells_other}
use Rattle.math_base.proofs.Options.{none_is_not_some, some_is_same}
use Rattle.gate_floods.specs.Exact.{IsClaimedBlind, IsOwned}
use Rattle.gate_floods.specs.Bits.{both_rows, has_bit_in_list, has_ray, is_joined, bits_from}
use Rattle.gate_floods.specs.Laws.{RowsAreBits, JoinedRowsTell}
use Rattle.gate_floods.proofs.RowsOn.{row_behind, row_masked}

-- ---- the bits of both rows

pub in_both : (xs ys : List Bool) (c : ℕ) → slice_get xs c ≡ Some true → slice_get ys c ≡ Some true → slice_get (both_rows xs ys) c ≡ Some true
in_both [] ys c h k = absurd (none_is_not_some true h)
in_both (x ∷ xs) [] c h k = absurd (none_is_not_some true k)
in_both (x ∷ xs) (y ∷ ys) zero h k = ap (λ (b : Bool). Some b) (both_true x y (some_is_same x true h) (some_is_same y true k))
in_both (x ∷ xs) (y ∷ ys) (suc c) h k = in_both xs ys c h k

pub in_first : (xs ys : List Bool) (c : ℕ) → slice_get (both_rows xs ys) c ≡ Some true → slice_get xs c ≡ Some true
in_first [] ys c h = absurd (none_is_not_some true h)
in_first (x ∷ xs) [] c h = absurd (none_is_not_some true h)
in_first (x ∷ xs) (y ∷ ys) zero h = ap (λ (b : Bool). Some b) (first_true x y (some_is_same (x && y) true h))
in_first (x ∷ xs) (y ∷ ys) (suc c) h = in_first xs ys c h

pub in_second : (xs ys : List Bool) (c : ℕ) → slice_get (both_rows xs ys) c ≡ Some true → slice_get ys c ≡ Some true
in_second [] ys c h = absurd (none_is_not_some true h)
in_second (x ∷ xs) [] c h = absurd (none_is_not_some true h)
in_second (x ∷ xs) (y ∷ ys) zero h = ap (λ (b : Bool). Some b) (second_true x y (some_is_same (x && y) true h))
in_second (x ∷ xs) (y ∷ ys) (suc c) h = in_second xs ys c h

-- ---- a row with a bit, and one without

found_bit : (xs : List Bool) → has_bit_in_list xs ≡ true → (c : ℕ) × (slice_get xs c ≡ Some true)
found_bit [] h = absurd (not_both_values false h refl)
found_bit (x ∷ xs) h = elim (one_true x (has_bit_in_list xs) h) as (λ _. (c : ℕ) × (slice_get (x ∷ xs) c ≡ Some true)) [
  | inl e ↦ (0, ap (λ (b : Bool). Some b) e)
  | inr e ↦ let r = found_bit xs e in (suc r.0, r.1)
]

no_bit : (xs : List Bool) → has_bit_in_list xs ≡ false → (c : ℕ) → slice_get xs c ≡ Some true → ⊥
no_bit [] h c k = none_is_not_some true k
no_bit (x ∷ xs) h zero k = not_both_values x (some_is_same x true k) (first_false x (has_bit_in_list xs) h)
no_bit (x ∷ xs) h (suc c) k = no_bit xs (second_false x (has_bit_in_list xs) h) c k

pub rows_are_bits : RowsAreBits
rows_are_bits rank g ts ls cert f ps row is_map good tells = (
  (λ p b d mask gate masks c. (
    (λ h. row_masked g is_map ts ls good (IsClaimedBlind g cert) (IsOwned rank (IsClaimedBlind g cert) f) ps p b d c gate ((tells c).0 (in_first row mask c h)) ((masks c).0 (in_second row mask c h))),
    (λ h. let r = row_behind g is_map ts ls good (IsClaimedBlind g cert) (IsOwned rank (IsClaimedBlind g cert) f) ps p b d c gate h in in_both row mask c ((tells c).1 r.0) ((masks c).1 r.1)),
  )),
  (λ some. let r = found_bit row some in (r.0, (tells r.0).0 r.1)),
  (λ none c h. no_bit row none c ((tells c).1 h)),
)

-- ---- what is joined

pub same_number : (a b : ℕ) → (a == b) ≡ true → a ≡ b
same_number a b h = elim (same_or_not a b) as (λ _. a ≡ b) [ inl e ↦ e | inr n ↦ absurd (not_both_values (a == b) h (tells_other a b n)) ]

pair_is : (p : Pair) (f k : ℕ) → p.a ≡ f → p.b ≡ k → p ≡ record { a = f; b = k }
pair_is p f k e h = λ i. record { a = e i; b = h i }

abbrev HasRayIn : List PairRay → ℕ → ℕ → Type 0
HasRayIn rs f k = (r : PairRay) × Contains rs r × (r.pair ≡ record { a = f; b = k })

ray_told : (rs : List PairRay) (f k : ℕ) → has_ray rs f k ≡ true → HasRayIn rs f k
ray_told [] f k h = absurd (not_both_values false h refl)
ray_told (r ∷ rs) f k h = elim (one_true (r.pair.a == f && r.pair.b == k) (has_ray rs f k) h) as (λ _. HasRayIn (r ∷ rs) f k) [
  | inl e ↦ (r, contains_here r rs, pair_is r.pair f k (same_number r.pair.a f (first_true (r.pair.a == f) (r.pair.b == k) e)) (same_number r.pair.b k (second_true (r.pair.a == f) (r.pair.b == k) e)))
  | inr e ↦ let x = ray_told rs f k e in (x.0, contains_tail r x.0 rs x.1, x.2)
]

ray_tells : (rs : List PairRay) (f k : ℕ) → HasRayIn rs f k → has_ray rs f k ≡ true
ray_tells [] f k (r, there, pair) = absurd (contains_none r there)
ray_tells (s ∷ rs) f k (r, there, pair) = elim (contains_cases s r rs there) as (λ _. has_ray (s ∷ rs) f k ≡ true) [
  | inl e ↦
      let same : s.pair ≡ record { a = f; b = k } = ap (λ (x : PairRay). x.pair) e ∙ pair in
      true_by_first (s.pair.a == f && s.pair.b == k) (has_ray rs f k) (both_true (s.pair.a == f) (s.pair.b == k) (tells_same s.pair.a f (ap (λ (p : Pair). p.a) same)) (tells_same s.pair.b k (ap (λ (p : Pair). p.b) same)))
  | inr behind ↦ true_by_second (s.pair.a == f && s.pair.b == k) (has_ray rs f k) (ray_tells rs f k (r, behind, pair))
]

pub joined_told : (c : CertParts) (f k : ℕ) → is_joined c.rays f k ≡ true → AreGroupsJoined c f k
joined_told c f k h = elim (one_true (f == k) (has_ray c.rays f k || has_ray c.rays k f) h) as (λ _. AreGroupsJoined c f k) [
  | inl e ↦ inl (same_number f k e)
  | inr rays ↦ elim (one_true (has_ray c.rays f k) (has_ray c.rays k f) rays) as (λ _. AreGroupsJoined c f k) [ inl e ↦ inr (inl (ray_told c.rays f k e)) | inr e ↦ inr (inr (ray_told c.rays k f e)) ]
]

pub joined_tells : (c : CertParts) (f k : ℕ) → AreGroupsJoined c f k → is_joined c.rays f k ≡ true
joined_tells c f k (inl e) = true_by_first (f == k) (has_ray c.rays f k || has_ray c.rays k f) (tells_same f k e)
joined_tells c f k (inr (inl r)) = true_by_second (f == k) (has_ray c.rays f k || has_ray c.rays k f) (true_by_first (has_ray c.rays f k) (has_ray c.rays k f) (ray_tells c.rays f k r))
joined_tells c f k (inr (inr r)) = true_by_second (f == k) (has_ray c.rays f k || has_ray c.rays k f) (true_by_second (has_ray c.rays f k) (has_ray c.rays k f) (ray_tells c.rays k f r))

pub not_joined : (c : CertParts) (f k : ℕ) → is_joined c.rays f k ≡ false → ¬ AreGroupsJoined c f k
not_joined c f k h j = not_both_values (is_joined c.rays f k) (joined_tells c f k j) h

-- ---- rows of tests

bit_at : (test : ℕ → Bool) (k n i : ℕ) → i < n → slice_get (bits_from test k n) i ≡ Some (test (k + i))
bit_at test k zero i l = absurd (omega arith)
bit_at test k (suc n) zero l = ap (λ (j : ℕ). Some (test j)) (omega arith)
bit_at test k (suc n) (suc i) l = bit_at test (suc k) n i (omega arith) ∙ ap (λ (j : ℕ). Some (test j)) (omega arith)

pub bit_is : (test : ℕ → Bool) (n i : ℕ) → i < n → slice_get (bits_from test 0 n) i ≡ Some (test i)
bit_is test n i l = bit_at test 0 n i l ∙ ap (λ (j : ℕ). Some (test j)) (omega arith)

pub bit_low : (test : ℕ → Bool) (k n i : ℕ) (b : Bool) → slice_get (bits_from test k n) i ≡ Some b → i < n
bit_low test k zero i b h = absurd (none_is_not_some b h)
bit_low test k (suc n) zero b h = omega arith
bit_low test k (suc n) (suc i) b h = let l = bit_low test (suc k) n i b h in omega arith

pub joined_rows_tell : JoinedRowsTell
joined_rows_tell cert n f k low =
    let at = bit_is (is_joined cert.rays f) n k low in
    ((λ h. joined_told cert f k (some_is_same (is_joined cert.rays f k) true (sym at ∙ h))), (λ j. at ∙ ap (λ (b : Bool). Some b) (joined_tells cert f k j)))
