-- The row of what a group owns: by components, ranks, and what it is joined with.
use Rattle.std.proofs.Common.{◌≡◌, ℕ, ◌<◌, inl, inr, List, Some, slice_get, Bool, true, ◌==◌, ◌&&◌, not, sym, ap, ◌∙◌, arith}
use Rattle.std.proofs.lemmas.Bool.{ltb-true, lt-ltb}
use Rattle.std.proofs.lemmas.Option.{slice_get-get_or, get_or_from_slice_get}
use Rattle.std.specs.Prelude.{get_or, nat_lt}
use Rattle.sight_names.specs.Map.{Map}
use Rattle.face_groups.specs.TriSectors.Components.{AreComponents}
use Rattle.cert_format.specs.Parts.{CertParts}
use Rattle.cert_checker.proofs.Components.{one_component, one_number}
use Rattle.math_base.proofs.Bools.{both_true, first_true, second_true, one_true, true_by_first, true_by_second, false_of_not, false_where_not_true}
use Rattle.math_base.proofs.Numbers.{tells_same}
use Rattle.math_base.proofs.Options.{some_is_same}
use Rattle.gate_floods.specs.Exact.{IsClaimedBlind, RanksBefore, IsOwned}
use Rattle.gate_floods.specs.Bits.{is_joined, ranks_before, is_owned, owned_row}
use Rattle.gate_floods.specs.Laws.{OwnedRowsTell}
use Rattle.gate_floods.proofs.RowBits.{same_number, joined_told, not_joined, bit_is, bit_low}

ranks_told : (rank : ℕ → ℕ) (f k : ℕ) → ranks_before rank f k ≡ true → RanksBefore rank f k
ranks_told rank f k h = elim (one_true (nat_lt (rank f) (rank k)) (rank f == rank k && nat_lt f k) h) as (λ _. RanksBefore rank f k) [
  | inl l ↦ inl (ltb-true (rank f) (rank k) l)
  | inr e ↦ inr (same_number (rank f) (rank k) (first_true (rank f == rank k) (nat_lt f k) e), ltb-true f k (second_true (rank f == rank k) (nat_lt f k) e))
]

ranks_tell : (rank : ℕ → ℕ) (f k : ℕ) → RanksBefore rank f k → ranks_before rank f k ≡ true
ranks_tell rank f k (inl l) = true_by_first (nat_lt (rank f) (rank k)) (rank f == rank k && nat_lt f k) (lt-ltb (rank f) (rank k) l)
ranks_tell rank f k (inr (e, l)) = true_by_second (nat_lt (rank f) (rank k)) (rank f == rank k && nat_lt f k) (both_true (rank f == rank k) (nat_lt f k) (tells_same (rank f) (rank k) e) (lt-ltb f k l))

not_true : (b : Bool) → (b ≡ true → ⊥) → not b ≡ true
not_true b h = ap not (false_where_not_true b h)

module _ (rank : ℕ → ℕ) (g : Map) (cert : CertParts) (components : List ℕ) (f : ℕ) (are : AreComponents g components) (low : f < g.sectors) where
  owned_told : (k : ℕ) → k < g.sectors → is_owned cert.rays components rank f k ≡ true → IsOwned rank (IsClaimedBlind g cert) f k
  owned_told k low_k h =
      let one = same_number (get_or components f 0) (get_or components k 0) (first_true (get_or components f 0 == get_or components k 0) (ranks_before rank f k && not (is_joined cert.rays f k)) h) in
      let rest = second_true (get_or components f 0 == get_or components k 0) (ranks_before rank f k && not (is_joined cert.rays f k)) h in
      let each = are.one_each in
      let at_f = slice_get-get_or components f 0 (omega (arith, each, low)) in
      let at_k = slice_get-get_or components k 0 (omega (arith, each, low_k)) in (
        record {
          within = low;
          within_too = low_k;
          connected = one_component g components f k are (get_or components f 0, at_f, at_k ∙ ap (λ (n : ℕ). Some n) (sym one));
          apart = not_joined cert f k (false_of_not (is_joined cert.rays f k) (second_true (ranks_before rank f k) (not (is_joined cert.rays f k)) rest));
        },
        ranks_told rank f k (first_true (ranks_before rank f k) (not (is_joined cert.rays f k)) rest),
      )

  owned_tells : (k : ℕ) → IsOwned rank (IsClaimedBlind g cert) f k → is_owned cert.rays components rank f k ≡ true
  owned_tells k (claim, ranks) =
      let s = one_number g components f k are low claim.within_too claim.connected in
      let same : get_or components f 0 ≡ get_or components k 0 = get_or_from_slice_get components f s.0 0 s.1 ∙ sym (get_or_from_slice_get components k s.0 0 s.2) in
      both_true (get_or components f 0 == get_or components k 0) (ranks_before rank f k && not (is_joined cert.rays f k)) (tells_same (get_or components f 0) (get_or components k 0) same)
      (both_true (ranks_before rank f k) (not (is_joined cert.rays f k)) (ranks_tell rank f k ranks) (not_true (is_joined cert.rays f k) (λ j. claim.apart (joined_told cert f k j))))

  owned_bits : (k : ℕ) → slice_get (owned_row cert.rays components rank g.sectors f) k ≡ Some true → IsOwned rank (IsClaimedBlind g cert) f k
  owned_bits k h =
      let low_k = bit_low (is_owned cert.rays components rank f) 0 g.sectors k true h in
      owned_told k low_k (some_is_same (is_owned cert.rays components rank f k) true (sym (bit_is (is_owned cert.rays components rank f) g.sectors k low_k) ∙ h))

  bits_owned : (k : ℕ) → IsOwned rank (IsClaimedBlind g cert) f k → slice_get (owned_row cert.rays components rank g.sectors f) k ≡ Some true
  bits_owned k h = bit_is (is_owned cert.rays components rank f) g.sectors k h.0.within_too ∙ ap (λ (b : Bool). Some b) (owned_tells k h)

pub owned_rows_tell : OwnedRowsTell
owned_rows_tell rank g cert components f are low k = ((λ h. owned_bits rank g cert components f are low k h), (λ h. bits_owned rank g cert components f are low k h))
