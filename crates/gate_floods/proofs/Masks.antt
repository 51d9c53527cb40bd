-- Floods and masks as rows of bits: what lies beyond a gate is connected with its sectors, so that a group there is either claimed or joined.
use Rattle.std.proofs.Common.{◌≡◌, ℕ, ◌<◌, List, [], Some, slice_get, Bool, true, refl, sym, subst}
use Rattle.sight_names.specs.Map.{Map, IsMap}
use Rattle.sight_names.specs.Found.{AreConnected}
use Rattle.sight_names.specs.Sequence.{Portal}
use Rattle.cert_format.specs.Parts.{CertParts}
use Rattle.cert_checker.specs.AcceptedGroups.Accepted.{AreGroupsJoined}
use Rattle.math_base.proofs.Bools.{by_value}
use Rattle.gate_floods.specs.Gates.{IsGate, IsBeyond, here, further, IsInMask, MayFollow}
use Rattle.gate_floods.specs.Exact.{IsClaimedBlind}
use Rattle.gate_floods.specs.Bits.{is_joined, both_rows, joined_row}
use Rattle.gate_floods.specs.Laws.{FloodsAreRows, MasksAreRows}
use Rattle.gate_floods.proofs.Connected.{near_below, far_below, on_through}
use Rattle.gate_floods.proofs.RowBits.{in_both, in_first, in_second, joined_told, joined_rows_tell, not_joined}

module _ (g : Map) (is_map : IsMap g) (cert : CertParts) where
  -- what is connected is joined or claimed
  joined_if_unclaimed : (f k : ℕ) → f < g.sectors → k < g.sectors → AreConnected g f k → ¬ IsClaimedBlind g cert f k → AreGroupsJoined cert f k
  joined_if_unclaimed f k low_f low_k connected none = by_value (is_joined cert.rays f k) (λ e. joined_told cert f k e) (λ e. absurd (none (record { within = low_f; within_too = low_k; connected = connected; apart = not_joined cert f k e })))

  module _ (b d : ℕ) (p : Portal) (gate : IsGate g b d p) where
    beyond_below : (c : ℕ) → IsBeyond g (IsClaimedBlind g cert) b d p c → c < g.sectors
    beyond_below c (here e) = subst (λ (x : ℕ). x < g.sectors) (sym e) (far_below g is_map b d p gate)
    beyond_below c (further x q h none through may) = far_below g is_map x c q through

    -- from whatever is connected with the far sector
    beyond_connected : (a c : ℕ) → AreConnected g a d → IsBeyond g (IsClaimedBlind g cert) b d p c → AreConnected g a c
    beyond_connected a c start (here e) = subst (AreConnected g a) (sym e) start
    beyond_connected a c start (further x q h none through may) = on_through g a x c q (beyond_connected a x start h) through

    from_near : AreConnected g b d
    from_near = on_through g b b d p ([], refl) gate

    module _ (row : List Bool) (far : slice_get row d ≡ Some true)
        (closed : (x c : ℕ) (q : Portal) → slice_get row x ≡ Some true → slice_get (joined_row cert.rays g.sectors b) x ≡ Some true → IsGate g x c q → MayFollow g p q → slice_get row c ≡ Some true) where
      beyond_has_bit : (c : ℕ) → IsBeyond g (IsClaimedBlind g cert) b d p c → slice_get row c ≡ Some true
      beyond_has_bit c (here e) = subst (λ (x : ℕ). slice_get row x ≡ Some true) (sym e) far
      beyond_has_bit c (further x q h none through may) =
          let low = beyond_below x h in
          let joined = joined_if_unclaimed b x (near_below g is_map b d p gate) low (beyond_connected b x from_near h) none in
          closed x c q (beyond_has_bit x h) ((joined_rows_tell cert g.sectors b x low).1 joined) through may

    mask_of_rows : (row : List Bool) (c : ℕ) → (slice_get row c ≡ Some true → IsBeyond g (IsClaimedBlind g cert) b d p c) → slice_get (both_rows row (joined_row cert.rays g.sectors d)) c ≡ Some true → IsInMask g (IsClaimedBlind g cert) b d p c
    mask_of_rows row c tells h =
        let beyond = tells (in_first row (joined_row cert.rays g.sectors d) c h) in
        let joined = (joined_rows_tell cert g.sectors d c (beyond_below c beyond)).0 (in_second row (joined_row cert.rays g.sectors d) c h) in
        record { beyond = beyond; unclaimed = λ claim. claim.apart joined }

    rows_of_mask : (row : List Bool) (c : ℕ) → (IsBeyond g (IsClaimedBlind g cert) b d p c → slice_get row c ≡ Some true) → IsInMask g (IsClaimedBlind g cert) b d p c → slice_get (both_rows row (joined_row cert.rays g.sectors d)) c ≡ Some true
    rows_of_mask row c tells h =
        let low = beyond_below c h.beyond in
        let joined = joined_if_unclaimed d c (far_below g is_map b d p gate) low (beyond_connected d c ([], refl) h.beyond) h.unclaimed in
        in_both row (joined_row cert.rays g.sectors d) c (tells h.beyond) ((joined_rows_tell cert g.sectors d c low).1 joined)

pub floods_are_rows : FloodsAreRows
floods_are_rows g cert b d p row is_map gate far closed sound c = ((λ h. sound c h), (λ h. beyond_has_bit g is_map cert b d p gate row far closed c h))

pub masks_are_rows : MasksAreRows
masks_are_rows g cert b d p row is_map gate tells c = ((λ h. mask_of_rows g is_map cert b d p gate row c (λ k. (tells c).0 k) h), (λ h. rows_of_mask g is_map cert b d p gate row c (λ k. (tells c).1 k) h))
