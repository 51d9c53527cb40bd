-- The masks by rows of what is joined are those of a certificate's claims.
use Rattle.std.proofs.Common.{ℕ, ◌<◌, ◌↔◌, List, [], refl, sym, subst}
use Rattle.sight_names.specs.Map.{Map, IsMap}
use Rattle.sight_names.specs.Found.{AreConnected}
use Rattle.sight_names.specs.Sequence.{Portal}
use Rattle.cert_format.specs.Parts.{CertParts}
use Rattle.cert_checker.specs.AcceptedGroups.Accepted.{AreGroupsJoined}
use Rattle.math_base.proofs.Bools.{by_value}
use Rattle.gate_floods.specs.Bits.{is_joined}
use Rattle.gate_floods.specs.Gates.{IsGate, IsBeyond, here, further, IsInMask}
use Rattle.gate_floods.specs.Exact.{IsClaimedBlind}
use Rattle.gate_floods.proofs.Connected.{near_below, far_below, on_through}
use Rattle.gate_floods.proofs.RowBits.{joined_told, not_joined}
use Rattle.gate_floods.specs.declared.gate_masks.masks.Row.{Row}
use Rattle.gate_floods.specs.GateMasks.Masks.{IsInRowOf, IsLeftOut}
use Rattle.gate_floods.specs.GateMasks.Laws.{MasksAreThoseOfClaims}
use Rattle.gate_floods.proofs.GateMasks.Masking.{in_of_not_out}

module _ (g : Map) (is_map : IsMap g) where
  module _ (b d : ℕ) (p : Portal) (gate : IsGate g b d p) where
    -- what is connected with both sectors of the gate
    pub record IsNear (c : ℕ) : Type 0 where
      pub below : c < g.sectors
      pub near : AreConnected g b c
      pub far : AreConnected g d c

    lies_near : (Claims : ℕ → ℕ → Type 0) (c : ℕ) → IsBeyond g Claims b d p c → IsNear c
    lies_near Claims c (here e) = subst IsNear (sym e) (record { below = far_below g is_map b d p gate; near = on_through g b b d p ([], refl) gate; far = ([], refl) })
    lies_near Claims c (further x q h none through may) =
        let w = lies_near Claims x h in
        record { below = far_below g is_map x c q through; near = on_through g b x c q w.near through; far = on_through g d x c q w.far through }

    -- claims that say less of what is connected with b let a flood as far
    moved : (Claims Others : ℕ → ℕ → Type 0) → ((x : ℕ) → IsNear x → ¬ Claims b x → ¬ Others b x) → (c : ℕ) → IsBeyond g Claims b d p c → IsBeyond g Others b d p c
    moved Claims Others less c (here e) = here e
    moved Claims Others less c (further x q h none through may) = further x q (moved Claims Others less x h) (less x (lies_near Claims x h) none) through may

    mask_moved : (Claims Others : ℕ → ℕ → Type 0) → ((x : ℕ) → IsNear x → ¬ Claims b x → ¬ Others b x) → ((x : ℕ) → IsNear x → ¬ Claims d x → ¬ Others d x) → (c : ℕ) → IsInMask g Claims b d p c → IsInMask g Others b d p c
    mask_moved Claims Others less less_far c h = record { beyond = moved Claims Others less c h.beyond; unclaimed = less_far c (lies_near Claims c h.beyond) h.unclaimed }

  module _ (cert : CertParts) (joined : List Row) (tells : (f k : ℕ) → f < g.sectors → k < g.sectors → IsInRowOf joined f k ↔ AreGroupsJoined cert f k) where
    less_claimed : (f k : ℕ) → f < g.sectors → k < g.sectors → ¬ IsLeftOut joined f k → ¬ IsClaimedBlind g cert f k
    less_claimed f k low low_too h claim = claim.apart ((tells f k low low_too).0 (in_of_not_out joined f k h))

    less_left_out : (f k : ℕ) → f < g.sectors → k < g.sectors → AreConnected g f k → ¬ IsClaimedBlind g cert f k → ¬ IsLeftOut joined f k
    less_left_out f k low low_too connected none out =
        by_value (is_joined cert.rays f k)
        (λ e. out ((tells f k low low_too).1 (joined_told cert f k e)))
        (λ e. none (record { within = low; within_too = low_too; connected = connected; apart = not_joined cert f k e }))

    of_claims : (b d : ℕ) (p : Portal) → IsGate g b d p → (c : ℕ) → IsInMask g (IsLeftOut joined) b d p c ↔ IsInMask g (IsClaimedBlind g cert) b d p c
    of_claims b d p gate c =
        let low = near_below g is_map b d p gate in
        let low_far = far_below g is_map b d p gate in (
          mask_moved b d p gate (IsLeftOut joined) (IsClaimedBlind g cert) (λ x w. less_claimed b x low w.below) (λ x w. less_claimed d x low_far w.below) c,
          mask_moved b d p gate (IsClaimedBlind g cert) (IsLeftOut joined) (λ x w. less_left_out b x low w.below w.near) (λ x w. less_left_out d x low_far w.below w.far) c,
        )

pub masks_of_claims : MasksAreThoseOfClaims
masks_of_claims g cert joined is_map tells b d p gate c = of_claims g is_map cert joined tells b d p gate c
