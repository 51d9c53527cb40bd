-- What the masks of rows by bits are to a certificate that lists no pair.
use Rattle.std.specs.Prelude.{ℕ, ◌<◌, ◌↔◌, List}
use Rattle.sight_names.specs.Map.{Map, IsMap}
use Rattle.sight_names.specs.Sequence.{Portal}
use Rattle.cert_format.specs.Parts.{CertParts}
use Rattle.cert_checker.specs.AcceptedGroups.Accepted.{AreGroupsJoined}
use Rattle.gate_floods.specs.Gates.{IsGate, IsInMask}
use Rattle.gate_floods.specs.Exact.{IsClaimedBlind}
use Rattle.gate_floods.specs.declared.gate_masks.masks.Row.{Row}
use Rattle.gate_floods.specs.GateMasks.Masks.{IsInRowOf, IsLeftOut}

-- with rows of what is joined, the masks are those that take for right what the certificate claims
abbrev pub MasksAreThoseOfClaims : Type 0
MasksAreThoseOfClaims = (g : Map) (cert : CertParts) (joined : List Row) → IsMap g → ((f k : ℕ) → f < g.sectors → k < g.sectors → IsInRowOf joined f k ↔ AreGroupsJoined cert f k)
    → (b d : ℕ) (p : Portal) → IsGate g b d p → (c : ℕ) → IsInMask g (IsLeftOut joined) b d p c ↔ IsInMask g (IsClaimedBlind g cert) b d p c
