-- What floods over gates show. Each statement is the contract of a function of this crate.
use Rattle.std.specs.Prelude.{◌≡◌, ◌≢◌, ℕ, ◌<◌, ◌⊎◌, ◌↔◌, List, [], ◌++◌, ◌∷◌, Option, Some, slice_get, Bool, true, false}
use Rattle.sight_names.specs.declared.names.Triangle.{Triangle}
use Rattle.sight_names.specs.Plan.{PlanParts, IsPlan}
use Rattle.sight_names.specs.Map.{Map, IsMap, map_of}
use Rattle.sight_names.specs.Sound.{LinesMeetAtEnds}
use Rattle.sight_names.specs.Sees.{Sees}
use Rattle.sight_names.specs.Mesh.{IsGoodMesh}
use Rattle.sight_names.specs.Sequence.{Portal, Sequence, IsSequence, IsStabbable}
use Rattle.reject_bits.specs.Parts.{TableParts}
use Rattle.block_evidence.specs.declared.sight_tree.Node.{Node}
use Rattle.block_evidence.specs.declared.sight_tree.Tree.{Tree}
use Rattle.face_groups.specs.TriSectors.Components.{AreComponents}
use Rattle.cert_format.specs.Parts.{CertParts}
use Rattle.cert_checker.specs.AcceptedGroups.Accepted.{AreGroupsJoined}
use Rattle.cert_format.specs.declared.cert_groups.cert.CertTwo.{CertTwo}
use Rattle.gate_floods.specs.Gates.{IsGate, IsBeyond, IsInMask, MayFollow}
use Rattle.gate_floods.specs.Rows.{IsInRow, IsEmptyRow, HasRow, KeepsByRows}
use Rattle.certificates.specs.declared.cert_exact.cert.ExactParts.{ExactParts}
use Rattle.gate_floods.specs.Exact.{IsClaimedBlind, IsOwned, IsAcceptedExact, IsAcceptedThree, TellsAll}
use Rattle.gate_floods.specs.Bits.{IsRowOf, both_rows, has_bit_in_list, joined_row, owned_row}

-- where a line splits the portals of a sequence, each later one may follow each earlier one
abbrev pub LaterMayFollow : Type 0
LaterMayFollow = (m : Map) (ts : List Triangle) (ls : List (Option ℕ)) (a : ℕ) (s : Sequence) (ps front between back : List Portal) (p q : Portal) → IsMap m → IsGoodMesh m ts ls → IsSequence m ts ls a s ps → IsStabbable m ps
    → ps ≡ front ++ p ∷ (between ++ q ∷ back) → MayFollow m p q

-- Claims of two different sectors that they don't see each other, each owned by one of the two, are right where each sector that owns
-- some has a tree that keeps from those by rows whose masks take the claims themselves for right.
abbrev pub ClaimsAreRight : Type 1
ClaimsAreRight = (m : Map) (ts : List Triangle) (ls : List (Option ℕ)) (Claims Owns : ℕ → ℕ → Type 0) → IsMap m → LinesMeetAtEnds m → IsGoodMesh m ts ls
    → ((a b : ℕ) → Claims a b → (a ≢ b) × (Owns a b ⊎ Owns b a))
    → ((a b : ℕ) → Owns a b → (t : Tree) × (t.source ≡ a) × KeepsByRows m ts ls Claims (Owns a) t)
    → (a b : ℕ) → Claims a b → ¬ Sees m a b

-- the table of an accepted certificate that lists no pair tells all of sight, whatever the ranks by which claims are owned
abbrev pub ExactTells : Type 0
ExactTells = (rank : ℕ → ℕ) (p : PlanParts) (t : TableParts) (c : CertTwo) → IsPlan p → LinesMeetAtEnds (map_of p) → t.n ≡ p.sectors → IsAcceptedExact rank (map_of p) t.bytes c → TellsAll (map_of p) t

-- so does that of an accepted certificate of version 3
abbrev pub VersionThreeTells : Type 0
VersionThreeTells = (p : PlanParts) (t : TableParts) (c : ExactParts) → IsPlan p → LinesMeetAtEnds (map_of p) → t.n ≡ p.sectors → IsAcceptedThree (map_of p) t.bytes c → TellsAll (map_of p) t

-- ---- where to go on

-- What a walk keeps in its row: at first what the tree is to keep from; behind a portal that is no gate the same; behind a gate
-- what is in its mask too.
abbrev pub RowsGoOn : Type 0
RowsGoOn = (rank : ℕ → ℕ) (g : Map) (ts : List Triangle) (ls : List (Option ℕ)) (cert : CertParts) (f c : ℕ) → IsMap g → IsGoodMesh g ts ls → let Claims = IsClaimedBlind g cert in let Keeps = IsOwned rank Claims f in
    (IsInRow g Claims Keeps [] c ↔ Keeps c)
    × ((ps : List Portal) (p : Portal) → ((b d : ℕ) → ¬ IsGate g b d p) → (IsInRow g Claims Keeps (ps ++ p ∷ []) c ↔ IsInRow g Claims Keeps ps c))
    × ((ps : List Portal) (p : Portal) (b d : ℕ) → IsGate g b d p → (IsInRow g Claims Keeps (ps ++ p ∷ []) c ↔ (IsInRow g Claims Keeps ps c × IsInMask g Claims b d p c)))

-- The same by bits: with the bits of the row and of the gate's mask, the row behind the gate has the bits of both; and a row with
-- a bit goes on, one without doesn't.
abbrev pub RowsAreBits : Type 0
RowsAreBits = (rank : ℕ → ℕ) (g : Map) (ts : List Triangle) (ls : List (Option ℕ)) (cert : CertParts) (f : ℕ) (ps : List Portal) (row : List Bool) → IsMap g → IsGoodMesh g ts ls → let Claims = IsClaimedBlind g cert in let Keeps = IsOwned rank Claims f in
    IsRowOf row (IsInRow g Claims Keeps ps)
    → ((p : Portal) (b d : ℕ) (mask : List Bool) → IsGate g b d p → IsRowOf mask (IsInMask g Claims b d p) → IsRowOf (both_rows row mask) (IsInRow g Claims Keeps (ps ++ p ∷ [])))
    × (has_bit_in_list row ≡ true → HasRow g Claims Keeps ps) × (has_bit_in_list row ≡ false → IsEmptyRow g Claims Keeps ps)

-- the row with which the walk of a group begins: what it owns
abbrev pub OwnedRowsTell : Type 0
OwnedRowsTell = (rank : ℕ → ℕ) (g : Map) (cert : CertParts) (components : List ℕ) (f : ℕ) → AreComponents g components → f < g.sectors → IsRowOf (owned_row cert.rays components rank g.sectors f) (IsOwned rank (IsClaimedBlind g cert) f)

-- A flood by bits: a row that has the gate's far sector, that is closed, where the row of what is joined with the near sector tells
-- through which to go on, and that has nothing else than what lies beyond the gate.
abbrev pub FloodsAreRows : Type 0
FloodsAreRows = (g : Map) (cert : CertParts) (b d : ℕ) (p : Portal) (row : List Bool) → IsMap g → IsGate g b d p
    → slice_get row d ≡ Some true
    → ((x c : ℕ) (q : Portal) → slice_get row x ≡ Some true → slice_get (joined_row cert.rays g.sectors b) x ≡ Some true → IsGate g x c q → MayFollow g p q → slice_get row c ≡ Some true)
    → ((c : ℕ) → slice_get row c ≡ Some true → IsBeyond g (IsClaimedBlind g cert) b d p c)
    → IsRowOf row (IsBeyond g (IsClaimedBlind g cert) b d p)

-- a mask by bits: those of the flood that are joined with the far sector
abbrev pub MasksAreRows : Type 0
MasksAreRows = (g : Map) (cert : CertParts) (b d : ℕ) (p : Portal) (row : List Bool) → IsMap g → IsGate g b d p → IsRowOf row (IsBeyond g (IsClaimedBlind g cert) b d p) → IsRowOf (both_rows row (joined_row cert.rays g.sectors d)) (IsInMask g (IsClaimedBlind g cert) b d p)

-- of a list of nodes at most one beginning is a tree of the source that keeps by rows
abbrev pub TreesAreReadOnce : Type 0
TreesAreReadOnce = (rank : ℕ → ℕ) (g : Map) (ts : List Triangle) (ls : List (Option ℕ)) (cert : CertParts) (f : ℕ) (ns rest ms more : List Node) → let Claims = IsClaimedBlind g cert in let Keeps = IsOwned rank Claims f in
    KeepsByRows g ts ls Claims Keeps (record { source = f; nodes = ns }) → KeepsByRows g ts ls Claims Keeps (record { source = f; nodes = ms }) → ns ++ rest ≡ ms ++ more → ns ≡ ms

-- the bit of a pair of groups in the row of the one is set exactly where they are joined
abbrev pub JoinedRowsTell : Type 0
JoinedRowsTell = (cert : CertParts) (n f k : ℕ) → k < n → (slice_get (joined_row cert.rays n f) k ≡ Some true) ↔ AreGroupsJoined cert f k
