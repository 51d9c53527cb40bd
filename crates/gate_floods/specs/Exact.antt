-- Certificates that list no pair: over the map of groups, whatever has no ray is claimed not to see each other, and trees show it.
use Rattle.std.specs.Prelude.{◌≡◌, ℕ, ◌<◌, ◌⊎◌, List, [], Some, length, slice_get, Contains}
use Rattle.sight_names.specs.declared.names.PairRay.{PairRay}
use Rattle.sight_names.specs.Map.{Map}
use Rattle.sight_names.specs.Found.{AreConnected}
use Rattle.sight_names.specs.Groups.{IsInGroup}
use Rattle.sight_names.specs.Ray.{IsSightRay}
use Rattle.sight_names.specs.Sees.{Sees}
use Rattle.sight_names.specs.Table.{Rejected}
use Rattle.reject_bits.specs.Parts.{TableParts, Rejects}
use Rattle.block_evidence.specs.declared.sight_tree.Tree.{Tree}
use Rattle.cert_format.specs.Parts.{CertParts}
use Rattle.cert_format.specs.Accepted.{triangles_of, labels_of}
use Rattle.cert_format.specs.declared.cert_groups.cert.CertTwo.{CertTwo}
use Rattle.face_groups.specs.GroupsBase.Table.{IsTableFor, NamesTheLabels}
use Rattle.cert_checker.specs.AcceptedGroups.Accepted.{AreGroupsJoined, IsGroupedSeen}
use Rattle.certificates.specs.declared.cert_exact.cert.ExactParts.{ExactParts}
use Rattle.certificates.specs.CertExact.Grammar.{as_two}
use Rattle.gate_floods.specs.Bits.{rank_of}
use Rattle.gate_floods.specs.Rows.{KeepsByRows}

-- claimed not to see each other: different groups of one component without a ray
pub record IsClaimedBlind (g : Map) (c : CertParts) (f k : ℕ) : Type 0 where
  pub within : f < g.sectors
  pub within_too : k < g.sectors
  pub connected : AreConnected g f k
  pub apart : ¬ AreGroupsJoined c f k

-- by the rank, and by the number among those of one rank
abbrev pub RanksBefore : (ℕ → ℕ) → ℕ → ℕ → Type 0
RanksBefore rank f k = (rank f < rank k) ⊎ ((rank f ≡ rank k) × (f < k))

-- a claim is owned by the one of its two groups that ranks before the other
abbrev pub IsOwned : (ℕ → ℕ) → (ℕ → ℕ → Type 0) → ℕ → ℕ → Type 0
IsOwned rank Claims f k = Claims f k × RanksBefore rank f k

-- accepted, over the map of groups, where claims are owned by such ranks
pub record IsExactOver (rank : ℕ → ℕ) (m : Map) (table : List ℕ) (c : CertTwo) (g : Map) : Type 0 where
  -- its triangles, labelled with groups, keep the rules of a mesh, and its groups are the lists of the faces
  pub table_for : IsTableFor m (triangles_of c.cert) c.groups (labels_of c.cert)
  -- each ray for a pair of groups is a sight ray from the one to the other
  pub rays : (r : PairRay) → Contains c.cert.rays r → IsSightRay g r.ray r.pair.a r.pair.b
  -- each group has its tree, in order, which keeps from all that the group owns
  pub one_each : length c.cert.trees ≡ g.sectors
  pub trees : (f : ℕ) (t : Tree) → slice_get c.cert.trees f ≡ Some t → (t.source ≡ f) × KeepsByRows g (triangles_of c.cert) (labels_of c.cert) (IsClaimedBlind g c.cert) (IsOwned rank (IsClaimedBlind g c.cert) f) t
  -- no pair is listed
  pub listed : c.listed ≡ []
  -- a bit is set exactly where no group of the one sector is joined with a group of the other
  pub set : (a b : ℕ) → a < m.sectors → b < m.sectors → Rejected m.sectors table a b → (f k : ℕ) → IsInGroup c.groups a f → IsInGroup c.groups b k → ¬ AreGroupsJoined c.cert f k
  pub clear : (a b : ℕ) → a < m.sectors → b < m.sectors → ¬ Rejected m.sectors table a b → IsGroupedSeen c a b

-- accepted: the map of groups has the same lines, and its sides name the labels of their triangles
abbrev pub IsAcceptedExact : (ℕ → ℕ) → Map → List ℕ → CertTwo → Type 0
IsAcceptedExact rank m table c = (g : Map) × NamesTheLabels m (triangles_of c.cert) c.groups (labels_of c.cert) g × IsExactOver rank m table c g

-- a certificate of version 3 is accepted: claims are owned by the group of the two that is joined with fewer groups, of equal ones by
-- that with the smaller number
abbrev pub IsAcceptedThree : Map → List ℕ → ExactParts → Type 0
IsAcceptedThree m table c = IsAcceptedExact (rank_of c.rays (length c.groups)) m table (as_two c)

-- ---- what such a certificate shows

-- the table tells of each two sectors, and of each one, whether they see each other
pub record TellsAll (m : Map) (t : TableParts) : Type 0 where
  pub blind : (a b : ℕ) → a < m.sectors → b < m.sectors → Rejects t a b → ¬ Sees m a b
  pub seen : (a b : ℕ) → a < m.sectors → b < m.sectors → ¬ Rejects t a b → Sees m a b
