-- Accepted certificates of version 1 and 2. They name no budget and no greedy mesh. Rays and trees are of groups of sectors, over a
-- map whose sectors these are. In version 1 each sector that a side names is a group alone, over the map itself.
use Rattle.std.specs.Prelude.{◌≡◌, ◌≢◌, ℕ, ◌<◌, ◌≤◌, ◌⊎◌, List, Contains}
use Rattle.sight_names.specs.declared.names.Pair.{Pair}
use Rattle.sight_names.specs.declared.names.PairRay.{PairRay}
use Rattle.sight_names.specs.Map.{Map}
use Rattle.sight_names.specs.Mesh.{IsGoodMesh}
use Rattle.sight_names.specs.Found.{AreConnected}
use Rattle.sight_names.specs.Groups.{IsInGroup}
use Rattle.sight_names.specs.Ray.{IsSightRay}
use Rattle.block_evidence.specs.declared.sight_tree.Tree.{Tree}
use Rattle.block_evidence.specs.SightTree.WholeTree.{IsWholeTree}
use Rattle.cert_format.specs.Parts.{CertParts}
use Rattle.cert_format.specs.Accepted.{triangles_of, labels_of, EitherSet, EitherClear, IsNamed, HasRay, HasTreeWithout}
use Rattle.cert_format.specs.declared.cert_groups.cert.CertTwo.{CertTwo}
use Rattle.cert_format.specs.declared.cert_groups.cert.AnyCert.{AnyCert}
use Rattle.cert_format.specs.declared.cert_groups.cert.AnyCert.TheVariants.{One, Two}
use Rattle.face_groups.specs.GroupsBase.Table.{IsTableFor, NamesTheLabels}

-- two groups are shown not to see each other: they differ, and no passable lines of the map of groups connect them, or the
-- tree of one of them keeps from the other
abbrev pub AreGroupsApart : Map → CertParts → ℕ → ℕ → Type 0
AreGroupsApart g c f k = (f ≢ k) × (¬ AreConnected g f k ⊎ HasTreeWithout g c f k ⊎ HasTreeWithout g c k f)

-- two groups are shown to see each other: they are one, or there is a ray between them
abbrev pub AreGroupsJoined : CertParts → ℕ → ℕ → Type 0
AreGroupsJoined c f k = (f ≡ k) ⊎ HasRay c f k ⊎ HasRay c k f

-- ---- sectors, by the groups that contain them

abbrev pub HasListedPair : List Pair → ℕ → ℕ → Type 0
HasListedPair pairs a b = Contains pairs (record { a = a; b = b })

-- why a set bit is right: all groups of the two sectors are apart
abbrev pub IsBlindBy : Map → (ℕ → ℕ → Type 0) → CertParts → ℕ → ℕ → Type 0
IsBlindBy g In c a b = (f k : ℕ) → In a f → In b k → AreGroupsApart g c f k

-- why a clear bit is right: some groups of the two sectors are joined
abbrev pub IsSeenBy : (ℕ → ℕ → Type 0) → CertParts → ℕ → ℕ → Type 0
IsSeenBy In c a b = (f k : ℕ) × In a f × In b k × AreGroupsJoined c f k

-- the rule, of a table of n sectors with a list of pairs of these, by groups over the map g
pub record IsAcceptedOn (g : Map) (In : ℕ → ℕ → Type 0) (n : ℕ) (table : List ℕ) (pairs : List Pair) (c : CertParts) : Type 0 where
  -- each ray for a pair of groups is a sight ray from the one to the other
  pub rays : (r : PairRay) → Contains c.rays r → IsSightRay g r.ray r.pair.a r.pair.b
  -- each tree is whole
  pub trees : (t : Tree) → Contains c.trees t → (opened : List ℕ) × IsWholeTree g (triangles_of c) (labels_of c) t opened
  -- each pair of sectors is proved: a listed one is clear, a set one blind, a clear one that isn't listed seen
  pub listed : (a b : ℕ) → a ≤ b → b < n → HasListedPair pairs a b → ¬ EitherSet n table a b
  pub set : (a b : ℕ) → a ≤ b → b < n → EitherSet n table a b → IsBlindBy g In c a b
  pub clear : (a b : ℕ) → a ≤ b → b < n → EitherClear n table a b → ¬ HasListedPair pairs a b → IsSeenBy In c a b

-- ---- version 1

-- the group that contains the sector is the sector itself, where a side names it
abbrev pub IsAlone : Map → ℕ → ℕ → Type 0
IsAlone m a f = (a ≡ f) × IsNamed m a

-- accepted: its triangles are a good mesh, and the rule is kept over the map itself
pub record IsAcceptedOne (m : Map) (table : List ℕ) (c : CertParts) : Type 0 where
  pub mesh : IsGoodMesh m (triangles_of c) (labels_of c)
  pub on : IsAcceptedOn m (IsAlone m) m.sectors table c.listed c

-- ---- version 2

abbrev pub IsPairOfList : CertTwo → ℕ → ℕ → Type 0
IsPairOfList c a b = HasListedPair c.listed a b

abbrev pub IsGroupedBlind : Map → CertTwo → ℕ → ℕ → Type 0
IsGroupedBlind g c a b = IsBlindBy g (IsInGroup c.groups) c.cert a b

abbrev pub IsGroupedSeen : CertTwo → ℕ → ℕ → Type 0
IsGroupedSeen c a b = IsSeenBy (IsInGroup c.groups) c.cert a b

-- accepted, over the map of groups
pub record IsAcceptedOver (m : Map) (table : List ℕ) (c : CertTwo) (g : Map) : Type 0 where
  -- its triangles, labelled with groups, keep the rules of a mesh, and its groups are the lists of the faces
  pub table_for : IsTableFor m (triangles_of c.cert) c.groups (labels_of c.cert)
  pub on : IsAcceptedOn g (IsInGroup c.groups) m.sectors table c.listed c.cert

-- accepted: the map of groups has the same lines, and its sides name the labels of their triangles
abbrev pub IsAcceptedTwo : Map → List ℕ → CertTwo → Type 0
IsAcceptedTwo m table c = (g : Map) × NamesTheLabels m (triangles_of c.cert) c.groups (labels_of c.cert) g × IsAcceptedOver m table c g

-- accepted, in version 1 or 2
abbrev pub IsAcceptedAny : Map → List ℕ → AnyCert → Type 0
IsAcceptedAny m table (One c) = IsAcceptedOne m table c
IsAcceptedAny m table (Two c sizes) = IsAcceptedTwo m table c
