-- What the answer says of a certificate of version 2, and of one of version 1 or 2.
use Rattle.std.specs.Prelude.{◌≡◌, ℕ, List, length}
use Rattle.sight_names.specs.declared.names.Pair.{Pair}
use Rattle.sight_names.specs.declared.names.PairRay.{PairRay}
use Rattle.sight_names.specs.declared.names.Side.{Side}
use Rattle.sight_names.specs.declared.faults.CheckFault.TheVariants.{Mesh}
use Rattle.sight_names.specs.Plan.{PlanParts}
use Rattle.sight_names.specs.Map.{Map, map_of}
use Rattle.sight_names.specs.Groups.{IsInGroup}
use Rattle.sight_names.specs.Mesh.{IsGoodMesh}
use Rattle.mesh_shape.specs.Faults.{IsFirstAgainst}
use Rattle.reject_bits.specs.Parts.{TableParts}
use Rattle.cert_format.specs.Parts.{CertParts}
use Rattle.cert_format.specs.declared.cert.Sizes.{Sizes}
use Rattle.cert_format.specs.Accepted.{triangles_of, labels_of}
use Rattle.cert_format.specs.declared.cert_groups.cert.CertTwo.{CertTwo}
use Rattle.cert_format.specs.declared.cert_groups.cert.AnyCert.{AnyCert}
use Rattle.cert_format.specs.declared.cert_groups.cert.AnyCert.TheVariants.{One, Two}
use Rattle.cert_format.specs.CertGroups.Grammar.{IsTwoInOrder}
use Rattle.cert_checker.specs.declared.verdict.Verdict.{Verdict}
use Rattle.cert_checker.specs.declared.verdict.Verdict.TheVariants.{Yes as YesOne, No as NoOne}
use Rattle.cert_checker.specs.Judged.{JudgesMesh, JudgesRays, JudgesTrees, JudgesPairs, JudgesPairsBy}
use Rattle.cert_checker.specs.Sight.{TellsSightOne}
use Rattle.group_checker.specs.declared.verdict.AnyFault.TheVariants.{Check, Group, Unused}
use Rattle.group_checker.specs.declared.verdict.AnyVerdict.{AnyVerdict}
use Rattle.group_checker.specs.declared.verdict.AnyVerdict.TheVariants.{Yes, No}
use Rattle.group_checker.specs.Meshes.{grouped_map, HasTriangleAt, IsFirstMeshFault}
use Rattle.group_checker.specs.Lists.{IsListRight, IsUsedGroup}

-- the answer is yes
abbrev pub IsYesAny : AnyVerdict → Type 0
IsYesAny (Yes t) = Unit {0}
IsYesAny (No f) = ⊥

-- a verdict of version 1 in the words of any version
abbrev pub any_of : Verdict → AnyVerdict
any_of (YesOne t) = Yes t
any_of (NoOne f) = No (Check f)

-- what is said of it in the words of version 1; nothing where it tells one of the two faults of groups
abbrev pub InWordsOfOne : (Verdict → Type 0) → AnyVerdict → Type 0
InWordsOfOne P (Yes t) = P (YesOne t)
InWordsOfOne P (No (Check f)) = P (NoOne f)
InWordsOfOne P (No (Group k)) = Unit {0}
InWordsOfOne P (No (Unused f)) = Unit {0}

-- ---- mesh and groups

-- a fault of the mesh is the first rule that the triangles break; with every other answer they break none
abbrev pub TellsMesh : Map → Map → CertTwo → AnyVerdict → Type 0
TellsMesh m g c (No (Check (Mesh f))) = IsFirstMeshFault m g (triangles_of c.cert) (labels_of c.cert) f
TellsMesh m g c _ = ((s : Side) → HasTriangleAt m (triangles_of c.cert) s) × IsGoodMesh g (triangles_of c.cert) (labels_of c.cert)

-- the least triangle for which the table has another list than that of its face; then the least group that no triangle has
abbrev pub TellsGroups : Map → CertTwo → AnyVerdict → Type 0
TellsGroups m c (No (Check (Mesh f))) = Unit {0}
TellsGroups m c (No (Group k)) = IsFirstAgainst (IsListRight m (triangles_of c.cert) c.groups (labels_of c.cert)) k
TellsGroups m c (No (Unused f)) = ((k : ℕ) → IsListRight m (triangles_of c.cert) c.groups (labels_of c.cert) k) × IsFirstAgainst (IsUsedGroup (length c.groups) (labels_of c.cert)) f
TellsGroups m c _ = ((k : ℕ) → IsListRight m (triangles_of c.cert) c.groups (labels_of c.cert) k) × ((f : ℕ) → IsUsedGroup (length c.groups) (labels_of c.cert) f)

-- ---- pairs of sectors

abbrev pub TellsPairsOfTwo : Map → TableParts → CertTwo → Verdict → Type 0
TellsPairsOfTwo g t c v = JudgesPairsBy g (IsInGroup c.groups) t c.listed c.cert v

-- ---- the whole

-- The answer for a certificate of version 2: the first fault in the order of mesh, groups, rays, trees and pairs. Rays and trees
-- are judged over the map of groups.
pub record JudgesTwo (p : PlanParts) (t : TableParts) (c : CertTwo) (v : AnyVerdict) : Type 0 where
  pub mesh : TellsMesh (map_of p) (grouped_map p c) c v
  pub groups : TellsGroups (map_of p) c v
  pub rays : InWordsOfOne (JudgesRays (grouped_map p c) c.cert) v
  pub trees : InWordsOfOne (JudgesTrees (grouped_map p c) c.cert) v
  pub pairs : InWordsOfOne (TellsPairsOfTwo (grouped_map p c) t c) v

-- the answer for one of version 1 is that of version 1
pub record JudgesOne (m : Map) (t : TableParts) (c : CertParts) (v : AnyVerdict) : Type 0 where
  pub verdict : Verdict
  pub is : v ≡ any_of verdict
  pub mesh : JudgesMesh m c verdict
  pub rays : JudgesRays m c verdict
  pub trees : JudgesTrees m c verdict
  pub pairs : JudgesPairs m t c verdict

-- the answer, by the version
abbrev pub JudgesAny : PlanParts → TableParts → AnyCert → AnyVerdict → Type 0
JudgesAny p t (One c) v = JudgesOne (map_of p) t c v
JudgesAny p t (Two c sizes) v = JudgesTwo p t c v

-- ranges and orders of the certificate are those of version 2, for the sizes of the plan
pub record IsTwoFor (p : PlanParts) (c : CertTwo) : Type 0 where
  pub sizes : Sizes
  pub in_order : IsTwoInOrder sizes c
  pub sectors : sizes.sectors ≡ p.sectors
  pub points : sizes.points ≡ length p.points
  pub lines : sizes.lines ≡ length p.lines

-- the same, for a map of so many sectors
abbrev pub IsTwoOfSectors : ℕ → CertTwo → Type 0
IsTwoOfSectors n c = (sizes : Sizes) × IsTwoInOrder sizes c × (sizes.sectors ≡ n)

-- the groups, the list and the rays of some certificate of version 2 in order, of a map with so many sectors
pub record AreListsOfTwo (n : ℕ) (groups : List (List ℕ)) (listed : List Pair) (rays : List PairRay) : Type 0 where
  pub cert : CertTwo
  pub two : IsTwoOfSectors n cert
  pub groups_are : groups ≡ cert.groups
  pub listed_is : listed ≡ cert.listed
  pub rays_are : rays ≡ cert.cert.rays

-- ---- sight

-- the certificate with the list of sectors in the place of its own
abbrev pub with_list : CertTwo → CertParts
with_list c = record { sizes = c.cert.sizes; triangles = c.cert.triangles; rays = c.cert.rays; listed = c.listed; trees = c.cert.trees }

-- what the table tells of sight, with the list of the version
abbrev pub TellsSightAny : Map → TableParts → AnyCert → Type 0
TellsSightAny m t (One c) = TellsSightOne m t c
TellsSightAny m t (Two c sizes) = TellsSightOne m t (with_list c)
