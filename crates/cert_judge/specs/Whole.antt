-- A certificate whose parts all have come.
use Rattle.std.specs.Prelude.{◌≡◌, ◌<◌, ◌^◌, List, ◌++◌, Option, length, Contains}
use Rattle.std.specs.Option.{option_to_list}
use Rattle.sight_names.specs.declared.faults.CheckFault.{CheckFault}
use Rattle.sight_names.specs.declared.faults.CheckFault.TheVariants.{Mesh, Ray, Tree as OfTree, ListedSet, Unproved, Uncovered}
use Rattle.sight_names.specs.declared.names.Pair.{Pair}
use Rattle.sight_names.specs.declared.names.PairRay.{PairRay}
use Rattle.sight_names.specs.Map.{Map, map_of}
use Rattle.sight_names.specs.Plan.{PlanParts}
use Rattle.block_evidence.specs.declared.sight_tree.Tree.{Tree}
use Rattle.cert_format.specs.Grammar.{IsOneInOrder}
use Rattle.cert_format.specs.Parts.{CertParts}
use Rattle.cert_format.specs.Sizes.{sizes_of_plan}
use Rattle.cert_format.specs.declared.cert_groups.cert.AnyCert.{AnyCert}
use Rattle.cert_format.specs.CertGroups.Grammar.{IsAnyInOrder, sizes_of_listing as sizes_in}
use Rattle.reject_bits.specs.Parts.{TableParts}
use Rattle.cert_checker.specs.declared.tree_judge.judge.Reach.{Reach}
use Rattle.cert_checker.specs.TreeJudge.Trees.{AreTreesWhole, TellsReach}
use Rattle.cert_checker.specs.declared.verdict.Verdict.TheVariants.{No}
use Rattle.cert_checker.specs.Judged.{JudgesRays, JudgesTrees}
use Rattle.cert_checker.specs.Rays.{AreSightRaysBelow}
use Rattle.cert_judge.specs.declared.on_ground.OnGround.{OnGround}
use Rattle.cert_judge.specs.declared.on_mesh.OnMesh.{OnMesh}
use Rattle.cert_judge.specs.Heard.{PartsHeard}
use Rattle.cert_judge.specs.OnGround.{IsOnGround}
use Rattle.cert_judge.specs.OnMesh.{IsOnMesh}
use Rattle.cert_judge.specs.Version.{Groups, groups_in, core_of, listed_in, plan_over}

abbrev pub AreNodesCounted : CertParts → Type 0
AreNodesCounted c = (u : Tree) → Contains c.trees u → length u.nodes < 2 ^ 64

-- a certificate in order, of a plan and a table
pub record IsCertOf (p : PlanParts) (t : TableParts) (c : AnyCert) : Type 0 where
  pub sized : sizes_in c ≡ sizes_of_plan p
  pub in_order : IsAnyInOrder c
  pub core : IsOneInOrder (core_of c)
  pub table : t.n ≡ p.sectors
  pub counted : AreNodesCounted (core_of c)

-- what was heard is the whole of the certificate
pub record IsAllOf (c : AnyCert) (h : PartsHeard) : Type 0 where
  pub triangles : h.triangles ≡ (core_of c).triangles
  pub rays : h.rays ≡ (core_of c).rays
  pub listed : h.listed ≡ listed_in c
  pub trees : h.front ++ option_to_list h.tree ≡ (core_of c).trees

-- ---- over a good mesh

-- the triangles of the certificate are the good mesh over which its rays and trees were judged
pub record IsHeardOver (p : PlanParts) (c : CertParts) (g : OnMesh) : Type 0 where
  pub in_order : IsOneInOrder c
  pub sectors : c.sizes.sectors ≡ p.sectors
  pub counted : AreNodesCounted c
  pub front : List Tree
  pub tree : Option Tree
  pub trees : front ++ option_to_list tree ≡ c.trees
  pub on : IsOnMesh p c.triangles c.rays front tree g

-- each ray is a sight ray and each tree is whole, and this is what the trees keep from
pub record HasReached (m : Map) (c : CertParts) (reach : Reach) : Type 0 where
  pub rays : AreSightRaysBelow m c.rays (length c.rays)
  pub trees : AreTreesWhole m c
  pub sectors : reach.reached.n ≡ m.sectors
  pub tells : TellsReach m c reach.walked.items reach.reached

-- a fault of a ray or of a tree
abbrev pub IsEarlyFault : CheckFault → Type 0
IsEarlyFault (Mesh f) = ⊥
IsEarlyFault (Ray a b f) = Unit {0}
IsEarlyFault (OfTree s n) = Unit {0}
IsEarlyFault (ListedSet a b) = ⊥
IsEarlyFault (Unproved a b) = ⊥
IsEarlyFault (Uncovered a b) = ⊥

-- it is the first one
pub record IsFirstEarly (m : Map) (c : CertParts) (f : CheckFault) : Type 0 where
  pub kind : IsEarlyFault f
  pub rays : JudgesRays m c (No f)
  pub trees : JudgesTrees m c (No f)

-- ---- in version 1 or 2

-- it is a certificate of the plan and the table, and its groups and lists are these
pub record HasLists (p : PlanParts) (t : TableParts) (c : AnyCert) (groups : Groups) (listed : List Pair) (rays : List PairRay) : Type 0 where
  pub cert : IsCertOf p t c
  pub groups_are : groups ≡ groups_in c
  pub listed_is : listed ≡ listed_in c
  pub rays_are : rays ≡ (core_of c).rays

-- and its triangles are those over which its rays and trees were judged
pub record IsJudgedOn (p : PlanParts) (t : TableParts) (c : AnyCert) (groups : Groups) (listed : List Pair) (rays : List PairRay) (g : OnGround) : Type 0 where
  pub lists : HasLists p t c groups listed rays
  pub front : List Tree
  pub tree : Option Tree
  pub trees : front ++ option_to_list tree ≡ (core_of c).trees
  pub on : IsOnGround p groups (core_of c).triangles (core_of c).rays front tree g

-- and this is what its trees keep from, over the plan of the version
pub record IsReachedOn (p over : PlanParts) (t : TableParts) (c : AnyCert) (groups : Groups) (listed : List Pair) (rays : List PairRay) (reach : Reach) : Type 0 where
  pub lists : HasLists p t c groups listed rays
  pub over_is : over ≡ plan_over p groups (core_of c).triangles
  pub reached : HasReached (map_of over) (core_of c) reach
