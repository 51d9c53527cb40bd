-- What a build of a map with closed faces gives: of its sectors, and of its groups.
use Rattle.std.specs.Prelude.{◌≡◌, ◌≢◌, ℕ, ◌<◌, ◌⊎◌, ◌↔◌, List, [], Option, length, Contains, ⊤}
use Rattle.sight_names.specs.declared.names.Ask.{Ask}
use Rattle.sight_names.specs.declared.names.Ask.TheVariants.{Enough, Full}
use Rattle.sight_names.specs.declared.names.Budget.{Budget}
use Rattle.sight_names.specs.declared.names.Pair.{Pair}
use Rattle.sight_names.specs.declared.names.Triangle.{Triangle}
use Rattle.sight_names.specs.Map.{Map, map_of}
use Rattle.sight_names.specs.Plan.{PlanParts}
use Rattle.sight_names.specs.Sees.{Sees}
use Rattle.sight_names.specs.Mesh.{IsMeshOf, AreLabelsOf}
use Rattle.sight_names.specs.Enough.{IsBudgetOf}
use Rattle.sight_names.specs.Found.{AreConnected, Found, Spent}
use Rattle.sight_names.specs.Groups.{AreGroups, IsGroupedMap, IsListedByGroups}
use Rattle.block_evidence.specs.declared.sight_tree.Tree.{Tree}
use Rattle.reject_bits.specs.Parts.{Rejects}
use Rattle.mesh_shape.specs.Faults.{IsFirstSideAgainst}
use Rattle.face_groups.specs.TriSectors.Verdict.{IsClosedSide}
use Rattle.cert_format.specs.declared.cert.Sizes.{Sizes}
use Rattle.cert_format.specs.Accepted.{HasRay}
use Rattle.cert_format.specs.Sizes.{sizes_of_plan}
use Rattle.cert_format.specs.CertGroups.Grammar.{IsAnyInOrder}
use Rattle.cert_checker.specs.AcceptedGroups.Accepted.{IsAcceptedAny}
use Rattle.cert_format.specs.declared.cert_groups.cert.CertTwo.{CertTwo}
use Rattle.cert_format.specs.declared.cert_groups.cert.AnyCert.{AnyCert}
use Rattle.cert_format.specs.declared.cert_groups.cert.AnyCert.TheVariants.{One, Two}
use Rattle.face_groups.specs.declared.fault.GroupFault.{GroupFault}
use Rattle.face_groups.specs.declared.fault.GroupFault.TheVariants as fault
use Rattle.group_job.specs.declared.build.GroupBuilt.{GroupBuilt}

-- why a map gets no table: the least side that names a sector and whose face reaches outside
abbrev pub IsOpenFace : Map → GroupFault → Type 0
IsOpenFace m (fault.Open s) = IsFirstSideAgainst (IsClosedSide m) s
IsOpenFace m (fault.Memory _) = ⊤

-- ---- the sectors

-- the two bits of a pair are one
abbrev pub IsBuiltSymmetric : GroupBuilt → Type 0
IsBuiltSymmetric b = (x y : ℕ) → x < b.table.n → y < b.table.n → Rejects b.table x y → Rejects b.table y x

-- sectors whose bit is set don't see each other; those whose bit is clear do, unless their pair is listed
pub record TellsSectors (m : Map) (b : GroupBuilt) : Type 0 where
  pub blind : (x y : ℕ) → x < m.sectors → y < m.sectors → Rejects b.table x y → ¬ Sees m x y
  pub seen : (x y : ℕ) → x < m.sectors → y < m.sectors → ¬ Rejects b.table x y → ¬ Contains b.listed (record { a = x; b = y }) → ¬ Contains b.listed (record { a = y; b = x }) → Sees m x y

-- within the budget that was asked for a bit is set exactly where the two sectors neither see each other nor are listed by their
-- groups, and the listed pairs are just those that are, the smaller sector first
pub record DecidesByGroups (m : Map) (ask : Ask) (b : GroupBuilt) : Type 0 where
  pub budget : Budget
  pub is_budget : IsBudgetOf m ask budget
  pub bits : (x y : ℕ) → x < m.sectors → y < m.sectors → Rejects b.table x y ↔ (¬ Sees m x y × ¬ IsListedByGroups m budget x y)
  pub listed : (q : Pair) → Contains b.listed q ↔ ((q.a < q.b) × IsListedByGroups m budget q.a q.b)

-- ---- the certificate

-- it is of version 2, for a map of these sizes
abbrev pub IsTwoOfSizes : Sizes → AnyCert → Type 0
IsTwoOfSizes sizes (One c) = ⊥
IsTwoOfSizes sizes (Two c own) = own ≡ sizes

-- so it is of the certificate of version 2
abbrev pub OfTwo : (CertTwo → Type 0) → AnyCert → Type 0
OfTwo P (One c) = ⊥
OfTwo P (Two c sizes) = P c

-- The map of groups, over whose mesh and within which budget the sources are walked. There is one of each.
pub record WalkedMap (m : Map) (ask : Ask) (groups : List (List ℕ)) : Type 0 where
  pub g : Map
  pub grouped : IsGroupedMap m groups g
  pub triangles : List Triangle
  pub labels : List (Option ℕ)
  pub mesh : IsMeshOf g triangles
  pub labelled : AreLabelsOf g triangles labels
  pub budget : Budget
  pub is_budget : IsBudgetOf g ask budget

-- one of the two groups is found from the other within the budget
abbrev pub FindsEither : {m : Map} {ask : Ask} {groups : List (List ℕ)} → WalkedMap m ask groups → ℕ → ℕ → Type 0
FindsEither w f k = Found w.g w.triangles w.labels f k w.budget ⊎ Found w.g w.triangles w.labels k f w.budget

-- there is a ray for each pair of groups of which one is found from the other, the smaller one first, and for no others
abbrev pub HasRaysOfFound : Map → Ask → CertTwo → Type 0
HasRaysOfFound m ask c = (w : WalkedMap m ask c.groups) (f k : ℕ) → f < k → k < length c.groups → HasRay c.cert f k ↔ FindsEither w f k

-- there is the tree of this group
abbrev pub HasTreeOf : CertTwo → ℕ → Type 0
HasTreeOf c f = (t : Tree) × Contains c.cert.trees t × (t.source ≡ f)

-- each other group that passable lines connect with this one is found from it, or finds it
abbrev pub FindsConnected : {m : Map} {ask : Ask} {groups : List (List ℕ)} → WalkedMap m ask groups → ℕ → Type 0
FindsConnected {m} {ask} {groups} w f = (k : ℕ) → k < length groups → f ≢ k → AreConnected w.g f k → FindsEither w f k

-- each group whose budget isn't spent has its tree, but for those that need none
abbrev pub HasTreesOfUnspent : Map → Ask → CertTwo → Type 0
HasTreesOfUnspent m ask c = (w : WalkedMap m ask c.groups) (f : ℕ) → f < length c.groups → ¬ Spent w.g w.triangles w.labels f w.budget → HasTreeOf c f ⊎ FindsConnected w f

-- ---- all of it

-- what is known of the build of a map within the budget that was asked for
pub record IsGroupBuild (p : PlanParts) (ask : Ask) (b : GroupBuilt) : Type 0 where
  pub sectors : b.table.n ≡ p.sectors
  pub sizes : IsTwoOfSizes (sizes_of_plan p) b.cert
  pub in_order : IsAnyInOrder b.cert
  pub groups : OfTwo (λ c. AreGroups (map_of p) c.groups) b.cert
  pub listed : OfTwo (λ c. c.listed ≡ b.listed) b.cert
  pub symmetric : IsBuiltSymmetric b
  pub sight : TellsSectors (map_of p) b
  pub by_groups : DecidesByGroups (map_of p) ask b
  pub rays : OfTwo (HasRaysOfFound (map_of p) ask) b.cert
  pub trees : OfTwo (HasTreesOfUnspent (map_of p) ask) b.cert
  pub enough : ask ≡ Enough → b.listed ≡ []
  pub whole : ask ≡ Full → b.listed ≡ []
  pub accepted : IsAcceptedAny (map_of p) b.table.bytes b.cert
