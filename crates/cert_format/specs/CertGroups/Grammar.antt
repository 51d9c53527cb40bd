-- The grammar of version 2: ranges, orders, and the one spelling; and of version 1 or 2.
use Rattle.std.specs.Prelude.{◌≡◌, ◌≢◌, ℕ, ◌<◌, ◌≤◌, ◌^◌, List, [], ◌++◌, length, flat_map, codes}
use Rattle.std.specs.List.{AllByRecursion}
use Rattle.sight_names.specs.Limits.{most_triangles}
use Rattle.sight_names.specs.Order.{Ascends, PairBefore}
use Rattle.sight_names.specs.Groups.{AscendStrictly, ListBefore}
use Rattle.block_evidence.specs.SightTree.Spelling.{u16}
use Rattle.cert_format.specs.declared.cert.Sizes.{Sizes}
use Rattle.cert_format.specs.Grammar.{IsOneInOrder, IsPairInRange, FitsFields, SpellsOne, triangle_bytes, ray_bytes, pair_bytes, tree_bytes, count_bytes}
use Rattle.cert_format.specs.declared.cert_groups.cert.CertTwo.{CertTwo}
use Rattle.cert_format.specs.declared.cert_groups.cert.AnyCert.{AnyCert}
use Rattle.cert_format.specs.declared.cert_groups.cert.AnyCert.TheVariants.{One, Two}

-- ---- ranges and orders

-- at least one of so many sectors, ascending strictly
pub record IsGroupInOrder (sectors : ℕ) (group : List ℕ) : Type 0 where
  pub some : group ≢ []
  pub below : AllByRecursion (λ a. a < sectors) group
  pub ascend : AscendStrictly group

-- a certificate for a map of these sizes may have so many groups, each is in order, and each comes before the next
pub record AreGroupsInOrder (sizes : Sizes) (groups : List (List ℕ)) : Type 0 where
  pub few : length groups ≤ most_triangles sizes.points
  pub each : AllByRecursion (IsGroupInOrder sizes.sectors) groups
  pub ascend : Ascends ListBefore groups

-- the map's sizes with the groups as sectors
abbrev pub grouped_sizes : Sizes → List (List ℕ) → Sizes
grouped_sizes sizes groups = record { sectors = length groups; points = sizes.points; lines = sizes.lines }

-- the ranges and orders of a certificate of version 2, for a map of these sizes
pub record IsTwoInOrder (sizes : Sizes) (c : CertTwo) : Type 0 where
  pub few : length c.groups ≤ most_triangles sizes.points
  pub groups : AllByRecursion (IsGroupInOrder sizes.sectors) c.groups
  pub groups_ascend : Ascends ListBefore c.groups
  -- the rest is as in version 1, with groups in the place of sectors
  pub grouped : c.cert.sizes ≡ grouped_sizes sizes c.groups
  pub in_order : IsOneInOrder c.cert
  -- but for the listed pairs
  pub no_pairs : c.cert.listed ≡ []
  pub listed : AllByRecursion (IsPairInRange sizes) c.listed
  pub listed_ascend : Ascends PairBefore c.listed

-- where the version is 2, its ranges and orders hold; in version 1 they are part of the type
abbrev pub IsAnyInOrder : AnyCert → Type 0
IsAnyInOrder (One c) = Unit {0}
IsAnyInOrder (Two c sizes) = IsTwoInOrder sizes c

-- ---- the spelling

-- how many sectors there are, and the sectors
abbrev pub group_bytes : List ℕ → List ℕ
group_bytes group = u16 (length group) ++ flat_map u16 group

-- the magic, version 2, the map's sizes, and how many groups there are
abbrev pub grouped_front_bytes : Sizes → ℕ → List ℕ
grouped_front_bytes sizes groups = codes "DSCT" ++ u16 2 ++ u16 sizes.sectors ++ u16 sizes.points ++ u16 sizes.lines ++ u16 groups

abbrev pub grouped_header_bytes : Sizes → CertTwo → List ℕ
grouped_header_bytes sizes c = grouped_front_bytes sizes (length c.groups) ++ count_bytes (length c.cert.triangles) (length c.cert.rays) (length c.listed) (length c.cert.trees)

unfoldable pub spelling : Sizes → CertTwo → List ℕ
spelling sizes c = grouped_header_bytes sizes c ++ flat_map group_bytes c.groups ++ flat_map triangle_bytes c.cert.triangles ++ flat_map ray_bytes c.cert.rays ++ flat_map pair_bytes c.listed ++ flat_map tree_bytes c.cert.trees

-- the bytes spell the certificate of version 2, for a map of these sizes
pub record SpellsTwo (sizes : Sizes) (bytes : List ℕ) (c : CertTwo) : Type 0 where
  pub in_order : IsTwoInOrder sizes c
  pub fits : FitsFields c.cert
  pub sectors : sizes.sectors < 2 ^ 16
  pub spelled : bytes ≡ spelling sizes c

-- the bytes spell the certificate of version 1 or 2
abbrev pub SpellsAny : Sizes → List ℕ → AnyCert → Type 0
SpellsAny sizes bytes (One c) = SpellsOne sizes bytes c
SpellsAny sizes bytes (Two c own) = (own ≡ sizes) × SpellsTwo sizes bytes c

-- the sizes of the map that the certificate is about
abbrev pub sizes_of_listing : AnyCert → Sizes
sizes_of_listing (One c) = c.sizes
sizes_of_listing (Two c sizes) = sizes
