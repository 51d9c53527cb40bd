-- The grammar of version 3: certificates that list no pair, their ranges and orders, and their one spelling.
use Rattle.std.specs.Prelude.{◌≡◌, ℕ, suc, ◌<◌, ◌^◌, List, [], ◌∷◌, ◌++◌, length, flat_map, codes}
use Rattle.std.specs.List.{AllByRecursion}
use Rattle.block_evidence.specs.declared.sight_tree.Node.{Node}
use Rattle.block_evidence.specs.declared.sight_tree.Tree.{Tree}
use Rattle.block_evidence.specs.SightTree.Spelling.{u16, node_bytes}
use Rattle.cert_format.specs.declared.cert.Sizes.{Sizes}
use Rattle.cert_format.specs.Grammar.{FitsFields, u32, u64, triangle_bytes, ray_bytes}
use Rattle.cert_format.specs.declared.cert_groups.cert.CertTwo.{CertTwo}
use Rattle.cert_format.specs.CertGroups.Grammar.{IsTwoInOrder, grouped_sizes, group_bytes}
use Rattle.certificates.specs.declared.cert_exact.cert.ExactParts.{ExactParts}

-- the trees of the groups from one on
abbrev pub trees_from : ℕ → List (List Node) → List Tree
trees_from f [] = []
trees_from f (ns ∷ more) = record { source = f; nodes = ns } ∷ trees_from (suc f) more

-- as one of version 2, without listed pairs, that has a tree for each group
abbrev pub as_two : ExactParts → CertTwo
as_two c = record {
  groups = c.groups;
  cert = record { sizes = grouped_sizes c.sizes c.groups; triangles = c.triangles; rays = c.rays; listed = []; trees = trees_from 0 c.trees };
  listed = [];
}

-- the ranges and orders of version 3, with a tree for each group
pub record IsThreeInOrder (c : ExactParts) : Type 0 where
  pub two : IsTwoInOrder c.sizes (as_two c)
  pub one_each : length c.trees ≡ length c.groups

-- ---- the spelling

-- the magic, version 3, the map's sizes, and how many groups there are
abbrev pub exact_front_bytes : Sizes → ℕ → List ℕ
exact_front_bytes sizes groups = codes "DSCT" ++ u16 3 ++ u16 sizes.sectors ++ u16 sizes.points ++ u16 sizes.lines ++ u16 groups

-- and how many triangles and rays
abbrev pub exact_header_bytes : ExactParts → List ℕ
exact_header_bytes c = exact_front_bytes c.sizes (length c.groups) ++ u32 (length c.triangles) ++ u32 (length c.rays)

abbrev pub nodes_bytes : List Node → List ℕ
nodes_bytes ns = flat_map node_bytes ns

-- how many bytes the nodes take
abbrev pub length_bytes : List Node → List ℕ
length_bytes ns = u64 (length (nodes_bytes ns))

unfoldable pub spelling : ExactParts → List ℕ
spelling c = exact_header_bytes c ++ flat_map group_bytes c.groups ++ flat_map triangle_bytes c.triangles ++ flat_map ray_bytes c.rays ++ flat_map length_bytes c.trees ++ flat_map nodes_bytes c.trees

-- the bytes spell the certificate, for a map of these sizes
pub record SpellsThree (sizes : Sizes) (bytes : List ℕ) (c : ExactParts) : Type 0 where
  pub sized : c.sizes ≡ sizes
  -- groups, triangles, rays and nodes are in range and in order as in version 2
  pub in_order : IsTwoInOrder sizes (as_two c)
  pub one_each : length c.trees ≡ length c.groups
  pub fits : FitsFields (as_two c).cert
  pub sectors : sizes.sectors < 2 ^ 16
  pub lengths : AllByRecursion (λ ns. length (nodes_bytes ns) < 2 ^ 64) c.trees
  pub spelled : bytes ≡ spelling c
