-- The certificate grammar: ranges, orders, and the one spelling (version 1).
use Rattle.std.specs.Prelude.{◌≡◌, ℕ, ◌+◌, ◌<◌, ◌≤◌, ◌^◌, List, ◌++◌, length, map, drop, flat_map, codes, cond, FitsSigned}
use Rattle.std.specs.List.{AllByRecursion}
use Rattle.std.specs.Int.{to_le_bytes, w32, w64, cast_unsigned}
use Rattle.sight_names.specs.Limits.{most_triangles}
use Rattle.sight_names.specs.declared.names.Pair.{Pair}
use Rattle.sight_names.specs.declared.names.PairRay.{PairRay}
use Rattle.sight_names.specs.declared.names.Ray.{Ray}
use Rattle.sight_names.specs.declared.names.Side.{Side}
use Rattle.sight_names.specs.Mesh.{AreTriangles}
use Rattle.sight_names.specs.Order.{Ascends, PairBefore}
use Rattle.block_evidence.specs.declared.Evidence.{Evidence}
use Rattle.block_evidence.specs.declared.sight_tree.Node.{Node}
use Rattle.block_evidence.specs.declared.sight_tree.Node.TheVariants.{Open, Blocked}
use Rattle.block_evidence.specs.declared.sight_tree.Tree.{Tree}
use Rattle.block_evidence.specs.Stuck.{end_codes}
use Rattle.block_evidence.specs.SightTree.Spelling.{u16, node_bytes, FitsNode}
use Rattle.cert_format.specs.declared.cert.Sizes.{Sizes}
use Rattle.cert_format.specs.declared.cert.Labelled.{Labelled}
use Rattle.cert_format.specs.Parts.{CertParts}

-- ---- ranges and orders

abbrev pub IsPairInRange : Sizes → Pair → Type 0
IsPairInRange sizes p = (p.a < p.b) × (p.b < sizes.sectors)

abbrev pub IsSideInRange : Sizes → Side → Type 0
IsSideInRange sizes s = (s.line < sizes.lines) × (s.line < 2 ^ 15)

abbrev pub IsRayInRange : Sizes → PairRay → Type 0
IsRayInRange sizes r = IsPairInRange sizes r.pair × IsSideInRange sizes r.ray.first × IsSideInRange sizes r.ray.last

-- two to four ends that ascend strictly by their number; what isn't used is 0
pub record IsEvidenceInOrder (e : Evidence) : Type 0 where
  pub least : 2 ≤ e.count
  pub most : e.count ≤ 4
  pub ascend : Ascends (λ x y. x < y) (end_codes e)
  pub unused : AllByRecursion (λ x. x ≡ 0) (drop e.count e.ends)

abbrev pub IsNodeInOrder : Node → Type 0
IsNodeInOrder Open = Unit {0}
IsNodeInOrder (Blocked e) = IsEvidenceInOrder e

abbrev pub IsTreeInRange : Sizes → Tree → Type 0
IsTreeInRange sizes t = (t.source < sizes.sectors) × AllByRecursion IsNodeInOrder t.nodes

-- the ranges and orders of a certificate
pub record IsOneInOrder (c : CertParts) : Type 0 where
  pub few : length c.triangles ≤ most_triangles c.sizes.points
  pub triangles : AreTriangles c.sizes.points (map (λ (l : Labelled). l.triangle) c.triangles)
  pub sectors : AllByRecursion (λ (l : Labelled). l.sector < c.sizes.sectors) c.triangles
  pub rays : AllByRecursion (IsRayInRange c.sizes) c.rays
  pub rays_ascend : Ascends (λ (r s : PairRay). PairBefore r.pair s.pair) c.rays
  pub listed : AllByRecursion (IsPairInRange c.sizes) c.listed
  pub listed_ascend : Ascends PairBefore c.listed
  pub trees : AllByRecursion (IsTreeInRange c.sizes) c.trees
  pub trees_ascend : Ascends (λ (t u : Tree). t.source < u.source) c.trees

-- The numbers fit their fields. At a value of the program this is so by the fields' types; a plain record has no bounds.
pub record FitsRay (r : Ray) : Type 0 where
  pub a : FitsSigned w32 r.a
  pub b : FitsSigned w32 r.b
  pub c : FitsSigned w64 r.c

-- the sizes fit two bytes each
pub record AreSmall (s : Sizes) : Type 0 where
  pub sectors : s.sectors < 2 ^ 16
  pub points : s.points < 2 ^ 16
  pub lines : s.lines < 2 ^ 16

abbrev pub FitsPairRay : PairRay → Type 0
FitsPairRay r = FitsRay r.ray

pub record FitsTree (t : Tree) : Type 0 where
  pub count : length t.nodes < 2 ^ 64
  pub nodes : AllByRecursion FitsNode t.nodes

-- both line numbers leave room for the side
abbrev pub HasShortSides : Ray → Type 0
HasShortSides r = (r.first.line < 2 ^ 15) × (r.last.line < 2 ^ 15)

pub record FitsFields (c : CertParts) : Type 0 where
  pub sectors : c.sizes.sectors < 2 ^ 16
  pub points : c.sizes.points < 2 ^ 16
  pub lines : c.sizes.lines < 2 ^ 16
  pub rays : AllByRecursion FitsPairRay c.rays
  pub trees : AllByRecursion FitsTree c.trees

-- ---- the spelling

abbrev pub u32 : ℕ → List ℕ
u32 n = to_le_bytes w32 n

abbrev pub u64 : ℕ → List ℕ
u64 n = to_le_bytes w64 n

abbrev pub side_code : Side → ℕ
side_code s = cond s.left (s.line + 32768) s.line

abbrev pub triangle_bytes : Labelled → List ℕ
triangle_bytes l = u16 l.triangle.p ++ u16 l.triangle.q ++ u16 l.triangle.r ++ u16 l.sector

abbrev pub pair_bytes : Pair → List ℕ
pair_bytes p = u16 p.a ++ u16 p.b

-- the two sides and the three numbers of a ray
abbrev pub line_bytes : Ray → List ℕ
line_bytes r = u16 (side_code r.first) ++ u16 (side_code r.last)
    ++ u32 (cast_unsigned w32 r.a) ++ u32 (cast_unsigned w32 r.b) ++ u64 (cast_unsigned w64 r.c)

abbrev pub ray_bytes : PairRay → List ℕ
ray_bytes r = pair_bytes r.pair ++ line_bytes r.ray

abbrev pub tree_bytes : Tree → List ℕ
tree_bytes t = u16 t.source ++ u64 (length t.nodes) ++ flat_map node_bytes t.nodes

-- the magic, version 1, and the sizes
abbrev pub front_bytes : Sizes → List ℕ
front_bytes sizes = codes "DSCT" ++ u16 1 ++ u16 sizes.sectors ++ u16 sizes.points ++ u16 sizes.lines

-- how many triangles, rays, listed pairs and trees there are
abbrev pub count_bytes : ℕ → ℕ → ℕ → ℕ → List ℕ
count_bytes triangles rays listed trees = u32 triangles ++ u32 rays ++ u32 listed ++ u32 trees

abbrev pub header_bytes : CertParts → List ℕ
header_bytes c = front_bytes c.sizes ++ count_bytes (length c.triangles) (length c.rays) (length c.listed) (length c.trees)

unfoldable pub spelling : CertParts → List ℕ
spelling c = header_bytes c ++ flat_map triangle_bytes c.triangles ++ flat_map ray_bytes c.rays ++ flat_map pair_bytes c.listed ++ flat_map tree_bytes c.trees

-- the bytes spell the certificate, whose sizes are these
pub record SpellsOne (sizes : Sizes) (bytes : List ℕ) (c : CertParts) : Type 0 where
  pub sized : c.sizes ≡ sizes
  pub in_order : IsOneInOrder c
  pub fits : FitsFields c
  pub spelled : bytes ≡ spelling c
