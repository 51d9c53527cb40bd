-- What is built: the parts of a certificate of version 3, before its rays and trees and with them.
use Rattle.std.specs.Prelude.{◌≡◌, ℕ, ◌<◌, ◌≤◌, List, Option, length, map}
use Rattle.std.specs.List.{AllByRecursion}
use Rattle.sight_names.specs.Limits.{most_triangles}
use Rattle.sight_names.specs.Order.{Ascends}
use Rattle.sight_names.specs.Groups.{ListBefore}
use Rattle.sight_names.specs.declared.names.Triangle.{Triangle}
use Rattle.sight_names.specs.Map.{map_of}
use Rattle.sight_names.specs.Mesh.{AreTriangles, IsGoodMesh}
use Rattle.sight_names.specs.Plan.{PlanParts, IsPlan}
use Rattle.sight_names.specs.Sound.{LinesMeetAtEnds}
use Rattle.mesh_shape.specs.declared.half_edges.table.HalfEdge.{HalfEdge}
use Rattle.cert_format.specs.declared.cert.Labelled.{Labelled}
use Rattle.cert_format.specs.declared.cert.Sizes.{Sizes}
use Rattle.cert_format.specs.CertGroups.Grammar.{IsGroupInOrder}
use Rattle.face_groups.specs.GroupsBase.Table.{IsTableFor, NamesTheLabels}
use Rattle.cert_checker.specs.Rays.{AreSightRaysBelow}
use Rattle.exact_checker.specs.Rows.{AreJoinedRows}
use Rattle.exact_job.specs.declared.settling.Settled.{Settled}
use Rattle.exact_job.specs.Rays.{AreRaysInOrder}
use Rattle.exact_job.specs.Trees.{AreTreesFor}

-- groups and labelled triangles as a certificate for a map of these sizes may have them
pub record AreInCertificateOrder (sizes : Sizes) (groups : List (List ℕ)) (triangles : List Labelled) : Type 0 where
  pub few_groups : length groups ≤ most_triangles sizes.points
  pub groups_are : AllByRecursion (IsGroupInOrder sizes.sectors) groups
  pub groups_ascend : Ascends ListBefore groups
  pub few : length triangles ≤ most_triangles sizes.points
  pub triangles_are : AreTriangles sizes.points (map (λ (l : Labelled). l.triangle) triangles)
  pub labels : AllByRecursion (λ (l : Labelled). l.sector < length groups) triangles

-- the map of groups of a map with closed faces, over the same lines; the groups are the lists of its faces, and the triangles with
-- their labels are a good mesh of it
pub record IsPlanOfGroups (p : PlanParts) (groups : List (List ℕ)) (ts : List Triangle) (ls : List (Option ℕ)) (g : PlanParts) : Type 0 where
  pub plan : IsPlan g
  pub sectors : g.sectors ≡ length groups
  pub lines : length g.lines ≡ length p.lines
  pub table : IsTableFor (map_of p) ts groups ls
  pub names : NamesTheLabels (map_of p) ts groups ls (map_of g)
  pub audited : LinesMeetAtEnds (map_of g)
  pub good : IsGoodMesh (map_of g) ts ls

-- over a map of groups with these triangles and half-edges: sight rays in order, the rows of what they join, and the trees
pub record IsSettled (gp : PlanParts) (ts : List Triangle) (xs : List HalfEdge) (sizes : Sizes) (s : Settled) : Type 0 where
  pub rays : AreRaysInOrder sizes s.rays.items
  pub joined : AreJoinedRows gp.sectors s.rays.items s.joined.items
  pub sight : AreSightRaysBelow (map_of gp) s.rays.items (length s.rays.items)
  pub trees : AreTreesFor gp ts xs s.joined.items s.trees.items
