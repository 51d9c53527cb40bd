-- The map of groups and its mesh, by triangles that have groups, for every certificate of version 2 that has these.
use Rattle.std.specs.Prelude.{◌≡◌, ℕ, List, Option, length}
use Rattle.sight_names.specs.declared.names.Side.{Side}
use Rattle.sight_names.specs.declared.names.Triangle.{Triangle}
use Rattle.sight_names.specs.Plan.{PlanParts, IsPlan}
use Rattle.sight_names.specs.Map.{map_of}
use Rattle.sight_names.specs.Mesh.{IsGoodMesh}
use Rattle.reject_bits.specs.Parts.{TableParts}
use Rattle.cert_format.specs.Accepted.{triangles_of, labels_of}
use Rattle.cert_format.specs.declared.cert_groups.cert.CertTwo.{CertTwo}
use Rattle.face_groups.specs.Regrouped.{regrouped_plan}
use Rattle.group_checker.specs.declared.grouping.MeshVerdict.{MeshVerdict}
use Rattle.group_checker.specs.declared.grouping.MeshVerdict.TheVariants.{Good, Broken}
use Rattle.group_checker.specs.declared.verdict.AnyVerdict.TheVariants.{No}
use Rattle.group_checker.specs.Judged.{JudgesTwo}
use Rattle.group_checker.specs.Lists.{IsListRight, IsUsedGroup}
use Rattle.group_checker.specs.Meshes.{HasTriangleAt}

-- the certificate has these triangles with these labels, and these groups
pub record HasGrouping (c : CertTwo) (ts : List Triangle) (ls : List (Option ℕ)) (groups : List (List ℕ)) : Type 0 where
  pub triangles : triangles_of c.cert ≡ ts
  pub labels : labels_of c.cert ≡ ls
  pub lists : c.groups ≡ groups

-- The triangles are a good mesh of their map of groups, and each side of the map that names a sector has its triangle. The
-- group of each triangle is the list of its face, and each group is that of a triangle.
pub record IsGroupedMesh (p : PlanParts) (ts : List Triangle) (ls : List (Option ℕ)) (groups : List (List ℕ)) (grouped : PlanParts) : Type 0 where
  pub grouped_is : grouped ≡ regrouped_plan ts ls (length groups) p
  pub plan : IsPlan grouped
  pub sides : (s : Side) → HasTriangleAt (map_of p) ts s
  pub good : IsGoodMesh (map_of grouped) ts ls
  pub lists : (k : ℕ) → IsListRight (map_of p) ts groups ls k
  pub used : (f : ℕ) → IsUsedGroup (length groups) ls f

-- a fault is the answer for each table and each certificate with these triangles and groups
abbrev pub TellsGrouping : PlanParts → List Triangle → List (Option ℕ) → List (List ℕ) → MeshVerdict → Type 0
TellsGrouping p ts ls groups (Broken f) = (t : TableParts) (c : CertTwo) → HasGrouping c ts ls groups → JudgesTwo p t c (No f)
TellsGrouping p ts ls groups (Good g) = (g.mesh.triangles ≡ ts) × (g.labels ≡ ls) × IsGroupedMesh p ts ls groups g.plan
