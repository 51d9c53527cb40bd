-- Rays and trees that are judged over the plan of the version.
use Rattle.std.specs.Prelude.{◌≡◌, List, Option, unwrap_or}
use Rattle.sight_names.specs.declared.names.PairRay.{PairRay}
use Rattle.sight_names.specs.Map.{map_of}
use Rattle.sight_names.specs.Plan.{PlanParts}
use Rattle.block_evidence.specs.declared.sight_tree.Tree.{Tree}
use Rattle.cert_format.specs.declared.cert.Labelled.{Labelled}
use Rattle.cert_format.specs.declared.cert_groups.cert.AnyCert.{AnyCert}
use Rattle.reject_bits.specs.Parts.{TableParts}
use Rattle.cert_checker.specs.declared.verdict.Verdict.{Verdict}
use Rattle.cert_checker.specs.Judged.{IsLaterVerdict, JudgesRays, JudgesTrees}
use Rattle.group_checker.specs.declared.verdict.AnyFault.{AnyFault}
use Rattle.group_checker.specs.declared.verdict.AnyVerdict.TheVariants.{No}
use Rattle.group_checker.specs.Judged.{any_of, JudgesAny}
use Rattle.cert_judge.specs.declared.on_ground.OnGround.{OnGround}
use Rattle.cert_judge.specs.OnMesh.{IsOnMesh}
use Rattle.cert_judge.specs.Version.{Groups, groups_in, core_of, plan_over, TellsPairsAny}

-- the certificate has these groups and triangles
pub record HasTriangles (c : AnyCert) (groups : Groups) (labelled : List Labelled) : Type 0 where
  pub groups_are : groups_in c ≡ groups
  pub triangles : (core_of c).triangles ≡ labelled

-- the fault is the answer for each certificate with these groups and triangles
abbrev pub IsFaultOfMesh : PlanParts → Groups → List Labelled → AnyFault → Type 0
IsFaultOfMesh p groups labelled f = (t : TableParts) (c : AnyCert) → HasTriangles c groups labelled → JudgesAny p t c (No f)

-- mesh and groups of each such certificate are right: what is told of its rays, trees and pairs over this plan is the answer
abbrev pub IsListingGroundOf : PlanParts → PlanParts → Groups → List Labelled → Type 0
IsListingGroundOf p over groups labelled =
    (t : TableParts) (c : AnyCert) (v : Verdict) → HasTriangles c groups labelled → IsLaterVerdict v → JudgesRays (map_of over) (core_of c) v → JudgesTrees (map_of over) (core_of c) v → TellsPairsAny (map_of over) t c v → JudgesAny p t c (any_of v)

-- the plan of groups, or else that of the map
abbrev pub plan_under : PlanParts → OnGround → PlanParts
plan_under p g = unwrap_or g.grouped p

-- mesh and groups are right, and rays and trees are judged over the plan of the version
pub record IsOnGround (p : PlanParts) (groups : Groups) (labelled : List Labelled) (rays : List PairRay) (front : List Tree) (tree : Option Tree) (g : OnGround) : Type 0 where
  pub over : plan_under p g ≡ plan_over p groups labelled
  pub right : IsListingGroundOf p (plan_under p g) groups labelled
  pub on : IsOnMesh (plan_under p g) labelled rays front tree g.on
