-- How far a certificate of version 3 is judged: its triangles and rays come, or they have come.
use Rattle.std.specs.Prelude.{◌≡◌, ℕ, ◌≤◌, List, [], None, length, true, false, All}
use Rattle.sight_names.specs.Limits.{most_triangles}
use Rattle.sight_names.specs.declared.limits.TheConstants.{MOST_TRIANGLES}
use Rattle.sight_names.specs.declared.faults.CheckFault.TheVariants.{Tree as OfTree}
use Rattle.sight_names.specs.declared.names.PairRay.{PairRay}
use Rattle.sight_names.specs.Map.{map_of}
use Rattle.sight_names.specs.Plan.{PlanParts, IsPlan}
use Rattle.reject_bits.specs.Parts.{TableParts}
use Rattle.cert_format.specs.declared.cert.Labelled.{Labelled}
use Rattle.cert_checker.specs.Apart.{triangles_in, labels_in}
use Rattle.cert_checker.specs.declared.verdict.Verdict.{Verdict}
use Rattle.cert_checker.specs.declared.verdict.Verdict.TheVariants.{No as NoOf}
use Rattle.cert_checker.specs.Judged.{IsPairVerdict}
use Rattle.cert_checker.specs.Pairs.{IsPairWithin}
use Rattle.certificates.specs.declared.cert_exact.cert.ExactParts.{ExactParts}
use Rattle.certificates.specs.CertExact.Grammar.{as_two}
use Rattle.cert_judge.specs.Stage.{AreTrianglesInOrder, AreLabelledBelow}
use Rattle.group_checker.specs.declared.verdict.AnyFault.{AnyFault}
use Rattle.group_checker.specs.declared.verdict.AnyVerdict.TheVariants.{No}
use Rattle.group_checker.specs.declared.grouping.GroupedMesh.{GroupedMesh}
use Rattle.group_checker.specs.Grouping.{IsGroupedMesh}
use Rattle.group_checker.specs.Judged.{any_of}
use Rattle.exact_checker.specs.declared.trees.WrongNode.{WrongNode}
use Rattle.exact_checker.specs.Judged.{IsThreeFor, AreTreesKept, IsFirstTreeWrong, JudgesThree, TellsPairsOfThree}
use Rattle.any_judge.specs.declared.exact_judge.stage.Stage.{Stage}
use Rattle.any_judge.specs.declared.exact_judge.stage.Stage.TheVariants.{Gathering, Lost, Broken, Walking}
use Rattle.any_judge.specs.declared.exact_judge.ground.Ground.{Ground}
use Rattle.any_judge.specs.declared.exact_judge.trees.RowTrees.{RowTrees}
use Rattle.any_judge.specs.ExactJudge.Ground.{IsExactGroundOf}
use Rattle.any_judge.specs.ExactJudge.Heard.{Groups, ExactHeard}
use Rattle.any_judge.specs.ExactJudge.Trees.{Begun, HasHeardRowTrees}

-- a certificate may have these groups, triangles and rays
pub record AreFit (points : ℕ) (groups : Groups) (labelled : List Labelled) (rays : List PairRay) : Type 0 where
  pub order : AreTrianglesInOrder points labelled
  pub few : length groups ≤ most_triangles points
  pub labels : AreLabelledBelow (length groups) labelled
  pub rays_within : All (λ (r : PairRay). IsPairWithin (length groups) r.pair) rays

-- triangles and groups of a plan keep all rules, and these are their map of groups, its mesh, and the groups of its triangles
pub record IsGroupedOver (p : PlanParts) (groups : Groups) (labelled : List Labelled) (over : GroupedMesh) : Type 0 where
  pub plan : IsPlan p
  pub triangles : over.mesh.triangles ≡ triangles_in labelled
  pub labels : over.labels ≡ labels_in labelled
  pub few : length labelled ≤ MOST_TRIANGLES
  pub right : IsGroupedMesh p (triangles_in labelled) (labels_in labelled) groups over.plan

-- it is a certificate of the plan and the table with these groups, triangles and rays
pub record HasThree (p : PlanParts) (t : TableParts) (c : ExactParts) (groups : Groups) (labelled : List Labelled) (rays : List PairRay) : Type 0 where
  pub cert : IsThreeFor p c
  pub table : t.n ≡ p.sectors
  pub groups_are : c.groups ≡ groups
  pub triangles : c.triangles ≡ labelled
  pub rays_are : c.rays ≡ rays

-- the fault is the answer for each such certificate
abbrev pub IsFaultBefore : PlanParts → Groups → List Labelled → List PairRay → AnyFault → Type 0
IsFaultBefore p groups labelled rays f = (t : TableParts) (c : ExactParts) → HasThree p t c groups labelled rays → JudgesThree p t c (No f)

-- mesh, groups and rays of each such certificate are right: what is told of its trees and pairs over this plan is the answer
pub record IsRightOver (p over : PlanParts) (groups : Groups) (labelled : List Labelled) (rays : List PairRay) (g : Ground) : Type 0 where
  pub ground : (t : TableParts) (c : ExactParts) → HasThree p t c groups labelled rays → IsExactGroundOf over c g
  pub tree : (t : TableParts) (c : ExactParts) (w : WrongNode) → HasThree p t c groups labelled rays → IsFirstTreeWrong (map_of over) c w.source w.node → JudgesThree p t c (any_of (NoOf (OfTree w.source w.node)))
  pub pairs : (t : TableParts) (c : ExactParts) (v : Verdict) → HasThree p t c groups labelled rays → AreTreesKept (map_of over) c → IsPairVerdict v → TellsPairsOfThree t (as_two c) v → JudgesThree p t c (any_of v)

pub record IsWalking (p : PlanParts) (groups : Groups) (labelled : List Labelled) (rays : List PairRay) (b : Begun) (j : RowTrees) : Type 0 where
  pub over : PlanParts
  pub right : IsRightOver p over groups labelled rays j.ground
  pub heard : HasHeardRowTrees b j

-- triangles and rays have come: no certificate has them, or they break a rule, or they keep all
abbrev pub IsExactStageClosed : PlanParts → Groups → List Labelled → List PairRay → Begun → Stage → Type 0
IsExactStageClosed p groups labelled rays b Gathering = ⊥
IsExactStageClosed p groups labelled rays b Lost = ¬ AreFit (length p.points) groups labelled rays
IsExactStageClosed p groups labelled rays b (Broken f) = IsFaultBefore p groups labelled rays f
IsExactStageClosed p groups labelled rays b (Walking j) = IsWalking p groups labelled rays b j

-- no part but triangles and rays has come
pub record IsExactStageFresh (h : ExactHeard) : Type 0 where
  pub closed : h.closed ≡ false
  pub trees : h.trees ≡ ([], None)

abbrev pub IsStage : PlanParts → Groups → ExactHeard → Stage → Type 0
IsStage p groups h Gathering = IsExactStageFresh h
IsStage p groups h Lost = (h.closed ≡ true) × IsExactStageClosed p groups h.triangles h.rays h.trees Lost
IsStage p groups h (Broken f) = (h.closed ≡ true) × IsExactStageClosed p groups h.triangles h.rays h.trees (Broken f)
IsStage p groups h (Walking j) = (h.closed ≡ true) × IsExactStageClosed p groups h.triangles h.rays h.trees (Walking j)
