-- A judging that has heard parts of a certificate of version 3, of a plan and a table.
use Rattle.std.specs.Prelude.{◌≡◌, ◌<◌, ◌^◌, List, length}
use Rattle.std.specs.List.{AllByRecursion}
use Rattle.sight_names.specs.Plan.{PlanParts}
use Rattle.block_evidence.specs.declared.sight_tree.Node.{Node}
use Rattle.certificates.specs.declared.cert_exact.cert.ExactParts.{ExactParts}
use Rattle.certificates.specs.declared.exact_parts.part.Part.{Part}
use Rattle.certificates.specs.ExactParts.Parts.{parts_of_exact}
use Rattle.reject_bits.specs.Parts.{TableParts}
use Rattle.exact_checker.specs.Judged.{IsThreeFor}
use Rattle.any_judge.specs.declared.exact_judge.judging.Judging.{Judging}
use Rattle.any_judge.specs.ExactJudge.Heard.{Groups, ExactHeard, nothing_exact, heard_from}
use Rattle.any_judge.specs.ExactJudge.Stage.{IsStage}

-- it was made for this plan, this table and these groups; what is kept is what was heard, judged as far as it goes
pub record KeepsExactHeard (p : PlanParts) (t : TableParts) (groups : Groups) (h : ExactHeard) (j : Judging) : Type 0 where
  pub plan : j.plan.now ≡ p
  pub table : j.table.now ≡ t
  pub groups_are : j.groups ≡ groups
  pub triangles : j.triangles.items ≡ h.triangles
  pub rays : j.rays.items ≡ h.rays
  pub stage : IsStage p groups h j.stage

abbrev pub HasHeard : PlanParts → TableParts → Groups → List Part → Judging → Type 0
HasHeard p t groups parts j = KeepsExactHeard p t groups (heard_from nothing_exact parts) j

-- a certificate in order, of a plan and a table, whose nodes can be counted
pub record IsCertOf (p : PlanParts) (t : TableParts) (c : ExactParts) : Type 0 where
  pub cert : IsThreeFor p c
  pub table : t.n ≡ p.sectors
  pub counted : AllByRecursion (λ (ns : List Node). length ns < 2 ^ 64) c.trees

-- groups and parts are all those of this certificate, which is one of the plan and in order
pub record HasHeardAll (p : PlanParts) (t : TableParts) (c : ExactParts) (j : Judging) : Type 0 where
  pub cert : IsCertOf p t c
  pub heard : HasHeard p t c.groups (parts_of_exact c) j

-- the parts are all those of some certificate
pub record IsExactComplete (j : Judging) : Type 0 where
  pub plan : PlanParts
  pub table : TableParts
  pub cert : ExactParts
  pub heard : HasHeardAll plan table cert j
