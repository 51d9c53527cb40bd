-- A judging that has heard parts of a certificate of a plan and a table.
use Rattle.std.specs.Prelude.{◌≡◌, List, None}
use Rattle.sight_names.specs.Plan.{PlanParts}
use Rattle.cert_format.specs.declared.cert_groups.cert.AnyCert.{AnyCert}
use Rattle.certificates.specs.declared.cert_parts.part.Part.{Part}
use Rattle.certificates.specs.CertParts.Parts.{any_parts_of}
use Rattle.reject_bits.specs.Parts.{TableParts}
use Rattle.cert_judge.specs.declared.judging.Judging.{Judging}
use Rattle.cert_judge.specs.declared.kept.Kept.{Kept}
use Rattle.cert_judge.specs.Heard.{PartsHeard, nothing_heard, heard_from}
use Rattle.cert_judge.specs.Stage.{IsStage}
use Rattle.cert_judge.specs.Version.{Groups, groups_in}
use Rattle.cert_judge.specs.Whole.{IsCertOf, IsAllOf}

-- what is kept is what was heard, judged as far as it goes
pub record KeepsListingHeard (p : PlanParts) (groups : Groups) (h : PartsHeard) (k : Kept) : Type 0 where
  pub groups_are : k.groups ≡ groups
  pub triangles : k.triangles.items ≡ h.triangles
  pub rays : k.rays.items ≡ h.rays
  pub listed : k.listed.items ≡ h.listed
  pub stage : IsStage p groups h k.stage

-- and that is the whole of this certificate
pub record IsKeptWhole (p : PlanParts) (t : TableParts) (c : AnyCert) (k : Kept) : Type 0 where
  pub cert : IsCertOf p t c
  pub heard : PartsHeard
  pub all : IsAllOf c heard
  pub kept : KeepsListingHeard p (groups_in c) heard k

-- it was made for this plan, this table and these groups, and has heard these parts; once it is spent it answers no more
pub record HasHeard (p : PlanParts) (t : TableParts) (groups : Groups) (parts : List Part) (j : Judging) : Type 0 where
  pub plan : j.plan.now ≡ p
  pub table : j.table.now ≡ t
  pub kept : j.spent ≡ None → KeepsListingHeard p groups (heard_from nothing_heard parts) j.kept

-- groups and parts are all those of this certificate, which is one of the plan and in order
pub record HasHeardAll (p : PlanParts) (t : TableParts) (c : AnyCert) (j : Judging) : Type 0 where
  pub cert : IsCertOf p t c
  pub heard : HasHeard p t (any_parts_of c).0 (any_parts_of c).1 j

-- the parts are all those of some certificate
pub record IsListingComplete (j : Judging) : Type 0 where
  pub plan : PlanParts
  pub table : TableParts
  pub cert : AnyCert
  pub heard : HasHeardAll plan table cert j
