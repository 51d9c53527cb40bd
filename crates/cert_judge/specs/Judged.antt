-- What the answer says, by what is read of all bytes.
use Rattle.std.specs.Prelude.{◌≡◌, Result, Ok, Err}
use Rattle.sight_names.specs.declared.faults.CertFault.{CertFault}
use Rattle.sight_names.specs.Plan.{PlanParts}
use Rattle.cert_format.specs.declared.cert_groups.cert.AnyCert.{AnyCert}
use Rattle.reject_bits.specs.Parts.{TableParts}
use Rattle.group_checker.specs.declared.verdict.AnyVerdict.{AnyVerdict}
use Rattle.group_checker.specs.Judged.{JudgesAny}
use Rattle.cert_judge.specs.declared.judged.Judged.{Judged}
use Rattle.cert_judge.specs.declared.judged.Judged.TheVariants as judged
use Rattle.cert_judge.specs.Whole.{IsCertOf}

-- a verdict on the certificate that was read, of whatever version, of which this holds; or else the fault of the reading
abbrev pub JudgedBy : {C : Type 0} → Result C CertFault → (C → AnyVerdict → Type 0) → Judged → Type 0
JudgedBy (Ok c) P (judged.Verdict v) = P c v
JudgedBy (Ok c) P (judged.Unread g) = ⊥
JudgedBy (Err f) P (judged.Verdict v) = ⊥
JudgedBy (Err f) P (judged.Unread g) = f ≡ g

-- it is the verdict of a check of this certificate
pub record IsVerdictOfListing (p : PlanParts) (t : TableParts) (c : AnyCert) (v : AnyVerdict) : Type 0 where
  pub cert : IsCertOf p t c
  pub judges : JudgesAny p t c v
