-- What the answer says of the certificate that was read.
use Rattle.sight_names.specs.Plan.{PlanParts}
use Rattle.certificates.specs.declared.cert_exact.cert.ExactParts.{ExactParts}
use Rattle.reject_bits.specs.Parts.{TableParts}
use Rattle.group_checker.specs.declared.verdict.AnyVerdict.{AnyVerdict}
use Rattle.exact_checker.specs.Judged.{JudgesThree}
use Rattle.any_judge.specs.ExactJudge.Judging.{IsCertOf}

-- it is the verdict of a check of this certificate
pub record IsVerdictOfExact (p : PlanParts) (t : TableParts) (c : ExactParts) (v : AnyVerdict) : Type 0 where
  pub cert : IsCertOf p t c
  pub judges : JudgesThree p t c v
