-- What the answer says of a certificate of any version.
use Rattle.sight_names.specs.Plan.{PlanParts}
use Rattle.reject_bits.specs.Parts.{TableParts}
use Rattle.group_checker.specs.declared.verdict.AnyVerdict.{AnyVerdict}
use Rattle.group_checker.specs.Judged.{JudgesAny}
use Rattle.exact_checker.specs.Judged.{JudgesThree}
use Rattle.cert_judge.specs.Judged.{IsVerdictOfListing}
use Rattle.any_judge.specs.ExactJudge.Judged.{IsVerdictOfExact}
use Rattle.certificates.specs.declared.certificate.Certificate.{Certificate}
use Rattle.certificates.specs.declared.certificate.Certificate.TheVariants.{Listing, Exact}

-- the answer, by the version
abbrev pub Judges : PlanParts → TableParts → Certificate → AnyVerdict → Type 0
Judges p t (Listing c) v = JudgesAny p t c v
Judges p t (Exact c) v = JudgesThree p t c v

-- it is the verdict of a check of this certificate, which is one of the plan and the table
abbrev pub IsVerdictOf : PlanParts → TableParts → Certificate → AnyVerdict → Type 0
IsVerdictOf p t (Listing c) v = IsVerdictOfListing p t c v
IsVerdictOf p t (Exact c) v = IsVerdictOfExact p t c v
