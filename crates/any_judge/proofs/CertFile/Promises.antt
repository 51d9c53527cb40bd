-- What the judge promises of a verdict, clause by clause, is one promise.
use Rattle.std.proofs.Common.{◌↔◌, Result, Ok, Err}
use Rattle.std.specs.Prelude.{IfOk}
use Rattle.sight_names.specs.declared.faults.CertFault.{CertFault}
use Rattle.sight_names.specs.declared.names.Memory.{Memory}
use Rattle.sight_names.specs.Map.{map_of}
use Rattle.sight_names.specs.Plan.{PlanParts}
use Rattle.reject_bits.specs.Parts.{TableParts}
use Rattle.certificates.specs.declared.certificate.Certificate.{Certificate}
use Rattle.group_checker.specs.declared.verdict.AnyVerdict.{AnyVerdict}
use Rattle.group_checker.specs.Judged.{IsYesAny}
use Rattle.cert_judge.specs.declared.judged.Judged.{Judged}
use Rattle.cert_judge.specs.declared.judged.Judged.TheVariants as judged
use Rattle.cert_judge.specs.Judged.{JudgedBy}
use Rattle.any_judge.specs.Accepted.{IsAccepted, TellsSight}
use Rattle.any_judge.specs.Judged.{Judges}
use Rattle.any_judge.specs.CertFile.Judgement.{IsJudged}

module _ (p : PlanParts) (t : TableParts) where
  abbrev Saying : (Certificate → AnyVerdict → Type 0) → Result Certificate CertFault → Judged → Type 0
  Saying P r j = JudgedBy r P j

  one_promise : (r : Result Certificate CertFault) (j : Judged) → Saying (λ c v. Judges p t c v) r j → Saying (λ c v. IsYesAny v ↔ IsAccepted (map_of p) t.bytes c) r j
      → Saying (λ c v. IsYesAny v → TellsSight (map_of p) t c) r j → Saying (λ c v. IsJudged p t c v) r j
  one_promise (Ok c) (judged.Verdict v) exact accepted sight = record { exact = exact; accepted = accepted; sight = sight }
  one_promise (Ok c) (judged.Unread g) exact accepted sight = absurd exact
  one_promise (Err f) (judged.Verdict v) exact accepted sight = absurd exact
  one_promise (Err f) (judged.Unread g) exact accepted sight = exact

  pub promised : (r : Result Certificate CertFault) (given : Result Judged Memory) → IfOk given (Saying (λ c v. Judges p t c v) r) → IfOk given (Saying (λ c v. IsYesAny v ↔ IsAccepted (map_of p) t.bytes c) r)
      → IfOk given (Saying (λ c v. IsYesAny v → TellsSight (map_of p) t c) r) → IfOk given (JudgedBy r (IsJudged p t))
  promised r (Ok j) exact accepted sight = one_promise r j exact accepted sight
  promised r (Err e) exact accepted sight = tt
