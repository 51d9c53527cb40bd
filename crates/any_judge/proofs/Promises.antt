-- What is said of a verdict by a certificate of one version is said of one by a certificate of any version, and what follows from it.
use Rattle.std.proofs.Common.{◌↔◌, List, ℕ, Result, Ok, Err, sym, subst}
use Rattle.std.specs.Prelude.{IfOk}
use Rattle.sight_names.specs.declared.faults.CertFault.{CertFault}
use Rattle.sight_names.specs.declared.names.Memory.{Memory}
use Rattle.sight_names.specs.Map.{map_of}
use Rattle.sight_names.specs.Plan.{PlanParts, IsPlan}
use Rattle.sight_names.specs.Sound.{LinesMeetAtEnds}
use Rattle.reject_bits.specs.Parts.{TableParts}
use Rattle.cert_format.specs.declared.cert.Sizes.{Sizes}
use Rattle.cert_format.specs.declared.cert_groups.cert.AnyCert.{AnyCert}
use Rattle.cert_format.specs.CertGroups.Reading.{any_at}
use Rattle.certificates.specs.declared.cert_exact.cert.ExactParts.{ExactParts}
use Rattle.certificates.specs.CertExact.Reading.{exact_at}
use Rattle.certificates.specs.declared.certificate.Certificate.{Certificate}
use Rattle.certificates.specs.declared.certificate.Certificate.TheVariants.{Listing, Exact}
use Rattle.certificates.specs.Reading.{certificate_at, exact_of, listing_of}
use Rattle.group_checker.specs.declared.verdict.AnyVerdict.{AnyVerdict}
use Rattle.group_checker.specs.Judged.{IsYesAny}
use Rattle.exact_checker.proofs.Accepting.{yes_exactly_three, yes_tells}
use Rattle.cert_judge.specs.declared.judged.Judged.{Judged}
use Rattle.cert_judge.specs.declared.judged.Judged.TheVariants as judged
use Rattle.cert_judge.specs.Judged.{JudgedBy}
use Rattle.cert_judge.proofs.Endings.{accepted_by as accepted_by_listing, tells_by as tells_by_listing}
use Rattle.any_judge.specs.Accepted.{IsAccepted, TellsSight}
use Rattle.any_judge.specs.Judged.{IsVerdictOf, Judges}
use Rattle.any_judge.specs.Version.{BeginsThree}
use Rattle.any_judge.proofs.Versions.{reads_exact, reads_listing}

module _ (P : Certificate → AnyVerdict → Type 0) where
  of_listing : (r : Result AnyCert CertFault) (j : Judged) → JudgedBy r (λ c. P (Listing c)) j → JudgedBy (listing_of r) P j
  of_listing (Ok c) (judged.Verdict v) h = h
  of_listing (Ok c) (judged.Unread g) h = absurd h
  of_listing (Err f) (judged.Verdict v) h = absurd h
  of_listing (Err f) (judged.Unread g) h = h

  of_exact : (r : Result ExactParts CertFault) (j : Judged) → JudgedBy r (λ c. P (Exact c)) j → JudgedBy (exact_of r) P j
  of_exact (Ok c) (judged.Verdict v) h = h
  of_exact (Ok c) (judged.Unread g) h = absurd h
  of_exact (Err f) (judged.Verdict v) h = absurd h
  of_exact (Err f) (judged.Unread g) h = h

  module _ (sizes : Sizes) (bytes : List ℕ) where
    pub listing_told : (given : Result Judged Memory) → ¬ BeginsThree bytes → IfOk given (JudgedBy (any_at sizes bytes) (λ c. P (Listing c))) → IfOk given (JudgedBy (certificate_at sizes bytes) P)
    listing_told (Ok j) other h = subst (λ (r : Result Certificate CertFault). JudgedBy r P j) (sym (reads_listing sizes bytes other)) (of_listing (any_at sizes bytes) j h)
    listing_told (Err e) other h = tt

    pub exact_told : (given : Result Judged Memory) → BeginsThree bytes → IfOk given (JudgedBy (exact_at sizes bytes) (λ c. P (Exact c))) → IfOk given (JudgedBy (certificate_at sizes bytes) P)
    exact_told (Ok j) begins h = subst (λ (r : Result Certificate CertFault). JudgedBy r P j) (sym (reads_exact sizes bytes begins)) (of_exact (exact_at sizes bytes) j h)
    exact_told (Err e) begins h = tt

by : (P Q : Certificate → AnyVerdict → Type 0) → ((c : Certificate) (v : AnyVerdict) → P c v → Q c v) → (read : Result Certificate CertFault) (j : Judged) → JudgedBy read P j → JudgedBy read Q j
by P Q f (Ok c) (judged.Verdict v) h = f c v h
by P Q f (Ok c) (judged.Unread g) h = absurd h
by P Q f (Err g) (judged.Verdict v) h = absurd h
by P Q f (Err g) (judged.Unread e) h = h

-- what follows from a sentence on the verdict
pub weaker : (P Q : Certificate → AnyVerdict → Type 0) → ((c : Certificate) (v : AnyVerdict) → P c v → Q c v) → (read : Result Certificate CertFault) (r : Result Judged Memory) → IfOk r (JudgedBy read P) → IfOk r (JudgedBy read Q)
weaker P Q f read (Ok j) h = by P Q f read j h
weaker P Q f read (Err e) h = tt

module _ (p : PlanParts) (t : TableParts) where
  pub judges_by : (c : Certificate) (v : AnyVerdict) → IsVerdictOf p t c v → Judges p t c v
  judges_by (Listing c) v w = w.judges
  judges_by (Exact c) v w = w.judges

  module _ (is : IsPlan p) where
    pub accepted_by : (c : Certificate) (v : AnyVerdict) → IsVerdictOf p t c v → IsYesAny v ↔ IsAccepted (map_of p) t.bytes c
    accepted_by (Listing c) v w = accepted_by_listing p is t c v w
    accepted_by (Exact c) v w = yes_exactly_three p is t c w.cert.table w.cert.cert v w.judges

    pub tells_by : LinesMeetAtEnds (map_of p) → (c : Certificate) (v : AnyVerdict) → IsVerdictOf p t c v → IsYesAny v → TellsSight (map_of p) t c
    tells_by ends (Listing c) v w said = tells_by_listing p is t c v w ends said
    tells_by ends (Exact c) v w said = yes_tells p is t c w.cert.table w.cert.cert ends v w.judges said
