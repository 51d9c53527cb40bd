-- What the answer says at the end.
use Rattle.std.proofs.Common.{◌≡◌, ◌↔◌, Result, Ok, Err, refl, sym, ap, subst}
use Rattle.std.specs.Prelude.{IfOk}
use Rattle.sight_names.specs.declared.faults.CertFault.{CertFault}
use Rattle.sight_names.specs.declared.names.Memory.{Memory}
use Rattle.sight_names.specs.Map.{map_of}
use Rattle.sight_names.specs.Plan.{PlanParts, IsPlan}
use Rattle.sight_names.specs.Sound.{LinesMeetAtEnds}
use Rattle.reject_bits.specs.Parts.{TableParts}
use Rattle.cert_format.specs.declared.cert.Sizes.{Sizes}
use Rattle.cert_format.specs.Reading.{◌>>=◌}
use Rattle.cert_format.specs.declared.cert_groups.cert.AnyCert.{AnyCert}
use Rattle.cert_checker.specs.AcceptedGroups.Accepted.{IsAcceptedAny}
use Rattle.group_checker.specs.declared.verdict.AnyVerdict.{AnyVerdict}
use Rattle.group_checker.specs.Judged.{IsYesAny, JudgesAny, TellsSightAny}
use Rattle.group_checker.proofs.AnyTold.{any_exactly, accepted_any_tells}
use Rattle.cert_judge.specs.declared.judged.Judged.TheVariants as judged
use Rattle.cert_judge.specs.Judged.{JudgedBy, IsVerdictOfListing}
use Rattle.cert_judge.specs.Whole.{IsCertOf}
use Rattle.cert_judge.proofs.Intakes.{fault_read}

-- of a verdict it is known which certificate it judges
pub with_cert : (p : PlanParts) (t : TableParts) (c : AnyCert) (r : Result AnyVerdict Memory) → IsCertOf p t c → IfOk r (JudgesAny p t c) → IfOk r (IsVerdictOfListing p t c)
with_cert p t c (Ok v) cert judges = record { cert = cert; judges = judges }
with_cert p t c (Err e) cert judges = tt

-- the fault of the reading
pub unread_told : {C D : Type 0} (view : C → D) (read : Result C CertFault) (f : CertFault) (P : C → AnyVerdict → Type 0) → (read >>= λ c. Ok (view c)) ≡ Err f → JudgedBy read P (judged.Unread f)
unread_told {C} view read f P e = subst (λ (other : Result C CertFault). JudgedBy other P (judged.Unread f)) (sym (fault_read view read f e)) refl

-- a verdict on the certificate that was read
pub verdict_told : {C : Type 0} (read : Result C CertFault) (c : C) (v : AnyVerdict) (P : C → AnyVerdict → Type 0) → read ≡ Ok c → P c v → JudgedBy read P (judged.Verdict v)
verdict_told {C} read c v P e h = subst (λ (other : Result C CertFault). JudgedBy other P (judged.Verdict v)) (sym e) h

module _ (p : PlanParts) (is : IsPlan p) (t : TableParts) (c : AnyCert) (v : AnyVerdict) (w : IsVerdictOfListing p t c v) where
  pub accepted_by : IsYesAny v ↔ IsAcceptedAny (map_of p) t.bytes c
  accepted_by = any_exactly p is t w.cert.table c (ap (λ (z : Sizes). z.sectors) w.cert.sized) (ap (λ (z : Sizes). z.points) w.cert.sized) (ap (λ (z : Sizes). z.lines) w.cert.sized) w.cert.in_order v w.judges

  pub tells_by : LinesMeetAtEnds (map_of p) → IsYesAny v → TellsSightAny (map_of p) t c
  tells_by ends said = accepted_any_tells p is t w.cert.table ends c (accepted_by.0 said)
