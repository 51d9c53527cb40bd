-- What the judge promises of a verdict, clause by clause, is one promise; and what it says of the table and the certificate.
use Rattle.std.proofs.Common.{◌≡◌, ◌∙◌, ℕ, List, Result, Ok, Err, length, refl, sym, ap, subst}
use Rattle.sight_names.specs.declared.faults.CertFault.{CertFault}
use Rattle.sight_names.specs.declared.faults.CertFault.TheVariants as cert_fault
use Rattle.sight_names.specs.declared.faults.TableFault.TheVariants as table_fault
use Rattle.sight_names.specs.declared.names.Memory.{Memory}
use Rattle.sight_names.specs.Map.{Map, map_of}
use Rattle.sight_names.specs.Plan.{PlanParts}
use Rattle.sight_names.specs.Sound.{LinesMeetAtEnds}
use Rattle.reject_bits.specs.Parts.{TableParts}
use Rattle.cert_format.specs.Sizes.{sizes_of_plan}
use Rattle.cert_checker.specs.declared.verdict.Totals.{Totals}
use Rattle.certificates.specs.declared.certificate.Certificate.{Certificate}
use Rattle.certificates.specs.Reading.{certificate_at}
use Rattle.group_checker.specs.declared.verdict.AnyFault.TheVariants as fault
use Rattle.group_checker.specs.declared.verdict.AnyVerdict.{AnyVerdict}
use Rattle.group_checker.specs.declared.verdict.AnyVerdict.TheVariants as verdict
use Rattle.any_judge.specs.CertFile.Judgement.{IsJudged, IsJudgement}
use Rattle.cert_judge.specs.declared.judged.Judged.{Judged}
use Rattle.cert_judge.specs.declared.judged.Judged.TheVariants as judged
use Rattle.cert_judge.specs.Judged.{JudgedBy}
use Rattle.map_answers.specs.SightStatus.Answer.{MakesAnswer}
use Rattle.map_answers.specs.SightStatus.Status.{IsOfBytes}
use Rattle.map_answers.specs.declared.sight_status.status.Why.TheVariants as why
use Rattle.map_answers.specs.declared.sight_status.status.Status.{Status}
use Rattle.map_answers.specs.declared.sight_status.status.Status.TheVariants as status
use Rattle.doomsight_c.specs.declared.counts.DoomsightCounts.{DoomsightCounts}
use Rattle.doomsight_c.specs.declared.fault.DoomsightFault.{DoomsightFault}
use Rattle.doomsight_c.specs.Checked.{ChecksMap, Denies, IsTableInBytes, IsUnproved, IsUnread, IsVerdictOnBytes, IsYes, VerdictOf, totals_view}
use Rattle.doomsight_c.specs.Faults.{fault_view}
use Rattle.doomsight_c.specs.Lines.{IsOfLibrary, status_in}
use Rattle.doomsight_c.proofs.Giving.{IsLibrarys, of_reading}

-- ---- a verdict was given, or the certificate wasn't read

was_read : (P : Certificate → AnyVerdict → Type 0) (r : Result Certificate CertFault) (v : AnyVerdict) → JudgedBy r P (judged.Verdict v) → (c : Certificate) × (r ≡ Ok c) × P c v
was_read P (Ok c) v h = (c, refl, h)
was_read P (Err f) v h = absurd h

wasnt_read : (P : Certificate → AnyVerdict → Type 0) (r : Result Certificate CertFault) (f : CertFault) → JudgedBy r P (judged.Unread f) → r ≡ Err f
wasnt_read P (Ok c) f h = absurd h
wasnt_read P (Err g) f h = ap Err h

module _ (p : PlanParts) (meet : LinesMeetAtEnds (map_of p)) (reject cert : List ℕ) (t : TableParts) (spelled : IsTableInBytes p.sectors reject t) (j : Judged) (judgement : IsJudgement p t cert j) where
  verdict_on : (v : AnyVerdict) → j ≡ judged.Verdict v → IsVerdictOnBytes (map_of p) reject cert v
  verdict_on v e =
      let r = was_read (IsJudged p t) (certificate_at (sizes_of_plan p) cert) v (subst (λ (i : Judged). IsJudgement p t cert i) e judgement) in
      record { plan = p; map = refl; meet = meet; table = t; spelled = spelled; parts = r.0; read = r.1; judged = r.2 }

  unread : (f : CertFault) → j ≡ judged.Unread f → IsUnread (map_of p) cert f
  unread f e = record { plan = p; map = refl; read = wasnt_read (IsJudged p t) (certificate_at (sizes_of_plan p) cert) f (subst (λ (i : Judged). IsJudgement p t cert i) e judgement) }

  pub checks : (r : Result Totals Status) → VerdictOf j r → ChecksMap (map_of p) reject cert r
  checks (Ok totals) h = verdict_on (verdict.Yes totals) h
  checks (Err (status.No (why.Check f))) h = verdict_on (verdict.No (fault.Check f)) h
  checks (Err (status.No (why.Group k))) h = verdict_on (verdict.No (fault.Group k)) h
  checks (Err (status.No (why.Unused g))) h = verdict_on (verdict.No (fault.Unused g)) h
  checks (Err (status.No (why.Cert cert_fault.BadMagic))) h = unread cert_fault.BadMagic h
  checks (Err (status.No (why.Cert cert_fault.BadVersion))) h = unread cert_fault.BadVersion h
  checks (Err (status.No (why.Cert (cert_fault.Short at)))) h = unread (cert_fault.Short at) h
  checks (Err (status.No (why.Cert (cert_fault.OutOfRange at)))) h = unread (cert_fault.OutOfRange at) h
  checks (Err (status.No (why.Cert (cert_fault.NotSorted at)))) h = unread (cert_fault.NotSorted at) h
  checks (Err (status.No (why.Cert (cert_fault.Trailing at)))) h = unread (cert_fault.Trailing at) h
  checks (Err (status.Memory _)) h = tt
  checks (Err other) h = absurd h

-- ---- what a check refuses with is of the library

pub of_check : (m : Map) (reject cert : List ℕ) (s : Status) → ChecksMap m reject cert (Err s) → IsOfLibrary s
of_check m reject cert (status.No (why.Table (table_fault.WrongLength found expected))) h = tt
of_check m reject cert (status.No (why.Check f)) h = tt
of_check m reject cert (status.No (why.Group k)) h = tt
of_check m reject cert (status.No (why.Unused g)) h = tt
of_check m reject cert (status.No (why.Cert cert_fault.BadMagic)) h = tt
of_check m reject cert (status.No (why.Cert cert_fault.BadVersion)) h = tt
of_check m reject cert (status.No (why.Cert (cert_fault.Short at))) h = tt
of_check m reject cert (status.No (why.Cert (cert_fault.OutOfRange at))) h = tt
of_check m reject cert (status.No (why.Cert (cert_fault.NotSorted at))) h = tt
of_check m reject cert (status.No (why.Cert (cert_fault.Trailing at))) h = tt
of_check m reject cert (status.BadMap flaw) h = tt
of_check m reject cert (status.Memory _) h = tt
of_check m reject cert other h = absurd h

denied_by_reading : (read : Result Map Status) (reject cert : List ℕ) (s : Status) → IsOfBytes s → MakesAnswer map_of (Err s) read → Denies read reject cert s
denied_by_reading read reject cert (status.BadLump f) h made = subst (λ r. Denies r reject cert (status.BadLump f)) (sym made) refl
denied_by_reading read reject cert (status.BadText f) h made = subst (λ r. Denies r reject cert (status.BadText f)) (sym made) refl
denied_by_reading read reject cert (status.Limit b) h made = subst (λ r. Denies r reject cert (status.Limit b)) (sym made) refl
denied_by_reading read reject cert (status.NotWad f) h made = subst (λ r. Denies r reject cert (status.NotWad f)) (sym made) refl
denied_by_reading read reject cert (status.NoMap f) h made = subst (λ r. Denies r reject cert (status.NoMap f)) (sym made) refl
denied_by_reading (Ok m) reject cert (status.Memory _) h made = tt
denied_by_reading (Err r) reject cert (status.Memory _) h made = tt
denied_by_reading read reject cert other h made = absurd h

module _ (tells : (s : Status) → IsOfLibrary s → status_in (fault_view s) ≡ s) (reject cert : List ℕ) where
  pub unproved_read : (read : Result Map Status) → IsLibrarys read → (s : Status) → IsOfBytes s → MakesAnswer map_of (Err s) read → (f : DoomsightFault) → f ≡ fault_view s → IsUnproved read reject cert f
  unproved_read read lib s h made f is = record {
    refusal = s;
    is = is;
    told = ap status_in is ∙ tells s (of_reading read lib s h made);
    called = denied_by_reading read reject cert s h made;
  }

  pub unproved_map : (m : Map) (s : Status) → ChecksMap m reject cert (Err s) → (f : DoomsightFault) → f ≡ fault_view s → IsUnproved (Ok m) reject cert f
  unproved_map m s h f is = record { refusal = s; is = is; told = ap status_in is ∙ tells s (of_check m reject cert s h); called = h }

pub proved_map : (m : Map) (reject cert : List ℕ) (t : Totals) → IsVerdictOnBytes m reject cert (verdict.Yes t) → (counts : DoomsightCounts) → counts ≡ totals_view t m.sectors (length cert) → IsYes (Ok m) reject cert counts
proved_map m reject cert t h counts counted = record { map = m; is_read = refl; totals = t; verdict = h; counted = counted }
