-- What the check of a table by a certificate gives.
use Rattle.std.specs.Prelude.{◌≡◌, ℕ, List, Option, Some, None, Result, Ok, Err, length, ⊤}
use Rattle.sight_names.specs.Map.{Map, map_of}
use Rattle.sight_names.specs.Plan.{PlanParts}
use Rattle.sight_names.specs.Sound.{LinesMeetAtEnds}
use Rattle.sight_names.specs.declared.faults.CertFault.{CertFault}
use Rattle.sight_names.specs.declared.faults.CertFault.TheVariants as unread
use Rattle.sight_names.specs.declared.faults.TableFault.TheVariants as length_of
use Rattle.reject_bits.specs.Parts.{HasSameBits, IsTableWhole, TableParts, TakesBytes}
use Rattle.cert_format.specs.Sizes.{sizes_of_plan}
use Rattle.cert_checker.specs.declared.verdict.Totals.{Totals}
use Rattle.certificates.specs.declared.certificate.Certificate.{Certificate}
use Rattle.certificates.specs.Reading.{certificate_at}
use Rattle.group_checker.specs.declared.verdict.AnyFault.TheVariants as fault
use Rattle.group_checker.specs.declared.verdict.AnyVerdict.{AnyVerdict}
use Rattle.group_checker.specs.declared.verdict.AnyVerdict.TheVariants as verdict
use Rattle.any_judge.specs.CertFile.Judgement.{IsJudged}
use Rattle.cert_judge.specs.declared.judged.Judged.{Judged}
use Rattle.cert_judge.specs.declared.judged.Judged.TheVariants as judged
use Rattle.map_answers.specs.Sound.{IsLineRefusal}
use Rattle.map_answers.specs.declared.sight_status.status.Why.TheVariants as why
use Rattle.map_answers.specs.declared.sight_status.status.Status.{Status}
use Rattle.map_answers.specs.declared.sight_status.status.Status.TheVariants as status
use Rattle.doomsight_c.specs.declared.fault.DoomsightFault.{DoomsightFault}
use Rattle.doomsight_c.specs.declared.counts.DoomsightCounts.{DoomsightCounts}
use Rattle.doomsight_c.specs.Faults.{fault_view}
use Rattle.doomsight_c.specs.Lines.{status_in}

-- the totals of a yes as C reads them, with the sectors of the map and the size of the certificate
abbrev pub totals_view : Totals → ℕ → ℕ → DoomsightCounts
totals_view t sectors size = record { sectors = sectors; set = t.set; clear = t.clear; listed = t.listed; cert_size = size }

-- the table of n sectors that the bytes spell: their bits, with the spare ones clear
pub record IsTableInBytes (n : ℕ) (bytes : List ℕ) (table : TableParts) : Type 0 where
  pub sectors : table.n ≡ n
  pub bits : HasSameBits n bytes table.bytes
  pub whole : IsTableWhole table

-- the verdict on the table of these bytes by the certificate that those spell
pub record IsVerdictOnBytes (m : Map) (reject cert : List ℕ) (v : AnyVerdict) : Type 0 where
  pub plan : PlanParts
  pub map : map_of plan ≡ m
  pub meet : LinesMeetAtEnds m
  pub table : TableParts
  pub spelled : IsTableInBytes m.sectors reject table
  pub parts : Certificate
  pub read : certificate_at (sizes_of_plan plan) cert ≡ Ok parts
  pub judged : IsJudged plan table parts v

-- the bytes spell no certificate of the map
pub record IsUnread (m : Map) (cert : List ℕ) (f : CertFault) : Type 0 where
  pub plan : PlanParts
  pub map : map_of plan ≡ m
  pub read : certificate_at (sizes_of_plan plan) cert ≡ Err f

-- the totals of a yes, or why it is none
abbrev pub ChecksMap : Map → List ℕ → List ℕ → Result Totals Status → Type 0
ChecksMap m reject cert (Ok totals) = IsVerdictOnBytes m reject cert (verdict.Yes totals)
ChecksMap m reject cert (Err (status.No (why.Table (length_of.WrongLength found expected)))) = TakesBytes m.sectors reject (Err (length_of.WrongLength found expected))
ChecksMap m reject cert (Err (status.No (why.Cert (unread.Memory _)))) = ⊥
ChecksMap m reject cert (Err (status.No (why.Cert f))) = IsUnread m cert f
ChecksMap m reject cert (Err (status.No (why.Check f))) = IsVerdictOnBytes m reject cert (verdict.No (fault.Check f))
ChecksMap m reject cert (Err (status.No (why.Group t))) = IsVerdictOnBytes m reject cert (verdict.No (fault.Group t))
ChecksMap m reject cert (Err (status.No (why.Unused g))) = IsVerdictOnBytes m reject cert (verdict.No (fault.Unused g))
ChecksMap m reject cert (Err (status.BadMap flaw)) = IsLineRefusal m (status.BadMap flaw)
ChecksMap m reject cert (Err (status.Memory _)) = ⊤
ChecksMap m reject cert (Err other) = ⊥

-- the lumps, the table and the certificate call for this refusal or this no
abbrev pub Denies : Result Map Status → List ℕ → List ℕ → Status → Type 0
Denies (Ok m) reject cert s = ChecksMap m reject cert (Err s)
Denies (Err r) reject cert (status.Memory _) = ⊤
Denies (Err r) reject cert s = s ≡ r

-- yes, with these counts
pub record IsYes (read : Result Map Status) (reject cert : List ℕ) (counts : DoomsightCounts) : Type 0 where
  pub map : Map
  pub is_read : read ≡ Ok map
  pub totals : Totals
  pub verdict : IsVerdictOnBytes map reject cert (verdict.Yes totals)
  pub counted : counts ≡ totals_view totals map.sectors (length cert)

-- the numbers are those of a refusal or of a no for which these bytes call, and tell it
pub record IsUnproved (read : Result Map Status) (reject cert : List ℕ) (fault : DoomsightFault) : Type 0 where
  pub refusal : Status
  pub is : fault ≡ fault_view refusal
  pub told : status_in fault ≡ refusal
  pub called : Denies read reject cert refusal

-- why the answer isn't yes: a number of the call is out of order, or else what these bytes call for
abbrev pub IsNotProved : Option DoomsightFault → Result Map Status → List ℕ → List ℕ → DoomsightFault → Type 0
IsNotProved (Some wrong) read reject cert fault = fault ≡ wrong
IsNotProved None read reject cert fault = IsUnproved read reject cert fault

-- ---- parts of it

-- the bytes as a table of n sectors, or their length is wrong
abbrev pub TakesTableBytes : ℕ → List ℕ → Result TableParts Status → Type 0
TakesTableBytes n bytes (Ok t) = IsTableInBytes n bytes t
TakesTableBytes n bytes (Err (status.No (why.Table (length_of.WrongLength found expected)))) = TakesBytes n bytes (Err (length_of.WrongLength found expected))
TakesTableBytes n bytes (Err (status.Memory _)) = ⊤
TakesTableBytes n bytes (Err other) = ⊥

-- the status of what was judged
abbrev pub VerdictOf : Judged → Result Totals Status → Type 0
VerdictOf j (Ok totals) = j ≡ judged.Verdict (verdict.Yes totals)
VerdictOf j (Err (status.No (why.Check f))) = j ≡ judged.Verdict (verdict.No (fault.Check f))
VerdictOf j (Err (status.No (why.Group t))) = j ≡ judged.Verdict (verdict.No (fault.Group t))
VerdictOf j (Err (status.No (why.Unused g))) = j ≡ judged.Verdict (verdict.No (fault.Unused g))
VerdictOf j (Err (status.No (why.Cert (unread.Memory _)))) = ⊥
VerdictOf j (Err (status.No (why.Cert f))) = j ≡ judged.Unread f
VerdictOf j (Err (status.Memory _)) = ⊤
VerdictOf j (Err other) = ⊥
