-- How far the bytes of a certificate of any version are read.
use Rattle.std.specs.Prelude.{◌≡◌, ℕ, ◌+◌, ◌<◌, ◌≤◌, ◌^◌, List, length, Err}
use Rattle.sight_names.specs.declared.faults.CertFault.TheVariants as faults
use Rattle.sight_names.specs.Plan.{PlanParts}
use Rattle.reject_bits.specs.Parts.{TableParts}
use Rattle.cert_format.specs.Sizes.{sizes_of_plan}
use Rattle.certificates.specs.Reading.{certificate_at}
use Rattle.certificates.specs.CertParts.Parts.{reading_any_parts}
use Rattle.certificates.specs.ExactParts.Parts.{reading_three_parts}
use Rattle.cert_judge.specs.Intake.{AreBytes, AreRefusedListing, HasTakenListing}
use Rattle.any_judge.specs.ExactJudge.Intake.{AreRefusedExact, HasTakenExact}
use Rattle.any_judge.specs.declared.course.Course.{Course}
use Rattle.any_judge.specs.declared.course.Course.TheVariants as course
use Rattle.any_judge.specs.declared.opening.Asked.{Asked}
use Rattle.any_judge.specs.declared.opening.Asked.TheVariants as asked
use Rattle.any_judge.specs.declared.opening.Opening.{Opening}
use Rattle.any_judge.specs.declared.versed.Versed.TheVariants as versed
use Rattle.any_judge.specs.Versed.{HasTaken}

-- these are all bytes so far, for this plan and this table
pub record IsOpening (p : PlanParts) (t : TableParts) (bytes : List ℕ) (o : Opening) : Type 0 where
  pub plan : o.plan.now ≡ p
  pub table : o.table.now ≡ t
  pub bytes_are : o.bytes.items ≡ bytes
  pub fit : AreBytes bytes

-- the bytes end before the first part begins; or no certificate begins so; or all of them were taken
abbrev pub IsAsked : PlanParts → TableParts → List ℕ → Asked → Type 0
IsAsked p t bytes (asked.Cut at) = certificate_at (sizes_of_plan p) bytes ≡ Err (faults.Short at)
IsAsked p t bytes (asked.Told v) = HasTaken p t bytes v

-- the same of bytes that are read as of version 1 or 2
abbrev pub IsAskedListing : PlanParts → TableParts → List ℕ → Asked → Type 0
IsAskedListing p t bytes (asked.Cut at) = reading_any_parts (sizes_of_plan p) bytes ≡ Err (faults.Short at)
IsAskedListing p t bytes (asked.Told (versed.Refused f)) = AreRefusedListing p bytes f
IsAskedListing p t bytes (asked.Told (versed.Listing k)) = HasTakenListing p t bytes k
IsAskedListing p t bytes (asked.Told (versed.Exact k)) = ⊥

-- .. or of version 3
abbrev pub IsAskedExact : PlanParts → TableParts → List ℕ → Asked → Type 0
IsAskedExact p t bytes (asked.Cut at) = reading_three_parts (sizes_of_plan p) bytes ≡ Err (faults.Short at)
IsAskedExact p t bytes (asked.Told (versed.Refused f)) = AreRefusedExact p bytes f
IsAskedExact p t bytes (asked.Told (versed.Listing k)) = ⊥
IsAskedExact p t bytes (asked.Told (versed.Exact k)) = HasTakenExact p t bytes k

-- these are all bytes so far
abbrev pub IsOnCourse : PlanParts → TableParts → List ℕ → Course → Type 0
IsOnCourse p t bytes (course.Opening o) = IsOpening p t bytes o
IsOnCourse p t bytes (course.Told v) = (6 ≤ length bytes) × HasTaken p t bytes v

-- the same of some bytes, which are fewer than 2^63 with the piece
pub record MayGoOn (piece : List ℕ) (c : Course) : Type 0 where
  pub plan : PlanParts
  pub table : TableParts
  pub bytes : List ℕ
  pub course : IsOnCourse plan table bytes c
  pub few : length bytes + length piece < 2 ^ 63

-- the same of some bytes, for a plan and a table of as many sectors
pub record HasCourse (c : Course) : Type 0 where
  pub plan : PlanParts
  pub table : TableParts
  pub bytes : List ℕ
  pub course : IsOnCourse plan table bytes c
  pub fits : table.n ≡ plan.sectors
