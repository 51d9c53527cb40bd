-- The bytes of a certificate whose version they tell.
use Rattle.std.specs.Prelude.{◌≡◌, ℕ, ◌+◌, ◌<◌, ◌^◌, ◌⊎◌, List, length}
use Rattle.sight_names.specs.declared.faults.CertFault.{CertFault}
use Rattle.sight_names.specs.Plan.{PlanParts}
use Rattle.reject_bits.specs.Parts.{TableParts}
use Rattle.cert_judge.specs.Intake.{AreRefusedListing, HasTakenListing}
use Rattle.any_judge.specs.ExactJudge.Intake.{AreRefusedExact, HasTakenExact}
use Rattle.any_judge.specs.declared.versed.Versed.{Versed}
use Rattle.any_judge.specs.declared.versed.Versed.TheVariants as versed
use Rattle.any_judge.specs.Version.{BeginsThree}

-- whatever bytes come behind, they are no certificate of the plan, by the version that these tell
abbrev pub AreRefused : PlanParts → List ℕ → CertFault → Type 0
AreRefused p bytes f = ((¬ BeginsThree bytes) × AreRefusedListing p bytes f) ⊎ (BeginsThree bytes × AreRefusedExact p bytes f)

-- these are all bytes so far, for this plan and this table, and they are read by their version
abbrev pub HasTaken : PlanParts → TableParts → List ℕ → Versed → Type 0
HasTaken p t bytes (versed.Refused f) = AreRefused p bytes f
HasTaken p t bytes (versed.Listing k) = (¬ BeginsThree bytes) × HasTakenListing p t bytes k
HasTaken p t bytes (versed.Exact k) = BeginsThree bytes × HasTakenExact p t bytes k

-- the same of some bytes, which are fewer than 2^63 with the piece
pub record MayTake (piece : List ℕ) (v : Versed) : Type 0 where
  pub plan : PlanParts
  pub table : TableParts
  pub bytes : List ℕ
  pub taken : HasTaken plan table bytes v
  pub few : length bytes + length piece < 2 ^ 63

-- the same of some bytes, for a plan and a table of as many sectors
pub record IsFilled (v : Versed) : Type 0 where
  pub plan : PlanParts
  pub table : TableParts
  pub bytes : List ℕ
  pub taken : HasTaken plan table bytes v
  pub fits : table.n ≡ plan.sectors
