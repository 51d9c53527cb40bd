-- What has become of the bytes that were taken so far.
use Rattle.std.specs.Prelude.{◌≡◌, ℕ, ◌+◌, List, [], ◌++◌, Result, Ok, Err, length, MatchOption}
use Rattle.sight_names.specs.declared.faults.CertFault.{CertFault}
use Rattle.sight_names.specs.Plan.{PlanParts}
use Rattle.reject_bits.specs.Parts.{TableParts}
use Rattle.cert_format.specs.Grammar.{AreSmall}
use Rattle.cert_format.specs.Reading.{◌>>=◌}
use Rattle.cert_format.specs.Sizes.{sizes_of_plan}
use Rattle.cert_judge.specs.Intake.{AreBytes}
use Rattle.certificates.specs.declared.exact_parts.part.Part.{Part}
use Rattle.certificates.specs.ExactParts.Parts.{ThreeParts, reading_three_parts}
use Rattle.certificates.specs.ExactParts.Left.{parts_left}
use Rattle.any_judge.specs.declared.exact_judge.intake.Intake.{Intake}
use Rattle.any_judge.specs.ExactJudge.Heard.{Groups}
use Rattle.any_judge.specs.ExactJudge.Judging.{HasHeard}

-- these groups, these parts, and what is still to come behind them
abbrev pub put_exact_parts : Groups → List Part → Result (List Part) CertFault → Result ThreeParts CertFault
put_exact_parts groups parts left = left >>= λ others. Ok (groups, parts ++ others)

-- These are all bytes so far, and all but those ahead were taken: the groups and the parts that they gave were heard, and
-- whatever bytes come behind, the parts of all bytes are these and then those that the reader has still to give.
pub record IsGoingOn (p : PlanParts) (t : TableParts) (bytes ahead : List ℕ) (k : Intake) : Type 0 where
  pub small : AreSmall (sizes_of_plan p)
  pub fit : AreBytes bytes
  pub groups : Groups
  pub parts : List Part
  pub heard : HasHeard p t groups parts k.judging
  pub given : k.reader.given + length ahead ≡ length bytes
  pub left : (more : List ℕ) → reading_three_parts (sizes_of_plan p) (bytes ++ more) ≡ put_exact_parts groups parts (parts_left k.reader (ahead ++ more))

-- whatever bytes come behind, they are no certificate of the plan
abbrev pub AreRefusedExact : PlanParts → List ℕ → CertFault → Type 0
AreRefusedExact p bytes f = (more : List ℕ) → reading_three_parts (sizes_of_plan p) (bytes ++ more) ≡ Err f

-- all bytes were taken, or the fault that they have is kept
abbrev pub HasTakenExact : PlanParts → TableParts → List ℕ → Intake → Type 0
HasTakenExact p t bytes k = MatchOption k.fault (IsGoingOn p t bytes [] k) (AreRefusedExact p bytes)

-- the same of some bytes, for a plan and a table of as many sectors
pub record IsTaken (k : Intake) : Type 0 where
  pub plan : PlanParts
  pub table : TableParts
  pub bytes : List ℕ
  pub taken : HasTakenExact plan table bytes k
  pub fits : table.n ≡ plan.sectors
