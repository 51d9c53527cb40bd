-- A judge that was fed bytes of a certificate of any version, of a plan and a table.
use Rattle.std.specs.Prelude.{◌≡◌, ℕ, ◌+◌, ◌<◌, ◌^◌, List, length, None, Some}
use Rattle.sight_names.specs.Plan.{PlanParts, IsPlan}
use Rattle.reject_bits.specs.Parts.{TableParts}
use Rattle.any_judge.specs.declared.judge.Judge.{Judge}
use Rattle.any_judge.specs.Course.{IsOnCourse}

-- it was made for this plan and this table, and these are the bytes of all pieces; once it is spent it answers no more
pub record HasBeenFed (p : PlanParts) (t : TableParts) (bytes : List ℕ) (j : Judge) : Type 0 where
  pub plan : IsPlan p
  pub course : j.spent ≡ None → IsOnCourse p t bytes j.course

-- with the piece there are fewer than 2^63 bytes
pub record MayBeFed (piece : List ℕ) (j : Judge) : Type 0 where
  pub plan : PlanParts
  pub table : TableParts
  pub bytes : List ℕ
  pub fed : HasBeenFed plan table bytes j
  pub few : length bytes + length piece < 2 ^ 63

-- the table has as many sectors as the plan
pub record IsFed (j : Judge) : Type 0 where
  pub plan : PlanParts
  pub table : TableParts
  pub bytes : List ℕ
  pub fed : HasBeenFed plan table bytes j
  pub fits : table.n ≡ plan.sectors

-- a piece found no memory
abbrev pub IsSpent : Judge → Type 0
IsSpent j = j.spent ≡ Some tt
