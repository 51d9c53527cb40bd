-- A judge that is fed the file of a name.
use Rattle.std.specs.Prelude.{◌≡◌, ℕ, List, [], Option, Some, Result, Ok, Err, ⊤}
use Rattle.sight_names.specs.declared.faults.FetchFault.{FetchFault}
use Rattle.sight_names.specs.declared.faults.FetchFault.TheVariants as fetch
use Rattle.sight_names.specs.Plan.{PlanParts}
use Rattle.shelf_io.specs.Shelf.{Files, content_of}
use Rattle.reject_bits.specs.Parts.{TableParts}
use Rattle.any_judge.specs.declared.judge.Judge.{Judge}
use Rattle.any_judge.specs.Judge.{HasBeenFed}

-- it was fed nothing so far
pub record IsJudgeFresh (j : Judge) : Type 0 where
  pub plan : PlanParts
  pub table : TableParts
  pub fed : HasBeenFed plan table [] j

-- it was fed bytes, and where the files are told these are the whole file
pub record HoldsFile (p : PlanParts) (t : TableParts) (files : Option Files) (name : List ℕ) (j : Judge) : Type 0 where
  pub bytes : List ℕ
  pub fed : HasBeenFed p t bytes j
  pub whole : (fs : Files) → files ≡ Some fs → content_of (fs name) 9223372036854775807 ≡ Ok bytes

-- a refusal is the content's, unless memory ran out or a read failed
abbrev pub RefusesAs : FetchFault → Result (List ℕ) FetchFault → Type 0
RefusesAs fetch.Absent content = content ≡ Err fetch.Absent
RefusesAs fetch.TooLong content = content ≡ Err fetch.TooLong
RefusesAs fetch.Failed content = ⊤
RefusesAs (fetch.Memory _) content = ⊤
