-- What an order calls for: outputs and a line, or a refusal.
use Rattle.std.specs.Prelude.{◌≡◌, ℕ, Bool, true, List, [], Result, Ok, Err, String, string_bytes, ⊤}
use Rattle.std.specs.declared.alloc.Global.{Global}
use Rattle.map_answers.specs.declared.sight_status.status.Role.{Role}
use Rattle.map_answers.specs.declared.sight_status.status.Status.{Status}
use Rattle.map_answers.specs.declared.sight_status.status.Status.TheVariants as status
use Rattle.map_answers.specs.SightStatus.Status.{done_as}

-- an output: what it is to the order, its name and its bytes
pub record Written : Type 0 where
  pub role : Role
  pub name : List ℕ
  pub bytes : List ℕ

-- the outputs in the order in which they are stored, the line that is put, and whether all that was judged is right
pub record Answer : Type 0 where
  pub writes : List Written
  pub line : List ℕ
  pub right : Bool

-- an answer that is a line alone
abbrev pub only_line : List ℕ → Answer
only_line line = record { writes = []; line = line; right = true }

infixl 10 ◌>>=◌
-- the first check that fails refuses
abbrev pub ◌>>=◌ : {A B : Type 0} → Result A Status → (A → Result B Status) → Result B Status
(Ok x) >>= f = f x
(Err e) >>= f = Err e

-- the status of a run that gets so far
abbrev pub status_of : Result Answer Status → Status
status_of (Ok answer) = done_as answer.right
status_of (Err refusal) = refusal

-- What was made is what is said, unless memory ran out or a read failed.
abbrev pub MakesAnswer : {V D : Type 0} → (V → D) → Result V Status → Result D Status → Type 0
MakesAnswer view (Ok v) said = said ≡ Ok (view v)
MakesAnswer view (Err (status.Memory _)) said = ⊤
MakesAnswer view (Err (status.ReadFault role)) said = ⊤
MakesAnswer view (Err refusal) said = said ≡ Err refusal

-- This is an answer that is called for. Where only one is, it is this one.
pub record IsTheAnswer (Sole : Type 0) (Called : Result Answer Status → Type 0) (given : Result Answer Status) : Type 0 where
  pub called : Called given
  pub only : Sole → (other : Result Answer Status) → Called other → other ≡ given

-- What was given is the answer called for, unless memory ran out or a read failed.
abbrev pub GivesCalled : Type 0 → (Result Answer Status → Type 0) → Result Answer Status → Type 0
GivesCalled Sole Called (Err (status.Memory _)) = ⊤
GivesCalled Sole Called (Err (status.ReadFault role)) = ⊤
GivesCalled Sole Called given = IsTheAnswer Sole Called given

-- a line, or the refusal, as an answer
abbrev pub line_answer : Result (String Global) Status → Result Answer Status
line_answer (Ok line) = Ok (only_line (string_bytes line))
line_answer (Err refusal) = Err refusal
