-- What the order `why` says of a map that was found. It writes nothing.
use Rattle.std.specs.Prelude.{◌≡◌, ℕ, List, Result, Ok, Err, String, string_bytes, ⊤}
use Rattle.std.specs.declared.alloc.Global.{Global}
use Rattle.sight_names.specs.declared.names.Ask.{Ask}
use Rattle.sight_names.specs.declared.names.Pair.{Pair}
use Rattle.sight_names.specs.Groups.{HasClosedFaces}
use Rattle.sight_names.specs.Map.{Map}
use Rattle.sight_names.specs.Sound.{LinesMeetAtEnds}
use Rattle.map_audit.specs.Audit.{IsLineFault}
use Rattle.map_answers.specs.declared.sight_status.status.Flaw.TheVariants as flaw
use Rattle.map_answers.specs.declared.sight_status.status.Status.{Status}
use Rattle.map_answers.specs.declared.sight_status.status.Status.TheVariants as status
use Rattle.map_answers.specs.declared.sight_status.status.Why.TheVariants as why
use Rattle.map_answers.specs.SightStatus.Answer.{Answer, only_line}
use Rattle.map_answers.specs.Sound.{HasOpenSide}
use Rattle.pair_answer.specs.declared.answer.PairAnswer.{PairAnswer}
use Rattle.pair_answer.specs.declared.answer.PairAnswer.TheVariants as answer
use Rattle.pair_answer.specs.Answer.{IsAnswerFor}
use Rattle.pair_answer.specs.WhyAnswers.Lines.{blind_line, listed_line, sight_line_by, touch_line}

-- the line of an answer, or the no where a number is of no sector
abbrev pub said_of_answer : Pair → PairAnswer → Result Answer Status
said_of_answer pair (answer.Sight ray) = Ok (only_line (sight_line_by pair ray))
said_of_answer pair answer.Blind = Ok (only_line (blind_line pair))
said_of_answer pair answer.Touch = Ok (only_line (touch_line pair))
said_of_answer pair answer.Listed = Ok (only_line (listed_line pair))
said_of_answer pair (answer.NoSector k) = Err (status.No (why.NoSector k))

-- the map is sound, and this is said of an answer for its pair of sectors within the budget that is asked for
pub record SaysWhy (m : Map) (ask : Ask) (pair : Pair) (said : Result Answer Status) : Type 0 where
  pub faces : HasClosedFaces m
  pub given : PairAnswer
  pub is_answer : IsAnswerFor m ask pair given
  pub is : said ≡ said_of_answer pair given

-- The answer that `why` calls for. Where the map isn't sound it is the refusal of its audit.
abbrev pub WhyCalls : Ask → Pair → Map → Result Answer Status → Type 0
WhyCalls ask pair m (Err (status.BadMap (flaw.Line fault))) = IsLineFault m fault
WhyCalls ask pair m (Err (status.BadMap (flaw.Open side))) = LinesMeetAtEnds m × HasOpenSide m side
WhyCalls ask pair m said = SaysWhy m ask pair said

-- ---- parts of it

-- this line was made, or memory ran out
abbrev pub SaysLine : List ℕ → Result (String Global) Status → Type 0
SaysLine text (Ok line) = string_bytes line ≡ text
SaysLine text (Err refusal) = refusal ≡ status.Memory tt

-- what is said of an answer, unless memory ran out
abbrev pub IsSaidIfMade : Pair → PairAnswer → Result Answer Status → Type 0
IsSaidIfMade pair given (Err (status.Memory _)) = ⊤
IsSaidIfMade pair given said = said ≡ said_of_answer pair given

-- what a question on two sectors can end with
abbrev pub IsOfWhyTest : Status → Type 0
IsOfWhyTest (status.No (why.NoSector k)) = ⊤
IsOfWhyTest (status.BadMap flaw) = ⊤
IsOfWhyTest (status.Memory _) = ⊤
IsOfWhyTest other = ⊥
