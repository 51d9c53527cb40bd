-- What is answered for two sectors of the map that four lumps spell.
use Rattle.std.specs.Prelude.{◌≡◌, ◌≢◌, ℕ, pos, Option, Some, None, Result, Ok, Err, if◌then◌else◌, nat_lt, ⊤}
use Rattle.sight_names.specs.declared.names.Ask.{Ask}
use Rattle.sight_names.specs.declared.names.Ask.TheVariants.{Full}
use Rattle.sight_names.specs.declared.names.Method.{Method}
use Rattle.sight_names.specs.declared.names.Method.TheVariants.{Within, Exact}
use Rattle.sight_names.specs.declared.names.Pair.{Pair}
use Rattle.sight_names.specs.declared.names.Ray.{Ray}
use Rattle.sight_names.specs.Groups.{HasClosedFaces}
use Rattle.sight_names.specs.Map.{Map}
use Rattle.map_answers.specs.Sound.{IsAuditRefusal}
use Rattle.map_answers.specs.declared.sight_status.status.Why.TheVariants as why
use Rattle.map_answers.specs.declared.sight_status.status.Status.{Status}
use Rattle.map_answers.specs.declared.sight_status.status.Status.TheVariants as status
use Rattle.pair_answer.specs.declared.answer.PairAnswer.{PairAnswer}
use Rattle.pair_answer.specs.declared.answer.PairAnswer.TheVariants as answer
use Rattle.pair_answer.specs.Answer.{AnswersPair, IsMissing}
use Rattle.pair_answer.specs.Laws.{AnswerTellsSight}
use Rattle.doomsight_c.specs.declared.answer.DoomsightAnswer.{DoomsightAnswer}
use Rattle.doomsight_c.specs.declared.fault.DoomsightFault.{DoomsightFault}
use Rattle.doomsight_c.specs.Asked.{call_fault}
use Rattle.doomsight_c.specs.Faults.{bit_of_bool, fault_view, wide}
use Rattle.doomsight_c.specs.Lines.{status_in}

-- ---- what the numbers of a call ask for

-- a budget bounds the walks of the two sectors; where every pair is to be decided nothing does
abbrev pub ask_of : Method → Ask
ask_of (Within ask) = ask
ask_of Exact = Full

abbrev pub sector_pair : ℕ → ℕ → Pair
sector_pair a b = record { a = a; b = b }

-- the first number that is no number of a sector in any map
abbrev pub sector_fault : ℕ → ℕ → Option DoomsightFault
sector_fault a b =
    if nat_lt 65535 a then Some (wide 2 16 a 0)
    else if nat_lt 65535 b then Some (wide 2 16 b 0)
    else None

abbrev pub first_fault_told : Option DoomsightFault → Option DoomsightFault → Option DoomsightFault
first_fault_told (Some wrong) later = Some wrong
first_fault_told None later = later

-- the first number that is out of order: the format, the flags, the budget, or a sector
abbrev pub pair_fault : ℕ → ℕ → ℕ → ℕ → ℕ → Option DoomsightFault
pair_fault format flags budget a b = first_fault_told (call_fault format flags budget) (sector_fault a b)

-- ---- an answer as C reads it

abbrev pub plain : ℕ → DoomsightAnswer
plain n = record { answer = n; first_line = 0; first_left = 0; last_line = 0; last_left = 0; a = pos 0; b = pos 0; c = pos 0 }

-- sight along a ray: the sides of lines on which it begins and ends, and the numbers of its line
abbrev pub sight_along : Ray → DoomsightAnswer
sight_along ray = record {
  answer = 1;
  first_line = ray.first.line;
  first_left = bit_of_bool ray.first.left;
  last_line = ray.last.line;
  last_left = bit_of_bool ray.last.left;
  a = ray.a;
  b = ray.b;
  c = ray.c;
}

abbrev pub answer_view : PairAnswer → DoomsightAnswer
answer_view (answer.Sight ray) = sight_along ray
answer_view answer.Touch = plain 2
answer_view answer.Blind = plain 3
answer_view answer.Listed = plain 4
answer_view (answer.NoSector k) = plain 0

-- ---- what is answered

-- the map is sound and has both sectors; this is the answer for them, and it tells whether they see each other
pub record IsPairAnswered (m : Map) (ask : Ask) (pair : Pair) (given : PairAnswer) : Type 0 where
  pub faces : HasClosedFaces m
  pub answers : AnswersPair m ask pair given
  pub tells : AnswerTellsSight m pair given
  -- without a bound it does so always
  pub sure : ask ≡ Full → given ≢ answer.Listed

-- the answer for two sectors of the map that was read
pub record IsSaid (read : Result Map Status) (ask : Ask) (pair : Pair) (said : DoomsightAnswer) : Type 0 where
  pub map : Map
  pub is_read : read ≡ Ok map
  pub given : PairAnswer
  pub answered : IsPairAnswered map ask pair given
  pub is : said ≡ answer_view given

-- the map calls for this refusal: it isn't sound, or it is and has no such sector
abbrev pub DeniesPair : Map → Pair → Status → Type 0
DeniesPair m pair (status.No (why.NoSector k)) = HasClosedFaces m × IsMissing m pair k
DeniesPair m pair s = IsAuditRefusal m s

-- the lumps call for it
abbrev pub DeniesRead : Result Map Status → Pair → Status → Type 0
DeniesRead (Ok m) pair s = DeniesPair m pair s
DeniesRead (Err r) pair (status.Memory _) = ⊤
DeniesRead (Err r) pair s = s ≡ r

-- the numbers are those of a refusal for which the lumps and the pair call, and tell it
pub record IsRefusalTold (read : Result Map Status) (pair : Pair) (fault : DoomsightFault) : Type 0 where
  pub refusal : Status
  pub is : fault ≡ fault_view refusal
  pub told : status_in fault ≡ refusal
  pub called : DeniesRead read pair refusal

-- why nothing is answered: a number of the call is out of order, or else what the lumps and the pair call for
abbrev pub IsNotSaid : Option DoomsightFault → Result Map Status → Pair → DoomsightFault → Type 0
IsNotSaid (Some wrong) read pair fault = fault ≡ wrong
IsNotSaid None read pair fault = IsRefusalTold read pair fault

-- ---- parts of it

-- the answer of two sectors, or the no where a number is of no sector
abbrev pub of_sectors : PairAnswer → Result PairAnswer Status
of_sectors (answer.Sight ray) = Ok (answer.Sight ray)
of_sectors answer.Touch = Ok answer.Touch
of_sectors answer.Blind = Ok answer.Blind
of_sectors answer.Listed = Ok answer.Listed
of_sectors (answer.NoSector k) = Err (status.No (why.NoSector k))
