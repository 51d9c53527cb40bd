-- Laws of what `why` says.
use Rattle.std.specs.Prelude.{◌≡◌, Ok}
use Rattle.sight_names.specs.declared.names.Ask.{Ask}
use Rattle.sight_names.specs.declared.names.Pair.{Pair}
use Rattle.sight_names.specs.Map.{Map, map_of}
use Rattle.sight_names.specs.Plan.{PlanParts, IsPlan}
use Rattle.map_answers.specs.SightStatus.Answer.{Answer}
use Rattle.group_job.specs.declared.build.GroupBuilt.{GroupBuilt}
use Rattle.group_job.specs.Built.{DecidesByGroups}
use Rattle.pair_answer.specs.declared.answer.PairAnswer.{PairAnswer}
use Rattle.pair_answer.specs.Laws.{IsSaidByBuild, AnswerTellsSight}
use Rattle.pair_answer.specs.WhyAnswers.Why.{WhyCalls, said_of_answer}

-- The line is of an answer that is what a build says of the pair, and that tells whether the two sectors see each other.
pub record IsSaidAs (m : Map) (pair : Pair) (b : GroupBuilt) (line : Answer) : Type 0 where
  pub given : PairAnswer
  pub is : Ok line ≡ said_of_answer pair given
  pub built : IsSaidByBuild b pair given
  pub sight : AnswerTellsSight m pair given

-- What `why` says of a pair is what a build with the same budget says of it.
abbrev pub WhysAreOfBuilds : Type 0
WhysAreOfBuilds = (p : PlanParts) (ask : Ask) (pair : Pair) (line : Answer) (b : GroupBuilt) → IsPlan p → DecidesByGroups (map_of p) ask b → WhyCalls ask pair (map_of p) (Ok line) → IsSaidAs (map_of p) pair b line
