-- Laws of the answer for two sectors.
use Rattle.std.specs.Prelude.{⊤}
use Rattle.sight_names.specs.declared.names.Ask.{Ask}
use Rattle.sight_names.specs.declared.names.Pair.{Pair}
use Rattle.sight_names.specs.declared.names.Ray.{Ray}
use Rattle.sight_names.specs.Groups.{HasClosedFaces}
use Rattle.sight_names.specs.Map.{Map, map_of}
use Rattle.sight_names.specs.Plan.{PlanParts, IsPlan}
use Rattle.sight_names.specs.Ray.{IsSightRay}
use Rattle.sight_names.specs.Sees.{Sees}
use Rattle.sight_names.specs.Sound.{IsSound}
use Rattle.reject_bits.specs.Parts.{Rejects}
use Rattle.group_job.specs.declared.build.GroupBuilt.{GroupBuilt}
use Rattle.group_job.specs.Built.{DecidesByGroups}
use Rattle.group_job.specs.Sectors.{AreListed}
use Rattle.pair_answer.specs.declared.answer.PairAnswer.{PairAnswer}
use Rattle.pair_answer.specs.declared.answer.PairAnswer.TheVariants as answer
use Rattle.pair_answer.specs.Answer.{IsAnswerFor}

-- what the answer tells of sight
abbrev pub AnswerTellsSight : Map → Pair → PairAnswer → Type 0
AnswerTellsSight m pair (answer.Sight ray) = Sees m pair.a pair.b
AnswerTellsSight m pair answer.Blind = ¬ Sees m pair.a pair.b
AnswerTellsSight m pair answer.Touch = Sees m pair.a pair.b
AnswerTellsSight m pair answer.Listed = ⊤
AnswerTellsSight m pair (answer.NoSector k) = ⊤

abbrev pub AnswersTellSight : Type 0
AnswersTellSight = (p : PlanParts) (ask : Ask) (pair : Pair) (given : PairAnswer) → IsPlan p → HasClosedFaces (map_of p) → IsAnswerFor (map_of p) ask pair given → AnswerTellsSight (map_of p) pair given

-- the bit of the pair is set, and it isn't listed
abbrev pub IsSetPair : GroupBuilt → Pair → Type 0
IsSetPair b pair = Rejects b.table pair.a pair.b × ¬ AreListed b.listed pair.a pair.b

-- the bit is clear, and the pair isn't listed
abbrev pub IsClearPair : GroupBuilt → Pair → Type 0
IsClearPair b pair = ¬ Rejects b.table pair.a pair.b × ¬ AreListed b.listed pair.a pair.b

-- the bit is clear, and the pair is listed
abbrev pub IsListedByBuild : GroupBuilt → Pair → Type 0
IsListedByBuild b pair = ¬ Rejects b.table pair.a pair.b × AreListed b.listed pair.a pair.b

-- what a build says of the pair
abbrev pub IsSaidByBuild : GroupBuilt → Pair → PairAnswer → Type 0
IsSaidByBuild b pair (answer.Sight ray) = IsClearPair b pair
IsSaidByBuild b pair answer.Blind = IsSetPair b pair
IsSaidByBuild b pair answer.Touch = IsClearPair b pair
IsSaidByBuild b pair answer.Listed = IsListedByBuild b pair
IsSaidByBuild b pair (answer.NoSector k) = ⊤

-- The answer is what a build with the same budget says of the pair.
abbrev pub AnswersAreOfBuilds : Type 0
AnswersAreOfBuilds = (p : PlanParts) (ask : Ask) (pair : Pair) (given : PairAnswer) (b : GroupBuilt) → IsPlan p → HasClosedFaces (map_of p) → DecidesByGroups (map_of p) ask b → IsAnswerFor (map_of p) ask pair given → IsSaidByBuild b pair given

-- In a sound map each face has one name, and the ray is a sight ray of the two sectors.
abbrev pub RaysAreOfSectors : Type 0
RaysAreOfSectors = (p : PlanParts) (ask : Ask) (pair : Pair) (ray : Ray) → IsPlan p → IsSound (map_of p) → IsAnswerFor (map_of p) ask pair (answer.Sight ray) → IsSightRay (map_of p) ray pair.a pair.b
