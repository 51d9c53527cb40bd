-- What the order `need` says of a map that was found. It writes nothing.
use Rattle.std.specs.Prelude.{◌≡◌, ℕ, List, ◌++◌, Option, Some, Result, Ok, Err, codes, length, slice_get}
use Rattle.std.specs.Fmt.{decimal}
use Rattle.sight_names.specs.declared.names.Triangle.{Triangle}
use Rattle.sight_names.specs.Enough.{enough_of}
use Rattle.sight_names.specs.Map.{Map}
use Rattle.portal_walk.specs.EnoughBudget.Need.{HasSequences, greatest}
use Rattle.map_answers.specs.declared.sight_status.status.Status.{Status}
use Rattle.map_answers.specs.SightStatus.Answer.{Answer, only_line}
use Rattle.map_answers.specs.Groups.{MapGroups, OnAudited}

-- for each sector the number of its stabbable sequences
pub record AreNeeds (m : Map) (ts : List Triangle) (ls : List (Option ℕ)) (numbers : List ℕ) : Type 0 where
  pub each : length numbers ≡ m.sectors
  pub counts : (a n : ℕ) → slice_get numbers a ≡ Some n → HasSequences m ts ls a n

-- the greatest number that a source has, and the budget that is enough
abbrev pub need_line : List ℕ → ℕ → ℕ → List ℕ
need_line name most enough = codes "need " ++ name ++ codes " most " ++ decimal most ++ codes " enough " ++ decimal enough ++ codes "\n"

-- the line has the greatest number of stabbable sequences of a group, 0 where there is no group, and the budget that is enough
pub record ShowsNeed (name : List ℕ) (g : MapGroups) (answer : Answer) : Type 0 where
  pub numbers : List ℕ
  pub are : AreNeeds g.grouped g.triangles g.labels numbers
  pub is : answer ≡ only_line (need_line name (greatest numbers) (enough_of g.grouped g.triangles))

-- the answer that the groups of a map call for
abbrev pub NeedsOf : List ℕ → MapGroups → Result Answer Status → Type 0
NeedsOf name g (Ok answer) = ShowsNeed name g answer
NeedsOf name g (Err refusal) = ⊥

-- the answer that `need` calls for
abbrev pub NeedCalls : List ℕ → Map → Result Answer Status → Type 0
NeedCalls name m answer = OnAudited m (NeedsOf name) answer
