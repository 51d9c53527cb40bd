-- What `why` and the picture of a pair tell of two sectors, over words and files alone.
use Rattle.std.specs.Prelude.{◌≡◌, ◌⊎◌, ◌<◌, ℕ, List, ◌++◌, Some, Ok, Contains}
use Rattle.std.specs.Option.{option_map}
use Rattle.sight_names.specs.declared.names.Ask.{Ask}
use Rattle.sight_names.specs.declared.names.Ask.TheVariants.{Enough, Full}
use Rattle.sight_names.specs.declared.names.Budget.{Budget}
use Rattle.sight_names.specs.declared.names.Pair.{Pair}
use Rattle.sight_names.specs.Enough.{IsBudgetOf}
use Rattle.sight_names.specs.Groups.{IsInGroup, IsListedByGroups}
use Rattle.sight_names.specs.Map.{Map}
use Rattle.sight_names.specs.Mesh.{label_of}
use Rattle.sight_names.specs.Path.{InSector, MissesSolid}
use Rattle.sight_names.specs.Point.{OnSegment, Point}
use Rattle.sight_names.specs.Sees.{Sees}
use Rattle.shelf_io.specs.Shelf.{Files}
use Rattle.order_words.specs.declared.order.Order.{Order}
use Rattle.order_words.specs.declared.order.Order.TheVariants as order
use Rattle.order_words.specs.declared.order.Source.{Source}
use Rattle.order_words.specs.declared.order.View.TheVariants as view
use Rattle.order_words.specs.Laws.{GivesNoBudget, bound_of}
use Rattle.map_answers.specs.SightStatus.Answer.{only_line}
use Rattle.map_answers.specs.Groups.{IsMapWithGroups, MapGroups}
use Rattle.map_answers.specs.Input.{LocatedMap}
use Rattle.map_picture.specs.Bytes.{svg_of}
use Rattle.map_picture.specs.Laws.{ShowsFaces, ShowsLines, TellsPair as TellsFaces}
use Rattle.map_picture.specs.Picture.{Element}
use Rattle.pair_answer.specs.declared.answer.PairAnswer.{PairAnswer}
use Rattle.pair_answer.specs.declared.answer.PairAnswer.TheVariants as answer
use Rattle.pair_answer.specs.declared.entered_triangles.entered.Entered.{Entered}
use Rattle.pair_answer.specs.WhyAnswers.Why.{said_of_answer}
use Rattle.draw_answers.specs.Drawn.{Drawing}
use Rattle.draw_answers.specs.Laws.{InEntered, InFaceOf}
use Rattle.draw_answers.specs.Pair.{IsEnteredOver, ShowsPair}
use Rattle.sight_run.specs.Draw.{named_in}
use Rattle.sight_run.specs.Reading.{found_of}
use Rattle.sight_run.specs.Words.{asked_of}
use Rattle.run_laws.specs.Headline.{WasDone}
use Rattle.run_laws.specs.Laws.{Sinks}

-- ---- what an answer tells

-- whether the two sectors see each other, where the answer tells it; and that a build within this budget lists their pair just where
-- the answer says so
abbrev pub TellsPairOfSectors : Map → Budget → Pair → PairAnswer → Type 0
TellsPairOfSectors m budget pair (answer.Sight ray) = Sees m pair.a pair.b × ¬ IsListedByGroups m budget pair.a pair.b
TellsPairOfSectors m budget pair answer.Blind = (¬ Sees m pair.a pair.b) × ¬ IsListedByGroups m budget pair.a pair.b
TellsPairOfSectors m budget pair answer.Touch = Sees m pair.a pair.b × ¬ IsListedByGroups m budget pair.a pair.b
TellsPairOfSectors m budget pair answer.Listed = IsListedByGroups m budget pair.a pair.b
TellsPairOfSectors m budget pair (answer.NoSector k) = ⊥

-- .. within the budget that is asked for
pub record DecidesPair (m : Map) (ask : Ask) (pair : Pair) (given : PairAnswer) : Type 0 where
  pub first : pair.a < m.sectors
  pub second : pair.b < m.sectors
  pub budget : Budget
  pub is_budget : IsBudgetOf m ask budget
  pub tells : TellsPairOfSectors m budget pair given
  -- with a budget that is enough, and without any, the answer is never that the pair is listed
  pub told : (ask ≡ Enough) ⊎ (ask ≡ Full) → ¬ (given ≡ answer.Listed)

-- .. which is never that the pair is listed where the words ask of two sectors and the command finds no budget in them
abbrev pub PairsAreDecided : Type 0
PairsAreDecided = (words : List (List ℕ)) (o : Order) (m : Map) (ask : Ask) (pair : Pair) (given : PairAnswer)
    → asked_of words ≡ Ok o → bound_of o ≡ Some ask → GivesNoBudget words → DecidesPair m ask pair given → ¬ (given ≡ answer.Listed)

-- ---- `why`

-- The name finds a map in the WAD, and the line is of an answer for the two sectors: where it is a ray, or a face belongs to both, they see each
-- other; where it is blind they don't; and it is that the pair is listed just where a build within the same budget lists it. With a
-- budget that is enough, and without any, it is never that (`DecidesPair`).
pub record SaysOfPair (wad : Source) (name : List ℕ) (pair : Pair) (ask : Ask) (files stand : Files) (sink : Sinks) : Type 0 where
  pub found : LocatedMap
  pub is_found : found_of wad name files ≡ Ok found
  pub given : PairAnswer
  pub decides : DecidesPair found.map ask pair given
  pub line : List ℕ
  pub is_line : said_of_answer pair given ≡ Ok (only_line line)
  pub said : sink.new.held ≡ option_map (λ held. held ++ line) sink.old.held
  pub stays : stand ≡ files

-- so it is where a `why` was done
abbrev pub WhyIsRight : Type 0
WhyIsRight = (words : List (List ℕ)) (wad : Source) (name : List ℕ) (pair : Pair) (ask : Ask) (files stand : Files)
    → asked_of words ≡ Ok (order.Why wad name pair ask) → (done : WasDone words files stand) → SaysOfPair wad name pair ask files stand done.sink

-- ---- the picture of a pair

-- Of what sight out of a sector enters: each point of a segment that begins in the sector and misses all solid lines lies in a closed
-- triangle of the sector or in an entered one; and none that is entered is of a sector that isn't seen.
pub record EnclosesSight (m : Map) (groups : MapGroups) (a : ℕ) (e : Entered) : Type 0 where
  pub closed : (q r s : Point) → InSector m q a → MissesSolid m q r → OnSegment q r s → InFaceOf m groups a s ⊎ InEntered m groups e s
  pub unseen : (b : ℕ) → ¬ Sees m a b → (k f : ℕ) → Contains e.triangles.items k → IsInGroup groups.groups b f → ¬ (label_of groups.labels k ≡ Some f)

-- The name finds a map in the WAD. Under OUT stands the picture of an answer that tells of the two sectors what that of `why` does. It shows the
-- map's lines, and faces that tell which of the two their groups name; what it shows as entered encloses all that is seen.
pub record DrawsOfPair (wad : Source) (name out : List ℕ) (pair : Pair) (ask : Ask) (files stand : Files) (sink : Sinks) : Type 0 where
  pub found : LocatedMap
  pub is_found : found_of wad name files ≡ Ok found
  pub given : PairAnswer
  pub decides : DecidesPair found.map ask pair given
  pub groups : MapGroups
  pub over : IsMapWithGroups found.map groups
  pub shown : Drawing
  pub shows : ShowsPair (named_in found name) found.map pair groups ask given shown
  pub encloses : (budget : Budget) (a : ℕ) (e : Entered) → IsEnteredOver groups budget a e → EnclosesSight found.map groups a e
  pub picture : List Element
  pub is_picture : shown.bytes ≡ svg_of found.map picture
  pub lines : ShowsLines found.map picture
  pub faces : ShowsFaces groups.groups groups.triangles groups.labels (TellsFaces pair.a pair.b) picture
  pub stands : stand out ≡ Some shown.bytes
  pub said : sink.new.held ≡ option_map (λ held. held ++ shown.line) sink.old.held

-- so it is where a `draw` of two sectors was done
abbrev pub DrawnPairIsRight : Type 0
DrawnPairIsRight = (words : List (List ℕ)) (wad : Source) (name out : List ℕ) (pair : Pair) (ask : Ask) (files stand : Files)
    → asked_of words ≡ Ok (order.Draw wad name out (view.Pair pair ask)) → (done : WasDone words files stand) → DrawsOfPair wad name out pair ask files stand done.sink
