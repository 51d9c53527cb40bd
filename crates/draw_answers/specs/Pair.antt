-- What a picture of a pair of sectors calls for.
use Rattle.std.specs.Prelude.{◌≡◌, ℕ, ◌⊎◌, List, Option, Some, None, Result, Ok, Err, codes, length, ⊤}
use Rattle.sight_names.specs.declared.names.Ask.{Ask}
use Rattle.sight_names.specs.declared.names.Budget.{Budget}
use Rattle.sight_names.specs.declared.names.Pair.{Pair}
use Rattle.sight_names.specs.declared.names.Ray.{Ray}
use Rattle.sight_names.specs.Enough.{IsBudgetOf}
use Rattle.sight_names.specs.Map.{Map}
use Rattle.map_picture.specs.declared.pair.Stop.{Stop}
use Rattle.map_picture.specs.Bytes.{svg_of}
use Rattle.map_picture.specs.Picture.{NamedParts, blind_picture, pair_picture, sight_picture}
use Rattle.map_answers.specs.declared.sight_status.status.Status.{Status}
use Rattle.map_answers.specs.declared.sight_status.status.Status.TheVariants as status
use Rattle.map_answers.specs.declared.sight_status.status.Why.TheVariants as why
use Rattle.map_answers.specs.SightStatus.Answer.{Answer}
use Rattle.map_answers.specs.Groups.{MapGroups, OnAudited}
use Rattle.pair_answer.specs.declared.answer.PairAnswer.{PairAnswer}
use Rattle.pair_answer.specs.declared.answer.PairAnswer.TheVariants as answer
use Rattle.pair_answer.specs.Answer.{IsAnswerFor, IsMissing}
use Rattle.pair_answer.specs.Places.{ArePlacesOf}
use Rattle.pair_answer.specs.declared.entered_triangles.entered.Entered.{Entered}
use Rattle.pair_answer.specs.EnteredTriangles.Answer.{EndsWithin}
use Rattle.pair_answer.specs.EnteredTriangles.Walks.{IsOneSpent}
use Rattle.draw_answers.specs.declared.drawn.Drawn.{Drawn}
use Rattle.draw_answers.specs.declared.entering.Area.{Area}
use Rattle.draw_answers.specs.Drawn.{Drawing, drawing, one_picture}
use Rattle.draw_answers.specs.Lines.{blind_line_of, drawing_pair_line}

-- ---- what sight out of a sector enters

module _ (g : MapGroups) (budget : Budget) where
  -- the budget of some group of the sector runs out
  abbrev pub RunsOut : ℕ → Type 0
  RunsOut sector = (sources : List ℕ) × ArePlacesOf g.groups sector sources × IsOneSpent g.grouped g.triangles g.labels budget sources

  -- the budgets of its groups don't, and this is what sight out of them enters
  pub record IsEnteredOver (sector : ℕ) (e : Entered) : Type 0 where
    pub sources : List ℕ
    pub places : ArePlacesOf g.groups sector sources
    pub within : EndsWithin g.grouped g.triangles g.labels budget sources e

  abbrev pub IsEnteredFrom : ℕ → Option Entered → Type 0
  IsEnteredFrom sector (Some e) = IsEnteredOver sector e
  IsEnteredFrom sector None = RunsOut sector

  -- this is the first sector of the pair; where a budget runs out there, the second
  abbrev pub IsOfPair : Pair → ℕ → Type 0
  IsOfPair pair sector = (sector ≡ pair.a) ⊎ (RunsOut pair.a × (sector ≡ pair.b))

  -- what sight out of this sector enters
  abbrev pub IsAreaOfPair : Pair → Option Area → Type 0
  IsAreaOfPair pair (Some area) = IsOfPair pair area.sector × IsEnteredOver area.sector area.entered
  IsAreaOfPair pair None = RunsOut pair.a × RunsOut pair.b

-- ---- pictures

module _ (name : NamedParts) (m : Map) (pair : Pair) (g : MapGroups) where
  abbrev pub sight_drawing : Ray → Drawing
  sight_drawing ray = record { bytes = svg_of m (sight_picture name m g.groups g.triangles g.labels pair.a pair.b ray); line = drawing_pair_line name.text pair (codes " sight\n") }

  -- the faces alone
  abbrev pub word_drawing : List ℕ → Drawing
  word_drawing word = record { bytes = svg_of m (pair_picture name m g.groups g.triangles g.labels pair.a pair.b); line = drawing_pair_line name.text pair word }

  -- .. with triangles and stops as those of this sector: its number is the title of the triangles, and it is told by the line
  abbrev pub entered_drawing : ℕ → List ℕ → List Stop → Drawing
  entered_drawing sector entered stops = record { bytes = svg_of m (blind_picture name m g.groups g.triangles g.labels pair.a pair.b sector entered stops); line = blind_line_of name.text pair sector (length entered) (length stops) }

  -- what sight out of the sector enters, shown as that
  pub record DrawsEntered (budget : Budget) (sector : ℕ) (d : Drawing) : Type 0 where
    pub entered : Entered
    pub over : IsEnteredOver g budget sector entered
    pub is : d ≡ entered_drawing sector entered.triangles.items entered.stops.items

  -- out of the first sector; where a budget runs out, out of the second; where one runs out there too, nothing is shown as entered
  abbrev pub ShowsBlindOver : Budget → Drawing → Type 0
  ShowsBlindOver budget d = DrawsEntered budget pair.a d ⊎ (RunsOut g budget pair.a × DrawsEntered budget pair.b d) ⊎ (RunsOut g budget pair.a × RunsOut g budget pair.b × (d ≡ word_drawing (codes " blind\n")))

  -- .. within the budget that is asked for
  abbrev pub ShowsBlind : Ask → Drawing → Type 0
  ShowsBlind ask d = (budget : Budget) × IsBudgetOf g.grouped ask budget × ShowsBlindOver budget d

  -- what an answer for the pair calls for
  abbrev pub ShowsPair : Ask → PairAnswer → Drawing → Type 0
  ShowsPair ask (answer.Sight ray) d = d ≡ sight_drawing ray
  ShowsPair ask answer.Blind d = ShowsBlind ask d
  ShowsPair ask answer.Touch d = d ≡ word_drawing (codes " touch\n")
  ShowsPair ask answer.Listed d = d ≡ word_drawing (codes " listed\n")
  ShowsPair ask (answer.NoSector k) d = ⊥

  -- .. unless memory ran out; the no where a number is of no sector
  abbrev pub IsPairIfMade : Ask → PairAnswer → Result Drawn Status → Type 0
  IsPairIfMade ask given (Ok d) = ShowsPair ask given (drawing d)
  IsPairIfMade ask given (Err (status.Memory _)) = ⊤
  IsPairIfMade ask given (Err (status.No (why.NoSector k))) = given ≡ answer.NoSector k
  IsPairIfMade ask given (Err other) = ⊥

-- over the groups of a map, an answer for its pair of sectors within the budget that is asked for, and what that calls for
pub record DrawsPair (name : NamedParts) (out : List ℕ) (m : Map) (ask : Ask) (pair : Pair) (g : MapGroups) (drawn : Answer) : Type 0 where
  pub given : PairAnswer
  pub is_answer : IsAnswerFor m ask pair given
  pub shown : Drawing
  pub shows : ShowsPair name m pair g ask given shown
  pub is : drawn ≡ one_picture out shown

-- .. the no where a number is of no sector
abbrev pub PairCall : NamedParts → List ℕ → Map → Ask → Pair → MapGroups → Result Answer Status → Type 0
PairCall name out m ask pair g (Ok drawn) = DrawsPair name out m ask pair g drawn
PairCall name out m ask pair g (Err (status.No (why.NoSector k))) = IsMissing m pair k
PairCall name out m ask pair g (Err other) = ⊥

-- the answers that it calls for
abbrev pub DrawPairCalls : NamedParts → List ℕ → Ask → Pair → Map → Result Answer Status → Type 0
DrawPairCalls name out ask pair m answer = OnAudited m (PairCall name out m ask pair) answer
