-- What `why` and the picture of a pair that were done tell of two sectors.
use Rattle.std.proofs.Common.{◌≡◌, ℕ, List, ◌++◌, Result, Ok, Err, refl, ap, ◌∙◌, subst, inr}
use Rattle.std.specs.Option.{option_map}
use Rattle.sight_names.specs.declared.names.Ask.{Ask}
use Rattle.sight_names.specs.declared.names.Budget.{Budget}
use Rattle.sight_names.specs.declared.names.Pair.{Pair}
use Rattle.sight_names.specs.Groups.{HasClosedFaces}
use Rattle.sight_names.specs.Map.{Map}
use Rattle.shelf_io.specs.Shelf.{Files}
use Rattle.order_words.specs.declared.order.Source.{Source}
use Rattle.order_words.specs.declared.order.View.TheVariants as view
use Rattle.order_words.proofs.Deciding.{asks_without_bound}
use Rattle.map_answers.specs.declared.sight_status.status.Status.{Status}
use Rattle.map_answers.specs.SightStatus.Answer.{Answer, only_line}
use Rattle.map_answers.specs.Groups.{IsMapWithGroups, MapGroups}
use Rattle.map_answers.specs.Input.{LocatedMap, OnFound}
use Rattle.pair_answer.specs.declared.answer.PairAnswer.{PairAnswer}
use Rattle.pair_answer.specs.declared.answer.PairAnswer.TheVariants as answer
use Rattle.pair_answer.specs.declared.entered_triangles.entered.Entered.{Entered}
use Rattle.pair_answer.specs.Answer.{IsAnswerFor}
use Rattle.pair_answer.specs.WhyAnswers.Lines.{blind_line, listed_line, sight_line_by, touch_line}
use Rattle.pair_answer.specs.WhyAnswers.Why.{WhyCalls, said_of_answer}
use Rattle.draw_answers.specs.Drawn.{Drawing}
use Rattle.draw_answers.specs.Pair.{IsEnteredOver, ShowsPair}
use Rattle.draw_answers.proofs.Closing.{blind_closed, unseen_not_shown}
use Rattle.map_picture.specs.Picture.{NamedParts}
use Rattle.sight_run.specs.Draw.{DrawCalls, named_in}
use Rattle.sight_run.specs.Obeys.{AnswersOrder}
use Rattle.sight_run.specs.Reading.{found_of}
use Rattle.sight_run.specs.Run.{put_outputs}
use Rattle.sight_run.proofs.Round.{same_ok, was_found}
use Rattle.sight_run.proofs.Stood.{asked_is, bytes_of}
use Rattle.run_laws.specs.Pairs.{DecidesPair, DrawnPairIsRight, DrawsOfPair, EnclosesSight, PairsAreDecided, SaysOfPair, WhyIsRight}
use Rattle.run_laws.proofs.Deciding.{DecidesSectors, answers_decide}
use Rattle.run_laws.proofs.FoundPlan.{map_at_plan, of_plan}
use Rattle.run_laws.proofs.Keeping.{stored}
use Rattle.run_laws.proofs.Planned.{HasPlan}
use Rattle.run_laws.proofs.Shown.{given_shown}
use Rattle.run_laws.proofs.RightTables.{was_answered}

-- ---- a map that was found

found_plan : (wad : Source) (name : List ℕ) (files : Files) (found : LocatedMap) → found_of wad name files ≡ Ok found → HasPlan found.map
found_plan wad name files found is =
    let b = bytes_of wad name files found is in
    map_at_plan wad.large found.wad found.spot found.map (was_found wad.large name b.bytes found b.are).map

module _ (m : Map) (plan : HasPlan m) (closed : HasClosedFaces m) where
  decided : (ask : Ask) (pair : Pair) (given : PairAnswer) → IsAnswerFor m ask pair given → DecidesSectors m ask pair given
  decided ask pair given h = of_plan (λ (k : Map). HasClosedFaces k → IsAnswerFor k ask pair given → DecidesSectors k ask pair given) m plan (λ p is faces a. answers_decide p ask pair given is faces a) closed h

encloses : (m : Map) → HasPlan m → (groups : MapGroups) → IsMapWithGroups m groups → (budget : Budget) (a : ℕ) (e : Entered) → IsEnteredOver groups budget a e → EnclosesSight m groups a e
encloses m plan groups over budget a e entered =
    of_plan (λ (k : Map). IsMapWithGroups k groups → EnclosesSight k groups a e) m plan (λ p is of_p. record {
      closed = λ q r s at clear on. blind_closed p groups budget a e q r s is of_p entered at clear on;
      unseen = λ b blind k f there has. unseen_not_shown p groups budget a b e is of_p entered blind k f there has;
    }) over

pub pairs_are_decided : PairsAreDecided
pairs_are_decided words o m ask pair given asked two none decides = decides.told (inr (asks_without_bound words o ask (asked_is words o asked) two none))

-- ---- `why`

-- the line of an answer that has one
record HasLineOf (pair : Pair) (given : PairAnswer) (answer : Answer) : Type 0 where
  line : List ℕ
  is_line : said_of_answer pair given ≡ Ok (only_line line)
  is : answer ≡ only_line line

line_of : (pair : Pair) (given : PairAnswer) (said : Answer) → Ok said ≡ said_of_answer pair given → HasLineOf pair given said
line_of pair (answer.Sight ray) said e = record { line = sight_line_by pair ray; is_line = refl; is = same_ok said (only_line (sight_line_by pair ray)) e }
line_of pair answer.Blind said e = record { line = blind_line pair; is_line = refl; is = same_ok said (only_line (blind_line pair)) e }
line_of pair answer.Touch said e = record { line = touch_line pair; is_line = refl; is = same_ok said (only_line (touch_line pair)) e }
line_of pair answer.Listed said e = record { line = listed_line pair; is_line = refl; is = same_ok said (only_line (listed_line pair)) e }
line_of pair (answer.NoSector k) said e = absurd cc

-- an answer that is no missing sector tells of the pair
tells_of : (m : Map) (ask : Ask) (pair : Pair) (given : PairAnswer) (line : List ℕ) → said_of_answer pair given ≡ Ok (only_line line) → DecidesSectors m ask pair given → DecidesPair m ask pair given
tells_of m ask pair (answer.Sight ray) line e h = h
tells_of m ask pair answer.Blind line e h = h
tells_of m ask pair answer.Touch line e h = h
tells_of m ask pair answer.Listed line e h = h
tells_of m ask pair (answer.NoSector k) line e h = absurd cc

pub why_is_right : WhyIsRight
why_is_right words wad name pair ask files stand asked done =
    let e = was_answered words files stand done in
    on (found_of wad name files) e.answer refl e.stands e.said (subst (λ r. AnswersOrder r files done.heard (Ok e.answer)) asked e.called)
  where
    on : (r : Result LocatedMap Status) (said : Answer) → found_of wad name files ≡ r → stand ≡ put_outputs files said.writes → done.sink.new.held ≡ option_map (λ held. held ++ said.line) done.sink.old.held
        → OnFound r (λ (f : LocatedMap). WhyCalls ask pair f.map) (Ok said) → SaysOfPair wad name pair ask files stand done.sink
    on (Err s) said is left put h = absurd cc
    on (Ok found) said is left put h =
        let l = line_of pair h.given said h.is in
        record {
          found = found;
          is_found = is;
          given = h.given;
          decides = tells_of found.map ask pair h.given l.line l.is_line (decided found.map (found_plan wad name files found is) h.faces ask pair h.given h.is_answer);
          line = l.line;
          is_line = l.is_line;
          said = put ∙ ap (λ (a : Answer). option_map (λ held. held ++ a.line) done.sink.old.held) l.is;
          stays = left ∙ ap (λ (a : Answer). put_outputs files a.writes) l.is;
        }

-- ---- the picture of a pair

tells_drawn : (name : NamedParts) (m : Map) (pair : Pair) (g : MapGroups) (ask : Ask) (given : PairAnswer) (d : Drawing) → ShowsPair name m pair g ask given d → DecidesSectors m ask pair given → DecidesPair m ask pair given
tells_drawn name m pair g ask (answer.Sight ray) d shows h = h
tells_drawn name m pair g ask answer.Blind d shows h = h
tells_drawn name m pair g ask answer.Touch d shows h = h
tells_drawn name m pair g ask answer.Listed d shows h = h
tells_drawn name m pair g ask (answer.NoSector k) d shows h = absurd shows

pub drawn_pair_is_right : DrawnPairIsRight
drawn_pair_is_right words wad name out pair ask files stand asked done =
    let e = was_answered words files stand done in
    on (found_of wad name files) e.answer refl e.stands e.said (subst (λ r. AnswersOrder r files done.heard (Ok e.answer)) asked e.called)
  where
    on : (r : Result LocatedMap Status) (drawn : Answer) → found_of wad name files ≡ r → stand ≡ put_outputs files drawn.writes → done.sink.new.held ≡ option_map (λ held. held ++ drawn.line) done.sink.old.held
        → OnFound r (DrawCalls name out (view.Pair pair ask)) (Ok drawn) → DrawsOfPair wad name out pair ask files stand done.sink
    on (Err s) drawn is left put h = absurd cc
    on (Ok found) drawn is left put h =
        let x = h.1 in
        let plan = found_plan wad name files found is in
        let s = given_shown (named_in found name) found.map pair x.groups ask x.called.given x.called.shown x.called.shows in
        record {
          found = found;
          is_found = is;
          given = x.called.given;
          decides = tells_drawn (named_in found name) found.map pair x.groups ask x.called.given x.called.shown x.called.shows (decided found.map plan x.over.faces ask pair x.called.given x.called.is_answer);
          groups = x.groups;
          over = x.over;
          shown = x.called.shown;
          shows = x.called.shows;
          encloses = encloses found.map plan x.groups x.over;
          picture = s.picture;
          is_picture = s.is;
          lines = s.lines;
          faces = s.faces;
          stands = ap (λ (fs : Files). fs out) left ∙ ap (λ (a : Answer). put_outputs files a.writes out) x.called.is ∙ stored files out x.called.shown.bytes;
          said = put ∙ ap (λ (a : Answer). option_map (λ held. held ++ a.line) done.sink.old.held) x.called.is;
        }
