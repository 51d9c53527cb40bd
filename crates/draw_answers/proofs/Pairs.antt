-- The answer of a pair's picture.
use Rattle.std.proofs.Common.{◌≡◌, inl, inr, ℕ, ◌<◌, List, All, Option, Some, None, Result, Ok, Err, codes, length, refl, sym, subst}
use Rattle.std.specs.Prelude.{IfOk}
use Rattle.sight_names.specs.declared.names.Ask.{Ask}
use Rattle.sight_names.specs.declared.names.Budget.{Budget}
use Rattle.sight_names.specs.declared.names.Memory.{Memory}
use Rattle.sight_names.specs.declared.names.Pair.{Pair}
use Rattle.sight_names.specs.declared.names.Triangle.{Triangle}
use Rattle.sight_names.specs.Enough.{IsBudgetOf}
use Rattle.sight_names.specs.Groups.{HasClosedFaces}
use Rattle.sight_names.specs.Map.{Map}
use Rattle.sight_names.specs.Mesh.{AreTriangles}
use Rattle.map_picture.specs.declared.pair.Stop.{Stop}
use Rattle.map_answers.specs.declared.sight_status.status.Status.{Status}
use Rattle.map_answers.specs.declared.sight_status.status.Status.TheVariants as status
use Rattle.map_answers.specs.declared.sight_status.status.Why.TheVariants as why
use Rattle.map_answers.specs.SightStatus.Answer.{GivesCalled}
use Rattle.map_answers.specs.Groups.{IsMapWithGroups, MapGroups}
use Rattle.map_answers.specs.Sound.{HasSoundLines}
use Rattle.pair_answer.specs.declared.answer.PairAnswer.{PairAnswer}
use Rattle.pair_answer.specs.Answer.{IsAnswerFor}
use Rattle.pair_answer.specs.Places.{ArePlacesOf}
use Rattle.pair_answer.specs.declared.entered_triangles.entered.Entered.{Entered}
use Rattle.pair_answer.specs.EnteredTriangles.Answer.{IsEnteredWithin}
use Rattle.pair_answer.proofs.EnteredTriangles.Within.{stops_from_within, stops_to_within, triangles_within}
use Rattle.map_picture.specs.Picture.{NamedParts}
use Rattle.draw_answers.specs.declared.drawn.Drawn.{Drawn}
use Rattle.draw_answers.specs.declared.entering.Area.{Area}
use Rattle.draw_answers.specs.Drawn.{Drawing, IsMadeOf, drawing, drawn_answer}
use Rattle.draw_answers.specs.Pair.{DrawPairCalls, IsAreaOfPair, IsEnteredFrom, IsEnteredOver, IsPairIfMade, ShowsBlind, DrawsEntered, ShowsPair, entered_drawing, word_drawing}

-- ---- what is entered

module _ (g : MapGroups) (budget : Budget) where
  is_from : (sector : ℕ) (sources : List ℕ) → ArePlacesOf g.groups sector sources → (o : Option Entered) → IsEnteredWithin g.grouped g.triangles g.labels budget sources o → IsEnteredFrom g budget sector o
  is_from sector sources places (Some e) h = record { sources = sources; places = places; within = h }
  is_from sector sources places None h = (sources, places, h)

  pub entered_from_places : (sector : ℕ) (sources : List ℕ) → ArePlacesOf g.groups sector sources → (r : Result (Option Entered) Memory) → IfOk r (IsEnteredWithin g.grouped g.triangles g.labels budget sources) → IfOk r (IsEnteredFrom g budget sector)
  entered_from_places sector sources places (Ok o) h = is_from sector sources places o h
  entered_from_places sector sources places (Err m) h = tt

-- ---- it can be drawn

pub record Fits (ts : List Triangle) (n : ℕ) (e : Entered) : Type 0 where
  pub triangles : All (λ (k : ℕ). k < length ts) e.triangles.items
  pub from : All (λ (s : Stop). s.from < n) e.stops.items
  pub to : All (λ (s : Stop). s.to < n) e.stops.items

module _ (g : MapGroups) (budget : Budget) (n : ℕ) (triangles : AreTriangles n g.triangles) where
  fits_over : (sector : ℕ) (e : Entered) → IsEnteredOver g budget sector e → Fits g.triangles n e
  fits_over sector e h =
      let are = h.within.entered in record {
        triangles = triangles_within g.grouped g.triangles g.labels h.sources e are;
        from = stops_from_within g.grouped g.triangles g.labels n h.sources e triangles are;
        to = stops_to_within g.grouped g.triangles g.labels n h.sources e triangles are;
      }

  pub fits_pair : (pair : Pair) (area : Area) → IsAreaOfPair g budget pair (Some area) → Fits g.triangles n area.entered
  fits_pair pair area h = fits_over area.sector area.entered h.1

-- ---- what an answer calls for

module _ (name : NamedParts) (m : Map) (pair : Pair) (g : MapGroups) (ask : Ask) where
  shown_of : (budget : Budget) (sector s : ℕ) (e : Entered) (d : Drawing) → sector ≡ s → IsEnteredOver g budget sector e → d ≡ entered_drawing name m pair g sector e.triangles.items e.stops.items → DrawsEntered name m pair g budget s d
  shown_of budget sector s e d of over same = subst (λ (n : ℕ). DrawsEntered name m pair g budget n d) of (record { entered = e; over = over; is = same })

  pub shows_entered : (budget : Budget) (area : Area) → IsBudgetOf g.grouped ask budget → IsAreaOfPair g budget pair (Some area) → (r : Result Drawn Memory)
      → IfOk r (λ d. drawing d ≡ entered_drawing name m pair g area.sector area.entered.triangles.items area.entered.stops.items) → IfOk r (λ d. ShowsBlind name m pair g ask (drawing d))
  shows_entered budget area is (inl of, over) (Ok d) same = (budget, is, inl (shown_of budget area.sector pair.a area.entered (drawing d) of over same))
  shows_entered budget area is (inr (out, of), over) (Ok d) same = (budget, is, inr (inl (out, shown_of budget area.sector pair.b area.entered (drawing d) of over same)))
  shows_entered budget area is h (Err x) same = tt

  pub shows_none : (budget : Budget) → IsBudgetOf g.grouped ask budget → IsAreaOfPair g budget pair None → (r : Result Drawn Memory)
      → IfOk r (λ d. drawing d ≡ word_drawing name m pair g (codes " blind\n")) → IfOk r (λ d. ShowsBlind name m pair g ask (drawing d))
  shows_none budget is h (Ok d) same = (budget, is, inr (inr (h.0, h.1, same)))
  shows_none budget is h (Err x) same = tt

  pub shown_made : (given : PairAnswer) (r : Result Drawn Memory) (s : Result Drawn Status) → IfOk r (λ d. ShowsPair name m pair g ask given (drawing d)) → IsMadeOf r s → IsPairIfMade name m pair g ask given s
  shown_made given (Ok d) s h made = subst (λ (x : Result Drawn Status). IsPairIfMade name m pair g ask given x) (sym made) h
  shown_made given (Err e) s h made = subst (λ (x : Result Drawn Status). IsPairIfMade name m pair g ask given x) (sym made) tt

  module _ (out : List ℕ) (lines : HasSoundLines m) (over : IsMapWithGroups m g) where
    pub gives_pair : (given : PairAnswer) → IsAnswerFor m ask pair given → (s : Result Drawn Status) → IsPairIfMade name m pair g ask given s → GivesCalled (¬ HasClosedFaces m) (DrawPairCalls name out ask pair m) (drawn_answer out s)
    gives_pair given is_answer (Ok d) h = record {
      called = (lines.meet, record { groups = g; over = over; called = record { given = given; is_answer = is_answer; shown = drawing d; shows = h; is = refl } });
      only = λ sole. absurd (sole over.faces);
    }
    gives_pair given is_answer (Err (status.Memory _)) h = tt
    gives_pair given is_answer (Err (status.No (why.NoSector k))) h = record {
      called = (lines.meet, record { groups = g; over = over; called = subst (λ (x : PairAnswer). IsAnswerFor m ask pair x) h is_answer });
      only = λ sole. absurd (sole over.faces);
    }
    gives_pair given is_answer (Err s) h = absurd h
