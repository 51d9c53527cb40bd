-- The picture of a pair shows the lines of the map.
use Rattle.std.proofs.Common.{◌≡◌, inl, inr, ℕ, List, [], ◌∷◌, ◌++◌, ap, codes}
use Rattle.sight_names.specs.declared.names.Ask.{Ask}
use Rattle.sight_names.specs.declared.names.Budget.{Budget}
use Rattle.sight_names.specs.declared.names.Pair.{Pair}
use Rattle.sight_names.specs.declared.names.Ray.{Ray}
use Rattle.sight_names.specs.Map.{Map}
use Rattle.map_answers.specs.Groups.{MapGroups}
use Rattle.map_picture.specs.declared.pair.Stop.{Stop}
use Rattle.map_picture.specs.Bytes.{svg_of}
use Rattle.map_picture.specs.declared.sheet.Subject.{Subject}
use Rattle.map_picture.specs.declared.sheet.Subject.TheVariants as subject
use Rattle.map_picture.specs.Picture.{NamedParts, Element, Entered, Stops, blind_picture, triangles_with_numbers, pair_faces, pair_picture, pair_rings, pair_tint, sight_elements, sight_picture}
use Rattle.map_picture.specs.Laws.{HasNoLine, ShowsFaces, ShowsLines, TellsPair as TellsFaces}
use Rattle.map_picture.proofs.Faced.{blind_faces, no_line_in_faces, pair_shown, sight_faces}
use Rattle.map_picture.proofs.Ids.{no_line_entered, no_line_rings, no_line_sight, no_line_stops}
use Rattle.map_picture.proofs.Ordered.{lines_shown}
use Rattle.pair_answer.specs.declared.answer.PairAnswer.{PairAnswer}
use Rattle.pair_answer.specs.declared.answer.PairAnswer.TheVariants as answer
use Rattle.draw_answers.specs.Drawn.{Drawing}
use Rattle.draw_answers.specs.Pair.{ShowsBlindOver, ShowsPair, entered_drawing, sight_drawing, word_drawing}

-- a picture of a pair shows the map's lines, and faces that tell which of the two sectors their groups name
pub record IsShownPair (m : Map) (pair : Pair) (g : MapGroups) (d : Drawing) : Type 0 where
  pub picture : List Element
  pub is : d.bytes ≡ svg_of m picture
  pub lines : ShowsLines m picture
  pub faces : ShowsFaces g.groups g.triangles g.labels (TellsFaces pair.a pair.b) picture

module _ (name : NamedParts) (m : Map) (pair : Pair) (g : MapGroups) where
  abbrev of_pair : Subject
  of_pair = subject.Pair pair.a pair.b

  abbrev the_faces : List Element
  the_faces = pair_faces g.groups g.triangles g.labels pair.a pair.b

  abbrev rings : List Element
  rings = pair_rings m g.groups g.triangles g.labels pair.a pair.b

  faces : HasNoLine the_faces
  faces = no_line_in_faces (pair_tint pair.a pair.b) g.triangles g.labels 0 g.groups

  of_sight : (ray : Ray) (d : Drawing) → d ≡ sight_drawing name m pair g ray → IsShownPair m pair g d
  of_sight ray d same = record {
    picture = sight_picture name m g.groups g.triangles g.labels pair.a pair.b ray;
    is = ap (λ (x : Drawing). x.bytes) same;
    lines = lines_shown name of_pair m the_faces (sight_elements m ray ++ rings) faces (no_line_sight m g.groups g.triangles g.labels pair.a pair.b ray);
    faces = sight_faces name m g.groups g.triangles g.labels pair.a pair.b ray;
  }

  of_word : (word : List ℕ) (d : Drawing) → d ≡ word_drawing name m pair g word → IsShownPair m pair g d
  of_word word d same = record {
    picture = pair_picture name m g.groups g.triangles g.labels pair.a pair.b;
    is = ap (λ (x : Drawing). x.bytes) same;
    lines = lines_shown name of_pair m the_faces rings faces (no_line_rings m g.groups g.triangles g.labels pair.a pair.b);
    faces = pair_shown name m g.groups g.triangles g.labels pair.a pair.b;
  }

  of_entered : (sector : ℕ) (entered : List ℕ) (stops : List Stop) (d : Drawing) → d ≡ entered_drawing name m pair g sector entered stops → IsShownPair m pair g d
  of_entered sector entered stops d same = record {
    picture = blind_picture name m g.groups g.triangles g.labels pair.a pair.b sector entered stops;
    is = ap (λ (x : Drawing). x.bytes) same;
    lines = lines_shown name of_pair m (the_faces ++ Entered sector (triangles_with_numbers g.triangles entered) ∷ []) (Stops stops ∷ [] ++ rings)
        (no_line_entered g.groups g.triangles g.labels pair.a pair.b sector (triangles_with_numbers g.triangles entered)) (no_line_stops m g.groups g.triangles g.labels pair.a pair.b stops);
    faces = blind_faces name m g.groups g.triangles g.labels pair.a pair.b sector entered stops;
  }

  of_blind : (budget : Budget) (d : Drawing) → ShowsBlindOver name m pair g budget d → IsShownPair m pair g d
  of_blind budget d (inl h) = of_entered pair.a h.entered.triangles.items h.entered.stops.items d h.is
  of_blind budget d (inr (inl h)) = of_entered pair.b h.1.entered.triangles.items h.1.entered.stops.items d h.1.is
  of_blind budget d (inr (inr h)) = of_word (codes " blind\n") d h.2

  pub given_shown : (ask : Ask) (given : PairAnswer) (d : Drawing) → ShowsPair name m pair g ask given d → IsShownPair m pair g d
  given_shown ask (answer.Sight ray) d h = of_sight ray d h
  given_shown ask answer.Blind d h = of_blind h.0 d h.2
  given_shown ask answer.Touch d h = of_word (codes " touch\n") d h
  given_shown ask answer.Listed d h = of_word (codes " listed\n") d h
  given_shown ask (answer.NoSector k) d h = absurd h
