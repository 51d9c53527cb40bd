-- What a pair's picture has besides faces and lines: the triangles entered, the stops and the ray, each in one element at most. They
-- are told by their ids, which are words.
use Rattle.std.proofs.Common.{◌≡◌, ◌≢◌, ◌∙◌, ℕ, ◌+◌, List, [], ◌∷◌, ◌++◌, Option, Some, None, codes, refl, sym, arith}
use Rattle.std.specs.Fmt.{decimal}
use Rattle.std.specs.List.{AllByRecursion}
use Rattle.math_base.proofs.Lists.{all_join}
use Rattle.sight_names.specs.declared.names.Ray.{Ray}
use Rattle.sight_names.specs.declared.names.Triangle.{Triangle}
use Rattle.sight_names.specs.Map.{Map, MapLine, line_at}
use Rattle.map_picture.specs.declared.arrows.Arrow.{Arrow}
use Rattle.map_picture.specs.declared.faults.FaultAt.{FaultAt}
use Rattle.map_picture.specs.declared.pair.Stop.{Stop}
use Rattle.map_picture.specs.declared.tint.Tint.{Tint}
use Rattle.map_picture.specs.Bytes.{count_text, face_id, id_of, line_id}
use Rattle.map_picture.specs.declared.rings.Letter.{Letter}
use Rattle.map_picture.specs.declared.sheet.Subject.{Subject}
use Rattle.map_picture.specs.Picture.{NamedParts, Element, Entered, Legend, Stops, Sight, arrows_from, faces_from, faults_from, pair_rings, picture_of, ring_of, sight_between, sight_elements}
use Rattle.map_picture.proofs.Pieces.{AtMostOne, NotSo, all_arrows, all_faults, all_ring, all_rings, once_alone, once_before, once_behind, once_none, once_over, once_under}

abbrev pub HasId : List ℕ → Element → Type 0
HasId w e = id_of e ≡ w

-- the first letter is neither that of a face's id nor that of a line's
pub record IsWord (w : List ℕ) : Type 0 where
  first : ℕ
  rest : List ℕ
  is : w ≡ first ∷ rest
  face : first ≢ 71
  line : first ≢ 76

heads : (x y : ℕ) (xs ys : List ℕ) → ◌≡◌ {A = List ℕ} (x ∷ xs) (y ∷ ys) → x ≡ y
heads x y xs ys e = cc

nothing : (x : ℕ) (xs : List ℕ) → ◌≡◌ {A = List ℕ} [] (x ∷ xs) → ⊥
nothing x xs e = cc

no_empty : (w : List ℕ) → IsWord w → ◌≡◌ {A = List ℕ} [] w → ⊥
no_empty w h e = nothing h.first h.rest (e ∙ h.is)

no_face_id : (w : List ℕ) (g : ℕ) → IsWord w → face_id g ≡ w → ⊥
unfolding count_text
no_face_id w g h e = h.face (sym (heads 71 h.first (decimal g) h.rest (e ∙ h.is)))

no_line_id : (w : List ℕ) (i : ℕ) → IsWord w → line_id i ≡ w → ⊥
unfolding count_text
no_line_id w i h e = h.line (sym (heads 76 h.first (decimal i) h.rest (e ∙ h.is)))

pub open_word : IsWord (codes "open")
open_word = record { first = 111; rest = codes "pen"; is = refl; face = λ (e : 111 ≡ 71). omega (arith, e); line = λ (e : 111 ≡ 76). omega (arith, e) }

pub stops_word : IsWord (codes "stops")
stops_word = record { first = 115; rest = codes "tops"; is = refl; face = λ (e : 115 ≡ 71). omega (arith, e); line = λ (e : 115 ≡ 76). omega (arith, e) }

pub ray_word : IsWord (codes "ray")
ray_word = record { first = 114; rest = codes "ay"; is = refl; face = λ (e : 114 ≡ 71). omega (arith, e); line = λ (e : 114 ≡ 76). omega (arith, e) }

pub fault_word : IsWord (codes "fault")
fault_word = record { first = 102; rest = codes "ault"; is = refl; face = λ (e : 102 ≡ 71). omega (arith, e); line = λ (e : 102 ≡ 76). omega (arith, e) }

pub open_not_stops : codes "open" ≡ codes "stops" → ⊥
open_not_stops e = let q : 111 ≡ 115 = heads 111 115 (codes "pen") (codes "tops") e in omega (arith, q)

pub open_not_ray : codes "open" ≡ codes "ray" → ⊥
open_not_ray e = let q : 111 ≡ 114 = heads 111 114 (codes "pen") (codes "ay") e in omega (arith, q)

pub open_not_fault : codes "open" ≡ codes "fault" → ⊥
open_not_fault e = let q : 111 ≡ 102 = heads 111 102 (codes "pen") (codes "ault") e in omega (arith, q)

module _ (w : List ℕ) (word : IsWord w) where
  none_in_faces : (ts : List Triangle) (labels : List (Option ℕ)) (g : ℕ) (tints : List Tint) (groups : List (List ℕ)) → AllByRecursion (NotSo (HasId w)) (faces_from ts labels g tints groups)
  none_in_faces ts labels g [] groups = tt
  none_in_faces ts labels g (t ∷ tints) [] = tt
  none_in_faces ts labels g (t ∷ tints) (names ∷ groups) = (no_face_id w g word, none_in_faces ts labels (g + 1) tints groups)

  pub word_under : (name : NamedParts) (about : Subject) (m : Map) (under over : List Element) → AtMostOne (HasId w) under → AllByRecursion (NotSo (HasId w)) over → AtMostOne (HasId w) (picture_of name about m under over)
  word_under name about m under over once none = once_under (HasId w) name about m (no_empty w word) (λ n s. no_empty w word) (no_empty w word) (no_empty w word) (λ n. no_empty w word) (no_empty w word) (λ i l. no_line_id w i word) under over once none

  pub word_over : (name : NamedParts) (about : Subject) (m : Map) (under over : List Element) → AllByRecursion (NotSo (HasId w)) under → AtMostOne (HasId w) over → AtMostOne (HasId w) (picture_of name about m under over)
  word_over name about m under over none once = once_over (HasId w) name about m (no_empty w word) (λ n s. no_empty w word) (no_empty w word) (no_empty w word) (λ n. no_empty w word) (no_empty w word) (λ i l. no_line_id w i word) under over none once

-- each of the four words is the id of at most one element
pub record WordsAreOnce (picture : List Element) : Type 0 where
  pub open_once : AtMostOne (HasId (codes "open")) picture
  pub stops_once : AtMostOne (HasId (codes "stops")) picture
  pub ray_once : AtMostOne (HasId (codes "ray")) picture
  pub fault_once : AtMostOne (HasId (codes "fault")) picture

-- no word is the id of any of these
abbrev pub HasNoWord : List Element → Type 0
HasNoWord es = (w : List ℕ) → IsWord w → AllByRecursion (NotSo (HasId w)) es

pub ring_words : (m : Map) (groups : List (List ℕ)) (ts : List Triangle) (labels : List (Option ℕ)) (which : Letter) (sector : ℕ) → HasNoWord (ring_of m groups ts labels which sector)
ring_words m groups ts labels which sector w word = all_ring (NotSo (HasId w)) (λ l s t. no_empty w word) m groups ts labels which sector

pub rings_words : (m : Map) (groups : List (List ℕ)) (ts : List Triangle) (labels : List (Option ℕ)) (a b : ℕ) → HasNoWord (pair_rings m groups ts labels a b)
rings_words m groups ts labels a b w word = all_rings (NotSo (HasId w)) (λ l s t. no_empty w word) m groups ts labels a b

pub legend_words : (most : ℕ) → HasNoWord (Legend most ∷ [])
legend_words most w word = (no_empty w word, tt)

pub faults_words : (places : ℕ) (faults : List FaultAt) (arrows : List Arrow) → HasNoWord (faults_from places faults ++ arrows_from places arrows)
faults_words places faults arrows w word =
    all_join (NotSo (HasId w)) (faults_from places faults) (arrows_from places arrows) (all_faults (NotSo (HasId w)) places (λ what c. no_empty w word) faults) (all_arrows (NotSo (HasId w)) places (λ a. no_empty w word) arrows)

pub no_words : HasNoWord []
no_words w word = tt

-- a picture with one element over the lines, before what has no word
module _ (name : NamedParts) (about : Subject) (m : Map) (x : Element) (rest : List Element) (none : HasNoWord rest) where
  one_word : (w : List ℕ) → IsWord w → AtMostOne (HasId w) (picture_of name about m [] (x ∷ rest))
  one_word w word = word_over w word name about m [] (x ∷ rest) tt (once_before (HasId w) (x ∷ []) rest (once_alone (HasId w) x) (none w word))

  pub one_over : WordsAreOnce (picture_of name about m [] (x ∷ rest))
  one_over = record {
    open_once = one_word (codes "open") open_word;
    stops_once = one_word (codes "stops") stops_word;
    ray_once = one_word (codes "ray") ray_word;
    fault_once = one_word (codes "fault") fault_word;
  }

none_of_one : (w : List ℕ) → AtMostOne (HasId w) []
none_of_one w = once_none (HasId w) [] tt

ray_alone : (w : List ℕ) (r : Ray) (o p : Option MapLine) → AtMostOne (HasId w) (sight_between r o p)
ray_alone w r None p = none_of_one w
ray_alone w r (Some first) None = none_of_one w
ray_alone w r (Some first) (Some last) = once_alone (HasId w) (Sight r first last)

-- pictures with faces, and with further elements that have no word over the lines
module _ (name : NamedParts) (about : Subject) (m : Map) (ts : List Triangle) (labels : List (Option ℕ)) (tints : List Tint) (groups : List (List ℕ)) (rest : List Element) (none : HasNoWord rest) where
  abbrev faces : List Element
  faces = faces_from ts labels 0 tints groups

  -- over the faces, and before what has no word
  over_faces : (w : List ℕ) → IsWord w → (es : List Element) → AtMostOne (HasId w) es → AtMostOne (HasId w) (picture_of name about m faces (es ++ rest))
  over_faces w word es once = word_over w word name about m faces (es ++ rest) (none_in_faces w word ts labels 0 tints groups) (once_before (HasId w) es rest once (none w word))

  -- faces alone
  pub faces_words : WordsAreOnce (picture_of name about m faces rest)
  faces_words = record {
    open_once = over_faces (codes "open") open_word [] (none_of_one (codes "open"));
    stops_once = over_faces (codes "stops") stops_word [] (none_of_one (codes "stops"));
    ray_once = over_faces (codes "ray") ray_word [] (none_of_one (codes "ray"));
    fault_once = over_faces (codes "fault") fault_word [] (none_of_one (codes "fault"));
  }

  -- .. with a ray
  pub sight_words : (r : Ray) → WordsAreOnce (picture_of name about m faces (sight_elements m r ++ rest))
  sight_words r =
      let first = line_at m r.first.line in
      let last = line_at m r.last.line in
      record {
        open_once = over_faces (codes "open") open_word (sight_between r first last) (ray_alone (codes "open") r first last);
        stops_once = over_faces (codes "stops") stops_word (sight_between r first last) (ray_alone (codes "stops") r first last);
        ray_once = over_faces (codes "ray") ray_word (sight_between r first last) (ray_alone (codes "ray") r first last);
        fault_once = over_faces (codes "fault") fault_word (sight_between r first last) (ray_alone (codes "fault") r first last);
      }

  -- .. with triangles entered and stops
  module _ (sector : ℕ) (us : List Triangle) (ss : List Stop) where
    abbrev under : List Element
    under = faces ++ Entered sector us ∷ []

    -- .. another word than that of the triangles
    over_entered : (w : List ℕ) → IsWord w → (codes "open" ≡ w → ⊥) → AtMostOne (HasId w) (picture_of name about m under (Stops ss ∷ [] ++ rest))
    over_entered w word other =
        word_over w word name about m under (Stops ss ∷ [] ++ rest)
        (all_join (NotSo (HasId w)) faces (Entered sector us ∷ []) (none_in_faces w word ts labels 0 tints groups) (other, tt))
        (once_before (HasId w) (Stops ss ∷ []) rest (once_alone (HasId w) (Stops ss)) (none w word))

    pub blind_words : WordsAreOnce (picture_of name about m under (Stops ss ∷ [] ++ rest))
    blind_words = record {
      open_once = word_under (codes "open") open_word name about m under (Stops ss ∷ [] ++ rest)
          (once_behind (HasId (codes "open")) faces (Entered sector us ∷ []) (none_in_faces (codes "open") open_word ts labels 0 tints groups) (once_alone (HasId (codes "open")) (Entered sector us)))
          ((λ e. open_not_stops (sym e)), none (codes "open") open_word);
      stops_once = over_entered (codes "stops") stops_word open_not_stops;
      ray_once = over_entered (codes "ray") ray_word open_not_ray;
      fault_once = over_entered (codes "fault") fault_word open_not_fault;
    }
