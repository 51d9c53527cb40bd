-- The ids of a picture's elements.
use Rattle.std.proofs.Common.{◌≡◌, ◌≢◌, ◌∙◌, ℕ, zero, suc, ◌^◌, ◌<◌, ◌≤◌, ◌⊎◌, inl, inr, List, [], ◌∷◌, ◌++◌, Option, Some, None, map, codes, length, slice_get, option_and_then, refl, sym, ap, subst, arith}
use Rattle.std.specs.Fmt.{decimal}
use Rattle.std.specs.List.{AllByRecursion}
use Rattle.std.proofs.lemmas.Fmt.{decimal_injective}
use Rattle.std.proofs.lemmas.Option.{none-some, slice_get_within}
use Rattle.math_base.proofs.Lists.{all_join}
use Rattle.sight_names.specs.declared.names.Pt.{Pt}
use Rattle.sight_names.specs.declared.names.Ray.{Ray}
use Rattle.sight_names.specs.declared.names.Triangle.{Triangle}
use Rattle.sight_names.specs.Map.{Map, MapLine, line_at}
use Rattle.reject_bits.specs.Parts.{TableParts}
use Rattle.map_picture.specs.declared.arrows.Arrow.{Arrow}
use Rattle.map_picture.specs.declared.faults.FaultAt.{FaultAt}
use Rattle.map_picture.specs.declared.faults.PointFault.{PointFault}
use Rattle.map_picture.specs.declared.pair.Stop.{Stop}
use Rattle.map_picture.specs.declared.tint.Tint.{Tint}
use Rattle.map_picture.specs.Bytes.{count_text, face_id, id_of, line_id}
use Rattle.map_picture.specs.declared.rings.Letter.{Letter}
use Rattle.map_picture.specs.declared.rings.Letter.TheVariants as letter
use Rattle.map_picture.specs.declared.sheet.Subject.TheVariants as subject
use Rattle.map_picture.specs.declared.tint.Tint.TheVariants as tint
use Rattle.map_picture.specs.Picture.{NamedParts, Element, Head, Title, Style, Paper, Scale, Face, Line, Entered, Stops, Sight, Marked, Fault, Out, Ring, Legend, Foot, arrows_from, blind_picture, faces_from, faults_from, heat_picture, heat_tints, marked_picture, most_of, triangles_with_numbers, pair_faces, pair_picture, pair_rings, pair_tint, plan_faces, plan_picture, ring_of, row_picture, row_tint, sight_between, sight_elements, sight_picture}
use Rattle.map_picture.specs.Laws.{Has, HasNoLine, IdsAreOnce, ShowsFaces, ShowsLines, TellsHeat, TellsNothing, TellsPair, TellsRow}
use Rattle.map_picture.proofs.Ordered.{NoLine, lines_shown, no_lines}
use Rattle.map_picture.proofs.Pieces.{AtMostOne, all_arrows, all_faults, all_ring, all_rings}
use Rattle.map_picture.proofs.Extras.{HasId, WordsAreOnce, blind_words, faces_words, faults_words, legend_words, no_words, one_over, ring_words, rings_words, sight_words}
use Rattle.map_picture.proofs.Faced.{NoFace, at_place, blind_faces, heat_faces, heat_shown, no_line_in_faces, pair_shown, plan_shown, row_shown, sight_faces}

tails : (x y : ℕ) (xs ys : List ℕ) → ◌≡◌ {A = List ℕ} (x ∷ xs) (y ∷ ys) → xs ≡ ys
tails x y xs ys e = cc

heads : (x y : ℕ) (xs ys : List ℕ) → ◌≡◌ {A = List ℕ} (x ∷ xs) (y ∷ ys) → x ≡ y
heads x y xs ys e = cc

same_numbers : (word : ℕ) (i n : ℕ) → i < 2 ^ 64 → n < 2 ^ 64 → count_text (word ∷ []) i ≡ count_text (word ∷ []) n → i ≡ n
unfolding count_text
same_numbers word i n small few e = decimal_injective i n small few (tails word word (decimal i) (decimal n) e)

same_words : (v w : ℕ) (i n : ℕ) → count_text (v ∷ []) i ≡ count_text (w ∷ []) n → v ≡ w
unfolding count_text
same_words v w i n e = heads v w (decimal i) (decimal n) e

record IsFace (e : Element) : Type 0 where
  k : Tint
  g : ℕ
  names : List ℕ
  shown : List Triangle
  is : e ≡ Face k g names shown

record IsLine (e : Element) : Type 0 where
  i : ℕ
  l : MapLine
  is : e ≡ Line i l

-- an element with an id that is a word
record IsWorded (picture : List Element) (e : Element) : Type 0 where
  w : List ℕ
  is : id_of e ≡ w
  once : AtMostOne (HasId w) picture

with_id : (picture : List Element) → WordsAreOnce picture → (e : Element) → id_of e ≢ [] → IsFace e ⊎ IsLine e ⊎ IsWorded picture e
with_id picture words Head h = absurd (h refl)
with_id picture words (Title name about) h = absurd (h refl)
with_id picture words Style h = absurd (h refl)
with_id picture words Paper h = absurd (h refl)
with_id picture words (Face k g names shown) h = inl (record { k = k; g = g; names = names; shown = shown; is = refl })
with_id picture words (Line i l) h = inr (inl (record { i = i; l = l; is = refl }))
with_id picture words (Entered sector us) h = inr (inr (record { w = codes "open"; is = refl; once = words.open_once }))
with_id picture words (Stops ss) h = inr (inr (record { w = codes "stops"; is = refl; once = words.stops_once }))
with_id picture words (Sight r first last) h = inr (inr (record { w = codes "ray"; is = refl; once = words.ray_once }))
with_id picture words (Marked marks) h = inr (inr (record { w = codes "fault"; is = refl; once = words.fault_once }))
with_id picture words (Scale places) h = absurd (h refl)
with_id picture words (Fault places what c) h = absurd (h refl)
with_id picture words (Out places w) h = absurd (h refl)
with_id picture words (Ring which sector t) h = absurd (h refl)
with_id picture words (Legend most) h = absurd (h refl)
with_id picture words Foot h = absurd (h refl)

record FacesAreOnce (picture : List Element) : Type 0 where
  few : (k : Tint) (g : ℕ) (names : List ℕ) (shown : List Triangle) → Has picture (Face k g names shown) → g < 2 ^ 64
  once : (i j g : ℕ) (k p : Tint) (names others : List ℕ) (shown more : List Triangle) → slice_get picture i ≡ Some (Face k g names shown) → slice_get picture j ≡ Some (Face p g others more) → i ≡ j

line_within : (es : List (Option MapLine)) (i : ℕ) (l : MapLine) → option_and_then (λ o. o) (slice_get es i) ≡ Some l → i < length es
line_within es i l e = go (slice_get es i) refl e
  where
    go : (o : Option (Option MapLine)) → slice_get es i ≡ o → option_and_then (λ o. o) o ≡ Some l → i < length es
    go None q e = absurd (none-some l e)
    go (Some x) q e = slice_get_within es i x q

at_as : (picture : List Element) (j : ℕ) (e f : Element) → slice_get picture j ≡ Some e → e ≡ f → slice_get picture j ≡ Some f
at_as picture j e f at same = at ∙ ap (λ (x : Element). Some x) same

id_as : (e f g h : Element) → id_of e ≡ id_of f → e ≡ g → f ≡ h → id_of g ≡ id_of h
id_as e f g h same is is_too = sym (ap id_of is) ∙ same ∙ ap id_of is_too

module _ (m : Map) (picture : List Element) (lines : ShowsLines m picture) (few : length m.lines ≤ 2 ^ 64) (faces : FacesAreOnce picture) (words : WordsAreOnce picture) where
  line_few : (j : ℕ) (i : ℕ) (l : MapLine) → slice_get picture j ≡ Some (Line i l) → i < 2 ^ 64
  line_few j i l at = let lt : i < length m.lines = line_within m.lines i l ((lines.exactly i l).0 (j, at)) in omega arith

  two_lines : (j k : ℕ) (i n : ℕ) (l o : MapLine) → slice_get picture j ≡ Some (Line i l) → slice_get picture k ≡ Some (Line n o) → line_id i ≡ line_id n → j ≡ k
  two_lines j k i n l o at there e =
      let same : i ≡ n = same_numbers 76 i n (line_few j i l at) (line_few k n o there) e in
      lines.once j k n l o (at ∙ ap (λ (x : ℕ). Some (Line x l)) same) there

  two_faces : (i j g n : ℕ) (k p : Tint) (names others : List ℕ) (shown more : List Triangle) → slice_get picture i ≡ Some (Face k g names shown) → slice_get picture j ≡ Some (Face p n others more) → face_id g ≡ face_id n → i ≡ j
  two_faces i j g n k p names others shown more at there e =
      let same : g ≡ n = same_numbers 71 g n (faces.few k g names shown (i, at)) (faces.few p n others more (j, there)) e in
      faces.once i j n k p names others shown more (at ∙ ap (λ (x : ℕ). Some (Face k x names shown)) same) there

  ids_once : IdsAreOnce picture
  ids_once j k e f at there some same = go (with_id picture words e some) (with_id picture words f (λ none. some (same ∙ none)))
    where
      go : IsFace e ⊎ IsLine e ⊎ IsWorded picture e → IsFace f ⊎ IsLine f ⊎ IsWorded picture f → j ≡ k
      go (inl a) (inl b) = two_faces j k a.g b.g a.k b.k a.names b.names a.shown b.shown (at_as picture j e _ at a.is) (at_as picture k f _ there b.is) (id_as e f _ _ same a.is b.is)
      go (inl a) (inr (inl b)) = let q : 71 ≡ 76 = same_words 71 76 a.g b.i (id_as e f _ _ same a.is b.is) in absurd (omega (arith, q))
      go (inr (inl a)) (inl b) = let q : 76 ≡ 71 = same_words 76 71 a.i b.g (id_as e f _ _ same a.is b.is) in absurd (omega (arith, q))
      go (inr (inl a)) (inr (inl b)) = two_lines j k a.i b.i a.l b.l (at_as picture j e _ at a.is) (at_as picture k f _ there b.is) (id_as e f _ _ same a.is b.is)
      go (inr (inr a)) b = a.once j k e f at there a.is (sym same ∙ a.is)
      go (inl a) (inr (inr b)) = b.once j k e f at there (same ∙ b.is) b.is
      go (inr (inl a)) (inr (inr b)) = b.once j k e f at there (same ∙ b.is) b.is

faces_once : (groups : List (List ℕ)) (ts : List Triangle) (labels : List (Option ℕ)) (Tells : List ℕ → Tint → Type 0) (picture : List Element) → length groups ≤ 2 ^ 64 → ShowsFaces groups ts labels Tells picture → FacesAreOnce picture
faces_once groups ts labels Tells picture some shows = record {
  few = λ k g names shown h. (let lt : g < length groups = slice_get_within groups g names (shows.group k g names shown h) in omega arith);
  once = shows.once;
}

no_ring : (which : Letter) (sector : ℕ) (t : Triangle) → NoLine (Ring which sector t)
no_ring which sector t i l e = cc

no_fault : (places : ℕ) (what : PointFault) (c : Pt) → NoLine (Fault places what c)
no_fault places what c i l e = cc

no_out : (places : ℕ) (w : Arrow) → NoLine (Out places w)
no_out places w i l e = cc

no_legend : (most : ℕ) → NoLine (Legend most)
no_legend most i l e = cc

no_mark : (marks : List ℕ) → NoLine (Marked marks)
no_mark marks i l e = cc

no_stop : (ss : List Stop) → NoLine (Stops ss)
no_stop ss i l e = cc

no_entered : (sector : ℕ) (us : List Triangle) → NoLine (Entered sector us)
no_entered sector us i l e = cc

no_sight : (r : Ray) (o p : Option MapLine) → AllByRecursion NoLine (sight_between r o p)
no_sight r None p = tt
no_sight r (Some first) None = tt
no_sight r (Some first) (Some last) = ((λ i l e. cc), tt)

no_line_joined : (es fs : List Element) → HasNoLine es → HasNoLine fs → HasNoLine (es ++ fs)
no_line_joined [] fs h g i l at = g i l at
no_line_joined (e ∷ es) fs h g i l (zero, at) = h i l (zero, at)
no_line_joined (e ∷ es) fs h g i l (suc k, at) = no_line_joined es fs (λ n o has. h n o (suc has.0, has.1)) g i l (k, at)

-- ---- what has no line in each kind of picture

pub no_line : HasNoLine []
no_line = no_lines [] tt

pub no_line_marked : (places : ℕ) (marks : List ℕ) (faults : List FaultAt) (arrows : List Arrow) → HasNoLine (Marked marks ∷ faults_from places faults ++ arrows_from places arrows)
no_line_marked places marks faults arrows =
    no_lines (Marked marks ∷ faults_from places faults ++ arrows_from places arrows) (all_join NoLine (Marked marks ∷ faults_from places faults) (arrows_from places arrows) (no_mark marks, all_faults NoLine places (no_fault places) faults) (all_arrows NoLine places (no_out places) arrows))

pub no_line_legend : (most : ℕ) → HasNoLine (Legend most ∷ [])
no_line_legend most = no_lines (Legend most ∷ []) (no_legend most, tt)

pub no_line_ring : (m : Map) (groups : List (List ℕ)) (ts : List Triangle) (labels : List (Option ℕ)) (which : Letter) (sector : ℕ) → HasNoLine (ring_of m groups ts labels which sector)
no_line_ring m groups ts labels which sector = no_lines (ring_of m groups ts labels which sector) (all_ring NoLine no_ring m groups ts labels which sector)

pub no_line_rings : (m : Map) (groups : List (List ℕ)) (ts : List Triangle) (labels : List (Option ℕ)) (a b : ℕ) → HasNoLine (pair_rings m groups ts labels a b)
no_line_rings m groups ts labels a b = no_lines (pair_rings m groups ts labels a b) (all_rings NoLine no_ring m groups ts labels a b)

pub no_line_sight : (m : Map) (groups : List (List ℕ)) (ts : List Triangle) (labels : List (Option ℕ)) (a b : ℕ) (r : Ray) → HasNoLine (sight_elements m r ++ pair_rings m groups ts labels a b)
no_line_sight m groups ts labels a b r = no_line_joined (sight_elements m r) (pair_rings m groups ts labels a b) (no_lines (sight_elements m r) (no_sight r (line_at m r.first.line) (line_at m r.last.line))) (no_line_rings m groups ts labels a b)

pub no_line_entered : (groups : List (List ℕ)) (ts : List Triangle) (labels : List (Option ℕ)) (a b sector : ℕ) (us : List Triangle) → HasNoLine (pair_faces groups ts labels a b ++ Entered sector us ∷ [])
no_line_entered groups ts labels a b sector us =
    no_line_joined (pair_faces groups ts labels a b) (Entered sector us ∷ []) (no_line_in_faces (pair_tint a b) ts labels 0 groups) (no_lines (Entered sector us ∷ []) (no_entered sector us, tt))

pub no_line_stops : (m : Map) (groups : List (List ℕ)) (ts : List Triangle) (labels : List (Option ℕ)) (a b : ℕ) (ss : List Stop) → HasNoLine (Stops ss ∷ [] ++ pair_rings m groups ts labels a b)
no_line_stops m groups ts labels a b ss = no_line_joined (Stops ss ∷ []) (pair_rings m groups ts labels a b) (no_lines (Stops ss ∷ []) (no_stop ss, tt)) (no_line_rings m groups ts labels a b)

pub no_line_heat : (groups : List (List ℕ)) (ts : List Triangle) (labels : List (Option ℕ)) (count : List ℕ → ℕ) → HasNoLine (faces_from ts labels 0 (heat_tints (map count groups) (most_of (map count groups))) groups)
no_line_heat groups ts labels count =
    subst (λ (tints : List Tint). HasNoLine (faces_from ts labels 0 tints groups)) (sym (heat_faces groups count))
    (no_line_in_faces (λ names. tint.Heat (count names) (most_of (map count groups))) ts labels 0 groups)

-- ---- ids

no_face_marked : (places : ℕ) (marks : List ℕ) (faults : List FaultAt) (arrows : List Arrow) → AllByRecursion NoFace (Marked marks ∷ faults_from places faults ++ arrows_from places arrows)
no_face_marked places marks faults arrows =
    all_join NoFace (Marked marks ∷ faults_from places faults) (arrows_from places arrows) ((λ k g names shown e. cc), all_faults NoFace places (λ what c k g names shown e. cc) faults) (all_arrows NoFace places (λ w k g names shown e. cc) arrows)

pub marked_ids : (name : NamedParts) (m : Map) (left_out : ℕ) (marks : List ℕ) (faults : List FaultAt) (arrows : List Arrow) → length m.lines ≤ 2 ^ 64 → IdsAreOnce (marked_picture name m left_out marks faults arrows)
marked_ids name m left_out marks faults arrows few =
    let over = Marked marks ∷ faults_from name.places faults ++ arrows_from name.places arrows in
    ids_once m (marked_picture name m left_out marks faults arrows) (lines_shown name (subject.Faults left_out) m [] over no_line (no_line_marked name.places marks faults arrows)) few
    (record {
      few = λ k g names shown h. absurd (none-some (Face k g names shown) (at_place name (subject.Faults left_out) m [] over (no_face_marked name.places marks faults arrows) h.0 k g names shown h.1).2);
      once = λ i j g k p names others shown more at there. absurd (none-some (Face k g names shown) (at_place name (subject.Faults left_out) m [] over (no_face_marked name.places marks faults arrows) i k g names shown at).2);
    })
    (one_over name (subject.Faults left_out) m (Marked marks) (faults_from name.places faults ++ arrows_from name.places arrows) (faults_words name.places faults arrows))

module _ (name : NamedParts) (m : Map) (groups : List (List ℕ)) (ts : List Triangle) (labels : List (Option ℕ)) where
  pub plan_ids : length m.lines ≤ 2 ^ 64 → length groups ≤ 2 ^ 64 → IdsAreOnce (plan_picture name m groups ts labels)
  plan_ids few some =
      ids_once m (plan_picture name m groups ts labels) (lines_shown name subject.Plan m (plan_faces groups ts labels) [] (no_line_in_faces (λ names. tint.Other) ts labels 0 groups) no_line) few
      (faces_once groups ts labels TellsNothing _ some (plan_shown name m groups ts labels))
      (faces_words name subject.Plan m ts labels (map (λ names. tint.Other) groups) groups [] no_words)

  pub row_ids : (t : TableParts) (a : ℕ) → length m.lines ≤ 2 ^ 64 → length groups ≤ 2 ^ 64 → IdsAreOnce (row_picture name m groups ts labels t a)
  row_ids t a few some =
      ids_once m (row_picture name m groups ts labels t a)
      (lines_shown name (subject.Row a) m _ (ring_of m groups ts labels letter.A a) (no_line_in_faces (row_tint t a) ts labels 0 groups) (no_line_ring m groups ts labels letter.A a)) few
      (faces_once groups ts labels (TellsRow t a) _ some (row_shown name m groups ts labels t a))
      (faces_words name (subject.Row a) m ts labels (map (row_tint t a) groups) groups (ring_of m groups ts labels letter.A a) (ring_words m groups ts labels letter.A a))

  pub heat_ids : (count : List ℕ → ℕ) → length m.lines ≤ 2 ^ 64 → length groups ≤ 2 ^ 64 → IdsAreOnce (heat_picture name m groups ts labels (map count groups))
  heat_ids count few some =
      let most = most_of (map count groups) in
      ids_once m (heat_picture name m groups ts labels (map count groups))
      (lines_shown name subject.Heat m _ (Legend most ∷ []) (no_line_heat groups ts labels count) (no_line_legend most)) few
      (faces_once groups ts labels (TellsHeat count most) _ some (heat_shown name m groups ts labels count))
      (faces_words name subject.Heat m ts labels (heat_tints (map count groups) most) groups (Legend most ∷ []) (legend_words most))

  module _ (a b : ℕ) where
    pub pair_ids : length m.lines ≤ 2 ^ 64 → length groups ≤ 2 ^ 64 → IdsAreOnce (pair_picture name m groups ts labels a b)
    pair_ids few some =
        ids_once m (pair_picture name m groups ts labels a b)
        (lines_shown name (subject.Pair a b) m _ (pair_rings m groups ts labels a b) (no_line_in_faces (pair_tint a b) ts labels 0 groups) (no_line_rings m groups ts labels a b)) few
        (faces_once groups ts labels (TellsPair a b) _ some (pair_shown name m groups ts labels a b))
        (faces_words name (subject.Pair a b) m ts labels (map (pair_tint a b) groups) groups (pair_rings m groups ts labels a b) (rings_words m groups ts labels a b))

    pub sight_ids : (r : Ray) → length m.lines ≤ 2 ^ 64 → length groups ≤ 2 ^ 64 → IdsAreOnce (sight_picture name m groups ts labels a b r)
    sight_ids r few some =
        ids_once m (sight_picture name m groups ts labels a b r)
        (lines_shown name (subject.Pair a b) m _ (sight_elements m r ++ pair_rings m groups ts labels a b) (no_line_in_faces (pair_tint a b) ts labels 0 groups) (no_line_sight m groups ts labels a b r)) few
        (faces_once groups ts labels (TellsPair a b) _ some (sight_faces name m groups ts labels a b r))
        (sight_words name (subject.Pair a b) m ts labels (map (pair_tint a b) groups) groups (pair_rings m groups ts labels a b) (rings_words m groups ts labels a b) r)

    pub blind_ids : (sector : ℕ) (entered : List ℕ) (stops : List Stop) → length m.lines ≤ 2 ^ 64 → length groups ≤ 2 ^ 64 → IdsAreOnce (blind_picture name m groups ts labels a b sector entered stops)
    blind_ids sector entered stops few some =
        ids_once m (blind_picture name m groups ts labels a b sector entered stops)
        (lines_shown name (subject.Pair a b) m _ (Stops stops ∷ [] ++ pair_rings m groups ts labels a b) (no_line_entered groups ts labels a b sector (triangles_with_numbers ts entered)) (no_line_stops m groups ts labels a b stops)) few
        (faces_once groups ts labels (TellsPair a b) _ some (blind_faces name m groups ts labels a b sector entered stops))
        (blind_words name (subject.Pair a b) m ts labels (map (pair_tint a b) groups) groups (pair_rings m groups ts labels a b) (rings_words m groups ts labels a b) sector (triangles_with_numbers ts entered) stops)
