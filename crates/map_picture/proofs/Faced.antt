-- The faces of a picture: which there are, what their triangles are, and what their tints tell.
use Rattle.std.proofs.Common.{◌≡◌, ◌∙◌, ℕ, zero, suc, ◌+◌, ◌*◌, ◌<◌, ◌==◌, ◌&&◌, ◌||◌, ⊎_elim, ◌↔◌, List, [], ◌∷◌, ◌++◌, map, Option, Some, None, Bool, true, false, cond, slice_get, Contains, refl, sym, ap, subst, eq-eqb, arith}
use Rattle.std.specs.List.{AllByRecursion, list_all, list_any}
use Rattle.std.proofs.lemmas.Bool.{true≢false, eqb-true, eqb-false}
use Rattle.std.proofs.lemmas.Option.{none-some, same_Some}
use Rattle.std.proofs.lemmas.List.{append-nil}
use Rattle.math_base.proofs.Lists.{all_join, all_so, contains_here, contains_there, contains_none, contains_cons}
use Rattle.sight_names.specs.declared.names.Ray.{Ray}
use Rattle.sight_names.specs.declared.names.Triangle.{Triangle}
use Rattle.sight_names.specs.Map.{Map, MapLine, line_at}
use Rattle.sight_names.specs.Mesh.{IsAbove, label_of}
use Rattle.sight_names.specs.Order.{Ascends}
use Rattle.sight_names.specs.Table.{table_bit}
use Rattle.reject_bits.specs.Parts.{TableParts}
use Rattle.map_picture.specs.declared.pair.Stop.{Stop}
use Rattle.map_picture.specs.declared.tint.Tint.{Tint}
use Rattle.map_picture.specs.declared.tint.Tint.TheVariants as tint
use Rattle.map_picture.specs.declared.rings.Letter.{Letter}
use Rattle.map_picture.specs.declared.rings.Letter.TheVariants as letter
use Rattle.map_picture.specs.declared.sheet.Subject.{Subject}
use Rattle.map_picture.specs.declared.sheet.Subject.TheVariants as subject
use Rattle.map_picture.specs.Picture.{NamedParts, Element, Head, Title, Style, Paper, Scale, Face, Line, Entered, Stops, Ring, Legend, Foot, blind_picture, faces_from, has_label, heat_picture, heat_tints, labelled_with, most_of, triangles_with_numbers, pair_picture, pair_rings, pair_tint, picture_of, plan_picture, ring_of, row_picture, row_tint, sight_between, sight_elements, sight_picture}
use Rattle.map_picture.specs.Laws.{Has, HasNoLine, ShowsFaces, TellsHeat, TellsNothing, TellsPair, TellsRow}
use Rattle.map_picture.proofs.Pieces.{NotSo, all_ring, all_rings, at_under, has_under, in_front, still_there}

record SameFace (k p : Tint) (g n : ℕ) (names others : List ℕ) (shown more : List Triangle) : Type 0 where
  tints : k ≡ p
  groups : g ≡ n
  sectors : names ≡ others
  triangles : shown ≡ more

same_face : (k p : Tint) (g n : ℕ) (names others : List ℕ) (shown more : List Triangle) → Face k g names shown ≡ Face p n others more → SameFace k p g n names others shown more
same_face k p g n names others shown more e = record { tints = cc; groups = cc; sectors = cc; triangles = cc }

abbrev pub NoFace : Element → Type 0
NoFace e = (k : Tint) (g : ℕ) (names : List ℕ) (shown : List Triangle) → e ≡ Face k g names shown → ⊥

-- ---- what is no face

line_is_none : (i : ℕ) (l : MapLine) → NoFace (Line i l)
line_is_none i l k g names shown e = cc

head_is_none : NoFace Head
head_is_none k g names shown e = cc

title_is_none : (name : List ℕ) (about : Subject) → NoFace (Title name about)
title_is_none name about k g names shown e = cc

scale_is_none : (places : ℕ) → NoFace (Scale places)
scale_is_none places k g names shown e = cc

style_is_none : NoFace Style
style_is_none k g names shown e = cc

paper_is_none : NoFace Paper
paper_is_none k g names shown e = cc

foot_is_none : NoFace Foot
foot_is_none k g names shown e = cc

-- ---- where the faces are

abbrev IsFace : Element → Type 0
IsFace e = (k : Tint) × (g : ℕ) × (names : List ℕ) × (shown : List Triangle) × (e ≡ Face k g names shown)

not_face : (e : Element) → NoFace e → IsFace e → ⊥
not_face e h (k, g, names, shown, is) = h k g names shown is

not_faces : (es : List Element) → AllByRecursion NoFace es → AllByRecursion (NotSo IsFace) es
not_faces es h = all_so NoFace (NotSo IsFace) es not_face h

-- the place of a face is five behind its place among what lies under the lines
pub at_place : (name : NamedParts) (about : Subject) (m : Map) (under over : List Element) → AllByRecursion NoFace over → (p : ℕ) (k : Tint) (g : ℕ) (names : List ℕ) (shown : List Triangle) → slice_get (picture_of name about m under over) p ≡ Some (Face k g names shown) → (q : ℕ) × (p ≡ 5 + q) × (slice_get under q ≡ Some (Face k g names shown))
at_place name about m under over none p k g names shown at =
    at_under IsFace name about m (not_face Head head_is_none) (λ n s. not_face (Title n s) (title_is_none n s)) (not_face Style style_is_none) (not_face Paper paper_is_none) (λ n. not_face (Scale n) (scale_is_none n)) (not_face Foot foot_is_none) (λ i l. not_face (Line i l) (line_is_none i l))
    under over (not_faces over none) p (Face k g names shown) (k, g, names, shown, refl) at

-- ---- which faces there are

module _ (f : List ℕ → Tint) (ts : List Triangle) (labels : List (Option ℕ)) where
  record IsGroupAt (g : ℕ) (groups : List (List ℕ)) (q : ℕ) (k : Tint) (n : ℕ) (names : List ℕ) (shown : List Triangle) : Type 0 where
    number : n ≡ g + q
    group : slice_get groups q ≡ Some names
    tint : f names ≡ k
    triangles : labelled_with n ts labels ≡ shown

  face_at : (g : ℕ) (groups : List (List ℕ)) (q : ℕ) (k : Tint) (n : ℕ) (names : List ℕ) (shown : List Triangle) → slice_get (faces_from ts labels g (map f groups) groups) q ≡ Some (Face k n names shown) → IsGroupAt g groups q k n names shown
  face_at g [] q k n names shown at = absurd (none-some (Face k n names shown) at)
  face_at g (x ∷ xs) zero k n names shown at =
      let s = same_face (f x) k g n x names (labelled_with g ts labels) shown (same_Some (Face (f x) g x (labelled_with g ts labels)) (Face k n names shown) at) in
      record {
        number = omega (arith, s.groups);
        group = ap (λ (y : List ℕ). Some y) s.sectors;
        tint = ap f (sym s.sectors) ∙ s.tints;
        triangles = ap (λ (j : ℕ). labelled_with j ts labels) (sym s.groups) ∙ s.triangles;
      }
  face_at g (x ∷ xs) (suc q) k n names shown at =
      let h = face_at (g + 1) xs q k n names shown at in
      record { number = omega (arith, h.number); group = h.group; tint = h.tint; triangles = h.triangles }

  face_there : (g : ℕ) (groups : List (List ℕ)) (q : ℕ) (names : List ℕ) (n : ℕ) → n ≡ g + q → slice_get groups q ≡ Some names → slice_get (faces_from ts labels g (map f groups) groups) q ≡ Some (Face (f names) n names (labelled_with n ts labels))
  face_there g [] q names n e at = absurd (none-some names at)
  face_there g (x ∷ xs) zero names n e at =
      let same : g ≡ n = omega (arith, e) in
      ap (λ (y : List ℕ). Some (Face (f y) g y (labelled_with g ts labels))) (same_Some x names at) ∙ ap (λ (j : ℕ). Some (Face (f names) j names (labelled_with j ts labels))) same
  face_there g (x ∷ xs) (suc q) names n e at = face_there (g + 1) xs q names n (omega (arith, e)) at

pub no_line_in_faces : (f : List ℕ → Tint) (ts : List Triangle) (labels : List (Option ℕ)) (g : ℕ) (groups : List (List ℕ)) → HasNoLine (faces_from ts labels g (map f groups) groups)
no_line_in_faces f ts labels g [] i l (q, at) = none-some (Line i l) at
no_line_in_faces f ts labels g (x ∷ xs) i l (zero, at) = line_is_none i l (f x) g x (labelled_with g ts labels) (sym (same_Some _ (Line i l) at))
no_line_in_faces f ts labels g (x ∷ xs) i l (suc q, at) = no_line_in_faces f ts labels (g + 1) xs i l (q, at)

-- ---- which triangles a face has

label_told : (g : ℕ) (l : Option ℕ) → has_label g l ≡ true → l ≡ Some g
label_told g None e = absurd (true≢false (sym e))
label_told g (Some k) e = ap (λ (n : ℕ). Some n) (eqb-true k g e)

labelled_more : (t : Triangle) (ts : List Triangle) (l : Option ℕ) (labels : List (Option ℕ)) (g : ℕ) (u : Triangle) → (n : ℕ) × (slice_get ts n ≡ Some u) × (label_of labels n ≡ Some g) → (n : ℕ) × (slice_get (t ∷ ts) n ≡ Some u) × (label_of (l ∷ labels) n ≡ Some g)
labelled_more t ts l labels g u (n, at, label) = (suc n, at, label)

is_labelled : (g : ℕ) (ts : List Triangle) (labels : List (Option ℕ)) (u : Triangle) → Contains (labelled_with g ts labels) u → (n : ℕ) × (slice_get ts n ≡ Some u) × (label_of labels n ≡ Some g)
is_labelled g [] labels u c = absurd (contains_none u c)
is_labelled g (t ∷ ts) [] u c = absurd (contains_none u c)
is_labelled g (t ∷ ts) (l ∷ labels) u c = go (has_label g l) refl c (λ r. labelled_more t ts l labels g u (is_labelled g ts labels u r))
  where
    go : (b : Bool) → has_label g l ≡ b → Contains (cond b (t ∷ labelled_with g ts labels) (labelled_with g ts labels)) u
        → (Contains (labelled_with g ts labels) u → (n : ℕ) × (slice_get (t ∷ ts) n ≡ Some u) × (label_of (l ∷ labels) n ≡ Some g)) → (n : ℕ) × (slice_get (t ∷ ts) n ≡ Some u) × (label_of (l ∷ labels) n ≡ Some g)
    go true e d rest = ⊎_elim (λ same. (zero, ap (λ (x : Triangle). Some x) same, label_told g l e)) rest (contains_cons u t (labelled_with g ts labels) d)
    go false e d rest = rest d

has_labelled : (g : ℕ) (ts : List Triangle) (labels : List (Option ℕ)) (u : Triangle) (n : ℕ) → slice_get ts n ≡ Some u → label_of labels n ≡ Some g → Contains (labelled_with g ts labels) u
has_labelled g [] labels u n at label = absurd (none-some u at)
has_labelled g (t ∷ ts) [] u n at label = absurd (none-some g label)
has_labelled g (t ∷ ts) (l ∷ labels) u zero at label =
    subst (λ (b : Bool). Contains (cond b (t ∷ labelled_with g ts labels) (labelled_with g ts labels)) u) (sym (ap (λ (o : Option ℕ). has_label g o) label ∙ eq-eqb g g refl))
    (subst (λ (x : Triangle). Contains (t ∷ labelled_with g ts labels) x) (same_Some t u at) (contains_here t (labelled_with g ts labels)))
has_labelled g (t ∷ ts) (l ∷ labels) u (suc n) at label = go (has_label g l) (has_labelled g ts labels u n at label)
  where
    go : (b : Bool) → Contains (labelled_with g ts labels) u → Contains (cond b (t ∷ labelled_with g ts labels) (labelled_with g ts labels)) u
    go true r = contains_there u t (labelled_with g ts labels) r
    go false r = r

from_labelled : (g : ℕ) (ts : List Triangle) (labels : List (Option ℕ)) (j : ℕ) (u : Triangle) → slice_get (labelled_with g ts labels) j ≡ Some u → (n : ℕ) × (slice_get ts n ≡ Some u)
from_labelled g [] labels j u at = absurd (none-some u at)
from_labelled g (t ∷ ts) [] j u at = absurd (none-some u at)
from_labelled g (t ∷ ts) (l ∷ labels) j u at = go (has_label g l) j at (from_labelled g ts labels)
  where
    go : (b : Bool) (j : ℕ) → slice_get (cond b (t ∷ labelled_with g ts labels) (labelled_with g ts labels)) j ≡ Some u
        → ((j : ℕ) (u : Triangle) → slice_get (labelled_with g ts labels) j ≡ Some u → (n : ℕ) × (slice_get ts n ≡ Some u)) → (n : ℕ) × (slice_get (t ∷ ts) n ≡ Some u)
    go true zero at rest = (zero, at)
    go true (suc j) at rest = let h = rest j u at in (suc h.0, h.1)
    go false j at rest = let h = rest j u at in (suc h.0, h.1)

-- they keep the order
ordered : (g : ℕ) (ts : List Triangle) (labels : List (Option ℕ)) → Ascends IsAbove ts → Ascends IsAbove (labelled_with g ts labels)
ordered g [] labels h i j t u lt at there = absurd (none-some t at)
ordered g (x ∷ ts) [] h i j t u lt at there = absurd (none-some t at)
ordered g (x ∷ ts) (l ∷ labels) h i j t u lt at there = go (has_label g l) i j lt at there (ordered g ts labels (λ p q v w less a b. h (suc p) (suc q) v w (omega arith) a b))
  where
    go : (b : Bool) (i j : ℕ) → i < j → slice_get (cond b (x ∷ labelled_with g ts labels) (labelled_with g ts labels)) i ≡ Some t → slice_get (cond b (x ∷ labelled_with g ts labels) (labelled_with g ts labels)) j ≡ Some u
        → Ascends IsAbove (labelled_with g ts labels) → IsAbove t u
    go true zero zero lt at there rest = absurd (omega arith)
    go true zero (suc j) lt at there rest = let k = from_labelled g ts labels j u there in h zero (suc k.0) t u (omega arith) at k.1
    go true (suc i) zero lt at there rest = absurd (omega arith)
    go true (suc i) (suc j) lt at there rest = rest i j t u (omega arith) at there
    go false i j lt at there rest = rest i j t u lt at there

-- ---- what tints tell

pub any_in : (a : ℕ) (names : List ℕ) → list_any (λ b. b == a) names ≡ true → Contains names a
any_in a [] e = absurd (true≢false (sym e))
any_in a (x ∷ xs) e = go (x == a) refl e (any_in a xs)
  where
    go : (b : Bool) → (x == a) ≡ b → (b || list_any (λ y. y == a) xs) ≡ true → (list_any (λ y. y == a) xs ≡ true → Contains xs a) → Contains (x ∷ xs) a
    go true q r rest = subst (λ (y : ℕ). Contains (x ∷ xs) y) (eqb-true x a q) (contains_here x xs)
    go false q r rest = contains_there a x xs (rest r)

any_not : (a : ℕ) (names : List ℕ) → list_any (λ b. b == a) names ≡ false → Contains names a → ⊥
any_not a [] e c = contains_none a c
any_not a (x ∷ xs) e c = go (x == a) refl e (any_not a xs)
  where
    go : (b : Bool) → (x == a) ≡ b → (b || list_any (λ y. y == a) xs) ≡ false → (list_any (λ y. y == a) xs ≡ false → Contains xs a → ⊥) → ⊥
    go true q r rest = true≢false r
    go false q r rest = ⊎_elim (eqb-false x a q) (rest r) (contains_cons a x xs c)

all_in : (p : ℕ → Bool) (names : List ℕ) → list_all p names ≡ true → (b : ℕ) → Contains names b → p b ≡ true
all_in p [] e b c = absurd (contains_none b c)
all_in p (x ∷ xs) e b c = go (p x) refl e (λ r. all_in p xs r b)
  where
    go : (t : Bool) → p x ≡ t → (t && list_all p xs) ≡ true → (list_all p xs ≡ true → Contains xs b → p b ≡ true) → p b ≡ true
    go true q r rest = ⊎_elim (λ same. ap p (sym same) ∙ q) (rest r) (contains_cons b x xs c)
    go false q r rest = absurd (true≢false (sym r))

all_not : (p : ℕ → Bool) (names : List ℕ) → list_all p names ≡ false → (b : ℕ) × Contains names b × (p b ≡ false)
all_not p [] e = absurd (true≢false e)
all_not p (x ∷ xs) e = go (p x) refl e (all_not p xs)
  where
    go : (t : Bool) → p x ≡ t → (t && list_all p xs) ≡ false → (list_all p xs ≡ false → (b : ℕ) × Contains xs b × (p b ≡ false)) → (b : ℕ) × Contains (x ∷ xs) b × (p b ≡ false)
    go true q r rest = let h = rest r in (h.0, contains_there h.0 x xs h.1, h.2)
    go false q r rest = (x, contains_here x xs, q)

told_other : (t : TableParts) (a : ℕ) (names : List ℕ) (s : Bool) → list_all (λ b. table_bit t.bytes (a * t.n + b) == 1) names ≡ s → (Contains names a → ⊥) → TellsRow t a names (cond s tint.Set tint.Clear)
told_other t a names true e none = (none, λ b c. eqb-true _ 1 (all_in (λ b. table_bit t.bytes (a * t.n + b) == 1) names e b c))
told_other t a names false e none = let h = all_not (λ b. table_bit t.bytes (a * t.n + b) == 1) names e in (none, (h.0, h.1, eqb-false _ 1 h.2))

told : (t : TableParts) (a : ℕ) (names : List ℕ) → TellsRow t a names (row_tint t a names)
told t a names = go (list_any (λ b. b == a) names) refl
  where
    go : (s : Bool) → list_any (λ b. b == a) names ≡ s → TellsRow t a names (cond s tint.Source (cond (list_all (λ b. table_bit t.bytes (a * t.n + b) == 1) names) tint.Set tint.Clear))
    go true e = any_in a names e
    go false e = told_other t a names (list_all (λ b. table_bit t.bytes (a * t.n + b) == 1) names) refl (any_not a names e)

told_pair : (a b : ℕ) (names : List ℕ) → TellsPair a b names (pair_tint a b names)
told_pair a b names = go (list_any (λ s. s == a) names) refl
  where
    other : (s : Bool) → list_any (λ c. c == b) names ≡ s → (Contains names a → ⊥) → TellsPair a b names (cond s tint.Target tint.Other)
    other true e none = (none, any_in b names e)
    other false e none = (none, any_not b names e)

    go : (s : Bool) → list_any (λ c. c == a) names ≡ s → TellsPair a b names (cond s tint.Source (cond (list_any (λ c. c == b) names) tint.Target tint.Other))
    go true e = any_in a names e
    go false e = other (list_any (λ c. c == b) names) refl (any_not a names e)

-- ---- the whole

module _ (name : NamedParts) (about : Subject) (m : Map) (groups : List (List ℕ)) (ts : List Triangle) (labels : List (Option ℕ)) (Tells : List ℕ → Tint → Type 0) (f : List ℕ → Tint) (tells : (names : List ℕ) → Tells names (f names))
    (more over : List Element) (no_more : AllByRecursion NoFace more) (no_over : AllByRecursion NoFace over) where
  abbrev faces : List Element
  faces = faces_from ts labels 0 (map f groups) groups

  abbrev whole : List Element
  whole = picture_of name about m (faces ++ more) over

  each : (g : ℕ) (names : List ℕ) → slice_get groups g ≡ Some names → (k : Tint) × (shown : List Triangle) × Has whole (Face k g names shown)
  each g names at = (f names, labelled_with g ts labels, has_under name about m (faces ++ more) over _ (g, still_there faces more g _ (face_there f ts labels 0 groups g names g (omega arith) at)))

  placed : (p : ℕ) (k : Tint) (g : ℕ) (names : List ℕ) (shown : List Triangle) → slice_get whole p ≡ Some (Face k g names shown) → (q : ℕ) × (p ≡ 5 + q) × IsGroupAt f ts labels 0 groups q k g names shown
  placed p k g names shown at =
      let h = at_place name about m (faces ++ more) over no_over p k g names shown at in
      (h.0, h.1, face_at f ts labels 0 groups h.0 k g names shown (in_front IsFace faces more h.0 _ (not_faces more no_more) (k, g, names, shown, refl) h.2))

  group : (k : Tint) (g : ℕ) (names : List ℕ) (shown : List Triangle) → Has whole (Face k g names shown) → slice_get groups g ≡ Some names
  group k g names shown (p, at) = let h = placed p k g names shown at in let same : h.0 ≡ g = omega (arith, h.2.number) in subst (λ (j : ℕ). slice_get groups j ≡ Some names) same h.2.group

  told_by : (k : Tint) (g : ℕ) (names : List ℕ) (shown : List Triangle) → Has whole (Face k g names shown) → Tells names k
  told_by k g names shown (p, at) = let h = placed p k g names shown at in subst (λ (s : Tint). Tells names s) h.2.tint (tells names)

  triangles : (k : Tint) (g : ℕ) (names : List ℕ) (shown : List Triangle) → Has whole (Face k g names shown) → (u : Triangle) → Contains shown u ↔ ((n : ℕ) × (slice_get ts n ≡ Some u) × (label_of labels n ≡ Some g))
  triangles k g names shown (p, at) u =
      let h = placed p k g names shown at in (
        (λ c. is_labelled g ts labels u (subst (λ (us : List Triangle). Contains us u) (sym h.2.triangles) c)),
        (λ r. subst (λ (us : List Triangle). Contains us u) h.2.triangles (has_labelled g ts labels u r.0 r.1 r.2)),
      )

  order : (k : Tint) (g : ℕ) (names : List ℕ) (shown : List Triangle) → Has whole (Face k g names shown) → Ascends IsAbove ts → Ascends IsAbove shown
  order k g names shown (p, at) up = let h = placed p k g names shown at in subst (λ (us : List Triangle). Ascends IsAbove us) h.2.triangles (ordered g ts labels up)

  once : (i j g : ℕ) (k p : Tint) (names others : List ℕ) (shown more : List Triangle) → slice_get whole i ≡ Some (Face k g names shown) → slice_get whole j ≡ Some (Face p g others more) → i ≡ j
  once i j g k p names others shown more at there =
      let h = placed i k g names shown at in
      let r = placed j p g others more there in
      omega (arith, h.1, r.1, h.2.number, r.2.number)

  faces_shown : ShowsFaces groups ts labels Tells whole
  faces_shown = record { each = each; group = group; told = told_by; triangles = triangles; order = order; once = once }

module _ (name : NamedParts) (about : Subject) (m : Map) (groups : List (List ℕ)) (ts : List Triangle) (labels : List (Option ℕ)) (Tells : List ℕ → Tint → Type 0) (f : List ℕ → Tint) (tells : (names : List ℕ) → Tells names (f names))
    (over : List Element) (no_over : AllByRecursion NoFace over) where
  faces_alone : ShowsFaces groups ts labels Tells (picture_of name about m (faces_from ts labels 0 (map f groups) groups) over)
  faces_alone =
      subst (λ (under : List Element). ShowsFaces groups ts labels Tells (picture_of name about m under over)) (append-nil (faces_from ts labels 0 (map f groups) groups))
      (faces_shown name about m groups ts labels Tells f tells [] over tt no_over)

-- the tints of the counts are those of the groups
pub heat_faces : (groups : List (List ℕ)) (count : List ℕ → ℕ) → heat_tints (map count groups) (most_of (map count groups)) ≡ map (λ names. tint.Heat (count names) (most_of (map count groups))) groups
heat_faces groups count = on (most_of (map count groups)) groups
  where
    on : (most : ℕ) (gs : List (List ℕ)) → heat_tints (map count gs) most ≡ map (λ names. tint.Heat (count names) most) gs
    on most [] = refl
    on most (x ∷ xs) = ap (λ (ts : List Tint). tint.Heat (count x) most ∷ ts) (on most xs)

no_ring : (which : Letter) (sector : ℕ) (t : Triangle) → NoFace (Ring which sector t)
no_ring which sector t k g names shown e = cc

no_legend : (most : ℕ) → NoFace (Legend most)
no_legend most k g names shown e = cc

module _ (name : NamedParts) (m : Map) (groups : List (List ℕ)) (ts : List Triangle) (labels : List (Option ℕ)) where
  pub plan_shown : ShowsFaces groups ts labels TellsNothing (plan_picture name m groups ts labels)
  plan_shown = faces_alone name subject.Plan m groups ts labels TellsNothing (λ names. tint.Other) (λ names. refl) [] tt

  pub row_shown : (t : TableParts) (a : ℕ) → ShowsFaces groups ts labels (TellsRow t a) (row_picture name m groups ts labels t a)
  row_shown t a = faces_alone name (subject.Row a) m groups ts labels (TellsRow t a) (row_tint t a) (told t a) (ring_of m groups ts labels letter.A a) (all_ring NoFace no_ring m groups ts labels letter.A a)

  module _ (count : List ℕ → ℕ) where
    abbrev most : ℕ
    most = most_of (map count groups)

    pub heat_shown : ShowsFaces groups ts labels (TellsHeat count most) (heat_picture name m groups ts labels (map count groups))
    heat_shown =
        subst (λ (tints : List Tint). ShowsFaces groups ts labels (TellsHeat count most) (picture_of name subject.Heat m (faces_from ts labels 0 tints groups) (Legend most ∷ []))) (sym (heat_faces groups count))
        (faces_alone name subject.Heat m groups ts labels (TellsHeat count most) (λ names. tint.Heat (count names) most) (λ names. refl) (Legend most ∷ []) (no_legend most, tt))

  module _ (a b : ℕ) where
    rings_none : AllByRecursion NoFace (pair_rings m groups ts labels a b)
    rings_none = all_rings NoFace no_ring m groups ts labels a b

    pub pair_shown : ShowsFaces groups ts labels (TellsPair a b) (pair_picture name m groups ts labels a b)
    pair_shown = faces_alone name (subject.Pair a b) m groups ts labels (TellsPair a b) (pair_tint a b) (told_pair a b) (pair_rings m groups ts labels a b) rings_none

    sight_is_none : (r : Ray) (o p : Option MapLine) → AllByRecursion NoFace (sight_between r o p)
    sight_is_none r None p = tt
    sight_is_none r (Some first) None = tt
    sight_is_none r (Some first) (Some last) = ((λ k g names shown e. cc), tt)

    pub sight_faces : (r : Ray) → ShowsFaces groups ts labels (TellsPair a b) (sight_picture name m groups ts labels a b r)
    sight_faces r =
        faces_alone name (subject.Pair a b) m groups ts labels (TellsPair a b) (pair_tint a b) (told_pair a b) (sight_elements m r ++ pair_rings m groups ts labels a b)
        (all_join NoFace (sight_elements m r) (pair_rings m groups ts labels a b) (sight_is_none r (line_at m r.first.line) (line_at m r.last.line)) rings_none)

    pub blind_faces : (sector : ℕ) (entered : List ℕ) (stops : List Stop) → ShowsFaces groups ts labels (TellsPair a b) (blind_picture name m groups ts labels a b sector entered stops)
    blind_faces sector entered stops =
        faces_shown name (subject.Pair a b) m groups ts labels (TellsPair a b) (pair_tint a b) (told_pair a b) (Entered sector (triangles_with_numbers ts entered) ∷ []) (Stops stops ∷ [] ++ pair_rings m groups ts labels a b)
        ((λ k g names shown e. cc), tt) ((λ k g names shown e. cc), rings_none)
