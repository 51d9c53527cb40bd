-- A picture as a list that is made of pieces: what all elements of a piece are, and where one with some property is.
use Rattle.std.proofs.Common.{◌≡◌, ℕ, zero, suc, ◌+◌, List, [], ◌∷◌, ◌++◌, length, Option, Some, None, Bool, true, false, cond, slice_get, refl, subst, arith}
use Rattle.std.specs.List.{AllByRecursion}
use Rattle.std.proofs.lemmas.Option.{none-some, same_Some}
use Rattle.math_base.proofs.Lists.{all_join, all_at}
use Rattle.sight_names.specs.Map.{Map, MapLine}
use Rattle.sight_names.specs.declared.names.Pt.{Pt}
use Rattle.sight_names.specs.declared.names.Triangle.{Triangle}
use Rattle.map_picture.specs.declared.arrows.Arrow.{Arrow}
use Rattle.map_picture.specs.declared.faults.FaultAt.{FaultAt}
use Rattle.map_picture.specs.declared.faults.PointFault.{PointFault}
use Rattle.map_picture.specs.declared.rings.Letter.{Letter}
use Rattle.map_picture.specs.declared.sheet.Subject.{Subject}
use Rattle.map_picture.specs.declared.rings.Letter.TheVariants as letter
use Rattle.map_picture.specs.Picture.{NamedParts, Element, Head, Title, Style, Paper, Scale, Line, Fault, Out, Ring, Foot, arrows_from, entry_if, fault_mark_if, faults_from, largest_of, line_elements, line_if, lines_from, pair_rings, picture_of, ring_at, ring_of, sheet_of}
use Rattle.map_picture.specs.Laws.{Has}

-- ---- what holds of every line

module _ (P : Element → Type 0) (line : (i : ℕ) (l : MapLine) → P (Line i l)) where
  all_if : (solid : Bool) (i : ℕ) (l : MapLine) → AllByRecursion P (line_if solid i l)
  all_if true i l = go l.solid
    where
      go : (b : Bool) → AllByRecursion P (cond b (Line i l ∷ []) [])
      go true = (line i l, tt)
      go false = tt
  all_if false i l = go l.solid
    where
      go : (b : Bool) → AllByRecursion P (cond b [] (Line i l ∷ []))
      go true = tt
      go false = (line i l, tt)

  all_in_entry : (solid : Bool) (i : ℕ) (o : Option MapLine) → AllByRecursion P (entry_if solid i o)
  all_in_entry solid i None = tt
  all_in_entry solid i (Some l) = all_if solid i l

  all_in_lines : (solid : Bool) (i : ℕ) (es : List (Option MapLine)) → AllByRecursion P (lines_from solid i es)
  all_in_lines solid i [] = tt
  all_in_lines solid i (o ∷ es) = all_join P (entry_if solid i o) (lines_from solid (i + 1) es) (all_in_entry solid i o) (all_in_lines solid (i + 1) es)

  pub all_lines : (m : Map) → AllByRecursion P (line_elements m)
  all_lines m = all_join P (lines_from false 0 m.lines) (lines_from true 0 m.lines) (all_in_lines false 0 m.lines) (all_in_lines true 0 m.lines)

-- ---- what holds of every ring

module _ (P : Element → Type 0) (ring : (which : Letter) (sector : ℕ) (t : Triangle) → P (Ring which sector t)) where
  all_at_ring : (which : Letter) (sector : ℕ) (o : Option Triangle) → AllByRecursion P (ring_at which sector o)
  all_at_ring which sector None = tt
  all_at_ring which sector (Some t) = (ring which sector t, tt)

  module _ (m : Map) (groups : List (List ℕ)) (ts : List Triangle) (labels : List (Option ℕ)) where
    pub all_ring : (which : Letter) (sector : ℕ) → AllByRecursion P (ring_of m groups ts labels which sector)
    all_ring which sector = all_at_ring which sector (largest_of m groups sector None ts labels)

    pub all_rings : (a b : ℕ) → AllByRecursion P (pair_rings m groups ts labels a b)
    all_rings a b = all_join P (ring_of m groups ts labels letter.A a) (ring_of m groups ts labels letter.B b) (all_ring letter.A a) (all_ring letter.B b)

-- ---- what holds of every ring round a point at fault

module _ (P : Element → Type 0) (places : ℕ) (fault : (what : PointFault) (c : Pt) → P (Fault places what c)) where
  all_if_fault : (what : PointFault) (o : Option Pt) → AllByRecursion P (fault_mark_if places what o)
  all_if_fault what None = tt
  all_if_fault what (Some c) = (fault what c, tt)

  pub all_faults : (faults : List FaultAt) → AllByRecursion P (faults_from places faults)
  all_faults [] = tt
  all_faults (a ∷ faults) = all_join P (fault_mark_if places a.fault a.at) (faults_from places faults) (all_if_fault a.fault a.at) (all_faults faults)

-- ---- what holds of every arrow

module _ (P : Element → Type 0) (places : ℕ) (out : (w : Arrow) → P (Out places w)) where
  pub all_arrows : (arrows : List Arrow) → AllByRecursion P (arrows_from places arrows)
  all_arrows [] = tt
  all_arrows (w ∷ arrows) = (out w, all_arrows arrows)

-- ---- places

pub still_there : (xs ys : List Element) (p : ℕ) (e : Element) → slice_get xs p ≡ Some e → slice_get (xs ++ ys) p ≡ Some e
still_there [] ys p e at = absurd (none-some e at)
still_there (x ∷ xs) ys zero e at = at
still_there (x ∷ xs) ys (suc p) e at = still_there xs ys p e at

pub has_before : (xs ys : List Element) (e : Element) → Has xs e → Has (xs ++ ys) e
has_before xs ys e (p, at) = (p, still_there xs ys p e at)

pub has_behind : (xs ys : List Element) (e : Element) → Has ys e → Has (xs ++ ys) e
has_behind [] ys e h = h
has_behind (x ∷ xs) ys e h = let r = has_behind xs ys e h in (suc r.0, r.1)

pub has_under : (name : NamedParts) (about : Subject) (m : Map) (under over : List Element) (e : Element) → Has under e → Has (picture_of name about m under over) e
has_under name about m under over e h =
    let sheet = sheet_of name about in
    has_before (sheet ++ under ++ line_elements m ++ over) (Foot ∷ []) e (has_before (sheet ++ under ++ line_elements m) over e (has_before (sheet ++ under) (line_elements m) e (has_behind sheet under e h)))

pub has_over : (name : NamedParts) (about : Subject) (m : Map) (under over : List Element) (e : Element) → Has over e → Has (picture_of name about m under over) e
has_over name about m under over e h =
    let sheet = sheet_of name about in
    has_before (sheet ++ under ++ line_elements m ++ over) (Foot ∷ []) e (has_behind (sheet ++ under ++ line_elements m) over e h)

-- ---- elements with a property

module _ (P : Element → Type 0) where
  abbrev pub NotSo : Element → Type 0
  NotSo e = P e → ⊥

  -- no two of them
  abbrev pub AtMostOne : List Element → Type 0
  AtMostOne xs = (i j : ℕ) (e f : Element) → slice_get xs i ≡ Some e → slice_get xs j ≡ Some f → P e → P f → i ≡ j

  pub in_front : (xs ys : List Element) (p : ℕ) (e : Element) → AllByRecursion NotSo ys → P e → slice_get (xs ++ ys) p ≡ Some e → slice_get xs p ≡ Some e
  in_front [] ys p e h so at = absurd (all_at NotSo ys h p e at so)
  in_front (x ∷ xs) ys zero e h so at = at
  in_front (x ∷ xs) ys (suc p) e h so at = in_front xs ys p e h so at

  pub behind : (xs ys : List Element) (p : ℕ) (e : Element) → AllByRecursion NotSo xs → P e → slice_get (xs ++ ys) p ≡ Some e → (q : ℕ) × (p ≡ length xs + q) × (slice_get ys q ≡ Some e)
  behind [] ys p e h so at = (p, omega arith, at)
  behind (x ∷ xs) ys zero e h so at = absurd (subst (λ (y : Element). NotSo y) (same_Some x e at) h.0 so)
  behind (x ∷ xs) ys (suc p) e h so at = let r = behind xs ys p e h.1 so at in let same = r.1 in (r.0, omega (arith, same), r.2)

  pub once_alone : (e : Element) → AtMostOne (e ∷ [])
  once_alone e zero zero f g at there so too = refl
  once_alone e zero (suc j) f g at there so too = absurd (none-some g there)
  once_alone e (suc i) j f g at there so too = absurd (none-some f at)

  -- none of them
  pub once_none : (xs : List Element) → AllByRecursion NotSo xs → AtMostOne xs
  once_none xs h i j e f at there so too = absurd (all_at NotSo xs h i e at so)

  pub once_before : (xs ys : List Element) → AtMostOne xs → AllByRecursion NotSo ys → AtMostOne (xs ++ ys)
  once_before xs ys once h i j e f at there so too = once i j e f (in_front xs ys i e h so at) (in_front xs ys j f h too there) so too

  pub once_behind : (xs ys : List Element) → AllByRecursion NotSo xs → AtMostOne ys → AtMostOne (xs ++ ys)
  once_behind xs ys h once i j e f at there so too =
      let r = behind xs ys i e h so at in
      let s = behind xs ys j f h too there in
      let same : r.0 ≡ s.0 = once r.0 s.0 e f r.2 s.2 so too in
      let first = r.1 in let second = s.1 in
      omega (arith, same, first, second)

  module _ (name : NamedParts) (about : Subject) (m : Map) (head : NotSo Head) (title : (n : List ℕ) (s : Subject) → NotSo (Title n s)) (style : NotSo Style) (paper : NotSo Paper) (scale : (n : ℕ) → NotSo (Scale n)) (foot : NotSo Foot) (line : (i : ℕ) (l : MapLine) → NotSo (Line i l)) where
    not_sheet : AllByRecursion NotSo (sheet_of name about)
    not_sheet = (head, (title name.text about, (style, (paper, (scale name.places, tt)))))

    pub at_under : (under over : List Element) → AllByRecursion NotSo over → (p : ℕ) (e : Element) → P e → slice_get (picture_of name about m under over) p ≡ Some e → (q : ℕ) × (p ≡ 5 + q) × (slice_get under q ≡ Some e)
    at_under under over h p e so at =
        let sheet = sheet_of name about in
        let no_foot = in_front (sheet ++ under ++ line_elements m ++ over) (Foot ∷ []) p e (foot, tt) so at in
        let no_over = in_front (sheet ++ under ++ line_elements m) over p e h so no_foot in
        behind sheet under p e not_sheet so (in_front (sheet ++ under) (line_elements m) p e (all_lines NotSo line m) so no_over)

    pub at_over : (under over : List Element) → AllByRecursion NotSo under → (p : ℕ) (e : Element) → P e → slice_get (picture_of name about m under over) p ≡ Some e → Has over e
    at_over under over h p e so at =
        let sheet = sheet_of name about in
        let no_foot = in_front (sheet ++ under ++ line_elements m ++ over) (Foot ∷ []) p e (foot, tt) so at in
        let r = behind (sheet ++ under ++ line_elements m) over p e (all_join NotSo (sheet ++ under) (line_elements m) (all_join NotSo sheet under not_sheet h) (all_lines NotSo line m)) so no_foot in
        (r.0, r.2)

    pub once_under : (under over : List Element) → AtMostOne under → AllByRecursion NotSo over → AtMostOne (picture_of name about m under over)
    once_under under over once h =
        let sheet = sheet_of name about in
        once_before (sheet ++ under ++ line_elements m ++ over) (Foot ∷ [])
        (once_before (sheet ++ under ++ line_elements m) over
        (once_before (sheet ++ under) (line_elements m) (once_behind sheet under not_sheet once) (all_lines NotSo line m)) h)
        (foot, tt)

    pub once_over : (under over : List Element) → AllByRecursion NotSo under → AtMostOne over → AtMostOne (picture_of name about m under over)
    once_over under over h once =
        let sheet = sheet_of name about in
        once_before (sheet ++ under ++ line_elements m ++ over) (Foot ∷ [])
        (once_behind (sheet ++ under ++ line_elements m) over
        (all_join NotSo (sheet ++ under) (line_elements m) (all_join NotSo sheet under not_sheet h) (all_lines NotSo line m)) once)
        (foot, tt)
