-- A map has one map of groups, and so the words on listed pairs speak of that one and of its mesh.
use Rattle.std.proofs.Common.{◌≡◌, ℕ, suc, ◌<◌, refl, sym, ap, ◌∙◌, subst, ◌↔◌, List, [], ◌∷◌, length, map, slice_get, Option, Some, None, MatchOption, Bool, true, false, option_and_then}
use Rattle.std.proofs.lemmas.Option.{same_Some, none-some, MatchOption-at_some, MatchOption-at_none}
use Rattle.sight_names.specs.declared.names.Side.{Side}
use Rattle.sight_names.specs.declared.names.Triangle.{Triangle}
use Rattle.sight_names.specs.declared.names.Budget.{Budget}
use Rattle.sight_names.specs.Map.{Map, MapLine, line_at, named, sector_on}
use Rattle.sight_names.specs.Sound.{NamesAgree}
use Rattle.sight_names.specs.Sees.{Sees}
use Rattle.sight_names.specs.Mesh.{IsMeshOf, AreLabelsOf}
use Rattle.sight_names.specs.Found.{Found, IsListedOver}
use Rattle.sight_names.specs.Groups.{AreGroups, IsGroupedMap, IsInGroup, IsListedByGroups, unnamed}
use Rattle.sight_names.proofs.OneMesh.{one_mesh, one_labels}
use Rattle.face_groups.specs.declared.tri_sectors.faces.Walls.{Walls}
use Rattle.face_groups.proofs.TriSectors.FaceRegion.{Ground}
use Rattle.face_groups.proofs.GroupsBase.Ordered.{at_contains, one_place, same_groups}
use Rattle.face_groups.proofs.GroupsBase.SameLines.{bare, same_lines_sym, lines_alike, line_of}
use Rattle.face_groups.proofs.GroupsBase.FaceSectors.{NamedAreSealed}
use Rattle.face_groups.proofs.GroupsBase.GroupLaws.{HasLists, grouped_agree}
use Rattle.face_groups.proofs.GroupsBase.Listing.{IsListedOfGroups, set_by_groups}

-- ---- lists of lines that differ in names alone, and don't

abbrev tail_of : List (Option MapLine) → List (Option MapLine)
tail_of [] = []
tail_of (x ∷ xs) = xs

SameNames : List (Option MapLine) → List (Option MapLine) → Type 0
SameNames ls ks = (i : ℕ) (l k : MapLine) → slice_get ls i ≡ Some (Some l) → slice_get ks i ≡ Some (Some k) → (l.right ≡ k.right) × (l.left ≡ k.left)

line_same : (l k : MapLine) → bare l ≡ bare k → l.right ≡ k.right → l.left ≡ k.left → l ≡ k
line_same l k e r q = λ i. record { first = (e i).first; second = (e i).second; solid = (e i).solid; right = r i; left = q i }

head_same : (x y : Option MapLine) → unnamed x ≡ unnamed y → ((l k : MapLine) → x ≡ Some l → y ≡ Some k → (l.right ≡ k.right) × (l.left ≡ k.left)) → x ≡ y
head_same None None e h = refl
head_same None (Some k) e h = absurd (none-some (bare k) e)
head_same (Some l) None e h = absurd (none-some (bare l) (sym e))
head_same (Some l) (Some k) e h = let n = h l k refl refl in ap (λ (z : MapLine). Some z) (line_same l k (same_Some (bare l) (bare k) e) n.0 n.1)

lists_same : (ls ks : List (Option MapLine)) → map unnamed ls ≡ map unnamed ks → SameNames ls ks → ls ≡ ks
unfolding SameNames
lists_same [] [] e h = refl
lists_same [] (k ∷ ks) e h = absurd (none-some (unnamed k) (ap (λ (zs : List (Option MapLine)). slice_get zs 0) e))
lists_same (l ∷ ls) [] e h = absurd (none-some (unnamed l) (sym (ap (λ (zs : List (Option MapLine)). slice_get zs 0) e)))
lists_same (l ∷ ls) (k ∷ ks) e h =
    let x : l ≡ k = head_same l k (same_Some (unnamed l) (unnamed k) (ap (λ (zs : List (Option MapLine)). slice_get zs 0) e)) (λ a b ea eb. h 0 a b (ap (λ (z : Option MapLine). Some z) ea) (ap (λ (z : Option MapLine). Some z) eb)) in
    let t : ls ≡ ks = lists_same ls ks (ap tail_of e) (λ i a b ea eb. h (suc i) a b ea eb) in
    ap (λ (z : Option MapLine). z ∷ ls) x ∙ ap (λ (zs : List (Option MapLine)). k ∷ zs) t

-- ---- one map of groups

module _ (m : Map) (groups : List (List ℕ)) (are : AreGroups m groups) (lists : HasLists m) where
  empty_is_none : (k : ℕ) (at : List ℕ) → slice_get groups k ≡ Some at → at ≡ [] → ⊥
  empty_is_none k at there e = ((are.exactly at).0 (at_contains groups at (k, there))).0 e

  names_same : (g h : Map) → IsGroupedMap m groups g → IsGroupedMap m groups h → (s : Side) (l : MapLine) → line_at m s.line ≡ Some l → named g s ≡ named h s
  names_same g h a b s l is = let x = lists s l is in go x.0 (a.names s l x.0 is x.1) (b.names s l x.0 is x.1) (named g s) (named h s) refl refl
    where
      go : (at : List ℕ) → MatchOption (named g s) (at ≡ []) (λ k. slice_get groups k ≡ Some at) → MatchOption (named h s) (at ≡ []) (λ k. slice_get groups k ≡ Some at)
          → (o p : Option ℕ) → named g s ≡ o → named h s ≡ p → named g s ≡ named h s
      go at x y None None e f = e ∙ sym f
      go at x y None (Some k) e f = absurd (empty_is_none k at (MatchOption-at_some (at ≡ []) (λ k. slice_get groups k ≡ Some at) k f y) (MatchOption-at_none (at ≡ []) (λ k. slice_get groups k ≡ Some at) e x))
      go at x y (Some k) None e f = absurd (empty_is_none k at (MatchOption-at_some (at ≡ []) (λ k. slice_get groups k ≡ Some at) k e x) (MatchOption-at_none (at ≡ []) (λ k. slice_get groups k ≡ Some at) f y))
      go at x y (Some k) (Some j) e f =
          let p = one_place m groups are k j at (MatchOption-at_some (at ≡ []) (λ k. slice_get groups k ≡ Some at) k e x) (MatchOption-at_some (at ≡ []) (λ k. slice_get groups k ≡ Some at) j f y) in
          e ∙ ap (λ (z : ℕ). Some z) p ∙ sym f

  there : (g : Map) (i : ℕ) (l : MapLine) → slice_get g.lines i ≡ Some (Some l) → line_at g i ≡ Some l
  there g i l e = ap (option_and_then (λ (k : Option MapLine). k)) e

  name_of : (g : Map) (i : ℕ) (l : MapLine) (left : Bool) → slice_get g.lines i ≡ Some (Some l) → named g (record { line = i; left = left }) ≡ sector_on l left
  name_of g i l left e = ap (option_and_then (λ (k : MapLine). sector_on k left)) (there g i l e)

  pub one_grouped : (g h : Map) → IsGroupedMap m groups g → IsGroupedMap m groups h → g ≡ h
  unfolding SameNames
  one_grouped g h a b = λ i. record { sectors = count i; lines = all i }
    where
      count : g.sectors ≡ h.sectors
      count = a.sectors ∙ sym b.sectors

      names : (i : ℕ) (l k : MapLine) → slice_get g.lines i ≡ Some (Some l) → slice_get h.lines i ≡ Some (Some k) → (l.right ≡ k.right) × (l.left ≡ k.left)
      names i l k el ek =
          let n = line_of g m (same_lines_sym m g (lines_alike m g a.lines)) i l (there g i l el) in (
            sym (name_of g i l false el) ∙ names_same g h a b (record { line = i; left = false }) n.0 n.1 ∙ name_of h i k false ek,
            sym (name_of g i l true el) ∙ names_same g h a b (record { line = i; left = true }) n.0 n.1 ∙ name_of h i k true ek,
          )

      all : g.lines ≡ h.lines
      all = lists_same g.lines h.lines (a.lines ∙ sym b.lines) names

  -- the words on listed pairs, over the groups, their map and its mesh with its labels
  pub listed_is : (g : Map) → IsGroupedMap m groups g → NamesAgree g → (ts : List Triangle) (ls : List (Option ℕ)) → IsMeshOf g ts → AreLabelsOf g ts ls → (budget : Budget) (a b : ℕ)
      → IsListedByGroups m budget a b ↔ IsListedOfGroups groups g ts ls budget a b
  listed_is g is agree ts ls mesh labelled budget a b = (
    λ h.
        let eg : h.groups ≡ groups = same_groups m h.groups groups h.are_groups are in
        let base : IsListedOfGroups h.groups h.grouped h.triangles h.labels budget a b = record { differ = h.differ; some = h.some; none = h.none } in
        let in_groups = subst (λ (x : List (List ℕ)). IsListedOfGroups x h.grouped h.triangles h.labels budget a b) eg base in
        let em : h.grouped ≡ g = one_grouped h.grouped g (subst (λ (x : List (List ℕ)). IsGroupedMap m x h.grouped) eg h.is_grouped) is in
        let in_map = subst (λ (x : Map). IsListedOfGroups groups x h.triangles h.labels budget a b) em in_groups in
        let et : h.triangles ≡ ts = one_mesh g h.triangles ts (subst (λ (x : Map). IsMeshOf x h.triangles) em h.mesh) mesh in
        let in_mesh = subst (λ (x : List Triangle). IsListedOfGroups groups g x h.labels budget a b) et in_map in
        let el : h.labels ≡ ls = one_labels g ts h.labels ls agree mesh (subst (λ (x : List Triangle). AreLabelsOf g x h.labels) et (subst (λ (x : Map). AreLabelsOf x h.triangles h.labels) em h.labelled)) labelled in
        subst (λ (x : List (Option ℕ)). IsListedOfGroups groups g ts x budget a b) el in_mesh,
    λ h. record { groups = groups; are_groups = are; grouped = g; is_grouped = is; triangles = ts; labels = ls; mesh = mesh; labelled = labelled; differ = h.differ; some = h.some; none = h.none },
  )

-- where the bits of groups are right, so are those of sectors
pub set_exactly : (m : Map) (ts : List Triangle) (ws : List Walls) (fs : List ℕ) (d : Ground m ts ws fs) (sealed : NamedAreSealed m ts ws fs) (groups : List (List ℕ)) (are : AreGroups m groups) (g : Map) (is : IsGroupedMap m groups g) (lists : HasLists m)
    (ls : List (Option ℕ)) → IsMeshOf g ts → AreLabelsOf g ts ls → (budget : Budget) → ((f k : ℕ) → Found g ts ls f k budget → Sees g f k)
    → (Set : ℕ → ℕ → Type 0) → ((f k : ℕ) → f < length groups → k < length groups → Set f k ↔ (¬ Sees g f k × ¬ IsListedOver g ts ls budget f k))
    → (a b : ℕ) → ((f k : ℕ) → IsInGroup groups a f → IsInGroup groups b k → Set f k) ↔ (¬ Sees m a b × ¬ IsListedByGroups m budget a b)
set_exactly m ts ws fs d sealed groups are g is lists ls mesh labelled budget found_sees Set bits a b =
    let x = set_by_groups m ts ws fs d sealed groups are g is lists ts ls budget found_sees Set bits a b in
    let y = listed_is m groups are lists g is (grouped_agree m ts ws fs d sealed groups are g is lists) ts ls mesh labelled budget a b in (
      λ all. ((x.0 all).0, λ h. (x.0 all).1 (y.0 h)),
      λ r. x.1 (r.0, λ h. r.1 (y.1 h)),
    )
