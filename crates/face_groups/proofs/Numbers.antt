-- The groups are the lists of the faces, each once, and each face has the place of its list.
use Rattle.std.proofs.Common.{◌≡◌, ◌≢◌, ℕ, ◌+◌, ◌-◌, ◌<◌, ◌≤◌, ◌⊎◌, inl, inr, List, [], ◌∷◌, ◌++◌, length, take, set, slice_get, slice_index_or, Contains, Option, Some, None, MatchOption, All, refl, sym, ap, ◌∙◌, subst, arith}
use Rattle.std.proofs.lemmas.Option.{slice_get_within, get_or_from_slice_get, same_Some, none-some}
use Rattle.std.proofs.lemmas.List.{get_or-set_same, get_or-set_other, take_more}
use Rattle.math_base.proofs.Lists.{contains_left, contains_right, contains_here, contains_pushed, length_pushed, get_pushed, get_before_pushed, pushed_at, get_there, get_take}
use Rattle.math_base.proofs.Numbers.{same_or_not, same_or_below}
use Rattle.sight_names.specs.Mesh.{label_of}
use Rattle.sight_names.specs.Groups.{ListBefore}
use Rattle.face_groups.specs.GroupsBase.Table.{AscendAsLists}
use Rattle.face_groups.proofs.GroupsBase.Ordered.{before_trans, before_cases, one_place_of, some_member, contains_at}
use Rattle.face_groups.specs.TriSectors.Classes.{class_of, IsBelow}
use Rattle.face_groups.specs.TriSectors.Sides.{AreLabelled}
use Rattle.face_groups.proofs.TriSectors.GoodLabels.{label_name, label_within}
use Rattle.face_groups.specs.declared.namings.Naming.{Naming}
use Rattle.face_groups.specs.declared.named_faces.NamedFace.{NamedFace}
use Rattle.face_groups.specs.Namings.{AreSectorsOn, AreOnFaces}
use Rattle.face_groups.specs.NamedFaces.{AreNamedFaces, RiseAsLists, IsLast, IsPutBehind, IsPlaceOfFace, AreNumbered, AreListLabels}
use Rattle.face_groups.proofs.Runs.{one_list}

-- ---- one list more

-- where a list doesn't come before the last of ascending groups and isn't it, each group comes before the list
behind_all : (groups : List (List ℕ)) (xs : List ℕ) → AscendAsLists groups → ((ys : List ℕ) → IsLast groups ys → ¬ ListBefore xs ys) → ¬ IsLast groups xs → (i : ℕ) (ys : List ℕ) → slice_get groups i ≡ Some ys → ListBefore ys xs
behind_all groups xs up late other i ys at =
    let lt = slice_get_within groups i ys at in
    let last = get_there groups (length groups - 1) (omega (arith, lt)) in
    elim (same_or_below i (length groups - 1) (omega (arith, lt))) as (λ _. ListBefore ys xs) [
      | inl e ↦ before_of ys (ap (slice_get groups) (sym e) ∙ at)
      | inr less ↦ before_trans ys last.0 xs (up i (length groups - 1) ys last.0 less at last.1) (before_of last.0 last.1)
    ]
  where
    before_of : (zs : List ℕ) → IsLast groups zs → ListBefore zs xs
    before_of zs there = elim (before_cases zs xs) as (λ _. ListBefore zs xs) [
      | inl h ↦ h
      | inr (inl h) ↦ absurd (late zs there h)
      | inr (inr e) ↦ absurd (other (there ∙ ap (λ (ws : List ℕ). Some ws) e))
    ]

pushed_ascend : (groups : List (List ℕ)) (xs : List ℕ) → AscendAsLists groups → ((i : ℕ) (ys : List ℕ) → slice_get groups i ≡ Some ys → ListBefore ys xs) → AscendAsLists (groups ++ xs ∷ [])
pushed_ascend groups xs up behind i j f g lt ei ej = go (pushed_at groups xs f i ei) (pushed_at groups xs g j ej)
  where
    go : (slice_get groups i ≡ Some f) ⊎ ((i ≡ length groups) × (xs ≡ f)) → (slice_get groups j ≡ Some g) ⊎ ((j ≡ length groups) × (xs ≡ g)) → ListBefore f g
    go (inl a) (inl b) = up i j f g lt a b
    go (inl a) (inr b) = subst (ListBefore f) b.1 (behind i f a)
    go (inr a) (inl b) = let w = slice_get_within groups j g b in let e = a.0 in absurd (omega (arith, lt, w, e))
    go (inr a) (inr b) = let e = a.0 in let h = b.0 in absurd (omega (arith, lt, e, h))

-- the list stands at the end
put_last : (xs : List ℕ) (old new : List (List ℕ)) → IsPutBehind xs old new → IsLast new xs
put_last xs old new (inl (last, same)) = subst (λ (gs : List (List ℕ)). IsLast gs xs) (sym same) last
put_last xs old new (inr (other, same)) = subst (λ (gs : List (List ℕ)). IsLast gs xs) (sym same) (let e = length_pushed old xs in let k : length (old ++ xs ∷ []) - 1 ≡ length old = omega (arith, e) in ap (slice_get (old ++ xs ∷ [])) k ∙ get_pushed old xs)

-- what stood at a place stands there still
put_keeps : (xs : List ℕ) (old new : List (List ℕ)) → IsPutBehind xs old new → (p : ℕ) (ys : List ℕ) → slice_get old p ≡ Some ys → slice_get new p ≡ Some ys
put_keeps xs old new (inl (last, same)) p ys at = ap (λ (gs : List (List ℕ)). slice_get gs p) same ∙ at
put_keeps xs old new (inr (other, same)) p ys at = ap (λ (gs : List (List ℕ)). slice_get gs p) same ∙ get_before_pushed old xs ys p at

module _ (done : List NamedFace) (f : NamedFace) (late : (g : NamedFace) → Contains done g → ¬ ListBefore f.sectors.items g.sectors.items)
    (old new : List (List ℕ)) (places : List (Option ℕ)) (h : AreNumbered done old places) (put : IsPutBehind f.sectors.items old new) (lt : f.face < length places) where
  ascend_more : AscendAsLists new
  ascend_more = go put
    where
      late_of : (ys : List ℕ) → IsLast old ys → ¬ ListBefore f.sectors.items ys
      late_of ys last before = let g = h.each (length old - 1) ys last in late g.0 g.1 (subst (ListBefore f.sectors.items) (sym g.2) before)

      go : IsPutBehind f.sectors.items old new → AscendAsLists new
      go (inl (last, same)) = subst AscendAsLists (sym same) h.ascend
      go (inr (other, same)) = subst AscendAsLists (sym same) (pushed_ascend old f.sectors.items h.ascend (behind_all old f.sectors.items h.ascend late_of other))

  few_more : length new ≤ length (done ++ f ∷ [])
  few_more = go put
    where
      go : IsPutBehind f.sectors.items old new → length new ≤ length (done ++ f ∷ [])
      go (inl (last, same)) = let l = h.few in let e = length_pushed done f in let s = ap length same in omega (arith, l, e, s)
      go (inr (other, same)) = let l = h.few in let e = length_pushed done f in let s = ap length same ∙ length_pushed old f.sectors.items in omega (arith, l, e, s)

  this : Contains (done ++ f ∷ []) f
  this = contains_right f done (f ∷ []) (contains_here f [])

  each_more : (p : ℕ) (xs : List ℕ) → slice_get new p ≡ Some xs → (g : NamedFace) × Contains (done ++ f ∷ []) g × (g.sectors.items ≡ xs)
  each_more p xs at = go put
    where
      before : slice_get old p ≡ Some xs → (g : NamedFace) × Contains (done ++ f ∷ []) g × (g.sectors.items ≡ xs)
      before e = let g = h.each p xs e in (g.0, contains_left g.0 done (f ∷ []) g.1, g.2)

      go : IsPutBehind f.sectors.items old new → (g : NamedFace) × Contains (done ++ f ∷ []) g × (g.sectors.items ≡ xs)
      go (inl (last, same)) = before (ap (λ (gs : List (List ℕ)). slice_get gs p) (sym same) ∙ at)
      go (inr (other, same)) = elim (pushed_at old f.sectors.items xs p (ap (λ (gs : List (List ℕ)). slice_get gs p) (sym same) ∙ at)) as (λ _. (g : NamedFace) × Contains (done ++ f ∷ []) g × (g.sectors.items ≡ xs)) [
        | inl e ↦ before e
        | inr e ↦ (f, this, e.1)
      ]

  given_more : (face p : ℕ) → slice_index_or (set places f.face (Some (length new - 1))) face None ≡ Some p → IsPlaceOfFace (done ++ f ∷ []) new face p
  given_more face p e = elim (same_or_not face f.face) as (λ _. IsPlaceOfFace (done ++ f ∷ []) new face p) [
    | inl same ↦
        let q : length new - 1 ≡ p = same_Some (length new - 1) p (sym (get_or-set_same places f.face (Some (length new - 1)) None lt) ∙ ap (λ (k : ℕ). slice_index_or (set places f.face (Some (length new - 1))) k None) (sym same) ∙ e) in
        record { f = f; one = this; is = sym same; there = ap (slice_get new) (sym q) ∙ put_last f.sectors.items old new put }
    | inr other ↦
        let g = h.given face p (sym (get_or-set_other places f.face face (Some (length new - 1)) None other) ∙ e) in
        record { f = g.f; one = contains_left g.f done (f ∷ []) g.one; is = g.is; there = put_keeps f.sectors.items old new put p g.f.sectors.items g.there }
  ]

  all_more : (g : NamedFace) → Contains (done ++ f ∷ []) g → (p : ℕ) × (slice_index_or (set places f.face (Some (length new - 1))) g.face None ≡ Some p)
  all_more g c = elim (same_or_not g.face f.face) as (λ _. (p : ℕ) × (slice_index_or (set places f.face (Some (length new - 1))) g.face None ≡ Some p)) [
    | inl same ↦ (length new - 1, ap (λ (k : ℕ). slice_index_or (set places f.face (Some (length new - 1))) k None) same ∙ get_or-set_same places f.face (Some (length new - 1)) None lt)
    | inr other ↦ elim (contains_pushed done f g c) as (λ _. (p : ℕ) × (slice_index_or (set places f.face (Some (length new - 1))) g.face None ≡ Some p)) [
      | inl old_one ↦ (let p = h.all g old_one in (p.0, get_or-set_other places f.face g.face (Some (length new - 1)) None other ∙ p.1))
      | inr e ↦ absurd (other (ap (λ (x : NamedFace). x.face) (sym e)))
    ]
  ]

  pub numbered_more : AreNumbered (done ++ f ∷ []) new (set places f.face (Some (length new - 1)))
  numbered_more = record { ascend = ascend_more; few = few_more; each = each_more; given = given_more; all = all_more }

-- ---- along the list of faces

late_of : (named : List NamedFace) (i : ℕ) (f : NamedFace) → RiseAsLists named → slice_get named i ≡ Some f → (g : NamedFace) → Contains (take i named) g → ¬ ListBefore f.sectors.items g.sectors.items
late_of named i f rise at g c =
    let p = contains_at (take i named) g c in
    let q = get_take i named p.0 g p.1 in
    rise p.0 i g f q.0 q.1 at

pub numbered_next : (named : List NamedFace) (i : ℕ) (f : NamedFace) (old new : List (List ℕ)) (places : List (Option ℕ)) → slice_get named i ≡ Some f → RiseAsLists named → AreNumbered (take i named) old places → IsPutBehind f.sectors.items old new → f.face < length places
    → AreNumbered (take (i + 1) named) new (set places f.face (Some (length new - 1)))
numbered_next named i f old new places at rise h put lt =
    let w = slice_get_within named i f at in
    let next : take (i + 1) named ≡ take i named ++ f ∷ [] = take_more named i f w ∙ ap (λ (x : NamedFace). take i named ++ x ∷ []) (get_or_from_slice_get named i f f at) in
    subst (λ (xs : List NamedFace). AreNumbered xs new (set places f.face (Some (length new - 1)))) (sym next) (numbered_more (take i named) f (late_of named i f rise at) old new places h put lt)

-- ---- the labels

pub labels_are : (ns : List Naming) (fs : List ℕ) (n : ℕ) (named : List NamedFace) (groups : List (List ℕ)) (places ls : List (Option ℕ))
    → length fs ≡ n → All (IsBelow (length fs)) fs → AreOnFaces fs ns → length named ≤ n → AreNamedFaces ns n named → AreNumbered named groups places → AreLabelled fs places ls → AreListLabels ns fs groups ls
labels_are ns fs n named groups places ls count range on few faces numbered labelled = record {
  one_each = labelled.one_each;
  each = λ k xs lt there. each k xs lt there (slice_index_or places (class_of fs k) None) refl;
  range = λ k p e. let w = place_of k p e in slice_get_within groups p w.f.sectors.items w.there;
  ascend = numbered.ascend;
  few = let l = numbered.few in omega (arith, few, l, count);
  used = used;
}
  where
    below : (k : ℕ) → k < length fs → class_of fs k < n
    below k lt = let r = range k 0 lt in omega (arith, r, count)

    within : (k p : ℕ) → label_of ls k ≡ Some p → k < length fs
    within k p e = let l = label_within ls k p e in let o = labelled.one_each in omega (arith, l, o)

    place_of : (k p : ℕ) → label_of ls k ≡ Some p → IsPlaceOfFace named groups (class_of fs k) p
    place_of k p e = numbered.given (class_of fs k) p (sym (label_name fs places ls k labelled (within k p e)) ∙ e)

    list_of : (face p : ℕ) → IsPlaceOfFace named groups face p → (xs : List ℕ) → AreSectorsOn ns face xs → slice_get groups p ≡ Some xs
    list_of face p w xs there =
        let x = faces.each w.f w.one in
        w.there ∙ ap (λ (ys : List ℕ). Some ys) (one_list ns face w.f.sectors.items xs (subst (λ (k : ℕ). AreSectorsOn ns k w.f.sectors.items) w.is x.sectors) there)

    each : (k : ℕ) (xs : List ℕ) → k < length fs → AreSectorsOn ns (class_of fs k) xs → (o : Option ℕ) → slice_index_or places (class_of fs k) None ≡ o → MatchOption (label_of ls k) (xs ≡ []) (λ p. slice_get groups p ≡ Some xs)
    each k xs lt there o e = subst (λ (x : Option ℕ). MatchOption x (xs ≡ []) (λ p. slice_get groups p ≡ Some xs)) (sym (label_name fs places ls k labelled lt ∙ e)) (go o e)
      where
        empty : (ys : List ℕ) → AreSectorsOn ns (class_of fs k) ys → ◌≡◌ {A = Option ℕ} (slice_index_or places (class_of fs k) None) None → ys ≡ []
        empty [] h none = refl
        empty (y ∷ ys) h none =
            let f = faces.all (class_of fs k) (y ∷ ys) (below k lt) h (λ q. none-some y (sym (ap (λ (zs : List ℕ). slice_get zs 0) q))) in
            let p = numbered.all f.0 f.1 in
            absurd (none-some p.0 (sym none ∙ ap (λ (c : ℕ). slice_index_or places c None) (sym f.2) ∙ p.1))

        go : (o : Option ℕ) → slice_index_or places (class_of fs k) None ≡ o → MatchOption o (xs ≡ []) (λ p. slice_get groups p ≡ Some xs)
        go None none = empty xs there none
        go (Some p) is = list_of (class_of fs k) p (numbered.given (class_of fs k) p is) xs there

    used : (p : ℕ) (xs : List ℕ) → slice_get groups p ≡ Some xs → (xs ≢ []) × ((k : ℕ) × (k < length fs) × (label_of ls k ≡ Some p))
    used p xs at =
        let f = numbered.each p xs at in
        let x = faces.each f.0 f.1 in
        let a = some_member f.0.sectors.items x.some in
        let number = on f.0.face a.0 ((x.sectors.exactly a.0).0 a.1) in
        let q = numbered.all f.0 f.1 in
        let label : label_of ls f.0.face ≡ Some q.0 = label_name fs places ls f.0.face labelled number.within ∙ ap (λ (c : ℕ). slice_index_or places c None) number.own ∙ q.1 in
        let there = list_of f.0.face q.0 (numbered.given f.0.face q.0 q.1) f.0.sectors.items x.sectors in
        let same : q.0 ≡ p = one_place_of groups numbered.ascend q.0 p xs (there ∙ ap (λ (ys : List ℕ). Some ys) f.2) at in
        (λ e. x.some (f.2 ∙ e), (f.0.face, number.within, label ∙ ap (λ (c : ℕ). Some c) same))
