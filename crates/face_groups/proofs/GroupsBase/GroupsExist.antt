-- A closed map has its groups and its map of groups: from its mesh they can be made.
use Rattle.std.proofs.Common.{◌≡◌, ◌≢◌, ℕ, zero, suc, ◌+◌, ◌<◌, refl, sym, ap, ◌∙◌, subst, inl, inr, List, [], ◌∷◌, length, map, slice_get, Option, Some, None, MatchOption, Bool, true, false, option_and_then, option_map, arith}
use Rattle.std.proofs.lemmas.Option.{slice_get-map, same_Some, none-some, MatchOption-at_some, MatchOption-at_none}
use Rattle.sight_names.specs.declared.names.Triangle.{Triangle}
use Rattle.sight_names.specs.Map.{Map, MapLine, line_at, sector_on}
use Rattle.sight_names.specs.Mesh.{label_of, side_edge, triangle_at}
use Rattle.sight_names.specs.Groups.{ListBefore, unnamed}
use Rattle.face_groups.specs.GroupsBase.Table.{AreUsed, AscendAsLists, NamesTheLabels}
use Rattle.face_groups.proofs.GroupsBase.Ordered.{before_trans, before_cases, one_place_of}
use Rattle.face_groups.proofs.GroupsBase.Collected.{AreSaid, collect}
use Rattle.face_groups.proofs.GroupsBase.NamedLists.{names_on}
use Rattle.face_groups.proofs.GroupsBase.GroupLabels.{AreGroupLabels, one_list}

-- a list, where it isn't empty
filled : List ℕ → Option (List ℕ)
filled [] = None
filled (a ∷ xs) = Some (a ∷ xs)

filled_some : (xs at : List ℕ) → filled xs ≡ Some at → (xs ≡ at) × (at ≢ [])
unfolding filled
filled_some [] at e = absurd (none-some at e)
filled_some (a ∷ xs) at e = let s = same_Some (a ∷ xs) at e in (s, λ empty. not_empty (s ∙ empty))
  where
    not_empty : a ∷ xs ≡ [] → ⊥
    not_empty e = none-some a (sym (ap (λ (ys : List ℕ). slice_get ys 0) e))

filled_none : (xs : List ℕ) → filled xs ≡ None → xs ≡ []
unfolding filled
filled_none [] e = refl
filled_none (a ∷ xs) e = absurd (none-some (a ∷ xs) (sym e))

module _ (m : Map) (ts : List Triangle) (fs : List ℕ) where
  said : ℕ → Option (List ℕ)
  said k = filled (names_on m ts fs k).0

  found : (groups : List (List ℕ)) × AreSaid ListBefore before_trans before_cases said (length ts) [] groups
  found = collect ListBefore before_trans before_cases said (length ts) [] (λ i j x y lt ei ej. absurd (none-some x ei))

  -- the label of triangle k
  IsLabel : List (List ℕ) → ℕ → Option ℕ → Type 0
  IsLabel groups k o = MatchOption o ((names_on m ts fs k).0 ≡ []) (λ f. slice_get groups f ≡ Some (names_on m ts fs k).0)

  label_exists : (groups : List (List ℕ)) → AreSaid ListBefore before_trans before_cases said (length ts) [] groups → (k : ℕ) → k < length ts → (o : Option ℕ) × IsLabel groups k o
  unfolding said IsLabel
  label_exists groups r k lt = go (filled (names_on m ts fs k).0) refl
    where
      go : (o : Option (List ℕ)) → filled (names_on m ts fs k).0 ≡ o → (o : Option ℕ) × IsLabel groups k o
      go None e = (None, filled_none (names_on m ts fs k).0 e)
      go (Some at) e = let i = r.new k at lt e in (Some i.0, i.1 ∙ ap (λ (xs : List ℕ). Some xs) (sym (filled_some (names_on m ts fs k).0 at e).0))

  record AreLabels (groups : List (List ℕ)) (n : ℕ) (us : List Triangle) (ls : List (Option ℕ)) : Type 0 where
    len : length ls ≡ length us
    each : (k : ℕ) → k < length us → IsLabel groups (n + k) (label_of ls k)

  labels_from : (groups : List (List ℕ)) → AreSaid ListBefore before_trans before_cases said (length ts) [] groups → (n : ℕ) (us : List Triangle) → n + length us ≡ length ts → (ls : List (Option ℕ)) × AreLabels groups n us ls
  labels_from groups r n [] e = ([], record { len = refl; each = λ k lt. absurd (omega (arith, lt)) })
  labels_from groups r n (u ∷ us) e =
      let o = label_exists groups r n (omega (arith, e)) in
      let rest = labels_from groups r (suc n) us (omega (arith, e)) in
      (o.0 ∷ rest.0, record { len = ap suc rest.1.len; each = λ k lt. each o.0 o.1 rest.0 rest.1 k lt })
    where
      each : (o : Option ℕ) → IsLabel groups n o → (ls : List (Option ℕ)) → AreLabels groups (suc n) us ls → (k : ℕ) → k < length (u ∷ us) → IsLabel groups (n + k) (label_of (o ∷ ls) k)
      each o h ls a zero lt = subst (λ (x : ℕ). IsLabel groups x o) (omega arith) h
      each o h ls a (suc k) lt = subst (λ (x : ℕ). IsLabel groups x (label_of ls k)) (omega arith) (a.each k (omega (arith, lt)))

  labels_are : (groups : List (List ℕ)) (ls : List (Option ℕ)) → AreLabels groups 0 ts ls → AreGroupLabels m ts fs groups ls
  unfolding IsLabel
  labels_are groups ls a = record {
    one_each = a.len;
    each = λ k names lt n. let x = names_on m ts fs k in
        subst (λ (xs : List ℕ). MatchOption (label_of ls k) (xs ≡ []) (λ f. slice_get groups f ≡ Some xs)) (one_list m ts fs k x.0 names x.1 n) (subst (λ (j : ℕ). MatchOption (label_of ls k) ((names_on m ts fs j).0 ≡ []) (λ f. slice_get groups f ≡ Some (names_on m ts fs j).0)) (omega arith) (a.each k lt));
  }

  used : (groups : List (List ℕ)) → AreSaid ListBefore before_trans before_cases said (length ts) [] groups → (ls : List (Option ℕ)) → AreLabels groups 0 ts ls → AreUsed ts groups ls
  unfolding said IsLabel
  used groups r ls a f at there = elim (r.only at (f, there)) as (λ _. (at ≢ []) × ((k : ℕ) × (k < length ts) × (label_of ls k ≡ Some f))) [
    | inl h ↦ absurd (none-some at h.1)
    | inr (k, lt, e) ↦
        let s = filled_some (names_on m ts fs k).0 at e in
        let h : MatchOption (label_of ls k) ((names_on m ts fs k).0 ≡ []) (λ x. slice_get groups x ≡ Some (names_on m ts fs k).0) = subst (λ (j : ℕ). MatchOption (label_of ls k) ((names_on m ts fs j).0 ≡ []) (λ f. slice_get groups f ≡ Some (names_on m ts fs j).0)) (omega arith) (a.each k lt) in
        (s.1, (k, lt, go k s.0 s.1 h (label_of ls k) refl))
  ]
    where
      go : (k : ℕ) → (names_on m ts fs k).0 ≡ at → at ≢ [] → MatchOption (label_of ls k) ((names_on m ts fs k).0 ≡ []) (λ x. slice_get groups x ≡ Some (names_on m ts fs k).0) → (o : Option ℕ) → label_of ls k ≡ o → label_of ls k ≡ Some f
      go k same some h None e = absurd (some (sym same ∙ MatchOption-at_none ((names_on m ts fs k).0 ≡ []) (λ x. slice_get groups x ≡ Some (names_on m ts fs k).0) e h))
      go k same some h (Some g) e =
          let place = MatchOption-at_some ((names_on m ts fs k).0 ≡ []) (λ x. slice_get groups x ≡ Some (names_on m ts fs k).0) g e h in
          e ∙ ap (λ (x : ℕ). Some x) (one_place_of groups r.up g f at (place ∙ ap (λ (xs : List ℕ). Some xs) same) there)

  -- ---- the map

  name_by : List (Option ℕ) → MapLine → Bool → Option ℕ
  name_by ls l left = option_and_then (label_of ls) (triangle_at ts (side_edge m l left))

  renamed : List (Option ℕ) → MapLine → MapLine
  renamed ls l = record { first = l.first; second = l.second; solid = l.solid; right = name_by ls l false; left = name_by ls l true }

  all_unnamed : (ls : List (Option ℕ)) (xs : List (Option MapLine)) → map unnamed (map (option_map (renamed ls)) xs) ≡ map unnamed xs
  unfolding renamed
  all_unnamed ls [] = refl
  all_unnamed ls (None ∷ xs) = ap (λ (ys : List (Option MapLine)). None ∷ ys) (all_unnamed ls xs)
  all_unnamed ls (Some l ∷ xs) = ap (λ (ys : List (Option MapLine)). unnamed (Some l) ∷ ys) (all_unnamed ls xs)

  of_inner : (ls : List (Option ℕ)) (o : Option (Option MapLine)) (l : MapLine) → option_and_then (λ (x : Option MapLine). x) o ≡ Some l → option_and_then (λ (x : Option MapLine). x) (option_map (option_map (renamed ls)) o) ≡ Some (renamed ls l)
  of_inner ls None l e = absurd (none-some l e)
  of_inner ls (Some None) l e = absurd (none-some l e)
  of_inner ls (Some (Some k)) l e = ap (λ (x : MapLine). Some (renamed ls x)) (same_Some k l e)

  side_name : (ls : List (Option ℕ)) (l : MapLine) (left : Bool) → sector_on (renamed ls l) left ≡ name_by ls l left
  unfolding renamed
  side_name ls l false = refl
  side_name ls l true = refl

  named_map : (groups : List (List ℕ)) (ls : List (Option ℕ)) → (g : Map) × NamesTheLabels m ts groups ls g
  unfolding name_by
  named_map groups ls =
      let g : Map = record { sectors = length groups; lines = map (option_map (renamed ls)) m.lines } in (
        g,
        record {
          sectors = refl;
          lines = all_unnamed ls m.lines;
          names = λ s l at.
              let there : line_at g s.line ≡ Some (renamed ls l) = ap (option_and_then (λ (x : Option MapLine). x)) (slice_get-map (option_map (renamed ls)) m.lines s.line) ∙ of_inner ls (slice_get m.lines s.line) l at in
              ap (option_and_then (λ (k : MapLine). sector_on k s.left)) there ∙ side_name ls l s.left;
        },
      )

  -- groups, labels and a map that names them
  pub record HasGroups : Type 0 where
    pub groups : List (List ℕ)
    pub ls : List (Option ℕ)
    pub g : Map
    pub ascend : AscendAsLists groups
    pub labels : AreGroupLabels m ts fs groups ls
    pub used : AreUsed ts groups ls
    pub names : NamesTheLabels m ts groups ls g

  pub groups_exist : HasGroups
  groups_exist =
      let r = found in
      let l = labels_from r.0 r.1 0 ts (omega arith) in
      let n = named_map r.0 l.0 in
      record { groups = r.0; ls = l.0; g = n.0; ascend = r.1.up; labels = labels_are r.0 l.0 l.1; used = used r.0 r.1 l.0 l.1; names = n.1 }
