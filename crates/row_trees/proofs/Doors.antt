-- A portal that has an end of the last one.
use Rattle.std.proofs.Common.{◌≡◌, ◌≢◌, ◌-◌, ◌&&◌, true, false, ℕ, ℤ, inl, inr, List, [], ◌∷◌, ◌++◌, Some, None, length, option_map, slice_get, refl, sym, ap, ◌∙◌, subst, arith}
use Rattle.std.specs.Ordering.{int_eq}
use borrow.Author.Differences.{ints}
use Rattle.std.proofs.lemmas.List.{length-map}
use Rattle.std.proofs.lemmas.Option.{slice_get-get_or, slice_get-map}
use Rattle.math_base.proofs.Options.{none_is_not_some, some_is_not_none, some_is_same}
use Rattle.sight_names.specs.declared.names.Pt.{Pt}
use Rattle.sight_names.specs.Splitting.{EndPoints, IsSplittable}
use Rattle.sight_names.proofs.Records.{same_pt}
use Rattle.stab_hull.specs.declared.frame.Noted.{Noted}
use Rattle.stab_hull.specs.Portals.{ends_of_frame, portals_of}
use Rattle.stab_hull.specs.Sleeves.{HasLastLeft, HasLastRight, noted_frame, frames_of}
use Rattle.portal_walk.proofs.OnePortal.{one_splittable}
use Rattle.row_trees.specs.Path.{HasEndOfLast}

module _ {N : Type 0} where
  -- there is none where there is no last one
  pub none_there : (xs : List (Noted N)) → slice_get xs (length xs - 1) ≡ None → portals_of (frames_of xs) ≡ []
  none_there [] h = refl
  none_there (x ∷ xs) h = absurd (some_is_not_none _ (sym (slice_get-get_or (x ∷ xs) (length (x ∷ xs) - 1) x (omega arith)) ∙ h))

  -- no portal has ends where none is there
  pub none_noted : (xs : List (Noted N)) → portals_of (frames_of xs) ≡ [] → xs ≡ []
  none_noted [] h = refl
  none_noted (x ∷ xs) h = cc

  pub none_of : (xs : List (Noted N)) → xs ≡ [] → portals_of (frames_of xs) ≡ []
  none_of xs h = ap (λ (us : List (Noted N)). portals_of (frames_of us)) h

  last_end : (xs : List (Noted N)) (x : Noted N) → slice_get xs (length xs - 1) ≡ Some x → slice_get (portals_of (frames_of xs)) (length (portals_of (frames_of xs)) - 1) ≡ Some (ends_of_frame x.frame)
  last_end xs x h =
      ap (λ (n : ℕ). slice_get (portals_of (frames_of xs)) (n - 1)) (length-map (frames_of xs) ends_of_frame ∙ length-map xs noted_frame) ∙ slice_get-map ends_of_frame (frames_of xs) (length xs - 1)
      ∙ ap (option_map ends_of_frame) (slice_get-map noted_frame xs (length xs - 1) ∙ ap (option_map noted_frame) h)

  pub last_left : (xs : List (Noted N)) (x : Noted N) → slice_get xs (length xs - 1) ≡ Some x → HasLastLeft (portals_of (frames_of xs)) x.frame.left
  last_left xs x h = (ends_of_frame x.frame, last_end xs x h, refl)

-- the last left end is the portal's own, or the last right one is
pub has_left : (es : List EndPoints) (last left : Pt) → HasLastLeft es last → last ≡ left → HasLastLeft es left
has_left es last left h e = (h.0, h.1, h.2 ∙ e)

pub has_right : (es : List EndPoints) (last left right : Pt) → HasLastLeft es last → last ≢ left → HasEndOfLast es left right → HasLastRight es right
has_right es last left right h differ joins = elim joins as (λ _. HasLastRight es right) [
  | inl none ↦ absurd (none_is_not_some h.0 (sym (ap (λ (us : List EndPoints). slice_get us (length us - 1)) none) ∙ h.1))
  | inr some ↦ elim some as (λ _. HasLastRight es right) [
    | inl k ↦ absurd (differ (sym h.2 ∙ ap (λ (e : EndPoints). e.left) (some_is_same h.0 k.0 (sym h.1 ∙ k.1)) ∙ k.2))
    | inr k ↦ k
  ]
]

-- ---- points that are told to be the same, or not

both_same : (a b c d : ℤ) → true ≡ (int_eq a b && int_eq c d) → (a ≡ b) × (c ≡ d)
both_same a b c d h = grind (arith, ints)

not_both : (a b c d : ℤ) → false ≡ (int_eq a b && int_eq c d) → a ≡ b → c ≡ d → ⊥
not_both a b c d h e f = grind (arith, ints)

pub same_point : (p q : Pt) → true ≡ (int_eq p.x q.x && int_eq p.y q.y) → p ≡ q
same_point p q h = let e = both_same p.x q.x p.y q.y h in same_pt p q e.0 e.1

pub other_point : (p q : Pt) → false ≡ (int_eq p.x q.x && int_eq p.y q.y) → p ≢ q
other_point p q h = λ e. not_both p.x q.x p.y q.y h (ap (λ (r : Pt). r.x) e) (ap (λ (r : Pt). r.y) e)

-- the first portal
pub opened_first : (old new : List EndPoints) (e : EndPoints) → old ≡ [] → e.left ≢ e.right → new ≡ e ∷ [] → (new ≡ old ++ e ∷ []) × IsSplittable (old ++ e ∷ [])
opened_first old new e none differ is = subst (λ (es : List EndPoints). (new ≡ es ++ e ∷ []) × IsSplittable (es ++ e ∷ [])) (sym none) (is, one_splittable e differ)
