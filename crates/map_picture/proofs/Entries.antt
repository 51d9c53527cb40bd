-- The triangles entered and the stops of a blind pair's picture.
use Rattle.std.proofs.Common.{◌≡◌, ◌∙◌, ℕ, zero, ◌<◌, ⊎_elim, List, [], ◌∷◌, ◌++◌, Option, Some, None, All, Contains, map, option_map, length, get_or, slice_get, refl, sym, ap, subst}
use Rattle.std.proofs.lemmas.Option.{get_or_from_slice_get, none-some, same_Some, slice_get-get_or, slice_get-map, slice_get_within}
use Rattle.math_base.proofs.Lists.{contains_cons, contains_here, contains_map, contains_none, contains_there}
use Rattle.sight_names.specs.declared.names.Triangle.{Triangle}
use Rattle.sight_names.specs.Map.{Map}
use Rattle.sight_names.specs.Mesh.{IsAbove}
use Rattle.sight_names.specs.Order.{Ascends}
use Rattle.map_picture.specs.declared.pair.Stop.{Stop}
use Rattle.map_picture.specs.declared.sheet.Subject.TheVariants as subject
use Rattle.map_picture.specs.Picture.{NamedParts, Entered, Stops, blind_picture, triangles_with_numbers, pair_faces, pair_rings, pair_tint}
use Rattle.map_picture.specs.Laws.{ShowsEntered, ShowsStops}
use Rattle.map_picture.proofs.Pieces.{has_behind, has_over, has_under}
use Rattle.map_picture.proofs.Extras.{blind_words, rings_words}

module _ (ts : List Triangle) where
  abbrev number : ℕ → Triangle
  number k = get_or ts k (record { p = 0; q = 0; r = 0 })

  abbrev AllThere : List ℕ → Type 0
  AllThere es = (k : ℕ) → Contains es k → k < length ts

  there : (es : List ℕ) → All (λ k. k < length ts) es → AllThere es
  there es h k (i, lt, is) = subst (λ (n : ℕ). n < length ts) is (h i k lt)

  there_at : (es : List ℕ) → AllThere es → (i k : ℕ) → slice_get es i ≡ Some k → k < length ts
  there_at es h i k at = h k (i, slice_get_within es i k at, get_or_from_slice_get es i k k at)

  from_numbers : (es : List ℕ) (u : Triangle) → AllThere es → Contains (map number es) u → (k : ℕ) × Contains es k × (slice_get ts k ≡ Some u)
  from_numbers [] u h c = absurd (contains_none u c)
  from_numbers (e ∷ es) u h c = ⊎_elim
      (λ same. (e, contains_here e es, slice_get-get_or ts e (record { p = 0; q = 0; r = 0 }) (h e (contains_here e es)) ∙ ap (λ (x : Triangle). Some x) same))
      (λ rest. let r = from_numbers es u (λ k d. h k (contains_there k e es d)) rest in (r.0, contains_there r.0 e es r.1, r.2))
      (contains_cons u (number e) (map number es) c)

  has_numbered : (es : List ℕ) (u : Triangle) (k : ℕ) → Contains es k → slice_get ts k ≡ Some u → Contains (map number es) u
  has_numbered es u k c at = subst (λ (x : Triangle). Contains (map number es) x) (get_or_from_slice_get ts k u (record { p = 0; q = 0; r = 0 }) at) (contains_map number es k c)

  number_at : (es : List ℕ) (i : ℕ) (x : Triangle) → slice_get (map number es) i ≡ Some x → (k : ℕ) × (slice_get es i ≡ Some k) × (number k ≡ x)
  number_at es i x at = go (slice_get es i) refl (sym (slice_get-map number es i) ∙ at)
    where
      go : (o : Option ℕ) → slice_get es i ≡ o → option_map number o ≡ Some x → (k : ℕ) × (slice_get es i ≡ Some k) × (number k ≡ x)
      go None is e = absurd (none-some x e)
      go (Some k) is e = (k, is, same_Some (number k) x e)

  placed_at : (es : List ℕ) → AllThere es → (i : ℕ) (x : Triangle) → slice_get (map number es) i ≡ Some x → (k : ℕ) × (slice_get es i ≡ Some k) × (slice_get ts k ≡ Some x)
  placed_at es h i x at =
      let n = number_at es i x at in
      (n.0, n.1, slice_get-get_or ts n.0 (record { p = 0; q = 0; r = 0 }) (there_at es h i n.0 n.1) ∙ ap (λ (y : Triangle). Some y) n.2)

  in_order : (es : List ℕ) → AllThere es → Ascends (λ i k. i < k) es → Ascends IsAbove ts → Ascends IsAbove (map number es)
  in_order es h up above i j x y lt at there =
      let n = placed_at es h i x at in
      let k = placed_at es h j y there in
      above n.0 k.0 x y (up i j n.0 k.0 lt n.1 k.1) n.2 k.2

pub entered_shown : (name : NamedParts) (m : Map) (groups : List (List ℕ)) (ts : List Triangle) (labels : List (Option ℕ)) (a b sector : ℕ) (entered : List ℕ) (stops : List Stop) → All (λ k. k < length ts) entered → ShowsEntered ts sector entered (blind_picture name m groups ts labels a b sector entered stops)
entered_shown name m groups ts labels a b sector entered stops within =
    let h = there ts entered within in
    let faces = pair_faces groups ts labels a b in
    record {
      shown = triangles_with_numbers ts entered;
      has = has_under name (subject.Pair a b) m (faces ++ Entered sector (triangles_with_numbers ts entered) ∷ []) (Stops stops ∷ [] ++ pair_rings m groups ts labels a b) (Entered sector (triangles_with_numbers ts entered)) (has_behind faces (Entered sector (triangles_with_numbers ts entered) ∷ []) (Entered sector (triangles_with_numbers ts entered)) (zero, refl));
      once = λ i j one two us vs at more. (blind_words name (subject.Pair a b) m ts labels (map (pair_tint a b) groups) groups (pair_rings m groups ts labels a b) (rings_words m groups ts labels a b) sector (triangles_with_numbers ts entered) stops).open_once i j (Entered one us) (Entered two vs) at more refl refl;
      exactly = λ u. ((λ c. from_numbers ts entered u h c), (λ r. has_numbered ts entered u r.0 r.1 r.2));
      order = in_order ts entered h;
    }

pub stops_shown : (name : NamedParts) (m : Map) (groups : List (List ℕ)) (ts : List Triangle) (labels : List (Option ℕ)) (a b sector : ℕ) (entered : List ℕ) (stops : List Stop) → ShowsStops stops (blind_picture name m groups ts labels a b sector entered stops)
stops_shown name m groups ts labels a b sector entered stops =
    let faces = pair_faces groups ts labels a b in
    record {
      has = has_over name (subject.Pair a b) m (faces ++ Entered sector (triangles_with_numbers ts entered) ∷ []) (Stops stops ∷ [] ++ pair_rings m groups ts labels a b) (Stops stops) (zero, refl);
      once = λ i j ss us at more. (blind_words name (subject.Pair a b) m ts labels (map (pair_tint a b) groups) groups (pair_rings m groups ts labels a b) (rings_words m groups ts labels a b) sector (triangles_with_numbers ts entered) stops).stops_once i j (Stops ss) (Stops us) at more refl refl;
    }
