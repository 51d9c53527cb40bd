-- The largest triangle of a sector is one of the sector, and is looked for one triangle after the other.
use Rattle.std.proofs.Common.{◌≡◌, ◌∙◌, ℕ, zero, suc, ◌+◌, ◌<◌, ◌⊎◌, inl, inr, ⊎_elim, List, [], ◌∷◌, Option, Some, None, Bool, true, false, cond, drop, get_or, length, slice_index_or, Contains, int_lt, refl, sym, ap}
use Rattle.std.proofs.lemmas.Bool.{true≢false}
use Rattle.std.proofs.lemmas.List.{drop_more}
use Rattle.std.proofs.lemmas.Option.{none-some, same_Some}
use Rattle.sight_names.specs.declared.names.Triangle.{Triangle}
use Rattle.sight_names.specs.Map.{Map}
use Rattle.map_picture.specs.Picture.{Ring, doubled_area, is_of, larger, largest_of, ring_at}
use Rattle.map_picture.specs.Laws.{Has, IsRingOf, RingsAreInside}
use Rattle.map_picture.proofs.Faced.{any_in}

module _ (m : Map) (groups : List (List ℕ)) (sector : ℕ) where
  -- one more triangle is looked at
  pub looked_more : (best : Option Triangle) (ts : List Triangle) (ls : List (Option ℕ)) (k : ℕ) (t : Triangle) (l : Option ℕ) → k < length ts → k < length ls → t ≡ get_or ts k t → l ≡ get_or ls k l
      → largest_of m groups sector best (drop k ts) (drop k ls) ≡ largest_of m groups sector (cond (is_of groups sector l) (Some (larger m best t)) best) (drop (k + 1) ts) (drop (k + 1) ls)
  looked_more best ts ls k t l in_ts in_ls is_t is_l =
      ap (λ (us : List Triangle). largest_of m groups sector best us (drop k ls)) (drop_more ts k t in_ts ∙ ap (λ (x : Triangle). x ∷ drop (k + 1) ts) (sym is_t))
      ∙ ap (λ (es : List (Option ℕ)). largest_of m groups sector best (t ∷ drop (k + 1) ts) es) (drop_more ls k l in_ls ∙ ap (λ (x : Option ℕ). x ∷ drop (k + 1) ls) (sym is_l))

  -- a triangle among these, with the label of a group that names the sector
  abbrev IsIn : List Triangle → List (Option ℕ) → Triangle → Type 0
  IsIn ts ls t = IsRingOf groups ts ls sector t

  of_label : (l : Option ℕ) → is_of groups sector l ≡ true → (g : ℕ) × (l ≡ Some g) × Contains (slice_index_or groups g []) sector
  of_label None e = absurd (true≢false (sym e))
  of_label (Some g) e = (g, refl, any_in sector (slice_index_or groups g []) e)

  further : (t u : Triangle) (ts : List Triangle) (l : Option ℕ) (ls : List (Option ℕ)) → IsIn ts ls t → IsIn (u ∷ ts) (l ∷ ls) t
  further t u ts l ls h = record { k = suc h.k; is = h.is; g = h.g; label = h.label; named = h.named }

  larger_is : (best : Option Triangle) (u t : Triangle) → larger m best u ≡ t → (best ≡ Some t) ⊎ (u ≡ t)
  larger_is None u t e = inr e
  larger_is (Some b) u t e = go (int_lt (doubled_area m b) (doubled_area m u)) e
    where
      go : (s : Bool) → cond s u b ≡ t → (◌≡◌ {A = Option Triangle} (Some b) (Some t)) ⊎ (u ≡ t)
      go true e = inr e
      go false e = inl (ap (λ (x : Triangle). Some x) e)

  largest_is : (best : Option Triangle) (ts : List Triangle) (ls : List (Option ℕ)) (t : Triangle) → largest_of m groups sector best ts ls ≡ Some t → (best ≡ Some t) ⊎ IsIn ts ls t
  largest_is best [] ls t e = inl e
  largest_is best (u ∷ ts) [] t e = inl e
  largest_is best (u ∷ ts) (l ∷ ls) t e = go (is_of groups sector l) refl e (λ b. largest_is b ts ls t)
    where
      here : is_of groups sector l ≡ true → u ≡ t → IsIn (u ∷ ts) (l ∷ ls) t
      here q same = let x = of_label l q in record { k = zero; is = ap (λ (y : Triangle). Some y) same; g = x.0; label = x.1; named = x.2 }

      go : (s : Bool) → is_of groups sector l ≡ s → largest_of m groups sector (cond s (Some (larger m best u)) best) ts ls ≡ Some t
          → ((b : Option Triangle) → largest_of m groups sector b ts ls ≡ Some t → (b ≡ Some t) ⊎ IsIn ts ls t) → (best ≡ Some t) ⊎ IsIn (u ∷ ts) (l ∷ ls) t
      go true q e rest = ⊎_elim
          (λ same. ⊎_elim (λ old. inl old) (λ new. inr (here q new)) (larger_is best u t (same_Some (larger m best u) t same)))
          (λ h. inr (further t u ts l ls h))
          (rest (Some (larger m best u)) e)
      go false q e rest = ⊎_elim (λ old. inl old) (λ h. inr (further t u ts l ls h)) (rest best e)

pub rings_inside : RingsAreInside
rings_inside m groups ts labels which sector e has = go (largest_of m groups sector None ts labels) refl has
  where
    inside : (t : Triangle) → largest_of m groups sector None ts labels ≡ Some t → IsRingOf groups ts labels sector t
    inside t q = ⊎_elim (λ none. absurd (none-some t none)) (λ h. h) (largest_is m groups sector None ts labels t q)

    go : (o : Option Triangle) → largest_of m groups sector None ts labels ≡ o → Has (ring_at which sector o) e → (t : Triangle) × (e ≡ Ring which sector t) × IsRingOf groups ts labels sector t
    go None q (k, at) = absurd (none-some e at)
    go (Some t) q (zero, at) = (t, sym (same_Some (Ring which sector t) e at), inside t q)
    go (Some t) q (suc k, at) = absurd (none-some e at)
