-- A look at all ends of one side that goes back by steps: ends between two others are spanned where both are.
use Rattle.std.proofs.Common.{◌≡◌, ℕ, ◌+◌, ◌-◌, ◌<◌, ◌≤◌, List, length, get_or, Option, Some, None, refl, sym, ap, arith, ◌∙◌, ◌⊎◌, inl, inr, subst₂, option_map}
use Rattle.std.specs.Prelude.{slice_get}
use Rattle.std.proofs.lemmas.Bool.{cases_lt}
use Rattle.std.proofs.Math.Nat.{eq-or-lt_of_le}
use Rattle.std.proofs.lemmas.List.{length-map}
use Rattle.std.proofs.lemmas.Option.{slice_get-get_or, slice_get_read, slice_get-map}
use Rattle.math_base.proofs.Options.{none_is_not_some, some_is_same}
use Rattle.sight_names.specs.declared.names.EndAt.{EndAt}
use Rattle.geom_exact.specs.declared.extreme_lines.cone.Cone.{Cone}
use Rattle.geom_exact.specs.declared.extreme_lines.cone.Cone.TheVariants.{Open}
use Rattle.geom_exact.specs.declared.extreme_lines.wedge.Wedge.{Wedge}
use Rattle.geom_exact.specs.ExtremeLines.Differences.{difference}
use Rattle.geom_exact.specs.ExtremeLines.Spans.{Spans, IsWidened}
use Rattle.stab_hull.specs.declared.chain.Kept.{Kept}
use Rattle.stab_hull.specs.Chains.{HasChainSteps, LiesBetween, kept_ends}
use Rattle.stab_hull.proofs.Between.{spans_left, spans_right}
use Rattle.stab_hull.proofs.StepLemmas.{Before, From, IsLeftPart, IsRightPart, left_more, right_more}

-- ---- the ends of what is kept
kept_length : (ks : List Kept) → length (kept_ends ks) ≡ length ks
kept_length ks = length-map ks (λ (k : Kept). k.end)

end_at : (ks : List Kept) (i : ℕ) (k : Kept) → slice_get ks i ≡ Some k → slice_get (kept_ends ks) i ≡ Some k.end
end_at ks i k h = slice_get-map (λ (k : Kept). k.end) ks i ∙ ap (option_map (λ (k : Kept). k.end)) h

pub kept_at : (ks : List Kept) (i : ℕ) (d : Kept) → i < length ks → slice_get (kept_ends ks) i ≡ Some (get_or ks i d).end
kept_at ks i d h = end_at ks i (get_or ks i d) (slice_get-get_or ks i d h)

pub kept_before : (ks : List Kept) (n : ℕ) → length ks ≤ n → (k : ℕ) → k < length (kept_ends ks) → Before n k
kept_before ks n h k l = let e = kept_length ks in omega (arith, e)

pub kept_from : (ks : List Kept) (k : ℕ) → From (length ks) k → length (kept_ends ks) ≤ k
kept_from ks k l = let e = kept_length ks in omega (arith, e, l)

kept_of : (ks : List Kept) (i : ℕ) (e : EndAt) → slice_get (kept_ends ks) i ≡ Some e → (k : Kept) × (slice_get ks i ≡ Some k) × (k.end ≡ e)
kept_of ks i e h = case (slice_get ks i) refl (sym (slice_get-map (λ (k : Kept). k.end) ks i) ∙ h)
  where
    case : (o : Option Kept) → slice_get ks i ≡ o → option_map (λ (k : Kept). k.end) o ≡ Some e → (k : Kept) × (slice_get ks i ≡ Some k) × (k.end ≡ e)
    case None g m = absurd (none_is_not_some e m)
    case (Some k) g m = (k, g, some_is_same k.end e m)

-- ---- the look
-- it is done with the ends from place `top` on, and comes next to the end before place `rest`; all between lie between these two
pub record LooksBack (ends : List EndAt) (rest top : ℕ) : Type 0 where
  pub below : rest ≤ top
  pub within : top ≤ length ends
  pub done : rest ≡ 0 → top ≡ 0
  pub between : (m i : ℕ) (a b : EndAt) → rest ≡ m + 1 → m < i → i < top → slice_get ends m ≡ Some a → slice_get ends i ≡ Some b → (c : EndAt) × (slice_get ends top ≡ Some c) × LiesBetween a.at b.at c.at

pub look_start : (ks : List Kept) → LooksBack (kept_ends ks) (length ks) (length ks)
look_start ks = record {
  below = omega arith;
  within = let e = kept_length ks in omega (arith, e);
  done = λ z. z;
  between = λ m i a b r l u am bi. absurd (omega (arith, r, l, u));
}

-- the next end
abbrev pub IsNext : List Kept → ℕ → Kept → Type 0
IsNext ks rest k = k ≡ get_or ks (rest - 1) k

-- as it is read
abbrev pub next_of : List Kept → ℕ → Kept → Kept
next_of ks rest d = get_or ks (rest - 1) d

pub next_is : (ks : List Kept) (rest : ℕ) (k : Kept) → IsNext ks rest k → IsNext ks rest (next_of ks rest k)
next_is ks rest k is = ap (λ (d : Kept). get_or ks (rest - 1) d) is

pub next_within : (ks : List Kept) (rest top : ℕ) → LooksBack (kept_ends ks) rest top → 0 < rest → rest - 1 < length ks
next_within ks rest top h some =
    let e = kept_length ks in
    let below = h.below in
    let within = h.within in
    omega (arith, e, below, within, some)

module _ (ks : List Kept) (rest top : ℕ) (k : Kept) where
  next_kept : LooksBack (kept_ends ks) rest top → 0 < rest → IsNext ks rest k → slice_get ks (rest - 1) ≡ Some k
  next_kept h some is =
      let e = kept_length ks in
      let below = h.below in
      let within = h.within in
      slice_get_read ks (length ks) (rest - 1) k refl (omega (arith, e, below, within, some)) is

  pub next_at : LooksBack (kept_ends ks) rest top → 0 < rest → IsNext ks rest k → slice_get (kept_ends ks) (rest - 1) ≡ Some k.end
  next_at h some is = end_at ks (rest - 1) k (next_kept h some is)

  pub step_fits : HasChainSteps ks → LooksBack (kept_ends ks) rest top → 0 < rest → IsNext ks rest k → k.step ≤ rest
  step_fits steps h some is = let f = (steps.within (rest - 1) k (next_kept h some is)).1 in omega (arith, f, some)

  pub step_falls : HasChainSteps ks → LooksBack (kept_ends ks) rest top → 0 < rest → IsNext ks rest k → rest - k.step < rest
  step_falls steps h some is = let f = (steps.within (rest - 1) k (next_kept h some is)).0 in omega (arith, f, some)

  pub look_on : HasChainSteps ks → LooksBack (kept_ends ks) rest top → 0 < rest → IsNext ks rest k → LooksBack (kept_ends ks) (rest - k.step) (rest - 1)
  look_on steps h some is =
      let e = next_kept h some is in
      let size = steps.within (rest - 1) k e in
      let longer = size.0 in
      let fits = size.1 in
      let below = h.below in
      let within = h.within in
      record {
        below = omega (arith, longer);
        within = omega (arith, below, within);
        done = λ z. steps.first (rest - 1) k e (omega (arith, z, fits, some));
        between = λ m i a b r l u am bi.
            let ka = kept_of ks m a am in
            let kb = kept_of ks i b bi in
            (k.end, end_at ks (rest - 1) k e, subst₂ (λ (x y : EndAt). LiesBetween x.at y.at k.end.at) ka.2 kb.2 (steps.between m i (rest - 1) ka.0 kb.0 k ka.1 kb.1 e (omega (arith, r, fits, some)) l u));
      }

-- there is one
pub one_next : (ks : List Kept) (rest top : ℕ) (k o : Kept) → LooksBack (kept_ends ks) rest top → 0 < rest → IsNext ks rest k → IsNext ks rest o → k ≡ o
one_next ks rest top k o h some is so = some_is_same k o (sym (next_kept ks rest top k h some is) ∙ next_kept ks rest top o h some so)

-- a place from n on is n, behind it and before the top, or from the top on
places : (n top k : ℕ) → From n k → (k ≡ n) ⊎ ((n < k) × (k < top)) ⊎ From top k
places n top k l = elim (eq-or-lt_of_le l) as (λ _. (k ≡ n) ⊎ ((n < k) × (k < top)) ⊎ From top k) [
  | inl e ↦ inl (sym e)
  | inr b ↦ elim (cases_lt k top) as (λ _. (k ≡ n) ⊎ ((n < k) × (k < top)) ⊎ From top k) [
    | inl u ↦ inr (inl (b, u))
    | inr f ↦ inr (inr f)
  ]
]

-- the next end is taken in
module _ (L R : List EndAt) (rest top : ℕ) (c : Cone) (d : Wedge) where
  pub left_back : (left r : EndAt) → LooksBack R rest top → 0 < rest → slice_get R (rest - 1) ≡ Some r → IsWidened c left r (Open d) → IsLeftPart L R left (From top) c → IsLeftPart L R left (From (rest - 1)) (Open d)
  left_back left r look some e w h = record { spans = part.spans; ends = part.ends; has = λ k l s g. case k s g (places (rest - 1) top k l) }
    where
      part : IsLeftPart L R left (λ (k : ℕ). From top k ⊎ (k ≡ rest - 1)) (Open d)
      part = left_more L R left (From top) (λ (k : ℕ). From top k ⊎ (k ≡ rest - 1)) (rest - 1) r c (Open d) (λ k q. q) e w h

      case : (k : ℕ) (s : EndAt) → slice_get R k ≡ Some s → (k ≡ rest - 1) ⊎ ((rest - 1 < k) × (k < top)) ⊎ From top k → Spans (Open d) (difference left.at s.at)
      case k s g (inl i) = part.has k (inr i) s g
      case k s g (inr (inl b)) = let f = look.between (rest - 1) k r s (omega (arith, some)) b.0 b.1 e g in
          spans_right d r.at s.at f.0.at left.at f.2 (part.has (rest - 1) (inr refl) r e) (part.has top (inl (omega arith)) f.0 f.1)
      case k s g (inr (inr f)) = part.has k (inl f) s g

  pub right_back : (right l : EndAt) → LooksBack L rest top → 0 < rest → slice_get L (rest - 1) ≡ Some l → IsWidened c l right (Open d) → IsRightPart L R right (From top) c → IsRightPart L R right (From (rest - 1)) (Open d)
  right_back right l look some e w h = record { spans = part.spans; ends = part.ends; has = λ k b s g. case k s g (places (rest - 1) top k b) }
    where
      part : IsRightPart L R right (λ (k : ℕ). From top k ⊎ (k ≡ rest - 1)) (Open d)
      part = right_more L R right (From top) (λ (k : ℕ). From top k ⊎ (k ≡ rest - 1)) (rest - 1) l c (Open d) (λ k q. q) e w h

      case : (k : ℕ) (s : EndAt) → slice_get L k ≡ Some s → (k ≡ rest - 1) ⊎ ((rest - 1 < k) × (k < top)) ⊎ From top k → Spans (Open d) (difference s.at right.at)
      case k s g (inl i) = part.has k (inr i) s g
      case k s g (inr (inl b)) = let f = look.between (rest - 1) k l s (omega (arith, some)) b.0 b.1 e g in
          spans_left d l.at s.at f.0.at right.at f.2 (part.has (rest - 1) (inr refl) l e) (part.has top (inl (omega arith)) f.0 f.1)
      case k s g (inr (inr f)) = part.has k (inl f) s g
