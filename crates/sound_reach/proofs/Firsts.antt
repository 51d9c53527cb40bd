-- The step with the least side, taken again and again, is the first route of those with the fewest sides.
use Rattle.std.proofs.Common.{◌≡◌, ℕ, suc, ◌+◌, ◌-◌, ◌<◌, ◌≤◌, ◌⊎◌, inl, inr, List, [], ◌∷◌, ◌++◌, length, slice_get, slice_index_or, Option, Some, None, Bool, true, false, refl, sym, ap, ◌∙◌, subst, arith, Contains, append_assoc, length-append}
use Rattle.std.proofs.lemmas.List.{append-nil}
use Rattle.std.proofs.lemmas.Option.{same_Some}
use Rattle.sight_names.specs.declared.names.Side.{Side}
use Rattle.sight_names.specs.Found.{SideBefore}
use Rattle.sight_names.specs.Noise.{SidesBefore}
use Rattle.sight_names.proofs.Lists.{get_of_contains}
use Rattle.sound_reach.specs.declared.doors.Door.{Door}
use Rattle.sound_reach.specs.declared.path.Step.{Step}
use Rattle.sound_reach.specs.declared.state.State.{State}
use Rattle.sound_reach.specs.State.{after_of}
use Rattle.sound_reach.specs.Doors.{AreDoorsFrom, IsNet}
use Rattle.sound_reach.specs.Routes.{AreDistances, IsRoute, IsRouteStep, distance_at}
use Rattle.sound_reach.specs.Steps.{Approaches, IsFirstRoute, IsLeastStep, IsLesser, IsSideNotAfter, IsStepThrough}
use Rattle.math_base.proofs.Options.{none_is_not_some}
use Rattle.math_base.proofs.Numbers.{below_or_last}

-- ---- the lesser of two sides

pub not_after_after : (s t u : Side) → IsSideNotAfter s t → IsSideNotAfter t u → IsSideNotAfter s u
not_after_after s t u (inl e) h = subst (λ (z : Side). IsSideNotAfter z u) (sym e) h
not_after_after s t u (inr k) (inl e) = inr (subst (λ (z : Side). SideBefore s z) e k)
not_after_after s t u (inr k) (inr h) = inr (chained s.line t.line u.line s.left t.left u.left k h)
  where
    chained : (i j k : ℕ) (a b c : Bool) → (i < j) ⊎ ((i ≡ j) × (a ≡ false) × (b ≡ true)) → (j < k) ⊎ ((j ≡ k) × (b ≡ false) × (c ≡ true)) → (i < k) ⊎ ((i ≡ k) × (a ≡ false) × (c ≡ true))
    chained i j k a b c (inl x) (inl y) = inl (omega arith)
    chained i j k a b c (inl x) (inr y) = let y0 = y.0 in inl (omega arith)
    chained i j k a b c (inr x) (inl y) = let x0 = x.0 in inl (omega arith)
    chained i j k a b c (inr x) (inr y) = inr (x.0 ∙ y.0, x.1, y.2)

-- ---- the least step of the doors so far

-- the doors before place n were looked through
pub record IsLeastBelow (ds : List (Option ℕ)) (left : ℕ) (spare : Bool) (found : List Door) (n : ℕ) (best : Option Step) : Type 0 where
  pub through : (step : Step) → best ≡ Some step → (e : Door) × Contains found e × IsStepThrough ds left spare e (Some step)
  pub least : (k : ℕ) (e : Door) (y : State) → k < n → slice_get found k ≡ Some e → Approaches ds left spare e y → (step : Step) × (best ≡ Some step) × IsSideNotAfter step.side e.side

pub least_more : (ds : List (Option ℕ)) (left : ℕ) (spare : Bool) (found : List Door) (n : ℕ) (best step result : Option Step) (e : Door) → Contains found e → slice_get found n ≡ Some e
    → IsStepThrough ds left spare e step → IsLesser best step result → IsLeastBelow ds left spare found n best → IsLeastBelow ds left spare found (n + 1) result
least_more ds left spare found n best step result e there at through lesser h = record {
  through = λ s is. elim lesser.one as (λ _. (d : Door) × Contains found d × IsStepThrough ds left spare d (Some s)) [
    | inl old ↦ h.through s (old ∙ is)
    | inr new ↦ (e, there, subst (λ (o : Option Step). IsStepThrough ds left spare e o) (new ∙ is) through)
  ];
  least = λ k d y lt got near. elim (below_or_last k n lt) as (λ _. (s : Step) × (result ≡ Some s) × IsSideNotAfter s.side d.side) [
    | inl less ↦ let w = h.least k d y less got near in let v = lesser.least w.0 (inl w.1) in (v.0, v.1, not_after_after v.0.side w.0.side d.side v.2 w.2)
    | inr same ↦ let f : e ≡ d = same_Some e d (sym at ∙ ap (slice_get found) (sym same) ∙ got) in
        let w = passing step through (subst (λ (c : Door). Approaches ds left spare c y) (sym f) near) in
        let v = lesser.least w.0 (inr w.1) in
        (v.0, v.1, subst (λ (t : Side). IsSideNotAfter v.0.side t) (w.2 ∙ ap (λ (c : Door). c.side) f) v.2)
  ];
}
  where
    passing : {y : State} → (o : Option Step) → IsStepThrough ds left spare e o → Approaches ds left spare e y → (s : Step) × (o ≡ Some s) × (s.side ≡ e.side)
    passing {y} None t near = absurd (t y near)
    passing (Some s) t near = (s, refl, t.1)

pub least_of_all : (ds : List (Option ℕ)) (left : ℕ) (spare : Bool) (found : List Door) (n : ℕ) (best : Option Step) → length found ≤ n → IsLeastBelow ds left spare found n best → IsLeastStep ds left spare found best
least_of_all ds left spare found n best past h = record {
  through = h.through;
  least = λ e y c near. let c1 = c.1 in h.least c.0 e y (omega (arith, c1, past)) (got found e c.0 c.1 c.2) near;
}
  where
    got : (xs : List Door) (e : Door) (k : ℕ) → k < length xs → slice_index_or xs k e ≡ e → slice_get xs k ≡ Some e
    got xs e k h q = get_of_contains xs e k h q

-- ---- a route, step by step

module _ (es : List Door) (sectors b : ℕ) (ds : List (Option ℕ)) (is : AreDistances es sectors b ds) where
  -- on a route with the fewest sides the next state is one side nearer
  pub nearer : (x y : State) (s : Side) (left : ℕ) (ss : List Side) → distance_at ds x ≡ Some (left + 1) → IsRouteStep es x s y → IsRoute es b y ss → length ss ≤ left → distance_at ds y ≡ Some left
  nearer x y s left ss at step route le =
      let w = is.fewest y ss route in
      let r = is.routes y w.0 w.1 in
      let v = is.fewest x (s ∷ r.0) (y, step, r.1) in
      let same = same_Some (left + 1) v.0 (sym at ∙ v.1) in
      let w2 = w.2 in
      w.1 ∙ ap Some (squeeze w.0 left (length ss) v.0 (length r.0) w.2 le same v.2 r.2)
    where
      squeeze : (k left n m r : ℕ) → k ≤ n → n ≤ left → left + 1 ≡ m → m ≤ suc r → r ≡ k → k ≡ left
      squeeze k left n m r a b c d e = omega (arith, a, b, c, d, e)

  -- from a state that is not at the end, some door of its sector leads nearer
  pub some_nearer : (x : State) (left : ℕ) (found : List Door) → AreDoorsFrom es x.sector found → distance_at ds x ≡ Some (left + 1) → (e : Door) × (y : State) × Contains found e × Approaches ds left x.spare e y
  some_nearer x left found from at = let r = is.routes x (left + 1) at in go r.0 r.1 r.2
    where
      go : (ss : List Side) → IsRoute es b x ss → length ss ≡ left + 1 → (e : Door) × (y : State) × Contains found e × Approaches ds left x.spare e y
      go [] route len = absurd (omega (arith, len))
      go (s ∷ ss) (y, step, route) len =
          (step.door, y, (from step.door).1 (step.there, step.from), record { behind = step.behind; distance = nearer x y s left ss at step route (shorter (length ss) left len) })
        where
          shorter : (n left : ℕ) → suc n ≡ left + 1 → n ≤ left
          shorter n left e = omega (arith, e)

  pub never_stuck : (x : State) (left : ℕ) (found : List Door) (best : Option Step) → AreDoorsFrom es x.sector found → distance_at ds x ≡ Some (left + 1) → IsLeastStep ds left x.spare found best → best ≡ None → ⊥
  never_stuck x left found best from at least none = let w = some_nearer x left found from at in let v = least.least w.0 w.1 w.2 w.3 in none_is_not_some v.0 (sym none ∙ v.1)

  module _ (net : IsNet es) where
    pub first_further : (x : State) (left : ℕ) (found : List Door) (step : Step) → AreDoorsFrom es x.sector found → distance_at ds x ≡ Some (left + 1) → IsLeastStep ds left x.spare found (Some step)
        → (tail : List Side) → length tail ≡ left → IsFirstRoute es b step.state tail → IsFirstRoute es b x (step.side ∷ tail)
    first_further x left found step from at least tail len first = record {
      route = (step.state, taken, first.route);
      first = go;
    }
      where
        through : (e : Door) × Contains found e × IsStepThrough ds left x.spare e (Some step)
        through = least.through step refl

        there : Contains es through.0 × (through.0.from ≡ x.sector)
        there = (from through.0).0 through.1

        taken : IsRouteStep es x step.side step.state
        taken = record { door = through.0; there = there.0; from = there.1; side = sym through.2.1; behind = through.2.0.behind }

        go : (other : List Side) → IsRoute es b x other → length other ≡ suc (length tail) → (other ≡ step.side ∷ tail) ⊎ SidesBefore (step.side ∷ tail) other
        go [] route e = absurd (omega (arith, e))
        go (t ∷ rest) (y, other, route) e =
            let w = least.least other.door y ((from other.door).1 (other.there, other.from)) near in
            elim w.2 as (λ _. (t ∷ rest ≡ step.side ∷ tail) ⊎ SidesBefore (step.side ∷ tail) (t ∷ rest)) [
              | inr before ↦ inr (inl (subst (λ (s : Side). SideBefore s t) (sym (side_of w.0 w.1)) (subst (λ (s : Side). SideBefore w.0.side s) other.side before)))
              | inl same ↦ equal (side_of w.0 w.1 ∙ same ∙ other.side)
            ]
          where
            shorter : (n m left : ℕ) → suc n ≡ suc m → m ≡ left → n ≤ left
            shorter n m left e f = omega (arith, e, f)

            near : Approaches ds left x.spare other.door y
            near = record { behind = other.behind; distance = nearer x y t left rest at other route (shorter (length rest) (length tail) left e len) }

            side_of : (one : Step) → ◌≡◌ {A = Option Step} (Some step) (Some one) → step.side ≡ one.side
            side_of one f = ap (λ (c : Step). c.side) (same_Some step one f)

            equal : step.side ≡ t → (t ∷ rest ≡ step.side ∷ tail) ⊎ SidesBefore (step.side ∷ tail) (t ∷ rest)
            equal f =
                let doors = net.one through.0 other.door there.0 other.there (sym through.2.1 ∙ f ∙ sym other.side) in
                let states = same_Some step.state y (sym through.2.0.behind ∙ ap (λ (d : Door). after_of d x.spare) doors ∙ other.behind) in
                elim (first.first rest (subst (λ (z : State). IsRoute es b z rest) (sym states) route) (lower (length rest) (length tail) e)) as (λ _. (t ∷ rest ≡ step.side ∷ tail) ⊎ SidesBefore (step.side ∷ tail) (t ∷ rest)) [
                  | inl g ↦ inl (λ i. (sym f i) ∷ (g i))
                  | inr g ↦ inr (inr (f, g))
                ]
              where
                lower : (n m : ℕ) → suc n ≡ suc m → n ≡ m
                lower n m e = omega (arith, e)

  pub first_at_end : (x : State) → distance_at ds x ≡ Some 0 → IsFirstRoute es b x []
  first_at_end x at = let r = is.routes x 0 at in go r.0 r.1 r.2
    where
      go : (ss : List Side) → IsRoute es b x ss → length ss ≡ 0 → IsFirstRoute es b x []
      go [] route len = record { route = route; first = none }
        where
          none : (other : List Side) → IsRoute es b x other → length other ≡ 0 → (other ≡ []) ⊎ SidesBefore [] other
          none [] route len = inl refl
          none (s ∷ ss) route len = absurd (omega (arith, len))
      go (s ∷ ss) route len = absurd (omega (arith, len))

-- what is known on the way: the sides so far, and where one is
pub record IsOnWay (es : List Door) (b : ℕ) (ds : List (Option ℕ)) (from : State) (distance done : ℕ) (sides : List Side) (at : State) : Type 0 where
  pub len : length sides ≡ done
  pub here : distance_at ds at ≡ Some (distance - done)
  pub first : (tail : List Side) → length tail ≡ distance - done → IsFirstRoute es b at tail → IsFirstRoute es b from (sides ++ tail)

pub way_begun : (es : List Door) (b : ℕ) (ds : List (Option ℕ)) (from : State) (distance : ℕ) → distance_at ds from ≡ Some distance → IsOnWay es b ds from distance 0 [] from
way_begun es b ds from distance at = record { len = refl; here = at ∙ ap Some (minus_none distance); first = λ tail len h. h }
  where
    minus_none : (n : ℕ) → n ≡ n - 0
    minus_none n = omega arith

left_over : (n d : ℕ) → d < n → n - d ≡ (n - d - 1) + 1
left_over n d h = omega arith

pub way_on : (es : List Door) (sectors b : ℕ) (ds : List (Option ℕ)) → AreDistances es sectors b ds → IsNet es → (from : State) (distance done : ℕ) (sides : List Side) (at : State) (found : List Door) (best : Option Step) (step : Step)
    → done < distance → AreDoorsFrom es at.sector found → IsLeastStep ds (distance - done - 1) at.spare found best → best ≡ Some step
    → IsOnWay es b ds from distance done sides at → IsOnWay es b ds from distance (done + 1) (sides ++ step.side ∷ []) step.state
way_on es sectors b ds is net from distance done sides at found best step lt doors least some h =
    let least' = subst (λ (o : Option Step). IsLeastStep ds (distance - done - 1) at.spare found o) some least in
    let here = h.here ∙ ap Some (left_over distance done lt) in
    record {
      len = longer sides step.side done h.len;
      here = ((least'.through step refl).2.0.distance) ∙ ap Some (one_less distance done);
      first = λ tail len first. subst (IsFirstRoute es b from) (sym (append_assoc sides (step.side ∷ []) tail))
          (h.first (step.side ∷ tail) (tail_longer (length tail) distance done lt len) (first_further es sectors b ds is net at (distance - done - 1) found step doors here least' tail (len ∙ sym (one_less distance done)) first));
    }
  where
    one_less : (n d : ℕ) → n - d - 1 ≡ n - (d + 1)
    one_less n d = omega arith

    tail_longer : (k n d : ℕ) → d < n → k ≡ n - (d + 1) → suc k ≡ n - d
    tail_longer k n d h e = omega (arith, h, e)

    longer : (ss : List Side) (s : Side) (n : ℕ) → length ss ≡ n → length (ss ++ s ∷ []) ≡ n + 1
    longer ss s n e = let l = length-append ss (s ∷ []) in omega (arith, l, e)

pub way_done : (es : List Door) (sectors b : ℕ) (ds : List (Option ℕ)) → AreDistances es sectors b ds → (from : State) (distance done : ℕ) (sides : List Side) (at : State) → distance ≤ done → IsOnWay es b ds from distance done sides at → IsFirstRoute es b from sides
way_done es sectors b ds is from distance done sides at past h =
    let here : distance_at ds at ≡ Some 0 = h.here ∙ ap Some (nothing distance done past) in
    subst (IsFirstRoute es b from) (append-nil sides) (h.first [] (sym (nothing distance done past)) (first_at_end es sectors b ds is at here))
  where
    nothing : (n d : ℕ) → n ≤ d → n - d ≡ 0
    nothing n d h = omega arith

pub way_stuck : (es : List Door) (sectors b : ℕ) (ds : List (Option ℕ)) → AreDistances es sectors b ds → (from : State) (distance done : ℕ) (sides : List Side) (at : State) (found : List Door) (best : Option Step)
    → done < distance → AreDoorsFrom es at.sector found → IsLeastStep ds (distance - done - 1) at.spare found best → best ≡ None → IsOnWay es b ds from distance done sides at → ⊥
way_stuck es sectors b ds is from distance done sides at found best lt doors least none h = never_stuck es sectors b ds is at (distance - done - 1) found best doors (h.here ∙ ap Some (left_over distance done lt)) least none
