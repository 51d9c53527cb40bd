-- A search by breadth finds the least number of sides from each state.
use Rattle.std.proofs.Common.{◌≡◌, ℕ, zero, suc, ◌+◌, ◌*◌, ◌<◌, ◌≤◌, inl, inr, List, [], ◌∷◌, ◌++◌, length, slice_get, slice_index_or, Option, Some, None, Bool, true, false, cond, refl, sym, ap, ◌∙◌, subst, arith, set, length-set, length-append, get_or-set_same, replicate, Contains}
use Rattle.std.specs.Prelude.{is_none}
use Rattle.std.specs.List.{count_by}
use Rattle.std.proofs.lemmas.List.{length-replicate}
use Rattle.std.proofs.lemmas.List.Sums.{sum_by-set, sum_by-cons}
use Rattle.std.proofs.lemmas.Option.{slice_get_within, same_Some}
use Rattle.sight_names.specs.declared.names.Side.{Side}
use Rattle.sight_names.proofs.Lists.{get_of_contains}
use Rattle.sound_reach.specs.declared.doors.Door.{Door}
use Rattle.sound_reach.specs.declared.state.State.{State}
use Rattle.sound_reach.specs.declared.search.Reached.{Reached}
use Rattle.sound_reach.specs.State.{after_of, before_of, state_place}
use Rattle.sound_reach.specs.Doors.{AreDoorsFrom, IsNet, turned_door, turned_side}
use Rattle.sound_reach.specs.Routes.{AreDistances, IsRoute, IsRouteStep, distance_at}
use Rattle.sound_reach.specs.Search.{AreKept, IsSearchBegun, IsStateNoted, IsStateReached, IsSoundSearch}
use Rattle.sound_reach.proofs.Lookups.{below_place, distance_set, slice_of_replicate, none_some}
use Rattle.math_base.proofs.Numbers.{below_or_last}
use Rattle.math_base.proofs.Options.{none_is_not_some}
use Rattle.math_base.proofs.Lists.{get_before_pushed, get_pushed, pushed_at}

-- ---- a state goes to the end of the queue

-- what a state and its distance are to be, so that the search may take them up
pub record IsNext (es : List Door) (b : ℕ) (queue : List Reached) (h : ℕ) (x : State) (k : ℕ) : Type 0 where
  pub route : (ss : List Side) × IsRoute es b x ss × (length ss ≡ k)
  pub above : (i : ℕ) (q : Reached) → slice_get queue i ≡ Some q → q.distance ≤ k
  pub close : (q : Reached) → slice_get queue h ≡ Some q → k ≤ q.distance + 1
  pub small : k ≤ length queue

count_less : (ds : List (Option ℕ)) (i k : ℕ) → i < length ds → slice_index_or ds i None ≡ None → count_by is_none (set ds i (Some k)) + 1 ≡ count_by is_none ds
count_less ds i k h e =
    let s = sum_by-set (λ (o : Option ℕ). cond (is_none o) 1 0) ds i (Some k) None h in
    let f : ◌≡◌ {A = ℕ} (cond (is_none (slice_index_or ds i None)) 1 0) 1 = ap (λ (o : Option ℕ). cond (is_none o) 1 0) e in
    omega (arith, s, f)

pushed_keeps : (ds : List (Option ℕ)) (x : State) (k : ℕ) → distance_at ds x ≡ None → state_place x < length ds → AreKept ds (set ds (state_place x) (Some k))
pushed_keeps ds x k none lt y j e = elim (distance_set ds x y k lt) as (λ _. distance_at (set ds (state_place x) (Some k)) y ≡ Some j) [
  | inl f ↦ absurd (none_some (distance_at ds x) j none (subst (λ (z : State). distance_at ds z ≡ Some j) f.0 e))
  | inr f ↦ f ∙ e
]

module _ (es : List Door) (b : ℕ) (ds : List (Option ℕ)) (queue : List Reached) (h : ℕ) (s : IsSoundSearch es b ds queue h) (x : State) (k : ℕ) (next : IsNext es b queue h x k) (none : distance_at ds x ≡ None) (lt : state_place x < length ds) where
  there : distance_at (set ds (state_place x) (Some k)) x ≡ Some k
  there = get_or-set_same ds (state_place x) (Some k) None lt

  told : (i : ℕ) (q : Reached) → slice_get (queue ++ (record { state = x; distance = k }) ∷ []) i ≡ Some q → distance_at (set ds (state_place x) (Some k)) q.state ≡ Some q.distance
  told i q e = elim (pushed_at queue _ q i e) as (λ _. distance_at (set ds (state_place x) (Some k)) q.state ≡ Some q.distance) [
    | inl f ↦ pushed_keeps ds x k none lt q.state q.distance (s.told i q f)
    | inr f ↦ subst (λ (p : Reached). distance_at (set ds (state_place x) (Some k)) p.state ≡ Some p.distance) f.1 there
  ]

  queued : (y : State) (j : ℕ) → distance_at (set ds (state_place x) (Some k)) y ≡ Some j → (i : ℕ) × (slice_get (queue ++ (record { state = x; distance = k }) ∷ []) i ≡ Some (record { state = y; distance = j }))
  queued y j e = elim (distance_set ds x y k lt) as (λ _. (i : ℕ) × (slice_get (queue ++ (record { state = x; distance = k }) ∷ []) i ≡ Some (record { state = y; distance = j }))) [
    | inl f ↦ (length queue, get_pushed queue (record { state = x; distance = k }) ∙ ap Some (same f.0 (same_Some k j (sym f.1 ∙ e))))
    | inr f ↦ let w = s.queued y j (sym f ∙ e) in (w.0, get_before_pushed queue _ _ w.0 w.1)
  ]
    where
      same : y ≡ x → k ≡ j → ◌≡◌ {A = Reached} (record { state = x; distance = k }) (record { state = y; distance = j })
      same e f = λ i. record { state = sym e i; distance = f i }

  routes : (i : ℕ) (q : Reached) → slice_get (queue ++ (record { state = x; distance = k }) ∷ []) i ≡ Some q → (ss : List Side) × IsRoute es b q.state ss × (length ss ≡ q.distance)
  routes i q e = elim (pushed_at queue _ q i e) as (λ _. (ss : List Side) × IsRoute es b q.state ss × (length ss ≡ q.distance)) [
    | inl f ↦ s.routes i q f
    | inr f ↦ subst (λ (p : Reached). (ss : List Side) × IsRoute es b p.state ss × (length ss ≡ p.distance)) f.1 next.route
  ]

  below : (i : ℕ) (q : Reached) → slice_get (queue ++ (record { state = x; distance = k }) ∷ []) i ≡ Some q → q.distance ≤ k
  below i q e = elim (pushed_at queue _ q i e) as (λ _. q.distance ≤ k) [
    | inl f ↦ next.above i q f
    | inr f ↦ let g = ap (λ (p : Reached). p.distance) f.1 in omega (arith, g)
  ]

  ascend : (i j : ℕ) (p q : Reached) → i ≤ j → slice_get (queue ++ (record { state = x; distance = k }) ∷ []) i ≡ Some p → slice_get (queue ++ (record { state = x; distance = k }) ∷ []) j ≡ Some q → p.distance ≤ q.distance
  ascend i j p q le e f = elim (pushed_at queue _ q j f) as (λ _. p.distance ≤ q.distance) [
    | inr g ↦ let d = ap (λ (r : Reached). r.distance) g.1 in let w = below i p e in omega (arith, d, w)
    | inl g ↦ elim (pushed_at queue _ p i e) as (λ _. p.distance ≤ q.distance) [
      | inl c ↦ s.ascend i j p q le c g
      | inr c ↦ let w = slice_get_within queue j q g in let v = c.0 in absurd (omega (arith, w, v, le))
    ]
  ]

  near : (i : ℕ) (p q : Reached) → slice_get (queue ++ (record { state = x; distance = k }) ∷ []) h ≡ Some p → slice_get (queue ++ (record { state = x; distance = k }) ∷ []) i ≡ Some q → q.distance ≤ p.distance + 1
  near i p q e f = elim (pushed_at queue _ p h e) as (λ _. q.distance ≤ p.distance + 1) [
    | inr g ↦ let d = ap (λ (r : Reached). r.distance) g.1 in let w = below i q f in omega (arith, d, w)
    | inl g ↦ let w = below i q f in let v = next.close p g in omega (arith, w, v)
  ]

  closed : h ≤ length queue → (i : ℕ) (q : Reached) (y : State) (t : Side) → i < h → slice_get (queue ++ (record { state = x; distance = k }) ∷ []) i ≡ Some q → IsRouteStep es y t q.state → (j : ℕ) × (distance_at (set ds (state_place x) (Some k)) y ≡ Some j) × (j ≤ q.distance + 1)
  closed le i q y t less e step = elim (pushed_at queue _ q i e) as (λ _. (j : ℕ) × (distance_at (set ds (state_place x) (Some k)) y ≡ Some j) × (j ≤ q.distance + 1)) [
    | inl f ↦ let w = s.closed i q y t less f step in (w.0, pushed_keeps ds x k none lt y w.0 w.1, w.2)
    | inr f ↦ let v = f.0 in absurd (omega (arith, v, less, le))
  ]

  small : (i : ℕ) (q : Reached) → slice_get (queue ++ (record { state = x; distance = k }) ∷ []) i ≡ Some q → q.distance ≤ i
  small i q e = elim (pushed_at queue _ q i e) as (λ _. q.distance ≤ i) [
    | inl f ↦ s.small i q f
    | inr f ↦ let d = ap (λ (r : Reached). r.distance) f.1 in let v = f.0 in let w = next.small in omega (arith, d, v, w)
  ]

  pub pushed : h ≤ length queue → IsSoundSearch es b (set ds (state_place x) (Some k)) (queue ++ (record { state = x; distance = k }) ∷ []) h
  pushed le = record {
    told = told;
    queued = queued;
    routes = routes;
    ascend = ascend;
    near = near;
    closed = closed le;
    small = small;
    count = let c = count_less ds (state_place x) k lt none in let d = s.count in simp (length-append, length-set) (omega (arith, c, d));
  }

pub noted_keeps : (ds ds' : List (Option ℕ)) (queue queue' : List Reached) (x : State) (k : ℕ) → state_place x < length ds → IsStateNoted x k ds queue ds' queue' → AreKept ds ds'
noted_keeps ds ds' queue queue' x k lt (inl n) y j e = subst (λ (z : List (Option ℕ)). distance_at z y ≡ Some j) (sym n.1) (pushed_keeps ds x k n.0 lt y j e)
noted_keeps ds ds' queue queue' x k lt (inr n) y j e = subst (λ (z : List (Option ℕ)). distance_at z y ≡ Some j) (sym n.1) e

pub noted_reached : (ds ds' : List (Option ℕ)) (queue queue' : List Reached) (x : State) (k : ℕ) → state_place x < length ds → IsStateNoted x k ds queue ds' queue' → IsStateReached ds' x
noted_reached ds ds' queue queue' x k lt (inl n) = (k, subst (λ (z : List (Option ℕ)). distance_at z x ≡ Some k) (sym n.1) (get_or-set_same ds (state_place x) (Some k) None lt))
noted_reached ds ds' queue queue' x k lt (inr n) = subst (λ (z : List (Option ℕ)). IsStateReached z x) (sym n.1) n.0

pub noted_length : (ds ds' : List (Option ℕ)) (queue queue' : List Reached) (x : State) (k : ℕ) → IsStateNoted x k ds queue ds' queue' → length ds' ≡ length ds
noted_length ds ds' queue queue' x k (inl n) = ap length n.1 ∙ length-set ds (state_place x) (Some k)
noted_length ds ds' queue queue' x k (inr n) = ap length n.1

pub noted_queue : (ds ds' : List (Option ℕ)) (queue queue' : List Reached) (x : State) (k i : ℕ) (q : Reached) → IsStateNoted x k ds queue ds' queue' → slice_get queue i ≡ Some q → slice_get queue' i ≡ Some q
noted_queue ds ds' queue queue' x k i q (inl n) e = subst (λ (z : List Reached). slice_get z i ≡ Some q) (sym n.2) (get_before_pushed queue _ q i e)
noted_queue ds ds' queue queue' x k i q (inr n) e = subst (λ (z : List Reached). slice_get z i ≡ Some q) (sym n.2) e

pub noted_search : (es : List Door) (b : ℕ) (ds ds' : List (Option ℕ)) (queue queue' : List Reached) (h : ℕ) (x : State) (k : ℕ) → IsSoundSearch es b ds queue h → IsNext es b queue h x k → state_place x < length ds → h ≤ length queue → IsStateNoted x k ds queue ds' queue' → IsSoundSearch es b ds' queue' h
noted_search es b ds ds' queue queue' h x k s next lt le (inl n) =
    subst (λ (z : List (Option ℕ)). IsSoundSearch es b z queue' h) (sym n.1) (subst (λ (z : List Reached). IsSoundSearch es b (set ds (state_place x) (Some k)) z h) (sym n.2) (pushed es b ds queue h s x k next n.0 lt le))
noted_search es b ds ds' queue queue' h x k s next lt le (inr n) =
    subst (λ (z : List (Option ℕ)). IsSoundSearch es b z queue' h) (sym n.1) (subst (λ (z : List Reached). IsSoundSearch es b ds z h) (sym n.2) s)

-- ---- one step before the state at the head

pub turn_in : (e : Door) (spare : Bool) (x : State) → before_of e spare ≡ Some x → after_of (turned_door e) x.spare ≡ Some (record { sector = e.from; spare = spare })
turn_in e spare x h = at e.damped spare h
  where
    at : (damped spare : Bool) → before_of (record { from = e.from; side = e.side; to = e.to; damped = damped }) spare ≡ Some x
        → after_of (record { from = e.to; side = turned_side e.side; to = e.from; damped = damped }) x.spare ≡ Some (record { sector = e.from; spare = spare })
    at true true h = absurd (none_is_not_some x h)
    at true false h = let p = ap (λ (y : State). y.spare) (same_Some (record { sector = e.to; spare = true }) x h) in subst (λ (c : Bool). after_of (record { from = e.to; side = turned_side e.side; to = e.from; damped = true }) c ≡ Some (record { sector = e.from; spare = false })) p refl
    at false true h = let p = ap (λ (y : State). y.spare) (same_Some (record { sector = e.to; spare = true }) x h) in subst (λ (c : Bool). after_of (record { from = e.to; side = turned_side e.side; to = e.from; damped = false }) c ≡ Some (record { sector = e.from; spare = true })) p refl
    at false false h = let p = ap (λ (y : State). y.spare) (same_Some (record { sector = e.to; spare = false }) x h) in subst (λ (c : Bool). after_of (record { from = e.to; side = turned_side e.side; to = e.from; damped = false }) c ≡ Some (record { sector = e.from; spare = false })) p refl

pub before_sector : (e : Door) (spare : Bool) (x : State) → before_of e spare ≡ Some x → x.sector ≡ e.to
before_sector e spare x h = at e.damped spare h
  where
    at : (damped spare : Bool) → before_of (record { from = e.from; side = e.side; to = e.to; damped = damped }) spare ≡ Some x → x.sector ≡ e.to
    at true true h = absurd (none_is_not_some x h)
    at true false h = sym (ap (λ (y : State). y.sector) (same_Some (record { sector = e.to; spare = true }) x h))
    at false true h = sym (ap (λ (y : State). y.sector) (same_Some (record { sector = e.to; spare = true }) x h))
    at false false h = sym (ap (λ (y : State). y.sector) (same_Some (record { sector = e.to; spare = false }) x h))

pub after_sector : (e : Door) (spare : Bool) (x : State) → after_of e spare ≡ Some x → x.sector ≡ e.to
after_sector e spare x h = at e.damped spare h
  where
    at : (damped spare : Bool) → after_of (record { from = e.from; side = e.side; to = e.to; damped = damped }) spare ≡ Some x → x.sector ≡ e.to
    at true false h = absurd (none_is_not_some x h)
    at true true h = sym (ap (λ (y : State). y.sector) (same_Some (record { sector = e.to; spare = false }) x h))
    at false true h = sym (ap (λ (y : State). y.sector) (same_Some (record { sector = e.to; spare = true }) x h))
    at false false h = sym (ap (λ (y : State). y.sector) (same_Some (record { sector = e.to; spare = false }) x h))

turn_out : (e : Door) (spare : Bool) (y : State) → after_of e spare ≡ Some y → before_of (turned_door e) y.spare ≡ Some (record { sector = e.from; spare = spare })
turn_out e spare y h = at e.damped spare h
  where
    at : (damped spare : Bool) → after_of (record { from = e.from; side = e.side; to = e.to; damped = damped }) spare ≡ Some y
        → before_of (record { from = e.to; side = turned_side e.side; to = e.from; damped = damped }) y.spare ≡ Some (record { sector = e.from; spare = spare })
    at true false h = absurd (none_is_not_some y h)
    at true true h = let p = ap (λ (z : State). z.spare) (same_Some (record { sector = e.to; spare = false }) y h) in subst (λ (c : Bool). before_of (record { from = e.to; side = turned_side e.side; to = e.from; damped = true }) c ≡ Some (record { sector = e.from; spare = true })) p refl
    at false true h = let p = ap (λ (z : State). z.spare) (same_Some (record { sector = e.to; spare = true }) y h) in subst (λ (c : Bool). before_of (record { from = e.to; side = turned_side e.side; to = e.from; damped = false }) c ≡ Some (record { sector = e.from; spare = true })) p refl
    at false false h = let p = ap (λ (z : State). z.spare) (same_Some (record { sector = e.to; spare = false }) y h) in subst (λ (c : Bool). before_of (record { from = e.to; side = turned_side e.side; to = e.from; damped = false }) c ≡ Some (record { sector = e.from; spare = false })) p refl

-- the state before a door of the head's sector may be taken up
pub next_before : (es : List Door) → IsNet es → (b : ℕ) (ds : List (Option ℕ)) (queue : List Reached) (h : ℕ) (p : Reached) (e : Door) (x : State) → IsSoundSearch es b ds queue h → slice_get queue h ≡ Some p → Contains es e → e.from ≡ p.state.sector → before_of e p.state.spare ≡ Some x → IsNext es b queue h x (p.distance + 1)
next_before es net b ds queue h p e x s at there from before = record {
  route = let r = s.routes h p at in (turned_side e.side ∷ r.0, (p.state, step, r.1), longer (length r.0) p.distance r.2);
  above = λ i q f. s.near i p q at f;
  close = λ q f. let d = ap (λ (c : Reached). c.distance) (same_Some p q (sym at ∙ f)) in omega (arith, d);
  small = let w = slice_get_within queue h p at in let v = s.small h p at in omega (arith, w, v);
}
  where
    longer : (n k : ℕ) → n ≡ k → suc n ≡ k + 1
    longer n k e = omega (arith, e)

    behind : after_of (turned_door e) x.spare ≡ Some p.state
    behind = turn_in e p.state.spare x before ∙ ap (λ (c : ℕ). Some (let y : State = record { sector = c; spare = p.state.spare } in y)) from

    step : IsRouteStep es x (turned_side e.side) p.state
    step = record { door = turned_door e; there = net.both e there; from = sym (before_sector e p.state.spare x before); side = refl; behind = behind }

-- each state one step before the head is one before a door of its sector
pub step_before : (es : List Door) → IsNet es → (x y : State) (t : Side) → IsRouteStep es x t y → (e : Door) × Contains es e × (e.from ≡ y.sector) × (before_of e y.spare ≡ Some x)
step_before es net x y t step = (turned_door step.door, net.both step.door step.there, sym (after_sector step.door x.spare y step.behind), turn_out step.door x.spare y step.behind ∙ ap (λ (c : ℕ). Some (let z : State = record { sector = c; spare = x.spare } in z)) step.from)

-- ---- the head moves on

pub advanced : (es : List Door) (b : ℕ) (ds : List (Option ℕ)) (queue : List Reached) (h : ℕ) (p : Reached) → IsSoundSearch es b ds queue h → slice_get queue h ≡ Some p → ((x : State) (t : Side) → IsRouteStep es x t p.state → IsStateReached ds x) → IsSoundSearch es b ds queue (h + 1)
advanced es b ds queue h p s at all = record {
  told = s.told;
  queued = s.queued;
  routes = s.routes;
  ascend = s.ascend;
  near = λ i c q e f. let w = s.near i p q at f in let v = s.ascend h (h + 1) p c (omega arith) at e in omega (arith, w, v);
  closed = λ i q x t lt e step. elim (below_or_last i h lt) as (λ _. (k : ℕ) × (distance_at ds x ≡ Some k) × (k ≤ q.distance + 1)) [
    | inl less ↦ s.closed i q x t less e step
    | inr same ↦ let f : p ≡ q = same_Some p q (sym at ∙ ap (slice_get queue) (sym same) ∙ e) in
        let r = all x t (subst (λ (c : Reached). IsRouteStep es x t c.state) (sym f) step) in
        let w = s.queued x r.0 r.1 in
        let v = s.near w.0 p (record { state = x; distance = r.0 }) at w.1 in
        let d = ap (λ (c : Reached). c.distance) f in
        (r.0, r.1, omega (arith, v, d))
  ];
  small = s.small;
  count = s.count;
}

-- ---- the beginning and the end

pub empty_search : (es : List Door) (b n : ℕ) (ds : List (Option ℕ)) → ds ≡ replicate n None → IsSoundSearch es b ds [] 0
empty_search es b n ds e = record {
  told = λ i q f. absurd (no q i f);
  queued = λ x k f. absurd (none_some (distance_at ds x) k (ap (λ (z : List (Option ℕ)). distance_at z x) e ∙ slice_of_replicate n (state_place x)) f);
  routes = λ i q f. absurd (no q i f);
  ascend = λ i j p q le f g. absurd (no p i f);
  near = λ i p q f g. absurd (no q i g);
  closed = λ i q x t lt f step. absurd (no q i f);
  small = λ i q f. absurd (no q i f);
  count = subst (λ (z : List (Option ℕ)). count_by is_none z + 0 ≡ length z) (sym e) (all_none n);
}
  where
    no : (q : Reached) (i : ℕ) → slice_get (let none : List Reached = [] in none) i ≡ Some q → ⊥
    no q i f = cc

    all_none : (n : ℕ) → count_by is_none (replicate n (let none : Option ℕ = None in none)) + 0 ≡ length (replicate n (let none : Option ℕ = None in none))
    all_none zero = refl
    all_none (suc n) = let w = all_none n in let s = sum_by-cons (λ (o : Option ℕ). cond (is_none o) 1 0) None (replicate n None) in omega (arith, w, s)

first_above : (x : State) (ds ds' : List (Option ℕ)) (queue queue' : List Reached) → queue ≡ [] → IsStateNoted x 0 ds queue ds' queue' → (i : ℕ) (q : Reached) → slice_get queue' i ≡ Some q → q.distance ≤ 0
first_above x ds ds' queue queue' e (inl n) i q f = elim (pushed_at [] _ q i (ap (λ (z : List Reached). slice_get z i) (ap (λ (z : List Reached). z ++ (record { state = x; distance = 0 }) ∷ []) (sym e) ∙ sym n.2) ∙ f)) as (λ _. q.distance ≤ 0) [
  | inl g ↦ absurd (none_there i q g)
  | inr g ↦ let d = ap (λ (r : Reached). r.distance) g.1 in omega (arith, d)
]
  where
    none_there : (i : ℕ) (q : Reached) → slice_get (let none : List Reached = [] in none) i ≡ Some q → ⊥
    none_there i q f = cc
first_above x ds ds' queue queue' e (inr n) i q f = absurd (none_there i q (ap (λ (z : List Reached). slice_get z i) (sym e ∙ sym n.2) ∙ f))
  where
    none_there : (i : ℕ) (q : Reached) → slice_get (let none : List Reached = [] in none) i ≡ Some q → ⊥
    none_there i q f = cc

pub next_begun : (es : List Door) (b : ℕ) (queue : List Reached) (x : State) → x.sector ≡ b → ((i : ℕ) (q : Reached) → slice_get queue i ≡ Some q → q.distance ≤ 0) → IsNext es b queue 0 x 0
next_begun es b queue x e above = record { route = ([], e, refl); above = above; close = λ q f. omega arith; small = omega arith }

pub begun_search : (es : List Door) (b n : ℕ) (ds ds' ds'' : List (Option ℕ)) (queue queue' queue'' : List Reached) → b < n → ds ≡ replicate (n * 2) None → queue ≡ []
    → IsStateNoted (record { sector = b; spare = false }) 0 ds queue ds' queue' → IsStateNoted (record { sector = b; spare = true }) 0 ds' queue' ds'' queue'' → IsSoundSearch es b ds'' queue'' 0
begun_search es b n ds ds' ds'' queue queue' queue'' lt all none first second =
    let x : State = record { sector = b; spare = false } in
    let y : State = record { sector = b; spare = true } in
    let len : length ds ≡ n * 2 = ap length all ∙ length-replicate (n * 2) None in
    let len2 = noted_length ds ds' queue queue' x 0 first in
    let inside = below_place x n lt in
    let inside2 = below_place y n lt in
    let one = noted_search es b ds ds' queue queue' 0 x 0 (subst (λ (z : List Reached). IsSoundSearch es b ds z 0) (sym none) (empty_search es b (n * 2) ds all)) (next_begun es b queue x refl (λ i q f. absurd (nothing i q (ap (λ (z : List Reached). slice_get z i) (sym none) ∙ f)))) (fits (state_place x) (n * 2) (length ds) inside len) (omega arith) first in
    noted_search es b ds' ds'' queue' queue'' 0 y 0 one (next_begun es b queue' y refl (first_above x ds ds' queue queue' none first)) (fits (state_place y) (n * 2) (length ds') inside2 (len2 ∙ len)) (omega arith) second
  where
    nothing : (i : ℕ) (q : Reached) → slice_get (let none : List Reached = [] in none) i ≡ Some q → ⊥
    nothing i q f = cc

    fits : (p k l : ℕ) → p < k → l ≡ k → p < l
    fits p k l a e = omega (arith, a, e)

fewest : (es : List Door) (b : ℕ) (ds : List (Option ℕ)) (queue : List Reached) (h : ℕ) → IsSoundSearch es b ds queue h → IsSearchBegun b ds → length queue ≤ h → (x : State) (ss : List Side) → IsRoute es b x ss → (k : ℕ) × (distance_at ds x ≡ Some k) × (k ≤ length ss)
fewest es b ds queue h s begun past x [] e = (0, begun x e, omega arith)
fewest es b ds queue h s begun past x (t ∷ ss) (y, step, route) =
    let r = fewest es b ds queue h s begun past y ss route in
    let w = s.queued y r.0 r.1 in
    let lt = slice_get_within queue w.0 _ w.1 in
    let v = s.closed w.0 (record { state = y; distance = r.0 }) x t (omega (arith, lt, past)) w.1 step in
    let le = r.2 in
    let le2 = v.2 in
    (v.0, v.1, longer (length ss) r.0 v.0 le le2)
  where
    longer : (n j k : ℕ) → j ≤ n → k ≤ j + 1 → k ≤ suc n
    longer n j k a b = omega (arith, a, b)

pub distances_found : (es : List Door) (n b : ℕ) (ds : List (Option ℕ)) (queue : List Reached) (h : ℕ) → length ds ≡ n * 2 → IsSoundSearch es b ds queue h → IsSearchBegun b ds → length queue ≤ h → AreDistances es n b ds
distances_found es n b ds queue h len s begun past = record {
  len = len;
  routes = λ x k e. let w = s.queued x k e in s.routes w.0 (record { state = x; distance = k }) w.1;
  fewest = fewest es b ds queue h s begun past;
}

-- ---- the doors of the head's sector, one after the other

-- what is known when the doors before place n were passed
pub record IsSettling (es : List Door) (b : ℕ) (ds ds' : List (Option ℕ)) (queue : List Reached) (h : ℕ) (p : Reached) (found : List Door) (n : ℕ) : Type 0 where
  pub search : IsSoundSearch es b ds' queue h
  pub len : length ds' ≡ length ds
  pub kept : AreKept ds ds'
  pub at : slice_get queue h ≡ Some p
  pub reached : (k : ℕ) (e : Door) (x : State) → k < n → slice_get found k ≡ Some e → before_of e p.state.spare ≡ Some x → IsStateReached ds' x

pub settling_begun : (es : List Door) (b : ℕ) (ds : List (Option ℕ)) (queue : List Reached) (h : ℕ) (p : Reached) (found : List Door) → IsSoundSearch es b ds queue h → slice_get queue h ≡ Some p → IsSettling es b ds ds queue h p found 0
settling_begun es b ds queue h p found s at = record { search = s; len = refl; kept = λ x k e. e; at = at; reached = λ k e x lt. absurd (omega arith) }

pub settling_past : (es : List Door) (b : ℕ) (ds ds' : List (Option ℕ)) (queue : List Reached) (h : ℕ) (p : Reached) (found : List Door) (n : ℕ) (e : Door) → slice_get found n ≡ Some e → before_of e p.state.spare ≡ None
    → IsSettling es b ds ds' queue h p found n → IsSettling es b ds ds' queue h p found (n + 1)
settling_past es b ds ds' queue h p found n e got none w = record {
  search = w.search;
  len = w.len;
  kept = w.kept;
  at = w.at;
  reached = λ k f x lt there before. elim (below_or_last k n lt) as (λ _. IsStateReached ds' x) [
    | inl less ↦ w.reached k f x less there before
    | inr same ↦ absurd (none_some (before_of e p.state.spare) x none (ap (λ (d : Door). before_of d p.state.spare) (same_Some e f (sym got ∙ ap (slice_get found) (sym same) ∙ there)) ∙ before))
  ];
}

pub settling_noted : (es : List Door) → IsNet es → (b : ℕ) (ds ds' ds'' : List (Option ℕ)) (queue queue' : List Reached) (h : ℕ) (p : Reached) (found : List Door) (n : ℕ) (e : Door) (x : State)
    → slice_get found n ≡ Some e → Contains es e → e.from ≡ p.state.sector → before_of e p.state.spare ≡ Some x → state_place x < length ds' → IsStateNoted x (p.distance + 1) ds' queue ds'' queue'
    → IsSettling es b ds ds' queue h p found n → IsSettling es b ds ds'' queue' h p found (n + 1)
settling_noted es net b ds ds' ds'' queue queue' h p found n e x got there from before lt noted w =
    let keeps = noted_keeps ds' ds'' queue queue' x (p.distance + 1) lt noted in
    let le = slice_get_within queue h p w.at in
    record {
      search = noted_search es b ds' ds'' queue queue' h x (p.distance + 1) w.search (next_before es net b ds' queue h p e x w.search w.at there from before) lt (omega (arith, le)) noted;
      len = noted_length ds' ds'' queue queue' x (p.distance + 1) noted ∙ w.len;
      kept = λ y k f. keeps y k (w.kept y k f);
      at = noted_queue ds' ds'' queue queue' x (p.distance + 1) h p noted w.at;
      reached = λ k f y less there before2. elim (below_or_last k n less) as (λ _. IsStateReached ds'' y) [
        | inl l ↦ let r = w.reached k f y l there before2 in (r.0, keeps y r.0 r.1)
        | inr same ↦ let q : e ≡ f = same_Some e f (sym got ∙ ap (slice_get found) (sym same) ∙ there) in
            let z = same_Some x y (sym before ∙ ap (λ (d : Door). before_of d p.state.spare) q ∙ before2) in
            subst (IsStateReached ds'') z (noted_reached ds' ds'' queue queue' x (p.distance + 1) lt noted)
      ];
    }

pub all_settled : (es : List Door) → IsNet es → (b : ℕ) (ds ds' : List (Option ℕ)) (queue : List Reached) (h : ℕ) (p : Reached) (found : List Door) (n : ℕ) → AreDoorsFrom es p.state.sector found → length found ≤ n → IsSettling es b ds ds' queue h p found n → IsSoundSearch es b ds' queue (h + 1)
all_settled es net b ds ds' queue h p found n from past w = advanced es b ds' queue h p w.search w.at (λ x t step.
    let e = step_before es net x p.state t step in
    let c = (from e.0).1 (e.1, e.2) in
    let lt = c.1 in
    w.reached c.0 e.0 x (omega (arith, lt, past)) (get_of_contains found e.0 c.0 c.1 c.2) e.3)
