-- Routes through the doors of a map are its noise paths.
use Rattle.std.proofs.Common.{◌≡◌, ℕ, ◌+◌, ◌≤◌, inl, inr, List, [], ◌∷◌, ◌++◌, length, Option, Some, None, Bool, true, false, not, ◌&&◌, cond, refl, sym, ap, ◌∙◌, subst, arith}
use Rattle.std.specs.List.{count_by}
use Rattle.std.proofs.lemmas.List.Sums.{sum_by-cons, sum_by-append}
use Rattle.std.proofs.lemmas.Option.{same_Some}
use Rattle.sight_names.specs.declared.names.Side.{Side}
use Rattle.sight_names.specs.Map.{Map, MapLine, sector_on}
use Rattle.sight_names.specs.Noise.{IsNoiseHeard, IsFirstNoisePath, IsNoisePath, LeadsAcross, LeadThrough, is_damped}
use Rattle.sound_reach.specs.declared.doors.Door.{Door}
use Rattle.sound_reach.specs.declared.state.State.{State}
use Rattle.sound_reach.specs.State.{after_of}
use Rattle.sound_reach.specs.Doors.{AreDoors, IsNet, turned_door, turned_side}
use Rattle.sound_reach.specs.Routes.{AreDistances, IsRoute, IsRouteStep, distance_at}
use Rattle.sound_reach.specs.Steps.{IsFirstRoute}
use Rattle.math_base.proofs.Options.{none_is_not_some}
use Rattle.math_base.proofs.Numbers.{same_or_not}
use Rattle.sound_reach.proofs.Lookups.{none_some}

-- ---- the two sides of a line

twice : (l : MapLine) (b : Bool) (a : ℕ) → sector_on l b ≡ Some a → sector_on l (not (not b)) ≡ Some a
twice l true a e = e
twice l false a e = e

pub leads_back : (m : Map) (s : Side) (a b : ℕ) → LeadsAcross m s a b → LeadsAcross m (turned_side s) b a
leads_back m s a b (l, at, passable, one, other) = (l, at, passable, other, twice l s.left a one)

pub leads_one : (m : Map) (s : Side) (a b c d : ℕ) → LeadsAcross m s a b → LeadsAcross m s c d → (a ≡ c) × (b ≡ d)
leads_one m s a b c d (l, at, passable, one, other) (k, at2, passable2, one2, other2) =
    let e = same_Some l k (sym at ∙ at2) in
    (same_Some a c (sym one ∙ ap (λ (z : MapLine). sector_on z s.left) e ∙ one2), same_Some b d (sym other ∙ ap (λ (z : MapLine). sector_on z (not s.left)) e ∙ other2))

pub doors_net : (m : Map) (d : List Bool) (es : List Door) → AreDoors m d es → IsNet es
doors_net m d es are = record {
  both = λ e c. let w = (are e).0 c in (are (turned_door e)).1 (record { leads = leads_back m e.side e.from e.to w.leads; damped = w.damped });
  one = λ e f c k same. let w = (are e).0 c in let v = (are f).0 k in
      let ends = leads_one m f.side e.from e.to f.from f.to (subst (λ (s : Side). LeadsAcross m s e.from e.to) same w.leads) v.leads in
      let damped = w.damped ∙ ap (is_damped d) same ∙ sym v.damped in
      λ i. record { from = ends.0 i; side = same i; to = ends.1 i; damped = damped i };
}

-- ---- routes and paths

-- how many lines that block sound may still be passed
abbrev pub allowance : Bool → ℕ
allowance true = 1
allowance false = 0

more_damped : (d : List Bool) (s : Side) (ss : List Side) (b : Bool) → is_damped d s ≡ b → count_by (is_damped d) (s ∷ ss) ≡ cond b 1 0 + count_by (is_damped d) ss
more_damped d s ss b e = sum_by-cons (λ (t : Side). cond (is_damped d t) 1 0) s ss ∙ ap (λ (c : Bool). cond c 1 0 + count_by (is_damped d) ss) e

module _ (m : Map) (d : List Bool) (es : List Door) (are : AreDoors m d es) where
  step_leads : (x y : State) (s : Side) → IsRouteStep es x s y → LeadsAcross m s x.sector y.sector × (cond (is_damped d s) 1 0 + allowance y.spare ≤ allowance x.spare)
  step_leads x y s step =
      let w = (are step.door).0 step.there in
      let r = at step.door.damped x.spare step.behind in (
        subst (λ (c : ℕ). LeadsAcross m s c y.sector) step.from (subst (λ (c : ℕ). LeadsAcross m s step.door.from c) (sym r.0) (subst (λ (t : Side). LeadsAcross m t step.door.from step.door.to) step.side w.leads)),
        subst (λ (c : Bool). cond c 1 0 + allowance y.spare ≤ allowance x.spare) (w.damped ∙ ap (is_damped d) step.side) r.1,
      )
    where
      fits : (z : State) (b k : Bool) (n : ℕ) → z ≡ y → cond b 1 0 + allowance z.spare ≤ n → (y.sector ≡ z.sector) × (cond b 1 0 + allowance y.spare ≤ n)
      fits z b k n e le = (sym (ap (λ (c : State). c.sector) e), subst (λ (c : State). cond b 1 0 + allowance c.spare ≤ n) e le)

      at : (b k : Bool) → after_of (record { from = step.door.from; side = step.door.side; to = step.door.to; damped = b }) k ≡ Some y → (y.sector ≡ step.door.to) × (cond b 1 0 + allowance y.spare ≤ allowance k)
      at true false h = absurd (none_is_not_some y h)
      at true true h = fits (record { sector = step.door.to; spare = false }) true true 1 (same_Some _ y h) (omega arith)
      at false true h = fits (record { sector = step.door.to; spare = true }) false true 1 (same_Some _ y h) (omega arith)
      at false false h = fits (record { sector = step.door.to; spare = false }) false false 0 (same_Some _ y h) (omega arith)

  pub route_leads : (b : ℕ) (x : State) (ss : List Side) → IsRoute es b x ss → LeadThrough m x.sector ss b × (count_by (is_damped d) ss ≤ allowance x.spare)
  route_leads b x [] e = (e, at x.spare)
    where
      at : (k : Bool) → 0 ≤ allowance k
      at k = omega arith
  route_leads b x (s ∷ ss) (y, step, route) =
      let w = step_leads x y s step in
      let r = route_leads b y ss route in
      ((y.sector, w.0, r.0), fits (count_by (is_damped d) (s ∷ ss)) (count_by (is_damped d) ss) (cond (is_damped d s) 1 0) (allowance y.spare) (allowance x.spare) (more_damped d s ss (is_damped d s) refl) w.1 r.1)
    where
      fits : (all rest one k n : ℕ) → all ≡ one + rest → one + k ≤ n → rest ≤ k → all ≤ n
      fits all rest one k n e f g = omega (arith, e, f, g)

  pub leads_route : (a b : ℕ) (k : Bool) (ss : List Side) → LeadThrough m a ss b → count_by (is_damped d) ss ≤ allowance k → IsRoute es b (record { sector = a; spare = k }) ss
  leads_route a b k [] e le = e
  leads_route a b k (s ∷ ss) (c, leads, rest) le = at (λ j h. leads_route c b j ss rest h) (is_damped d s) k refl le
    where
      step : (dm k : Bool) → is_damped d s ≡ dm → after_of (record { from = a; side = s; to = c; damped = dm }) k ≡ Some (record { sector = c; spare = k && not dm }) → IsRouteStep es (record { sector = a; spare = k }) s (record { sector = c; spare = k && not dm })
      step dm k e behind = record {
        door = record { from = a; side = s; to = c; damped = dm };
        there = (are (record { from = a; side = s; to = c; damped = dm })).1 (record { leads = leads; damped = sym e });
        from = refl;
        side = refl;
        behind = behind;
      }

      rest_fits : (dm : Bool) (n : ℕ) → is_damped d s ≡ dm → count_by (is_damped d) (s ∷ ss) ≤ n → cond dm 1 0 + count_by (is_damped d) ss ≤ n
      rest_fits dm n e le = subst (λ (j : ℕ). j ≤ n) (more_damped d s ss dm e) le

      at : ((j : Bool) → count_by (is_damped d) ss ≤ allowance j → IsRoute es b (record { sector = c; spare = j }) ss) → (dm k : Bool) → is_damped d s ≡ dm → count_by (is_damped d) (s ∷ ss) ≤ allowance k → IsRoute es b (record { sector = a; spare = k }) (s ∷ ss)
      at on true true e le = let f = rest_fits true 1 e le in (record { sector = c; spare = false }, step true true e refl, on false (omega (arith, f)))
      at on true false e le = let f = rest_fits true 0 e le in absurd (omega (arith, f))
      at on false true e le = let f = rest_fits false 1 e le in (record { sector = c; spare = true }, step false true e refl, on true (omega (arith, f)))
      at on false false e le = let f = rest_fits false 0 e le in (record { sector = c; spare = false }, step false false e refl, on false (omega (arith, f)))

  noise_route : (a b : ℕ) (ss : List Side) → IsNoisePath m d a b ss → IsRoute es b (record { sector = a; spare = true }) ss
  noise_route a b ss path = leads_route a b true ss path.lead path.damped

  pub not_heard : (n a b : ℕ) (ds : List (Option ℕ)) → AreDistances es n b ds → distance_at ds (record { sector = a; spare = true }) ≡ None → ¬ IsNoiseHeard m d a b
  not_heard n a b ds is none (ss, path) =
      let w = is.fewest (record { sector = a; spare = true }) ss (noise_route a b ss path) in
      none_some (distance_at ds (record { sector = a; spare = true })) w.0 none w.1

  pub first_noise : (n a b k : ℕ) (ds : List (Option ℕ)) (ss : List Side) → AreDistances es n b ds → distance_at ds (record { sector = a; spare = true }) ≡ Some k → length ss ≡ k → IsFirstRoute es b (record { sector = a; spare = true }) ss → IsFirstNoisePath m d a b ss
  first_noise n a b k ds ss is at len first =
      let r = route_leads b (record { sector = a; spare = true }) ss first.route in record {
        path = record { lead = r.0; damped = r.1; alone = λ e. let w = is.fewest (record { sector = a; spare = true }) [] e in let same = same_Some k w.0 (sym at ∙ w.1) in let le = w.2 in empty ss (omega (arith, same, le, len)) };
        fewest = λ other path. let w = is.fewest (record { sector = a; spare = true }) other (noise_route a b other path) in let same = same_Some k w.0 (sym at ∙ w.1) in let le = w.2 in omega (arith, same, le, len);
        first = λ other path e. first.first other (noise_route a b other path) e;
      }
    where
      empty : (ss : List Side) → length ss ≡ 0 → ss ≡ []
      empty [] e = refl
      empty (s ∷ ss) e = absurd (omega (arith, e))

-- ---- paths joined and turned

pub lead_joined : (m : Map) (a b c : ℕ) (ss ts : List Side) → LeadThrough m a ss b → LeadThrough m b ts c → LeadThrough m a (ss ++ ts) c
lead_joined m a b c [] ts e h = subst (λ (k : ℕ). LeadThrough m k ts c) (sym e) h
lead_joined m a b c (s ∷ ss) ts (k, leads, rest) h = (k, leads, lead_joined m k b c ss ts rest h)

pub back : List Side → List Side
back [] = []
back (s ∷ ss) = back ss ++ turned_side s ∷ []

pub lead_back : (m : Map) (a b : ℕ) (ss : List Side) → LeadThrough m a ss b → LeadThrough m b (back ss) a
unfolding back
lead_back m a b [] e = sym e
lead_back m a b (s ∷ ss) (k, leads, rest) = lead_joined m b k a (back ss) (turned_side s ∷ []) (lead_back m k b ss rest) (a, leads_back m s a k leads, refl)

pub count_joined : (d : List Bool) (ss ts : List Side) → count_by (is_damped d) (ss ++ ts) ≡ count_by (is_damped d) ss + count_by (is_damped d) ts
count_joined d ss ts = sum_by-append (λ (t : Side). cond (is_damped d t) 1 0) ss ts

pub count_back : (d : List Bool) (ss : List Side) → count_by (is_damped d) (back ss) ≡ count_by (is_damped d) ss
unfolding back
count_back d [] = refl
count_back d (s ∷ ss) =
    let a = count_joined d (back ss) (turned_side s ∷ []) in
    let b = more_damped d (turned_side s) [] (is_damped d s) refl in
    let c = more_damped d s ss (is_damped d s) refl in
    let e = count_back d ss in
    sums (count_by (is_damped d) (back ss ++ turned_side s ∷ [])) (count_by (is_damped d) (back ss)) (count_by (is_damped d) (turned_side s ∷ [])) (cond (is_damped d s) 1 0) (count_by (is_damped d) (s ∷ ss)) (count_by (is_damped d) ss) a b c e
  where
    sums : (x y z o w v : ℕ) → x ≡ y + z → z ≡ o + 0 → w ≡ o + v → y ≡ v → x ≡ w
    sums x y z o w v a b c e = omega (arith, a, b, c, e)

pub heard_through : (m : Map) (d : List Bool) (a b : ℕ) (ss : List Side) → LeadThrough m a ss b → count_by (is_damped d) ss ≤ 1 → IsNoiseHeard m d a b
heard_through m d a b ss lead le = elim (same_or_not a b) as (λ _. IsNoiseHeard m d a b) [
  | inl e ↦ ([], record { lead = e; damped = omega arith; alone = λ f. refl })
  | inr n ↦ (ss, record { lead = lead; damped = le; alone = λ e. absurd (n e) })
]
