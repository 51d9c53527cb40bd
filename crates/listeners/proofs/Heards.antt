-- What listeners heard of findings that were told one after another.
use Rattle.std.proofs.Common.{◌≡◌, ◌∙◌, ℕ, suc, ◌+◌, ◌<◌, inl, inr, Bool, true, false, cond, ◌&&◌, ◌||◌, ◌==◌, not, List, [], ◌∷◌, ◌++◌, take, Option, Some, None, filter, refl, sym, ap, subst, arith, append_assoc}
use Rattle.std.specs.Prelude.{nat_lt, nat_le}
use Rattle.std.specs.List.{AllZip}
use Rattle.std.proofs.lemmas.List.{append-nil}
use Rattle.std.proofs.lemmas.List.Sums.{sum_by-cons}
use Rattle.std.proofs.lemmas.Bool.Decides.{nat_tests}
use Rattle.math_base.proofs.Bools.{first_false, second_false}
use Rattle.math_base.proofs.Numbers.{below_or_not, same_or_below, tells_below, tells_not_below, tells_other, tells_same}
use Rattle.listeners.specs.declared.finding.Finding.{Finding}
use Rattle.listeners.specs.Listening.{ListenerState, is_quota, is_set_kind, sets_in}
use Rattle.listeners.specs.Told.{AreFindingsTold, AreToldInTurn, HeardFront, HeardFronts, HeardMore, IsFindingTold, StopsAmong, TellsAllFindings, TellsInPart, ends_among, ends_with, ends_within, texts}
use Rattle.listeners.proofs.InTurn.{one_more}

heard_both : (fs gs : List Finding) (s t u : ListenerState) → HeardMore fs s t → HeardMore gs t u → HeardMore (fs ++ gs) s u
heard_both fs gs s t u h k = record {
  heard = k.heard ∙ ap (λ (l : List Finding). l ++ gs) h.heard ∙ append_assoc s.heard fs gs;
  writes = k.writes ∙ h.writes;
  quota = k.quota ∙ h.quota;
}

heard_none : (s : ListenerState) → HeardMore [] s s
heard_none s = record { heard = sym (append-nil s.heard); writes = refl; quota = refl }

-- ---- whether a listener ends: at the first finding, or among the others

-- a set pair more
tests_more : (n m k s t : ℕ) → m ≡ n + 1 → s ≡ 1 + t → (nat_lt n k && nat_le k (n + s)) ≡ ((m == k) || (nat_lt m k && nat_le k (m + t)))
tests_more n m k s t e f = elim (below_or_not n k) [
  | inl lt ↦ elim (same_or_below m k (omega arith)) [
    | inl is ↦ ap (λ (b : Bool). b && nat_le k (n + s)) (tells_below n k lt) ∙ within is ∙ sym (ap (λ (b : Bool). b || (nat_lt m k && nat_le k (m + t))) (tells_same m k is))
    | inr more ↦ ap (λ (b : Bool). b && nat_le k (n + s)) (tells_below n k lt) ∙ ap (λ (l : ℕ). nat_le k l) sum
        ∙ sym (ap (λ (b : Bool). b || (nat_lt m k && nat_le k (m + t))) (tells_other m k (λ is. omega arith)) ∙ ap (λ (b : Bool). b && nat_le k (m + t)) (tells_below m k more))
  ]
  | inr le ↦ ap (λ (b : Bool). b && nat_le k (n + s)) (tells_not_below n k le)
      ∙ sym (ap (λ (b : Bool). b || (nat_lt m k && nat_le k (m + t))) (tells_other m k (λ is. omega arith)) ∙ ap (λ (b : Bool). b && nat_le k (m + t)) (tells_not_below m k (omega arith)))
]
  where
    sum : n + s ≡ m + t
    sum = omega arith

    within : m ≡ k → nat_le k (n + s) ≡ true
    within is = grind (arith, nat_tests)

ends_by : (b : Bool) (q : Option ℕ) (f : Finding) (fs : List Finding) (n m : ℕ) → m ≡ n + cond b 1 0 → sets_in (f ∷ fs) ≡ cond b 1 0 + sets_in fs → ends_within (f ∷ fs) q n ≡ ((b && is_quota q m) || ends_within fs q m)
ends_by true None f fs n m e s = refl
ends_by false None f fs n m e s = refl
ends_by true (Some k) f fs n m e s = tests_more n m k (sets_in (f ∷ fs)) (sets_in fs) e s
ends_by false (Some k) f fs n m e s =
    let none : m ≡ n = omega arith in
    let same : sets_in (f ∷ fs) ≡ sets_in fs = omega arith in
    ap (λ (l : ℕ). nat_lt n k && nat_le k (n + l)) same ∙ ap (λ (l : ℕ). nat_lt l k && nat_le k (l + sets_in fs)) (sym none)

ends_first : (f : Finding) (fs : List Finding) (s t : ListenerState) → HeardMore (f ∷ []) s t → ends_among (f ∷ fs) s ≡ (ends_with f t || ends_among fs t)
ends_first f fs s t h =
    ends_by (is_set_kind f.kind) s.quota f fs (sets_in s.heard) (sets_in t.heard) (ap sets_in h.heard ∙ one_more s.heard f) (sum_by-cons (λ g. cond (is_set_kind g.kind) 1 0) f fs)
    ∙ ap (λ (q : Option ℕ). (is_set_kind f.kind && is_quota q (sets_in t.heard)) || ends_within fs q (sets_in t.heard)) (sym h.quota)

no_end : (q : Option ℕ) (n : ℕ) → ends_within [] q n ≡ false
no_end None n = refl
no_end (Some k) n = elim (below_or_not n k) [
  | inl lt ↦ ap (λ (b : Bool). b && nat_le k (n + 0)) (tells_below n k lt) ∙ above lt
  | inr le ↦ ap (λ (b : Bool). b && nat_le k (n + 0)) (tells_not_below n k le)
]
  where
    above : n < k → nat_le k (n + 0) ≡ false
    above lt = grind (arith, nat_tests)

-- ---- those that are left heard all findings more

left_none : (ss : List ListenerState) → AllZip (HeardMore []) (filter (λ s. not (ends_among [] s)) ss) ss
left_none [] = tt
left_none (s ∷ ss) =
    subst (λ (b : Bool). AllZip (HeardMore []) (cond (not b) (s ∷ filter (λ t. not (ends_among [] t)) ss) (filter (λ t. not (ends_among [] t)) ss)) (s ∷ ss)) (sym (no_end s.quota (sets_in s.heard))) (heard_none s, left_none ss)

left_step : (f : Finding) (fs : List Finding) (s t : ListenerState) (ss ts : List ListenerState) (c : Bool) → HeardMore (f ∷ []) s t → ((ys : List ListenerState) → AllZip (HeardMore fs) ts ys → AllZip (HeardMore (f ∷ fs)) ss ys)
    → (ys : List ListenerState) → AllZip (HeardMore fs) (cond (not c) (t ∷ ts) ts) ys → AllZip (HeardMore (f ∷ fs)) (cond (not c) (s ∷ ss) ss) ys
left_step f fs s t ss ts true more others ys h = others ys h
left_step f fs s t ss ts false more others [] h = absurd h
left_step f fs s t ss ts false more others (y ∷ ys) h = (heard_both (f ∷ []) fs s t y more h.0, others ys h.1)

left_case : (f : Finding) (fs : List Finding) (s t : ListenerState) (ss rest : List ListenerState) (b : Bool) → HeardMore (f ∷ []) s t
    → ((ys : List ListenerState) → AllZip (HeardMore fs) (filter (λ u. not (ends_among fs u)) rest) ys → AllZip (HeardMore (f ∷ fs)) ss ys)
    → (ys : List ListenerState) → AllZip (HeardMore fs) (filter (λ u. not (ends_among fs u)) (cond (not b) (t ∷ rest) rest)) ys → AllZip (HeardMore (f ∷ fs)) (cond (not (b || ends_among fs t)) (s ∷ ss) ss) ys
left_case f fs s t ss rest true more others ys h = others ys h
left_case f fs s t ss rest false more others ys h = left_step f fs s t ss (filter (λ u. not (ends_among fs u)) rest) (ends_among fs t) more others ys h

left_more : (f : Finding) (fs : List Finding) (before told after : List ListenerState) → AllZip (HeardMore (f ∷ [])) before told
    → AllZip (HeardMore fs) (filter (λ s. not (ends_among fs s)) (filter (λ s. not (ends_with f s)) told)) after → AllZip (HeardMore (f ∷ fs)) (filter (λ s. not (ends_among (f ∷ fs) s)) before) after
left_more f fs [] [] [] each h = tt
left_more f fs [] [] (y ∷ ys) each h = absurd h
left_more f fs [] (t ∷ ts) after each h = absurd each
left_more f fs (s ∷ ss) [] after each h = absurd each
left_more f fs (s ∷ ss) (t ∷ ts) after each h =
    subst (λ (b : Bool). AllZip (HeardMore (f ∷ fs)) (cond (not b) (s ∷ filter (λ u. not (ends_among (f ∷ fs) u)) ss) (filter (λ u. not (ends_among (f ∷ fs) u)) ss)) after) (sym (ends_first f fs s t each.0))
    (left_case f fs s t (filter (λ u. not (ends_among (f ∷ fs) u)) ss) (filter (λ u. not (ends_with f u)) ts) (ends_with f t) each.0 (λ ys k. left_more f fs ss ts ys each.1 k) after h)

left_in_turn : (fs : List Finding) (before after ended : List ListenerState) → AreToldInTurn fs before after ended → AllZip (HeardMore fs) (filter (λ s. not (ends_among fs s)) before) after
left_in_turn [] before after ended h = subst (λ (l : List ListenerState). AllZip (HeardMore []) (filter (λ s. not (ends_among [] s)) before) l) (sym h.0) (left_none before)
left_in_turn (f ∷ fs) before after ended h =
    let told : IsFindingTold f before h.0 h.1 = h.3 in
    left_more f fs before told.told after told.each
    (subst (λ (l : List ListenerState). AllZip (HeardMore fs) (filter (λ s. not (ends_among fs s)) l) after) told.left_is (left_in_turn fs h.0 after h.2 h.4))

-- ---- where the findings have no last set pair of a listener, none ended

none_kept : (b : Bool) (s : ListenerState) (ss : List ListenerState) → cond b (s ∷ ss) ss ≡ [] → (b ≡ false) × (ss ≡ [])
none_kept true s ss e = absurd cc
none_kept false s ss e = (refl, e)

none_step : (f : Finding) (fs : List Finding) (t : ListenerState) (ts : List ListenerState) → ends_with f t ≡ false → ends_among fs t ≡ false
    → (filter (ends_with f) ts ≡ []) × (filter (ends_among fs) (filter (λ u. not (ends_with f u)) ts) ≡ []) → (filter (ends_with f) (t ∷ ts) ≡ []) × (filter (ends_among fs) (filter (λ u. not (ends_with f u)) (t ∷ ts)) ≡ [])
none_step f fs t ts e g others =
    let rest = filter (λ (u : ListenerState). not (ends_with f u)) ts in (
      ap (λ (b : Bool). cond b (t ∷ filter (ends_with f) ts) (filter (ends_with f) ts)) e ∙ others.0,
      ap (λ (b : Bool). filter (ends_among fs) (cond (not b) (t ∷ rest) rest)) e ∙ ap (λ (b : Bool). cond b (t ∷ filter (ends_among fs) rest) (filter (ends_among fs) rest)) g ∙ others.1,
    )

none_first : (f : Finding) (fs : List Finding) (before told : List ListenerState) → AllZip (HeardMore (f ∷ [])) before told → filter (ends_among (f ∷ fs)) before ≡ []
    → (filter (ends_with f) told ≡ []) × (filter (ends_among fs) (filter (λ s. not (ends_with f s)) told) ≡ [])
none_first f fs [] [] each e = (refl, refl)
none_first f fs [] (t ∷ ts) each e = absurd each
none_first f fs (s ∷ ss) [] each e = absurd each
none_first f fs (s ∷ ss) (t ∷ ts) each e =
    let k = none_kept (ends_among (f ∷ fs) s) s (filter (ends_among (f ∷ fs)) ss) e in
    let both : (ends_with f t || ends_among fs t) ≡ false = sym (ends_first f fs s t each.0) ∙ k.0 in
    none_step f fs t ts (first_false (ends_with f t) (ends_among fs t) both) (second_false (ends_with f t) (ends_among fs t) both) (none_first f fs ss ts each.1 k.1)

none_in_turn : (fs : List Finding) (before after ended : List ListenerState) → AreToldInTurn fs before after ended → filter (ends_among fs) before ≡ [] → ended ≡ []
none_in_turn [] before after ended h e = h.1
none_in_turn (f ∷ fs) before after ended h e =
    let told : IsFindingTold f before h.0 h.1 = h.3 in
    let k = none_first f fs before told.told told.each e in
    let others : h.2 ≡ [] = none_in_turn fs h.0 after h.2 h.4 (ap (filter (ends_among fs)) told.left_is ∙ k.1) in
    h.5 ∙ ap (λ (l : List ListenerState). l ++ h.2) (told.ended_is ∙ k.0) ∙ others

-- the findings were told in turn, and nobody had ended before: so these were told
pub are_told : (fs : List Finding) (old new ended_old ended_new : List ListenerState) → ended_old ≡ [] → TellsAllFindings fs old new ended_old ended_new → AreFindingsTold fs old new (texts ended_new ++ texts new)
are_told fs old new ended_old ended_new nobody h = record {
  left = left_in_turn fs old new h.ended h.told;
  first = texts ended_new;
  none = λ e. ap texts (h.ended_is ∙ ap (λ (l : List ListenerState). l ++ h.ended) nobody ∙ none_in_turn fs old new h.ended h.told e);
  report_is = refl;
}

-- ---- fronts

fronts_skip : (fs : List Finding) (s : ListenerState) (ss ts : List ListenerState) → HeardFronts fs ss ts → HeardFronts fs (s ∷ ss) ts
fronts_skip fs s ss [] h = h
fronts_skip fs s ss (t ∷ ts) h = inr h

fronts_none : (fs : List Finding) (ss : List ListenerState) → HeardFronts fs ss ss
fronts_none fs [] = tt
fronts_none fs (s ∷ ss) = inl ((0, heard_none s), fronts_none fs ss)

-- one listener more in front, which heard the first finding
fronts_step : (f : Finding) (rest : List Finding) (s t : ListenerState) (ss ts : List ListenerState) (b : Bool) → HeardMore (f ∷ []) s t → HeardFronts (f ∷ rest) ss ts → HeardFronts (f ∷ rest) (s ∷ ss) (cond (not b) (t ∷ ts) ts)
fronts_step f rest s t ss ts true more h = fronts_skip (f ∷ rest) s ss ts h
fronts_step f rest s t ss ts false more h = inl ((1, more), h)

split_first : (b : Bool) (t : ListenerState) (ts behind : List ListenerState) → cond (not b) (t ∷ ts) ts ++ behind ≡ cond (not b) (t ∷ (ts ++ behind)) (ts ++ behind)
split_first true t ts behind = refl
split_first false t ts behind = refl

-- those in front heard the first finding, those behind nothing
fronts_in_part : (f : Finding) (rest : List Finding) (front told behind : List ListenerState) → AllZip (HeardMore (f ∷ [])) front told → HeardFronts (f ∷ rest) (front ++ behind) (filter (λ s. not (ends_with f s)) told ++ behind)
fronts_in_part f rest [] [] behind each = fronts_none (f ∷ rest) behind
fronts_in_part f rest [] (t ∷ ts) behind each = absurd each
fronts_in_part f rest (s ∷ ss) [] behind each = absurd each
fronts_in_part f rest (s ∷ ss) (t ∷ ts) behind each =
    let left = filter (λ (u : ListenerState). not (ends_with f u)) ts in
    subst (λ (l : List ListenerState). HeardFronts (f ∷ rest) (s ∷ (ss ++ behind)) l) (sym (split_first (ends_with f t) t left behind))
    (fronts_step f rest s t (ss ++ behind) (left ++ behind) (ends_with f t) each.0 (fronts_in_part f rest ss ts behind each.1))

front_more : (f : Finding) (fs : List Finding) (s t u : ListenerState) → HeardMore (f ∷ []) s t → HeardFront fs t u → HeardFront (f ∷ fs) s u
front_more f fs s t u h k = (suc k.0, heard_both (f ∷ []) (take k.0 fs) s t u h k.1)

fronts_case : (f : Finding) (fs : List Finding) (s t : ListenerState) (ss ts : List ListenerState) (b : Bool) → HeardMore (f ∷ []) s t → ((ys : List ListenerState) → HeardFronts fs ts ys → HeardFronts (f ∷ fs) ss ys)
    → (ys : List ListenerState) → HeardFronts fs (cond (not b) (t ∷ ts) ts) ys → HeardFronts (f ∷ fs) (s ∷ ss) ys
fronts_case f fs s t ss ts true more others ys h = fronts_skip (f ∷ fs) s ss ys (others ys h)
fronts_case f fs s t ss ts false more others [] h = others [] h
fronts_case f fs s t ss ts false more others (y ∷ ys) h = elim h [ inl k ↦ inl (front_more f fs s t y more k.0, others ys k.1) | inr k ↦ inr (others (y ∷ ys) k) ]

fronts_more : (f : Finding) (fs : List Finding) (before told after : List ListenerState) → AllZip (HeardMore (f ∷ [])) before told → HeardFronts fs (filter (λ s. not (ends_with f s)) told) after → HeardFronts (f ∷ fs) before after
fronts_more f fs [] [] [] each h = tt
fronts_more f fs [] [] (y ∷ ys) each h = absurd h
fronts_more f fs [] (t ∷ ts) after each h = absurd each
fronts_more f fs (s ∷ ss) [] after each h = absurd each
fronts_more f fs (s ∷ ss) (t ∷ ts) after each h = fronts_case f fs s t ss (filter (λ u. not (ends_with f u)) ts) (ends_with f t) each.0 (λ ys k. fronts_more f fs ss ts ys each.1 k) after h

fronts_in_turn : (fs gs : List Finding) (before between after ended : List ListenerState) → AreToldInTurn fs before between ended → HeardFronts gs between after → HeardFronts (fs ++ gs) before after
fronts_in_turn [] gs before between after ended h k = subst (λ (l : List ListenerState). HeardFronts gs l after) h.0 k
fronts_in_turn (f ∷ fs) gs before between after ended h k =
    let told : IsFindingTold f before h.0 h.1 = h.3 in
    fronts_more f (fs ++ gs) before told.told after told.each
    (subst (λ (l : List ListenerState). HeardFronts (fs ++ gs) l after) told.left_is (fronts_in_turn fs gs h.0 between after h.2 h.4 k))

fronts_at : (f : Finding) (rest : List Finding) (old new ended_old ended_new : List ListenerState) → TellsInPart f old new ended_old ended_new → HeardFronts (f ∷ rest) old new
fronts_at f rest old new ended_old ended_new h =
    let part = h.told in
    let told : IsFindingTold f part.front part.stay h.ended = part.told in
    subst (λ (l : List ListenerState). HeardFronts (f ∷ rest) l new) (sym part.is)
    (subst (λ (l : List ListenerState). HeardFronts (f ∷ rest) (part.front ++ part.behind) l) (sym (part.left_is ∙ ap (λ (l : List ListenerState). l ++ part.behind) told.left_is))
    (fronts_in_part f rest part.front told.told part.behind told.each))

-- where memory ran out among the findings, each listener that is left heard a front of them
pub heard_fronts : (fs : List Finding) (old new ended_old ended_new : List ListenerState) → StopsAmong fs old new ended_old ended_new → HeardFronts fs old new
heard_fronts fs old new ended_old ended_new h =
    subst (λ (l : List Finding). HeardFronts l old new) (sym h.is)
    (fronts_in_turn h.done (h.at ∷ h.rest) old h.between new h.told.ended h.told.told (fronts_at h.at h.rest h.between new h.ended_between ended_new h.in_part))
