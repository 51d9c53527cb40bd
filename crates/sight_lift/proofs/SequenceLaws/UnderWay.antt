-- A walk under way: the stabbable sequences that it has opened, in order, and those that are due, under which all others are.
use Rattle.std.proofs.Common.{◌≡◌, ℕ, ◌<◌, ◌⊎◌, inl, inr, List, [], ◌∷◌, ◌++◌, length, slice_get, Contains, All, Option, Some, refl, sym, subst, arith}
use Rattle.std.proofs.lemmas.Option.{slice_get_within}
use Rattle.std.proofs.lemmas.List.Elements.{All-head, All-tail, Contains-append_left, Contains-push}
use Rattle.sight_names.specs.declared.names.Triangle.{Triangle}
use Rattle.sight_names.specs.Map.{Map}
use Rattle.sight_names.specs.Sequence.{Sequence, Portal, Left, Right, IsSequence, IsStabbable}
use Rattle.sight_names.specs.Found.{SequenceBefore, IsStabbableSequence, HasPlace}
use Rattle.sight_names.proofs.Lists.{contains_of_get, get_of_contains}
use Rattle.sight_names.specs.Order.{Ascends}
use Rattle.sight_names.proofs.OnePlace.{before_irreflexive, before_asymmetric, one_place}
use Rattle.sight_lift.specs.SequenceLaws.Ways.{both_ways_on}
use Rattle.sight_lift.proofs.SequenceLaws.Order.{IsUnder, IsUnderOne, under_itself, under_cases, under_on, before_under, left_before_right, stabbable_under, same_portals, no_longer}
use Rattle.math_base.proofs.Lists.{contains_pushed, pushed_at}

-- ---- lists

module _ (m : Map) (ts : List Triangle) (ls : List (Option ℕ)) (a : ℕ) where
  -- all that is under a sequence of the list comes before all that is under a later one
  abbrev pub AreApart : List Sequence → Type 0
  AreApart [] = Unit {0}
  AreApart (s ∷ ss) = ((t u : Sequence) → IsUnder s t → IsUnderOne ss u → SequenceBefore t u) × AreApart ss

  pub record IsUnderWay (opened due : List Sequence) : Type 0 where
    pub ascend : Ascends SequenceBefore opened
    pub each : (t : Sequence) → Contains opened t → IsStabbableSequence m ts ls a t
    pub places : (k : ℕ) (t : Sequence) → slice_get opened k ≡ Some t → HasPlace m ts ls a t k
    pub all : (t : Sequence) → IsStabbableSequence m ts ls a t → Contains opened t ⊎ IsUnderOne due t
    pub ahead : (s t : Sequence) → Contains opened s → IsUnderOne due t → SequenceBefore s t
    pub apart : AreApart due

  -- ---- what is due first is passed over

  -- nothing that is stabbable is under it
  pub passes : (opened : List Sequence) (s : Sequence) (rest : List Sequence) → IsUnderWay opened (s ∷ rest) → ¬ IsStabbableSequence m ts ls a s → IsUnderWay opened rest
  passes opened s rest h none = record {
    ascend = h.ascend;
    each = h.each;
    places = h.places;
    all = λ t is. elim (h.all t is) [
      | inl c ↦ inl c
      | inr (inl u) ↦ absurd (none (stabbable_under m ts ls a s t u is))
      | inr (inr u) ↦ inr u
    ];
    ahead = λ t u c under. h.ahead t u c (inr under);
    apart = h.apart.1;
  }

  pub passes_all : (opened skipped rest : List Sequence) → IsUnderWay opened (skipped ++ rest) → All (λ (s : Sequence). (ds : List Portal) → ¬ IsSequence m ts ls a s ds) skipped → IsUnderWay opened rest
  passes_all opened [] rest h none = h
  passes_all opened (s ∷ ss) rest h none =
      passes_all opened ss rest
      (passes opened s (ss ++ rest) h (λ is. All-head (λ (s : Sequence). (ds : List Portal) → ¬ IsSequence m ts ls a s ds) s ss none is.0 is.1))
      (All-tail (λ (s : Sequence). (ds : List Portal) → ¬ IsSequence m ts ls a s ds) s ss none)

  pub passes_blocked : (opened : List Sequence) (s : Sequence) (rest : List Sequence) → IsUnderWay opened (s ∷ rest) → (ps : List Portal) → IsSequence m ts ls a s ps → ¬ IsStabbable m ps → IsUnderWay opened rest
  passes_blocked opened s rest h ps is none =
      passes opened s rest h (λ q. none (subst (IsStabbable m) (same_portals m ts ls a s q.0 ps q.1 is) q.2))

  -- ---- the first that is due is opened

  module _ (opened : List Sequence) (s : Sequence) (rest : List Sequence) (h : IsUnderWay opened (s ∷ rest)) (is : IsStabbableSequence m ts ls a s) where
    -- it comes before all that is under what is due behind it
    before_rest : (t : Sequence) → IsUnderOne rest t → SequenceBefore s t
    before_rest t u = h.apart.0 s t (under_itself s) u

    -- as many stabbable sequences come before it as were opened
    pub place_now : HasPlace m ts ls a s (length opened)
    place_now = record {
      before = opened;
      count = refl;
      ascend = h.ascend;
      exactly = λ t. (
        λ c. (h.each t c, h.ahead t s c (inl (under_itself s))),
        λ k. elim (h.all t k.0) as (λ _. Contains opened t) [
          | inl c ↦ c
          | inr (inl u) ↦ absurd (elim (under_cases s t u) [
            | inl same ↦ before_irreflexive t (subst (λ (x : Sequence). SequenceBefore t x) same k.1)
            | inr (inl v) ↦ before_asymmetric t s k.1 (before_under s t Left v)
            | inr (inr v) ↦ before_asymmetric t s k.1 (before_under s t Right v)
          ])
          | inr (inr u) ↦ absurd (before_asymmetric t s k.1 (before_rest t u))
        ],
      );
    }

    under_ways : (t : Sequence) → IsUnderOne (both_ways_on s ++ rest) t → IsUnderOne (s ∷ rest) t × SequenceBefore s t
    under_ways t (inl v) = (inl (under_on s t Left v), before_under s t Left v)
    under_ways t (inr (inl v)) = (inl (under_on s t Right v), before_under s t Right v)
    under_ways t (inr (inr u)) = (inr u, before_rest t u)

    pub opens : IsUnderWay (opened ++ s ∷ []) (both_ways_on s ++ rest)
    opens = record {
      ascend = λ i j t u lt e f. elim (pushed_at opened s t i e) [
        | inl k ↦ elim (pushed_at opened s u j f) [
          | inl l ↦ h.ascend i j t u lt k l
          | inr l ↦ subst (SequenceBefore t) l.1 (h.ahead t s (contains_of_get opened t i k) (inl (under_itself s)))
        ]
        | inr k ↦ elim (pushed_at opened s u j f) [
          | inl l ↦ absurd (let w = slice_get_within opened j u l in let q = k.0 in omega arith)
          | inr l ↦ absurd (let p = k.0 in let q = l.0 in omega arith)
        ]
      ];
      each = λ t c. elim (contains_pushed opened s t c) as (λ _. IsStabbableSequence m ts ls a t) [ inl k ↦ h.each t k | inr e ↦ subst (IsStabbableSequence m ts ls a) e is ];
      places = λ k t e. elim (pushed_at opened s t k e) as (λ _. HasPlace m ts ls a t k) [
        | inl f ↦ h.places k t f
        | inr f ↦ subst (λ (n : ℕ). HasPlace m ts ls a t n) (sym f.0) (subst (λ (u : Sequence). HasPlace m ts ls a u (length opened)) f.1 place_now)
      ];
      all = λ t k. elim (h.all t k) as (λ _. Contains (opened ++ s ∷ []) t ⊎ IsUnderOne (both_ways_on s ++ rest) t) [
        | inl c ↦ inl (Contains-append_left opened (s ∷ []) t c)
        | inr (inl u) ↦ elim (under_cases s t u) as (λ _. Contains (opened ++ s ∷ []) t ⊎ IsUnderOne (both_ways_on s ++ rest) t) [
          | inl same ↦ inl (subst (Contains (opened ++ s ∷ [])) same (Contains-push opened s))
          | inr (inl v) ↦ inr (inl v)
          | inr (inr v) ↦ inr (inr (inl v))
        ]
        | inr (inr u) ↦ inr (inr (inr u))
      ];
      ahead = λ t u c k. elim (contains_pushed opened s t c) as (λ _. SequenceBefore t u) [
        | inl d ↦ h.ahead t u d (under_ways u k).0
        | inr e ↦ subst (λ (x : Sequence). SequenceBefore x u) e (under_ways u k).1
      ];
      apart = (
        λ t u v k. elim k as (λ _. SequenceBefore t u) [
          | inl w ↦ left_before_right s t u v w
          | inr w ↦ h.apart.0 t u (under_on s t Left v) w
        ],
        (λ t u v w. h.apart.0 t u (under_on s t Right v) w, h.apart.1),
      );
    }

  -- ---- what the places of what was opened tell

  module _ (opened due : List Sequence) (h : IsUnderWay opened due) where
    -- a stabbable sequence at a place below the number of those that were opened is one of these
    pub opened_of_place : (s : Sequence) (k : ℕ) → IsStabbableSequence m ts ls a s → HasPlace m ts ls a s k → k < length opened → Contains opened s
    opened_of_place s k is place lt = elim (h.all s is) [
      | inl c ↦ c
      | inr u ↦ absurd (
          let n = no_longer opened place.before h.ascend place.ascend (λ e c. (place.exactly e).1 (h.each e c, h.ahead e s c u)) in
          let f = place.count in
          omega arith
          )
    ]

    pub place_of_opened : (s : Sequence) → Contains opened s → (k : ℕ) × (k < length opened) × HasPlace m ts ls a s k
    place_of_opened s c = (c.0, c.1, h.places c.0 s (get_of_contains opened s c.0 c.1 c.2))

  -- ---- at the end

  -- with nothing due, what was opened is all
  pub all_opened : (opened : List Sequence) → IsUnderWay opened [] → (s : Sequence) → IsStabbableSequence m ts ls a s → Contains opened s
  all_opened opened h s is = elim (h.all s is) [ inl c ↦ c | inr u ↦ absurd u ]

  -- no stabbable sequence has a place that is as many as were opened, or more
  pub none_beyond : (opened : List Sequence) → IsUnderWay opened [] → (s : Sequence) (n : ℕ) → IsStabbableSequence m ts ls a s → HasPlace m ts ls a s n → n < length opened
  none_beyond opened h s n is place =
      let p = place_of_opened opened [] h s (all_opened opened h s is) in
      subst (λ (k : ℕ). k < length opened) (one_place m ts ls a s p.0 n p.2 place) p.1
