-- What is left of a list of pairs, a pair on and a row on.
use Rattle.std.proofs.Common.{◌≡◌, ◌∙◌, ℕ, zero, suc, ◌+◌, ◌<◌, ◌⊎◌, inl, inr, ◌==◌, ◌||◌, Bool, true, false, List, [], ◌∷◌, drop, refl, sym, ap, subst, arith}
use Rattle.std.specs.List.{AllByRecursion}
use Rattle.math_base.proofs.Bools.{both_true, false_where_not_true, first_true, not_both_values, second_true, true_by_first}
use Rattle.math_base.proofs.Lists.{all_of, all_so}
use Rattle.math_base.proofs.Numbers.{below_or_last, below_same_or_above, is_told_same, tells_same}
use Rattle.sight_names.specs.declared.names.Pair.{Pair}
use Rattle.sight_names.specs.Order.{Ascends, PairBefore}
use Rattle.sight_names.proofs.Lists.{ascends_head, ascends_tail}
use Rattle.listeners.specs.PairFindings.Found.{IsPairBelow, is_pair_listed, is_pair, pair}
use Rattle.listeners.specs.PairFindings.Place.{IsLeftAt}

-- ---- the order of two pairs

not_before_itself : (a b : ℕ) → (a < a) ⊎ ((a ≡ a) × (b < b)) → ⊥
not_before_itself a b h = omega arith

-- before a pair, and so before the next
before_next : (a b c d : ℕ) → (c < a) ⊎ ((c ≡ a) × (d < b)) → (c < a) ⊎ ((c ≡ a) × (d < b + 1))
before_next a b c d h = elim h [ inl l ↦ inl l | inr l ↦ inr (l.0, omega arith) ]

before_through : (a b c d e f : ℕ) → (a < c) ⊎ ((a ≡ c) × (b < d)) → (c < e) ⊎ ((c ≡ e) × (d < f)) → (a < e) ⊎ ((a ≡ e) × (b < f))
before_through a b c d e f h k = elim h [
  | inl l ↦ elim k [ inl m ↦ inl (omega arith) | inr m ↦ inl (omega arith) ]
  | inr l ↦ elim k [ inl m ↦ inl (omega arith) | inr m ↦ inr (omega arith, omega arith) ]
]

-- a pair behind (a, b) isn't before the next one
behind_next : (a b c d : ℕ) → (a < c) ⊎ ((a ≡ c) × (b < d)) → (c < a) ⊎ ((c ≡ a) × (d < b + 1)) → ⊥
behind_next a b c d h k = omega arith

behind_itself : (a b c d : ℕ) → (a < c) ⊎ ((a ≡ c) × (b < d)) → c ≡ a → d ≡ b → ⊥
behind_itself a b c d h e f = omega arith

-- neither before (a, b) nor that pair, and so behind it
behind_other : (a b c d : ℕ) → ((c < a) ⊎ ((c ≡ a) × (d < b)) → ⊥) → (c ≡ a → d ≡ b → ⊥) → (a < c) ⊎ ((a ≡ c) × (b < d))
behind_other a b c d before other = elim (below_same_or_above a c) [
  | inl l ↦ inl l
  | inr r ↦ elim r [
    | inl e ↦ elim (below_same_or_above b d) [
      | inl l ↦ inr (e, l)
      | inr s ↦ elim s [ inl f ↦ absurd (other (sym e) (sym f)) | inr l ↦ absurd (before (inr (sym e, l))) ]
    ]
    | inr l ↦ absurd (before (inl l))
  ]
]

-- before the end of a row, and so before the next row
before_row : (a n c d : ℕ) → (c < a) ⊎ ((c ≡ a) × (d < n)) → (c < a + 1) ⊎ ((c ≡ a + 1) × (d < a + 1))
before_row a n c d h = elim h [ inl l ↦ inl (omega arith) | inr l ↦ inl (omega arith) ]

-- a pair of two sectors below n that isn't before the end of a row isn't before the next row
behind_row : (a n c d : ℕ) → ((c < a) ⊎ ((c ≡ a) × (d < n)) → ⊥) → c < d → d < n → (c < a + 1) ⊎ ((c ≡ a + 1) × (d < a + 1)) → ⊥
behind_row a n c d before order within h = elim h [
  | inl l ↦ elim (below_or_last c a l) [ inl k ↦ before (inl k) | inr e ↦ before (inr (e, within)) ]
  | inr l ↦ omega arith
]

-- ---- the pair itself

pub its_first : (a b : ℕ) (p : Pair) → is_pair a b p ≡ true → p.a ≡ a
its_first a b p e = is_told_same p.a a (first_true (p.a == a) (p.b == b) e)

pub its_second : (a b : ℕ) (p : Pair) → is_pair a b p ≡ true → p.b ≡ b
its_second a b p e = is_told_same p.b b (second_true (p.a == a) (p.b == b) e)

pub is_other : (a b : ℕ) (p : Pair) → (p.a ≡ a → p.b ≡ b → ⊥) → is_pair a b p ≡ false
is_other a b p n = false_where_not_true (is_pair a b p) (λ e. n (its_first a b p e) (its_second a b p e))

other_is : (a b : ℕ) (p : Pair) → is_pair a b p ≡ false → p.a ≡ a → p.b ≡ b → ⊥
other_is a b p n e f = not_both_values (is_pair a b p) (both_true (p.a == a) (p.b == b) (tells_same p.a a e) (tells_same p.b b f)) n

none_listed : (a b : ℕ) (ps : List Pair) → AllByRecursion (λ (p : Pair). PairBefore (pair a b) p) ps → is_pair_listed ps a b ≡ false
none_listed a b [] h = refl
none_listed a b (p ∷ ps) h = ap (λ (x : Bool). x || is_pair_listed ps a b) (is_other a b p (behind_itself a b p.a p.b h.0)) ∙ none_listed a b ps h.1

-- ---- a pair on

all_behind : (a b : ℕ) (p : Pair) (ps : List Pair) → Ascends PairBefore (p ∷ ps) → PairBefore (pair a b) p → AllByRecursion (λ (q : Pair). PairBefore (pair a b) q) (p ∷ ps)
all_behind a b p ps up h = (h, all_of (λ (q : Pair). PairBefore (pair a b) q) ps (λ q c. before_through a b p.a p.b q.a q.b h (ascends_head PairBefore p q ps up c)))

module _ (listed left : List Pair) (a b : ℕ) (h : IsLeftAt listed left a b) where
  told_here : is_pair_listed left a b ≡ is_pair_listed listed a b
  told_here = h.same a b (not_before_itself a b)

  -- all that are left are behind the pair
  kept : AllByRecursion (λ (p : Pair). PairBefore (pair a b) p) left → (false ≡ is_pair_listed listed a b) × IsLeftAt listed left a (b + 1)
  kept behind = (
    sym (none_listed a b left behind) ∙ told_here,
    record {
      same = λ c d n. h.same c d (λ f. n (before_next a b c d f));
      behind = all_so (λ (p : Pair). PairBefore (pair a b) p) (λ (p : Pair). ¬ PairBefore p (pair a (b + 1))) left (λ p k f. behind_next a b p.a p.b k f) behind;
      ascend = h.ascend;
    },
  )

  -- the first of them is another pair
  pub pass_other : (p : Pair) (ps : List Pair) → left ≡ p ∷ ps → is_pair a b p ≡ false → (false ≡ is_pair_listed listed a b) × IsLeftAt listed left a (b + 1)
  pass_other p ps e other =
      let up = subst (λ (l : List Pair). Ascends PairBefore l) e h.ascend in
      let behind = subst (λ (l : List Pair). AllByRecursion (λ (q : Pair). ¬ PairBefore q (pair a b)) l) e h.behind in
      kept (subst (λ (l : List Pair). AllByRecursion (λ (q : Pair). PairBefore (pair a b) q) l) (sym e) (all_behind a b p ps up (behind_other a b p.a p.b behind.0 (other_is a b p other))))

  -- the first of them is the pair
  pub pass_it : (p : Pair) (ps : List Pair) → left ≡ p ∷ ps → is_pair a b p ≡ true → (true ≡ is_pair_listed listed a b) × IsLeftAt listed ps a (b + 1)
  pass_it p ps e it =
      let up = subst (λ (l : List Pair). Ascends PairBefore l) e h.ascend in (
        sym (true_by_first (is_pair a b p) (is_pair_listed ps a b) it) ∙ ap (λ (l : List Pair). is_pair_listed l a b) (sym e) ∙ told_here,
        record {
          same = λ c d n. sym (ap (λ (x : Bool). x || is_pair_listed ps c d) (is_other c d p (passed c d n))) ∙ ap (λ (l : List Pair). is_pair_listed l c d) (sym e) ∙ h.same c d (λ f. n (before_next a b c d f));
          behind = all_of (λ (q : Pair). ¬ PairBefore q (pair a (b + 1))) ps (λ q c f. later q (ascends_head PairBefore p q ps up c) f);
          ascend = ascends_tail PairBefore p ps up;
        },
      )
    where
      first : p.a ≡ a
      first = its_first a b p it

      second : p.b ≡ b
      second = its_second a b p it

      passed : (c d : ℕ) → ((c < a) ⊎ ((c ≡ a) × (d < b + 1)) → ⊥) → p.a ≡ c → p.b ≡ d → ⊥
      passed c d n is_c is_d = n (inr (sym is_c ∙ first, omega (arith, is_d, second)))

      later : (q : Pair) → (p.a < q.a) ⊎ ((p.a ≡ q.a) × (p.b < q.b)) → (q.a < a) ⊎ ((q.a ≡ a) × (q.b < b + 1)) → ⊥
      later q k f = omega (arith, first, second)

-- ---- a row on

all_both : (P Q R : Pair → Type 0) (ps : List Pair) → ((p : Pair) → P p → Q p → R p) → AllByRecursion P ps → AllByRecursion Q ps → AllByRecursion R ps
all_both P Q R [] f h k = tt
all_both P Q R (p ∷ ps) f h k = (f p h.0 k.0, all_both P Q R ps f h.1 k.1)

all_left : (P : Pair → Type 0) (n : ℕ) (ps : List Pair) → AllByRecursion P ps → AllByRecursion P (drop n ps)
all_left P zero ps h = h
all_left P (suc n) [] h = tt
all_left P (suc n) (p ∷ ps) h = all_left P n ps h.1

pub row_passed : (n : ℕ) (listed : List Pair) (place a : ℕ) → AllByRecursion (IsPairBelow n) listed → IsLeftAt listed (drop place listed) a n → IsLeftAt listed (drop place listed) (a + 1) (a + 1)
row_passed n listed place a pairs h = record {
  same = λ c d k. h.same c d (λ f. k (before_row a n c d f));
  behind = all_both (λ (p : Pair). ¬ PairBefore p (pair a n)) (IsPairBelow n) (λ (p : Pair). ¬ PairBefore p (pair (a + 1) (a + 1))) (drop place listed) (λ p before is f. behind_row a n p.a p.b before is.0 is.1 f) h.behind
      (all_left (IsPairBelow n) place listed pairs);
  ascend = h.ascend;
}

pub all_are_left : (listed : List Pair) → Ascends PairBefore listed → IsLeftAt listed listed 0 0
all_are_left listed up = record {
  same = λ c d n. refl;
  behind = all_of (λ (p : Pair). ¬ PairBefore p (pair 0 0)) listed (λ p c f. first p.a p.b f);
  ascend = up;
}
  where
    first : (c d : ℕ) → (c < 0) ⊎ ((c ≡ 0) × (d < 0)) → ⊥
    first c d f = omega arith
