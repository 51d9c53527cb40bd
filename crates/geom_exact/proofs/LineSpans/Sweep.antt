-- What a sweep over the spans of lines may pass over, and that it leaves no pair of records out.
use Rattle.std.proofs.Common.{◌≡◌, ◌≢◌, ℕ, ◌+◌, ◌-◌, ◌<◌, ◌≤◌, ◌⊎◌, inl, inr, List, length, get_or, set, slice_get, option_and_then, Option, Some, ℤ, ◌≤ℤ◌, sym, ◌∙◌, ap, subst, subst₂, arith, min, max}
use Rattle.std.specs.Int.{int_min, int_max}
use Rattle.std.specs.List.{Contains}
use Rattle.std.specs.List.Sorted.{IsNonDecreasingBy}
use Rattle.std.proofs.lemmas.List.{get_or_default, get_or_read, get_or-set_same, get_or-set_other}
use Rattle.std.proofs.lemmas.Bool.{cases_lt}
use Rattle.std.proofs.lemmas.Int.{ints, clamps}
use Rattle.sight_names.specs.declared.plan.Line.{Line}
use Rattle.sight_names.specs.Plan.{PlanParts}
use Rattle.sight_names.specs.Map.{looked_up}
use Rattle.geom_exact.specs.declared.line_spans.Span.{Span}
use Rattle.geom_exact.specs.LineSpans.Spans.{span_of, span_of_entry, span_at, IsSpanIn, AreSpans, IsSkip, AreSkipsBelow}
use Rattle.geom_exact.proofs.LineSpans.Filling.{line_is}
use Rattle.math_base.proofs.Numbers.{below_above_or_same, below_same_or_above}

-- the numbers of a line's ends lie in its span
pub record AreEndsWithin (s : Span) (l : Line) : Type 0 where
  pub first_from : s.least ≤ l.a
  pub second_from : s.least ≤ l.b
  pub first_to : l.a ≤ s.greatest
  pub second_to : l.b ≤ s.greatest

-- and so do the ends' y
pub record AreHeightsWithin (p : PlanParts) (s : Span) (l : Line) : Type 0 where
  pub first_from : s.low ≤ℤ (looked_up p.points l).first.y
  pub second_from : s.low ≤ℤ (looked_up p.points l).second.y
  pub first_to : (looked_up p.points l).first.y ≤ℤ s.high
  pub second_to : (looked_up p.points l).second.y ≤ℤ s.high

is_span_of : (p : PlanParts) (s : Span) (l : Line) → IsSpanIn p s → slice_get p.lines s.line ≡ Some (Some l) → s ≡ span_of p.points l s.line
is_span_of p s l h e = h.1 ∙ ap (λ (o : Option (Option Line)). span_of_entry p.points (option_and_then (λ l. l) o) s.line) e

pub ends_within : (p : PlanParts) (s : Span) (l : Line) → IsSpanIn p s → slice_get p.lines s.line ≡ Some (Some l) → AreEndsWithin s l
ends_within p s l h e =
    let f = is_span_of p s l h e in
    let g : s.least ≡ min l.a l.b = ap (λ (t : Span). t.least) f in
    let k : s.greatest ≡ max l.a l.b = ap (λ (t : Span). t.greatest) f in
    record { first_from = omega (arith, clamps); second_from = omega (arith, clamps); first_to = omega (arith, clamps); second_to = omega (arith, clamps) }

pub heights_within : (p : PlanParts) (s : Span) (l : Line) → IsSpanIn p s → slice_get p.lines s.line ≡ Some (Some l) → AreHeightsWithin p s l
heights_within p s l h e =
    let f = is_span_of p s l h e in
    let m = looked_up p.points l in
    let low = least (s.low) m.first.y m.second.y (ap (λ (t : Span). t.low) f) in
    let high = most (s.high) m.first.y m.second.y (ap (λ (t : Span). t.high) f) in
    record { first_from = low.0; second_from = low.1; first_to = high.0; second_to = high.1 }
  where
    least : (c a b : ℤ) → c ≡ int_min a b → (c ≤ℤ a) × (c ≤ℤ b)
    least c a b e = (omega (arith, ints, clamps), omega (arith, ints, clamps))

    most : (c a b : ℤ) → c ≡ int_max a b → (a ≤ℤ c) × (b ≤ℤ c)
    most c a b e = (omega (arith, ints, clamps), omega (arith, ints, clamps))

-- what holds of the span at a place, whatever is read past the end
pub at_place : (P : Span → Type 0) (ss : List Span) (k : ℕ) (e : Span) → k < length ss → P (get_or ss k e) → (d : Span) → P (get_or ss k d)
at_place P ss k e lt h d = subst P (get_or_default ss k e d lt) h

-- behind a span whose lesser end is greater than n come only such
pub all_behind : (ss : List Span) (n k j : ℕ) (d : Span) → IsNonDecreasingBy (λ (s : Span). s.least) ss → n < (get_or ss k d).least → k ≤ j → j < length ss → n < (get_or ss j d).least
all_behind ss n k j d up lt le hj = let g : (get_or ss k d).least ≤ (get_or ss j d).least = up k j d le hj in omega arith

-- ---- skips

-- nothing is skipped before the first step
pub skip_none : (ss : List Span) (k : ℕ) → IsSkip ss k k
skip_none ss k = record { back = omega arith; none = λ i d le lt. absurd (omega arith) }

-- the span before j ends no later, so it goes back as far as that one does
pub skip_on : (ss : List Span) (k j i : ℕ) (e : Span) → IsSkip ss k j → 0 < j → j ≤ length ss → k < length ss → (get_or ss (j - 1) e).greatest ≤ (get_or ss k e).greatest → IsSkip ss (j - 1) i → IsSkip ss k i
skip_on ss k j i e h up within hk le g = record {
  back = let a = g.back in let b = h.back in omega arith;
  none = λ n d from below. go n d from below (below_same_or_above n (j - 1));
}
  where
    last : (d : Span) → (get_or ss (j - 1) d).greatest ≤ (get_or ss k d).greatest
    last d = subst₂ (λ (a b : Span). a.greatest ≤ b.greatest) (get_or_default ss (j - 1) e d (omega arith)) (get_or_default ss k e d hk) le

    go : (n : ℕ) (d : Span) → i ≤ n → n < k → (n < (j - 1)) ⊎ ((n ≡ (j - 1)) ⊎ ((j - 1) < n)) → (get_or ss n d).greatest ≤ (get_or ss k d).greatest
    go n d from below (inl lt) = let a = g.none n d from lt in let b = last d in omega arith
    go n d from below (inr (inl same)) = subst (λ (m : ℕ). (get_or ss m d).greatest ≤ (get_or ss k d).greatest) (sym same) (last d)
    go n d from below (inr (inr gt)) = h.none n d (omega arith) below

-- one more place
pub skips_more : (ss : List Span) (skips : List ℕ) (n j : ℕ) → n < length skips → AreSkipsBelow ss skips n → IsSkip ss n j → AreSkipsBelow ss (set skips n j) (n + 1)
skips_more ss skips n j hn h g k lt = elim (cases_lt k n) as (λ _. IsSkip ss k (get_or (set skips n j) k 0)) [
  | inl below ↦ subst (IsSkip ss k) (sym (get_or-set_other skips n k j 0 (omega arith))) (h k below)
  | inr le ↦ at_last k (omega arith)
]
  where
    at_last : (k : ℕ) → n ≡ k → IsSkip ss k (get_or (set skips n j) k 0)
    at_last k e = subst (λ (m : ℕ). IsSkip ss m (get_or (set skips n j) m 0)) e (subst (IsSkip ss n) (sym (get_or-set_same skips n j 0 hn)) g)

-- ---- each record, and each two records

-- the span at a record's place tells the record
read_line : (p : PlanParts) (ss : List Span) (i : ℕ) (a : Contains ss (span_at p i)) (d : Span) → (get_or ss a.0 d).line ≡ i
read_line p ss i a d = ap (λ (s : Span). s.line) (sym (get_or_read ss a.0 (span_at p i) a.1 (sym a.2) d)) ∙ line_is p.points (option_and_then (λ l. l) (slice_get p.lines i)) i

-- what holds of the record of each place holds of each record
pub of_each : (p : PlanParts) (ss : List Span) → AreSpans p ss → (P : ℕ → Type 0) → ((j : ℕ) (d : Span) → j < length ss → P (get_or ss j d).line) → (i : ℕ) → i < length p.lines → P i
of_each p ss h P each i hi = let a = h.covered i hi in let d = span_at p i in subst P (read_line p ss i a d) (each a.0 d a.1)

-- what holds of the records of each two places holds of each two records
pub of_each_pair : (p : PlanParts) (ss : List Span) → AreSpans p ss → (R : ℕ → ℕ → Type 0) → ((i j : ℕ) → R i j → R j i)
    → ((j k : ℕ) (d : Span) → j < k → k < length ss → R (get_or ss j d).line (get_or ss k d).line)
    → (i j : ℕ) → i < length p.lines → j < length p.lines → i ≢ j → R i j
of_each_pair p ss h R flip each i j hi hj n = cases (h.covered i hi) (h.covered j hj)
  where
    in_order : (i j : ℕ) (a : Contains ss (span_at p i)) (b : Contains ss (span_at p j)) → a.0 < b.0 → R i j
    in_order i j a b lt = let d = span_at p i in subst₂ R (read_line p ss i a d) (read_line p ss j b d) (each a.0 b.0 d lt b.1)

    same_record : (a : Contains ss (span_at p i)) (b : Contains ss (span_at p j)) → a.0 ≡ b.0 → i ≡ j
    same_record a b e = let d = span_at p i in sym (read_line p ss i a d) ∙ ap (λ (k : ℕ). (get_or ss k d).line) e ∙ read_line p ss j b d

    cases : Contains ss (span_at p i) → Contains ss (span_at p j) → R i j
    cases a b = elim (below_above_or_same a.0 b.0) as (λ _. R i j) [
      | inl lt ↦ in_order i j a b lt
      | inr w ↦ elim w as (λ _. R i j) [ inl gt ↦ flip j i (in_order j i b a gt) | inr e ↦ absurd (n (same_record a b e)) ]
    ]
