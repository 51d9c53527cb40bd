-- A sweep over the lines leaves out only those that a triangle meets fairly by their numbers or their y.
use Rattle.std.proofs.Common.{◌≡◌, ℕ, ◌-◌, ◌<◌, ◌≤◌, ◌⊎◌, inl, inr, List, length, get_or, ℤ, ◌≤ℤ◌, ◌<ℤ◌, max, arith, ap, subst}
use Rattle.std.specs.Int.{int_min, int_max}
use Rattle.std.proofs.lemmas.Int.{ints, clamps}
use Rattle.std.proofs.lemmas.List.{get_or_default}
use Rattle.std.proofs.lemmas.List.Elements.{All-get_or}
use Rattle.std.proofs.lemmas.Bool.{cases_lt}
use Rattle.sight_names.specs.declared.names.Pt.{Pt}
use Rattle.sight_names.specs.declared.names.Triangle.{Triangle}
use Rattle.sight_names.specs.Plan.{PlanParts, IsPlan}
use Rattle.sight_names.specs.Map.{Map, map_of}
use Rattle.sight_names.specs.Points.{place}
use Rattle.sight_names.specs.Mesh.{IsTriangle}
use Rattle.sight_names.proofs.PlanMap.{line_of_plan}
use Rattle.mesh_base.proofs.SightLaws.Plans.{line_below}
use Rattle.geom_exact.specs.declared.line_spans.Span.{Span}
use Rattle.geom_exact.specs.LineSpans.Spans.{IsSpanIn, AreSpans, IsSkip}
use Rattle.geom_exact.proofs.LineSpans.Sweep.{ends_within, heights_within, at_place, of_each}
use Rattle.mesh_shape.specs.Search.{IsBand, IsMetFairly, IsLineMetFairly}
use Rattle.mesh_shape.proofs.RuleLemmas.{numbered_apart, ends_of_line, IsUnder, IsOver, under_apart, over_apart}

-- a line that ends before the triangle's least corner
pub fair_before : (p : PlanParts) → IsPlan p → (t : Triangle) (s : Span) → IsTriangle (length p.points) t → IsSpanIn p s → s.greatest < t.p → IsLineMetFairly (map_of p) t s.line
fair_before p h t s ht hs lt l at =
    let k = line_of_plan p.points p.lines s.line l at in
    let w = ends_within p s k.0 hs k.1 in
    subst (IsMetFairly (map_of p) t) k.2 (numbered_apart p h t k.0 ht (h.each s.line k.0 k.1) (inl (below k.0.a w.first_to, below k.0.b w.second_to)))
  where
    below : (x : ℕ) → x ≤ s.greatest → x < t.p
    below x le = omega arith

-- a line that begins behind its corners
fair_behind : (p : PlanParts) → IsPlan p → (t : Triangle) (s : Span) (last : ℕ) → IsTriangle (length p.points) t → IsSpanIn p s → t.q ≤ last → t.r ≤ last → last < s.least → IsLineMetFairly (map_of p) t s.line
fair_behind p h t s last ht hs hq hr lt l at =
    let k = line_of_plan p.points p.lines s.line l at in
    let w = ends_within p s k.0 hs k.1 in
    let least = ht.least in
    subst (IsMetFairly (map_of p) t) k.2 (numbered_apart p h t k.0 ht (h.each s.line k.0 k.1)
    (inr (above t.p k.0.a (omega arith) w.first_from, above t.q k.0.a hq w.first_from, above t.r k.0.a hr w.first_from, above t.p k.0.b (omega arith) w.second_from, above t.q k.0.b hq w.second_from, above t.r k.0.b hr w.second_from)))
  where
    above : (x y : ℕ) → x ≤ last → s.least ≤ y → x < y
    above x y hx hy = omega arith

-- a line below the triangle
pub fair_under : (p : PlanParts) → IsPlan p → (t : Triangle) (s : Span) (b : Span) → IsSpanIn p s → IsBand (map_of p) t b → s.high <ℤ b.low → IsLineMetFairly (map_of p) t s.line
fair_under p h t s b hs hb lt l at =
    let k = line_of_plan p.points p.lines s.line l at in
    let w = heights_within p s k.0 hs k.1 in
    let e = ends_of_line p h k.0 in
    subst (IsMetFairly (map_of p) t) k.2 (under_apart p h t k.0 (under _ k.0.a e.0 w.first_to) (under _ k.0.b e.1 w.second_to))
  where
    step : (x y z : ℤ) → x ≡ y → x ≤ℤ s.high → b.low ≤ℤ z → y <ℤ z
    step x y z e hx hz = omega (arith, ints)

    under : (u : Pt) (n : ℕ) → u ≡ place (map_of p) n → u.y ≤ℤ s.high → IsUnder p n t
    under u n e le = let f = ap (λ (z : Pt). z.y) e in (step _ _ _ f le hb.low_p, step _ _ _ f le hb.low_q, step _ _ _ f le hb.low_r)

-- a line above it
pub fair_over : (p : PlanParts) → IsPlan p → (t : Triangle) (s : Span) (b : Span) → IsSpanIn p s → IsBand (map_of p) t b → b.high <ℤ s.low → IsLineMetFairly (map_of p) t s.line
fair_over p h t s b hs hb lt l at =
    let k = line_of_plan p.points p.lines s.line l at in
    let w = heights_within p s k.0 hs k.1 in
    let e = ends_of_line p h k.0 in
    subst (IsMetFairly (map_of p) t) k.2 (over_apart p h t k.0 (over _ k.0.a e.0 w.first_from) (over _ k.0.b e.1 w.second_from))
  where
    step : (x y z : ℤ) → x ≡ y → s.low ≤ℤ x → z ≤ℤ b.high → z <ℤ y
    step x y z e hx hz = omega (arith, ints)

    over : (u : Pt) (n : ℕ) → u ≡ place (map_of p) n → s.low ≤ℤ u.y → IsOver p n t
    over u n e le = let f = ap (λ (z : Pt). z.y) e in (step _ _ _ f le hb.high_p, step _ _ _ f le hb.high_q, step _ _ _ f le hb.high_r)

-- the least and the greatest of three
pub band_of_three : (m : Map) (t : Triangle) (a b c : Pt) (r : Span) → a ≡ place m t.p → b ≡ place m t.q → c ≡ place m t.r → r.greatest ≡ max t.q t.r → r.low ≡ int_min (int_min a.y b.y) c.y → r.high ≡ int_max (int_max a.y b.y) c.y → IsBand m t r
band_of_three m t a b c r ea eb ec last low high =
    let l = lows a.y b.y c.y r.low low in
    let h = highs a.y b.y c.y r.high high in
    record {
      second = omega (arith, clamps);
      third = omega (arith, clamps);
      low_p = subst (λ (z : Pt). r.low ≤ℤ z.y) ea l.0;
      low_q = subst (λ (z : Pt). r.low ≤ℤ z.y) eb l.1;
      low_r = subst (λ (z : Pt). r.low ≤ℤ z.y) ec l.2;
      high_p = subst (λ (z : Pt). z.y ≤ℤ r.high) ea h.0;
      high_q = subst (λ (z : Pt). z.y ≤ℤ r.high) eb h.1;
      high_r = subst (λ (z : Pt). z.y ≤ℤ r.high) ec h.2;
    }
  where
    lows : (x y z v : ℤ) → v ≡ int_min (int_min x y) z → (v ≤ℤ x) × (v ≤ℤ y) × (v ≤ℤ z)
    lows x y z v e = (omega (arith, ints, clamps), omega (arith, ints, clamps), omega (arith, ints, clamps))

    highs : (x y z v : ℤ) → v ≡ int_max (int_max x y) z → (x ≤ℤ v) × (y ≤ℤ v) × (z ≤ℤ v)
    highs x y z v e = (omega (arith, ints, clamps), omega (arith, ints, clamps), omega (arith, ints, clamps))

-- ---- the sweep, from the last place back

-- the lines of the spans from place k on are met fairly
abbrev pub AreFairFrom : PlanParts → List Span → Triangle → ℕ → Type 0
AreFairFrom p ss t k = (i : ℕ) → k ≤ i → i < length ss → (d : Span) → IsLineMetFairly (map_of p) t (get_or ss i d).line

pub fair_from_behind : (p : PlanParts) → IsPlan p → (ss : List Span) (t : Triangle) (last k : ℕ) → AreSpans p ss → IsTriangle (length p.points) t → t.q ≤ last → t.r ≤ last
    → ((i : ℕ) (d : Span) → k ≤ i → i < length ss → last < (get_or ss i d).least) → AreFairFrom p ss t k
fair_from_behind p h ss t last k hs ht hq hr behind i le hi d = fair_behind p h t (get_or ss i d) last ht (All-get_or (IsSpanIn p) ss i d hi hs.each) hq hr (behind i d le hi)

-- one place back
pub fair_from_before : (p : PlanParts) (ss : List Span) (t : Triangle) (k : ℕ) (e : Span) → 0 < k → k ≤ length ss → AreFairFrom p ss t k → IsLineMetFairly (map_of p) t (get_or ss (k - 1) e).line → AreFairFrom p ss t (k - 1)
fair_from_before p ss t k e up within later here i le hi d = elim (cases_lt i k) as (λ _. IsLineMetFairly (map_of p) t (get_or ss i d).line) [
  | inl lt ↦ subst (λ (n : ℕ). IsLineMetFairly (map_of p) t (get_or ss n d).line) (last i lt le) (at_place (λ (s : Span). IsLineMetFairly (map_of p) t s.line) ss (k - 1) e (omega arith) here d)
  | inr from ↦ later i from hi d
]
  where
    last : (i : ℕ) → i < k → k - 1 ≤ i → (k - 1) ≡ i
    last i lt le = omega arith

-- back over spans that end before the triangle
pub fair_from_skipped : (p : PlanParts) → IsPlan p → (ss : List Span) (t : Triangle) (k j : ℕ) (e : Span) → AreSpans p ss → IsTriangle (length p.points) t → 0 < k → k ≤ length ss → AreFairFrom p ss t k
    → (get_or ss (k - 1) e).greatest < t.p → IsSkip ss (k - 1) j → AreFairFrom p ss t j
fair_from_skipped p h ss t k j e hs ht up within later lt skip i le hi d = elim (cases_lt i k) as (λ _. IsLineMetFairly (map_of p) t (get_or ss i d).line) [
  | inl before ↦ fair_before p h t (get_or ss i d) ht (All-get_or (IsSpanIn p) ss i d hi hs.each) (ends_before before (cases_lt i (k - 1)))
  | inr from ↦ later i from hi d
]
  where
    last : (d : Span) → (get_or ss (k - 1) d).greatest < t.p
    last d = subst (λ (s : Span). s.greatest < t.p) (get_or_default ss (k - 1) e d (omega arith)) lt

    ends_before : i < k → (i < (k - 1)) ⊎ ((k - 1) ≤ i) → (get_or ss i d).greatest < t.p
    ends_before before (inl less) = let a = skip.none i d le less in let b = last d in omega arith
    ends_before before (inr from) = subst (λ (n : ℕ). (get_or ss n d).greatest < t.p) (let g : (k - 1) ≡ i = omega arith in g) (last d)

pub fair_to_all : (p : PlanParts) (ss : List Span) (t : Triangle) (k : ℕ) → AreSpans p ss → k ≤ 0 → AreFairFrom p ss t k → (i : ℕ) → IsLineMetFairly (map_of p) t i
fair_to_all p ss t k h none each i l at = of_each p ss h (IsLineMetFairly (map_of p) t) (λ j d hj. each j (omega arith) hj d) i (line_below p i l at) l at
