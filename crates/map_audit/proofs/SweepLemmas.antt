-- A sweep that finds no fault has looked at each two lines, or seen that they are numbered apart.
use Rattle.std.proofs.Common.{ℕ, ◌+◌, ◌<◌, ◌≤◌, inl, inr, List, length, get_or, arith, subst, subst₂, ℤ, ◌≤ℤ◌, ◌<ℤ◌}
use Rattle.std.proofs.lemmas.List.{get_or_default}
use Rattle.std.proofs.lemmas.List.Elements.{All-get_or}
use Rattle.std.proofs.lemmas.Bool.{cases_lt}
use Rattle.sight_names.specs.Plan.{PlanParts, IsPlan}
use Rattle.sight_names.specs.Map.{Map, looked_up, map_of}
use Rattle.sight_names.specs.Sound.{LinesMeetAtEnds}
use Rattle.sight_names.proofs.PlanMap.{line_of_plan}
use Rattle.mesh_base.proofs.SightLaws.Plans.{line_below}
use Rattle.geom_exact.proofs.Meeting.{apart_meet, meet_swapped}
use Rattle.geom_exact.proofs.Filters.{apart_below}
use Rattle.std.proofs.lemmas.Int.{ints}
use Rattle.geom_exact.specs.declared.line_spans.Span.{Span}
use Rattle.geom_exact.specs.LineSpans.Spans.{IsSpanIn, AreSpans}
use Rattle.geom_exact.proofs.LineSpans.Sweep.{ends_within, heights_within, all_behind, of_each_pair}
use Rattle.map_audit.specs.Audit.{AreFine, FineAt, FineFrom}
use Rattle.map_audit.proofs.AuditLemmas.{lines_before}

-- records whose spans don't overlap have lines that are apart
numbered_fine : (p : PlanParts) → IsPlan p → (s t : Span) → IsSpanIn p s → IsSpanIn p t → s.greatest < t.least → FineAt (map_of p) s.line t.line
numbered_fine p h s t hs ht lt k l ek el =
    let one = line_of_plan p.points p.lines s.line k ek in
    let other = line_of_plan p.points p.lines t.line l el in
    let a = ends_within p s one.0 hs one.1 in
    let b = ends_within p t other.0 ht other.1 in
    subst₂ AreFine one.2 other.2 (apart_meet (looked_up p.points one.0).first (looked_up p.points one.0).second (looked_up p.points other.0).first (looked_up p.points other.0).second (lines_before p h one.0 other.0 (h.each s.line one.0 one.1) (h.each t.line other.0 other.1)
    (below one.0.a other.0.a a.first_to b.first_from, below one.0.a other.0.b a.first_to b.second_from, below one.0.b other.0.a a.second_to b.first_from, below one.0.b other.0.b a.second_to b.second_from)))
  where
    below : (x y : ℕ) → x ≤ s.greatest → t.least ≤ y → x < y
    below x y hx hy = omega arith

-- records whose lines lie at different heights
pub heights_fine : (p : PlanParts) (s t : Span) → IsSpanIn p s → IsSpanIn p t → s.high <ℤ t.low → FineAt (map_of p) s.line t.line
heights_fine p s t hs ht lt k l ek el =
    let one = line_of_plan p.points p.lines s.line k ek in
    let other = line_of_plan p.points p.lines t.line l el in
    let a = heights_within p s one.0 hs one.1 in
    let b = heights_within p t other.0 ht other.1 in
    subst₂ AreFine one.2 other.2 (apart_meet (looked_up p.points one.0).first (looked_up p.points one.0).second (looked_up p.points other.0).first (looked_up p.points other.0).second (apart_below (looked_up p.points one.0).first (looked_up p.points one.0).second (looked_up p.points other.0).first (looked_up p.points other.0).second
    (below _ _ a.first_to b.first_from, below _ _ a.first_to b.second_from, below _ _ a.second_to b.first_from, below _ _ a.second_to b.second_from)))
  where
    below : (x y : ℤ) → x ≤ℤ s.high → t.low ≤ℤ y → x <ℤ y
    below x y hx hy = omega (arith, ints)

pub swapped : (m : Map) (i j : ℕ) → FineAt m i j → FineAt m j i
swapped m i j f k l ek el = meet_swapped l.first l.second k.first k.second (f l k el ek)

-- the sweep from a place ends where a span begins behind the first one
pub fine_behind : (p : PlanParts) → IsPlan p → (ss : List Span) (s : Span) (from k : ℕ) (e : Span) → AreSpans p ss → IsSpanIn p s → s.greatest < (get_or ss k e).least
    → ((j : ℕ) → j < k → from ≤ j → (d : Span) → FineAt (map_of p) s.line (get_or ss j d).line) → FineFrom (map_of p) s.line ss from
fine_behind p h ss s from k e hs hone lt below j d le hj = elim (cases_lt j k) as (λ _. FineAt (map_of p) s.line (get_or ss j d).line) [
  | inl before ↦ below j before le d
  | inr after ↦ numbered_fine p h s (get_or ss j d) hone (All-get_or (IsSpanIn p) ss j d hj hs.each) (all_behind ss s.greatest k j d hs.ascend (subst (λ (t : Span). s.greatest < t.least) (get_or_default ss k e d (omega arith)) lt) after hj)
]

pub sound_of_sweep : (p : PlanParts) (ss : List Span) (n : ℕ) → AreSpans p ss → length ss ≤ n
    → ((j : ℕ) → j < n → (d : Span) → FineFrom (map_of p) (get_or ss j d).line ss (j + 1)) → LinesMeetAtEnds (map_of p)
sound_of_sweep p ss n h le rows i j k l differ ek el = of_each_pair p ss h (FineAt (map_of p)) (swapped (map_of p)) pairs i j (line_below p i k ek) (line_below p j l el) differ k l ek el
  where
    pairs : (j k : ℕ) (d : Span) → j < k → k < length ss → FineAt (map_of p) (get_or ss j d).line (get_or ss k d).line
    pairs j k d lt hk = rows j (omega arith) d k d (omega arith) hk
