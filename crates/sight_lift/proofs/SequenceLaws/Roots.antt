-- The roots of a source ascend: a walk begins under way, with nothing opened and all roots due.
use Rattle.std.proofs.Common.{ℕ, ◌+◌, ◌≤◌, inl, inr, List, [], ◌∷◌, map, filter, cond, Contains, Option, Some, None, Bool, true, false, refl, subst, arith}
use Rattle.std.specs.List.{AllByRecursion, flat_map, enumerate_from}
use Rattle.std.proofs.lemmas.Option.{none-some}
use Rattle.sight_names.specs.declared.names.Side.{Side}
use Rattle.sight_names.specs.declared.names.Triangle.{Triangle}
use Rattle.sight_names.specs.Map.{Map, MapLine}
use Rattle.sight_names.specs.Sequence.{Sequence, both_sides, sides_of, roots, is_root}
use Rattle.sight_names.specs.Found.{SideBefore, SequenceBefore}
use Rattle.sight_names.proofs.Lists.{contains_cases}
use Rattle.plane_base.proofs.Every.{all_weaker}
use Rattle.sight_lift.specs.SequenceLaws.Ways.{root_alone}
use Rattle.sight_lift.proofs.SequenceLaws.Order.{IsUnder, IsUnderOne}
use Rattle.sight_lift.proofs.SequenceLaws.UnderWay.{AreApart, IsUnderWay}
use Rattle.math_base.proofs.Lists.{contains_none}

-- each side comes before each later one
abbrev pub AscendSides : List Side → Type 0
AscendSides [] = Unit {0}
AscendSides (s ∷ ss) = AllByRecursion (SideBefore s) ss × AscendSides ss

-- the sides of lines from a number on
from : (n : ℕ) (ls : List (Option MapLine)) → AllByRecursion (λ (s : Side). n ≤ s.line) (flat_map both_sides (enumerate_from n ls))
from n [] = tt
from n (None ∷ ls) = all_weaker (λ (s : Side). n + 1 ≤ s.line) (λ (s : Side). n ≤ s.line) (λ s h. omega arith) (flat_map both_sides (enumerate_from (n + 1) ls)) (from (n + 1) ls)
from n (Some l ∷ ls) = (le n, (le n, all_weaker (λ (s : Side). n + 1 ≤ s.line) (λ (s : Side). n ≤ s.line) (λ s h. omega arith) (flat_map both_sides (enumerate_from (n + 1) ls)) (from (n + 1) ls)))
  where
    le : (n : ℕ) → n ≤ n
    le n = omega arith

sides_ascend : (n : ℕ) (ls : List (Option MapLine)) → AscendSides (flat_map both_sides (enumerate_from n ls))
sides_ascend n [] = tt
sides_ascend n (None ∷ ls) = sides_ascend (n + 1) ls
sides_ascend n (Some l ∷ ls) = ((inr (refl, refl, refl), later false), (later true, sides_ascend (n + 1) ls))
  where
    later : (left : Bool) → AllByRecursion (SideBefore (record { line = n; left = left })) (flat_map both_sides (enumerate_from (n + 1) ls))
    later left = all_weaker (λ (s : Side). n + 1 ≤ s.line) (SideBefore (record { line = n; left = left })) (λ s h. inl (omega arith)) (flat_map both_sides (enumerate_from (n + 1) ls)) (from (n + 1) ls)

all_kept : (P : Side → Type 0) (test : Side → Bool) (ss : List Side) → AllByRecursion P ss → AllByRecursion P (filter test ss)
all_kept P test [] h = tt
all_kept P test (s ∷ ss) h = at (test s) (all_kept P test ss h.1)
  where
    at : (b : Bool) → AllByRecursion P (filter test ss) → AllByRecursion P (cond b (s ∷ filter test ss) (filter test ss))
    at true k = (h.0, k)
    at false k = k

kept_ascend : (test : Side → Bool) (ss : List Side) → AscendSides ss → AscendSides (filter test ss)
kept_ascend test [] h = tt
kept_ascend test (s ∷ ss) h = at (test s) (kept_ascend test ss h.1) (all_kept (SideBefore s) test ss h.0)
  where
    at : (b : Bool) → AscendSides (filter test ss) → AllByRecursion (SideBefore s) (filter test ss) → AscendSides (cond b (s ∷ filter test ss) (filter test ss))
    at true k l = (l, k)
    at false k l = k

pub roots_ascend : (m : Map) (a : ℕ) → AscendSides (roots m a)
roots_ascend m a = kept_ascend (is_root m a) (sides_of m) (sides_ascend 0 m.lines)

-- ---- roots alone

under_root : (ss : List Side) (t : Sequence) → Contains ss t.root → IsUnderOne (map root_alone ss) t
under_root [] t c = absurd (contains_none t.root c)
under_root (s ∷ ss) t c = elim (contains_cases s t.root ss c) as (λ _. IsUnderOne (map root_alone (s ∷ ss)) t) [
  | inl e ↦ inl (record { root = e; onward = t.ways; ways = refl })
  | inr k ↦ inr (under_root ss t k)
]

later_root : (s : Side) (ss : List Side) → AllByRecursion (SideBefore s) ss → (t u : Sequence) → IsUnder (root_alone s) t → IsUnderOne (map root_alone ss) u → SequenceBefore t u
later_root s [] h t u k l = absurd l
later_root s (r ∷ ss) h t u k (inl l) = inl (subst (λ (x : Side). SideBefore x u.root) k.root (subst (SideBefore s) l.root h.0))
later_root s (r ∷ ss) h t u k (inr l) = later_root s ss h.1 t u k l

module _ (m : Map) (ts : List Triangle) (ls : List (Option ℕ)) (a : ℕ) where
  roots_apart : (ss : List Side) → AscendSides ss → AreApart m ts ls a (map root_alone ss)
  roots_apart [] h = tt
  roots_apart (s ∷ ss) h = (later_root s ss h.0, roots_apart ss h.1)

  pub begins : IsUnderWay m ts ls a [] (map root_alone (roots m a))
  begins = record {
    ascend = λ i j t u lt e f. absurd (none-some t e);
    each = λ t c. absurd (contains_none t c);
    places = λ k t e. absurd (none-some t e);
    all = λ t is. inr (under_root (roots m a) t is.1.root);
    ahead = λ t u c k. absurd (contains_none t c);
    apart = roots_apart (roots m a) (roots_ascend m a);
  }
