-- A source has at most as many roots as the map has passable lines.
use Rattle.std.proofs.Common.{◌≡◌, ℕ, ◌+◌, ◌<◌, ◌≤◌, arith, refl, sym, ap, ◌∙◌, List, [], ◌∷◌, length, filter, Bool, true, false, cond, Option, Some, None, true≢false}
use Rattle.std.specs.List.{AllByRecursion, flat_map, enumerate_from}
use Rattle.sight_names.specs.declared.names.Side.{Side}
use Rattle.sight_names.specs.Map.{Map, MapLine}
use Rattle.sight_names.specs.Sequence.{roots, sides_of, both_sides, is_root}
use Rattle.sight_names.specs.Enough.{passable_lines}
use Rattle.sight_lift.proofs.EnoughBase.Few.{Differ, few}
use Rattle.sight_lift.proofs.EnoughBase.Ranks.{RootLine, root_line, root_rank, root_rank_below, one_root}
use Rattle.math_base.proofs.Lists.{all_of}

-- ---- the sides of the map are all different

later_lines : (n k : ℕ) (os : List (Option MapLine)) → n ≤ k → AllByRecursion (λ (s : Side). n ≤ s.line) (flat_map both_sides (enumerate_from k os))
later_lines n k [] h = tt
later_lines n k (None ∷ os) h = later_lines n (k + 1) os (omega arith)
later_lines n k (Some l ∷ os) h = (h, (h, later_lines n (k + 1) os (omega arith)))

beyond : (s : Side) (n : ℕ) → s.line < n → (ss : List Side) → AllByRecursion (λ (t : Side). n ≤ t.line) ss → AllByRecursion (λ t. ¬ (s ≡ t)) ss
beyond s n h [] k = tt
beyond s n h (t ∷ ts) k = ((λ e. let f : s.line ≡ t.line = ap (λ (x : Side). x.line) e in let g = k.0 in omega arith), beyond s n h ts k.1)

sides_differ : (k : ℕ) (os : List (Option MapLine)) → Differ (flat_map both_sides (enumerate_from k os))
sides_differ k [] = tt
sides_differ k (None ∷ os) = sides_differ (k + 1) os
sides_differ k (Some l ∷ os) =
    let far = later_lines (k + 1) (k + 1) os (omega arith) in (
      ((λ e. true≢false (sym (ap (λ (x : Side). x.left) e))), beyond (record { line = k; left = false }) (k + 1) (omega arith) (flat_map both_sides (enumerate_from (k + 1) os)) far),
      (beyond (record { line = k; left = true }) (k + 1) (omega arith) (flat_map both_sides (enumerate_from (k + 1) os)) far, sides_differ (k + 1) os),
    )

-- ---- so are the roots

all_kept : {X : Type 0} (P : X → Type 0) (test : X → Bool) (xs : List X) → AllByRecursion P xs → AllByRecursion P (filter test xs)
all_kept P test [] h = tt
all_kept {X} P test (x ∷ xs) h = go (test x) (all_kept P test xs h.1)
  where
    go : (b : Bool) → AllByRecursion P (filter test xs) → AllByRecursion P (cond b (x ∷ filter test xs) (filter test xs))
    go true k = (h.0, k)
    go false k = k

differ_kept : {X : Type 0} (test : X → Bool) (xs : List X) → Differ xs → Differ (filter test xs)
differ_kept test [] d = tt
differ_kept {X} test (x ∷ xs) d = go (test x) (all_kept (λ y. ¬ (x ≡ y)) test xs d.0) (differ_kept test xs d.1)
  where
    go : (b : Bool) → AllByRecursion (λ y. ¬ (x ≡ y)) (filter test xs) → Differ (filter test xs) → Differ (cond b (x ∷ filter test xs) (filter test xs))
    go true a k = (a, k)
    go false a k = k

pub roots_differ : (m : Map) (a : ℕ) → Differ (roots m a)
roots_differ m a = differ_kept (is_root m a) (sides_of m) (sides_differ 0 m.lines)

abbrev HasRank : Map → ℕ → Side → ℕ → Type 0
HasRank m a s c = RootLine m a s × (c ≡ root_rank m s)

pub few_roots : (m : Map) (a : ℕ) → length (roots m a) ≤ passable_lines m
few_roots m a = few (HasRank m a) (passable_lines m) (λ s t c g h. one_root m a s t g.0 h.0 (sym g.1 ∙ h.1)) (roots m a)
    (all_of (λ s. (c : ℕ) × (c < passable_lines m) × HasRank m a s c) (roots m a) (λ s c. let r = root_line m a s c in (root_rank m s, root_rank_below m a s r, (r, refl)))) (roots_differ m a)
