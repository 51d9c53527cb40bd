-- No line splits the ends of balanced pairs.
use Rattle.std.proofs.Common.{◌≡◌, ℕ, zero, suc, ◌<◌, List, [], ◌∷◌, length, sum, ℤ, pos, ◌+ℤ◌, ◌-ℤ◌, ◌*ℤ◌, ap, ap₂, ◌∙◌, arith, ◌≤ℤ◌, ◌<ℤ◌}
use Rattle.std.proofs.lemmas.Int.{ints}
use Rattle.math_base.proofs.Quoting.{quoting, by_ring}
use Rattle.std.specs.List.{AllByRecursion}
use Rattle.sight_names.specs.declared.names.EndPair.{EndPair}
use Rattle.sight_names.specs.Point.{point_of, value_at}
use Rattle.sight_names.specs.Splitting.{AreBalanced, across, up, weighed}
use Rattle.math_base.proofs.Small.{weighed_pos, weighed_nonneg}

-- the line has the pair's left end on its left and its right end on its right
abbrev pub PartsPair : ℤ → ℤ → ℤ → EndPair → Type 0
PartsPair a b c p = (pos 0 <ℤ value_at a b c (point_of p.left.at)) × (value_at a b c (point_of p.right.at) <ℤ pos 0)

-- what a line tells of a difference
abbrev gain : ℤ → ℤ → EndPair → ℤ
gain a b p = a *ℤ across p +ℤ b *ℤ up p

gain_is : (a b c lx ly rx ry : ℤ) → a *ℤ (lx -ℤ rx) +ℤ b *ℤ (ly -ℤ ry) ≡ (a *ℤ lx +ℤ b *ℤ ly +ℤ c *ℤ pos 1) -ℤ (a *ℤ rx +ℤ b *ℤ ry +ℤ c *ℤ pos 1)
gain_is a b c lx ly rx ry = by_ring (a ∷ b ∷ c ∷ lx ∷ ly ∷ rx ∷ ry ∷ []) _ _ (search quoting depth 40 fits 100000) (search quoting depth 40 fits 100000) tt

gain_above : (a b c : ℤ) (p : EndPair) → PartsPair a b c p → pos 0 <ℤ gain a b p
gain_above a b c p h = let e = gain_is a b c p.left.at.x p.left.at.y p.right.at.x p.right.at.y in let l = h.0 in let r = h.1 in omega (arith, ints)

one_more_ring : (a b w x y u v : ℤ) → a *ℤ (w *ℤ x +ℤ u) +ℤ b *ℤ (w *ℤ y +ℤ v) ≡ w *ℤ (a *ℤ x +ℤ b *ℤ y) +ℤ (a *ℤ u +ℤ b *ℤ v)
one_more_ring a b w x y u v = by_ring (a ∷ b ∷ w ∷ x ∷ y ∷ u ∷ v ∷ []) _ _ (search quoting depth 40 fits 100000) (search quoting depth 40 fits 100000) tt

zero_ring : (a b : ℤ) → a *ℤ pos 0 +ℤ b *ℤ pos 0 ≡ pos 0
zero_ring a b = by_ring (a ∷ b ∷ []) _ _ (search quoting depth 40 fits 100000) (search quoting depth 40 fits 100000) tt

weighed_gain : (a b : ℤ) (ws : List ℕ) (ps : List EndPair) → a *ℤ weighed across ws ps +ℤ b *ℤ weighed up ws ps ≡ weighed (gain a b) ws ps
weighed_gain a b [] [] = zero_ring a b
weighed_gain a b [] (p ∷ ps) = zero_ring a b
weighed_gain a b (w ∷ ws) [] = zero_ring a b
weighed_gain a b (w ∷ ws) (p ∷ ps) = one_more_ring a b (pos w) (across p) (up p) (weighed across ws ps) (weighed up ws ps) ∙ ap (λ (t : ℤ). pos w *ℤ gain a b p +ℤ t) (weighed_gain a b ws ps)

sum_nonneg : (f : EndPair → ℤ) (ws : List ℕ) (ps : List EndPair) → AllByRecursion (λ p. pos 0 <ℤ f p) ps → pos 0 ≤ℤ weighed f ws ps
sum_nonneg f [] ps h = omega (arith, ints)
sum_nonneg f (w ∷ ws) [] h = omega (arith, ints)
sum_nonneg f (w ∷ ws) (p ∷ ps) h =
    let a = weighed_nonneg w (f p) h.0 in
    let b = sum_nonneg f ws ps h.1 in
    omega (arith, ints)

weighed_above : (f : EndPair → ℤ) (ws : List ℕ) (ps : List EndPair) → length ws ≡ length ps → 0 < sum ws → AllByRecursion (λ p. pos 0 <ℤ f p) ps → pos 0 <ℤ weighed f ws ps
weighed_above f [] ps e s h = absurd (omega (arith, s))
weighed_above f (w ∷ ws) [] e s h = absurd (omega (arith, e))
weighed_above f (zero ∷ ws) (p ∷ ps) e s h =
    let a = weighed_nonneg zero (f p) h.0 in
    let b = weighed_above f ws ps (omega (arith, e)) (omega (arith, s)) h.1 in
    omega (arith, ints)
weighed_above f (suc w ∷ ws) (p ∷ ps) e s h =
    let a = weighed_pos w (f p) h.0 in
    let b = sum_nonneg f ws ps h.1 in
    omega (arith, ints)

all_gains : (a b c : ℤ) (ps : List EndPair) → AllByRecursion (PartsPair a b c) ps → AllByRecursion (λ p. pos 0 <ℤ gain a b p) ps
all_gains a b c [] h = tt
all_gains a b c (p ∷ ps) h = (gain_above a b c p h.0, all_gains a b c ps h.1)

pub no_line_parts : (a b c : ℤ) (ps : List EndPair) → AreBalanced ps → AllByRecursion (PartsPair a b c) ps → ⊥
no_line_parts a b c ps m h =
    let s = weighed_above (gain a b) m.weights ps m.one_each m.weighty (all_gains a b c ps h) in
    let e = weighed_gain a b m.weights ps in
    let z = ap₂ (λ (u v : ℤ). a *ℤ u +ℤ b *ℤ v) m.x m.y ∙ zero_ring a b in
    omega (arith, ints)
