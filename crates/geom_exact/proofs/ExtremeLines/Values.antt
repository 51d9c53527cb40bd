-- The form of an extreme line, and the sizes of numbers.
use Rattle.std.proofs.Common.{ℤ, pos, ◌+ℤ◌, ◌-ℤ◌, ◌*ℤ◌, ◌≡◌, ap, ap₂, ◌∙◌, [], ◌∷◌}
use Rattle.math_base.proofs.Quoting.{quoting, by_ring}
use Rattle.sight_names.specs.declared.names.Pt.{Pt}
use Rattle.sight_names.specs.Point.{point_of, value_at}
use Rattle.plane_base.specs.Arrows.{cross, dot}
use Rattle.geom_exact.specs.ExtremeLines.Differences.{difference}

value_ring : (lx ly rx ry px py : ℤ) → ((ry -ℤ ly) *ℤ px +ℤ (lx -ℤ rx) *ℤ py) -ℤ ((ry -ℤ ly) *ℤ rx +ℤ (lx -ℤ rx) *ℤ ry) ≡ (lx -ℤ rx) *ℤ (py -ℤ ry) -ℤ (ly -ℤ ry) *ℤ (px -ℤ rx)
value_ring lx ly rx ry px py = by_ring (lx ∷ ly ∷ rx ∷ ry ∷ px ∷ py ∷ []) _ _ (search quoting depth 40 fits 100000) (search quoting depth 40 fits 100000) tt

pub value_is : (l r p : Pt) (a b c : ℤ) → a ≡ r.y -ℤ l.y → b ≡ l.x -ℤ r.x → c ≡ a *ℤ r.x +ℤ b *ℤ r.y → (a *ℤ p.x +ℤ b *ℤ p.y) -ℤ c ≡ cross (difference l r) (difference p r)
unfolding cross
value_is l r p a b c ea eb ec =
    ap (λ (t : ℤ). (a *ℤ p.x +ℤ b *ℤ p.y) -ℤ t) ec
    ∙ ap₂ (λ (s t : ℤ). (s *ℤ p.x +ℤ t *ℤ p.y) -ℤ (s *ℤ r.x +ℤ t *ℤ r.y)) ea eb
    ∙ value_ring l.x l.y r.x r.y p.x p.y

product_ring : (lx ly rx ry u v : ℤ) → (lx -ℤ rx) *ℤ u -ℤ (ry -ℤ ly) *ℤ v ≡ (lx -ℤ rx) *ℤ u +ℤ (ly -ℤ ry) *ℤ v
product_ring lx ly rx ry u v = by_ring (lx ∷ ly ∷ rx ∷ ry ∷ u ∷ v ∷ []) _ _ (search quoting depth 40 fits 100000) (search quoting depth 40 fits 100000) tt

pub product_is : (l r p q : Pt) (a b u v : ℤ) → a ≡ r.y -ℤ l.y → b ≡ l.x -ℤ r.x → u ≡ p.x -ℤ q.x → v ≡ p.y -ℤ q.y → b *ℤ u -ℤ a *ℤ v ≡ dot (difference l r) (difference p q)
unfolding dot
product_is l r p q a b u v ea eb eu ev =
    ap₂ (λ (s t : ℤ). s *ℤ u -ℤ t *ℤ v) eb ea
    ∙ ap₂ (λ (s t : ℤ). (l.x -ℤ r.x) *ℤ s -ℤ (r.y -ℤ l.y) *ℤ t) eu ev
    ∙ product_ring l.x l.y r.x r.y (p.x -ℤ q.x) (p.y -ℤ q.y)

-- ---- the line in the middle
middle_ring : (a1 b1 c1 a2 b2 c2 s x y : ℤ) → (pos 2 *ℤ (a1 -ℤ a2)) *ℤ x +ℤ (pos 2 *ℤ (b1 -ℤ b2)) *ℤ y +ℤ (pos 2 *ℤ (c2 -ℤ c1) +ℤ s) *ℤ pos 1 ≡ pos 2 *ℤ (((a1 *ℤ x +ℤ b1 *ℤ y) -ℤ c1) -ℤ ((a2 *ℤ x +ℤ b2 *ℤ y) -ℤ c2)) +ℤ s
middle_ring a1 b1 c1 a2 b2 c2 s x y = by_ring (a1 ∷ b1 ∷ c1 ∷ a2 ∷ b2 ∷ c2 ∷ s ∷ x ∷ y ∷ []) _ _ (search quoting depth 40 fits 100000) (search quoting depth 40 fits 100000) tt

-- three numbers that are the middle form's
pub middle_is : (a b c a1 b1 c1 a2 b2 c2 s u v : ℤ) (p : Pt) → a ≡ pos 2 *ℤ (a1 -ℤ a2) → b ≡ pos 2 *ℤ (b1 -ℤ b2) → c ≡ pos 2 *ℤ (c2 -ℤ c1) +ℤ s
    → (a1 *ℤ p.x +ℤ b1 *ℤ p.y) -ℤ c1 ≡ u → (a2 *ℤ p.x +ℤ b2 *ℤ p.y) -ℤ c2 ≡ v → value_at a b c (point_of p) ≡ pos 2 *ℤ (u -ℤ v) +ℤ s
middle_is a b c a1 b1 c1 a2 b2 c2 s u v p ea eb ec eu ev =
    (λ i. ea i *ℤ p.x +ℤ eb i *ℤ p.y +ℤ ec i *ℤ pos 1) ∙ middle_ring a1 b1 c1 a2 b2 c2 s p.x p.y ∙ (λ i. pos 2 *ℤ (eu i -ℤ ev i) +ℤ s)

ray_ring : (lx ly rx ry x y : ℤ) → (pos 2 *ℤ ((lx -ℤ rx) -ℤ pos 0)) *ℤ x +ℤ (pos 2 *ℤ (pos 0 -ℤ (ry -ℤ ly))) *ℤ y +ℤ (pos 2 *ℤ (pos 0 -ℤ ((lx -ℤ rx) *ℤ lx +ℤ (pos 0 -ℤ (ry -ℤ ly)) *ℤ ly)) +ℤ pos 1) *ℤ pos 1
    ≡ pos 2 *ℤ ((lx -ℤ rx) *ℤ (x -ℤ lx) +ℤ (ly -ℤ ry) *ℤ (y -ℤ ly)) +ℤ pos 1
ray_ring lx ly rx ry x y = by_ring (lx ∷ ly ∷ rx ∷ ry ∷ x ∷ y ∷ []) _ _ (search quoting depth 40 fits 100000) (search quoting depth 40 fits 100000) tt

-- three numbers that are the form across a ray
pub ray_is : (l r p : Pt) (a b c d e f : ℤ) → d ≡ r.y -ℤ l.y → e ≡ l.x -ℤ r.x → a ≡ pos 2 *ℤ (e -ℤ pos 0) → b ≡ pos 2 *ℤ (pos 0 -ℤ d) → f ≡ e *ℤ l.x +ℤ (pos 0 -ℤ d) *ℤ l.y → c ≡ pos 2 *ℤ (pos 0 -ℤ f) +ℤ pos 1
    → value_at a b c (point_of p) ≡ pos 2 *ℤ dot (difference l r) (difference p l) +ℤ pos 1
unfolding dot
ray_is l r p a b c d e f ed ee ea eb ef ec =
    (λ i. ea i *ℤ p.x +ℤ eb i *ℤ p.y +ℤ (ec ∙ ap (λ (t : ℤ). pos 2 *ℤ (pos 0 -ℤ t) +ℤ pos 1) ef) i *ℤ pos 1)
    ∙ (λ i. (pos 2 *ℤ (ee i -ℤ pos 0)) *ℤ p.x +ℤ (pos 2 *ℤ (pos 0 -ℤ ed i)) *ℤ p.y +ℤ (pos 2 *ℤ (pos 0 -ℤ (ee i *ℤ l.x +ℤ (pos 0 -ℤ ed i) *ℤ l.y)) +ℤ pos 1) *ℤ pos 1)
    ∙ ray_ring l.x l.y r.x r.y p.x p.y
