-- Two segments have one relation, and what it says of ends doesn't depend on the point that stands for the common one.
use Rattle.std.proofs.Common.{ℤ, pos, ◌*ℤ◌, ◌<ℤ◌, ◌≡◌, [], ◌∷◌, refl, inl, inr}
use Rattle.math_base.proofs.Quoting.{quoting, by_ring, combine2}
use Rattle.math_base.proofs.Signs.{same-of-mul}
use Rattle.sight_names.specs.declared.names.Pt.{Pt}
use Rattle.sight_names.specs.Point.{Point, point_of, SamePoint}
use Rattle.sight_names.specs.Sound.{IsLineEnd}
use Rattle.geom_exact.specs.declared.Relation.{Relation}
use Rattle.geom_exact.specs.declared.Relation.TheVariants.{Apart, Overlap, Ends, Touch, Cross}
use Rattle.geom_exact.specs.Common.{IsOnlyCommon, IsRelation}
use Rattle.sight_names.proofs.Laws.{same_point_sym}
use Rattle.sight_names.proofs.Portals.{scale_above}

pub same_trans : (z w v : Point) → SamePoint z w → SamePoint w v → SamePoint z v
same_trans z w v h k = record { x = through (pos w.d) z.x (pos z.d) w.x v.x (pos v.d) (scale_above w) h.x k.x; y = through (pos w.d) z.y (pos z.d) w.y v.y (pos v.d) (scale_above w) h.y k.y }
  where
    through : (e x d y u f : ℤ) → pos 0 <ℤ e → x *ℤ e ≡ y *ℤ d → y *ℤ f ≡ u *ℤ e → x *ℤ f ≡ u *ℤ d
    through e x d y u f p h k = same-of-mul e (x *ℤ f) (u *ℤ d) p (combine2 f d h k (by_ring (e ∷ x ∷ d ∷ y ∷ u ∷ f ∷ []) _ _ (search quoting depth 60 fits 200000) (search quoting depth 60 fits 200000) tt))

pub end_same : (p q : Pt) (z w : Point) → SamePoint z w → IsLineEnd p q z → IsLineEnd p q w
end_same p q z w h (inl e) = inl (same_trans w z (point_of p) (same_point_sym z w h) e)
end_same p q z w h (inr e) = inr (same_trans w z (point_of q) (same_point_sym z w h) e)

-- two only points are the same
only_same : (p q r s : Pt) (z w : Point) → IsOnlyCommon p q r s z → IsOnlyCommon p q r s w → SamePoint z w
only_same p q r s z w h k = k.only z h.common

no_overlap : (p q r s : Pt) (z : Point) → IsOnlyCommon p q r s z → IsRelation p q r s Overlap → ⊥
no_overlap p q r s z h o = o.4 (same_trans o.0 z o.1 (h.only o.0 o.2) (same_point_sym o.1 z (h.only o.1 o.3)))

ends_no_touch : (p q r s : Pt) → IsRelation p q r s Ends → IsRelation p q r s Touch → ⊥
ends_no_touch p q r s h k = elim k.2 as (λ _. ⊥) [
  | inl g ↦ g.1 (end_same r s h.0 k.0 (only_same p q r s h.0 k.0 h.1 k.1) h.3)
  | inr g ↦ g.0 (end_same p q h.0 k.0 (only_same p q r s h.0 k.0 h.1 k.1) h.2)
]

ends_no_cross : (p q r s : Pt) → IsRelation p q r s Ends → IsRelation p q r s Cross → ⊥
ends_no_cross p q r s h k = k.2 (end_same p q h.0 k.0 (only_same p q r s h.0 k.0 h.1 k.1) h.2)

touch_no_cross : (p q r s : Pt) → IsRelation p q r s Touch → IsRelation p q r s Cross → ⊥
touch_no_cross p q r s h k = elim h.2 as (λ _. ⊥) [
  | inl g ↦ k.2 (end_same p q h.0 k.0 (only_same p q r s h.0 k.0 h.1 k.1) g.0)
  | inr g ↦ k.3 (end_same r s h.0 k.0 (only_same p q r s h.0 k.0 h.1 k.1) g.1)
]

pub one_relation : (p q r s : Pt) (j k : Relation) → IsRelation p q r s j → IsRelation p q r s k → j ≡ k
one_relation p q r s Apart Apart h g = refl
one_relation p q r s Apart Overlap h g = absurd (h g.0 g.2)
one_relation p q r s Apart Ends h g = absurd (h g.0 g.1.common)
one_relation p q r s Apart Touch h g = absurd (h g.0 g.1.common)
one_relation p q r s Apart Cross h g = absurd (h g.0 g.1.common)
one_relation p q r s Overlap Apart h g = absurd (g h.0 h.2)
one_relation p q r s Overlap Overlap h g = refl
one_relation p q r s Overlap Ends h g = absurd (no_overlap p q r s g.0 g.1 h)
one_relation p q r s Overlap Touch h g = absurd (no_overlap p q r s g.0 g.1 h)
one_relation p q r s Overlap Cross h g = absurd (no_overlap p q r s g.0 g.1 h)
one_relation p q r s Ends Apart h g = absurd (g h.0 h.1.common)
one_relation p q r s Ends Overlap h g = absurd (no_overlap p q r s h.0 h.1 g)
one_relation p q r s Ends Ends h g = refl
one_relation p q r s Ends Touch h g = absurd (ends_no_touch p q r s h g)
one_relation p q r s Ends Cross h g = absurd (ends_no_cross p q r s h g)
one_relation p q r s Touch Apart h g = absurd (g h.0 h.1.common)
one_relation p q r s Touch Overlap h g = absurd (no_overlap p q r s h.0 h.1 g)
one_relation p q r s Touch Ends h g = absurd (ends_no_touch p q r s g h)
one_relation p q r s Touch Touch h g = refl
one_relation p q r s Touch Cross h g = absurd (touch_no_cross p q r s h g)
one_relation p q r s Cross Apart h g = absurd (g h.0 h.1.common)
one_relation p q r s Cross Overlap h g = absurd (no_overlap p q r s h.0 h.1 g)
one_relation p q r s Cross Ends h g = absurd (ends_no_cross p q r s g h)
one_relation p q r s Cross Touch h g = absurd (touch_no_cross p q r s g h)
one_relation p q r s Cross Cross h g = refl
