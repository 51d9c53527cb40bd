-- CrossedLines, the lines of a ray's two sides, and the ways in which the ray crosses them.
use Rattle.std.proofs.Common.{◌≡◌, ℕ, Bool, true, false, not, ℤ, pos, ◌<ℤ◌, refl, sym, subst, ◌∙◌, inl, inr, if◌then◌else◌, Option, Some, None, MatchOption}
use mathlib.Core.Bool.{beq}
use Rattle.sight_names.specs.declared.names.Pt.{Pt}
use Rattle.sight_names.specs.declared.names.Side.{Side}
use Rattle.sight_names.specs.declared.names.Ray.{Ray}
use Rattle.sight_names.specs.Point.{Point, point_of, OnSegment}
use Rattle.sight_names.specs.Map.{Map, MapLine, line_at}
use Rattle.sight_names.specs.Ray.{ray_value, SplitsLine}
use Rattle.sight_names.proofs.Laws.{on_segment_sym}
use Rattle.geom_exact.specs.Formulas.{side_value, AreOnTwoSides}
use Rattle.sight_ray.specs.declared.crossed_line.CrossedLine.{CrossedLine}
use Rattle.sight_ray.specs.CrossedLine.{AreOnBothSides, IsCrossedLineBetween, IsCrossedLineOf, CrossingOfLine}
use Rattle.sight_ray.specs.RayFault.{RaySplitsSide, IsSplit, CrossesSide}
use Rattle.math_base.proofs.Small.{pos_not_neg}
use Rattle.math_base.proofs.Options.{some_is_same}

-- ---- a crossed line from the two values
pub crossed_line_forward : (r : Ray) (p q : Pt) → AreOnBothSides (side_value r p) (side_value r q) → IsCrossedLineBetween r p q (record { left = p; right = q; first_left = true })
unfolding side_value
crossed_line_forward r p q h = record { parts = record { left = h.0; right = h.1 }; left = refl; right = refl }

pub crossed_line_back : (r : Ray) (p q : Pt) → AreOnBothSides (side_value r q) (side_value r p) → IsCrossedLineBetween r p q (record { left = q; right = p; first_left = false })
unfolding side_value
crossed_line_back r p q h = record { parts = record { left = h.0; right = h.1 }; left = refl; right = refl }

pub no_crossed_line : (a b : ℤ) → ¬ AreOnBothSides a b → ¬ AreOnBothSides b a → ¬ AreOnTwoSides a b
no_crossed_line a b n m (inl h) = n h
no_crossed_line a b n m (inr h) = m (h.1, h.0)

-- ---- a crossed line of a side
pub same_line : (m : Map) (i : ℕ) (k l : MapLine) → line_at m i ≡ Some k → line_at m i ≡ Some l → k ≡ l
same_line m i k l e f = some_is_same k l (sym e ∙ f)

splits_by : (r : Ray) (l : MapLine) (b : Bool) (left right : Pt) → pos 0 <ℤ ray_value r (point_of left) → ray_value r (point_of right) <ℤ pos 0
    → left ≡ (if b then l.first else l.second) → right ≡ (if b then l.second else l.first) → SplitsLine r l b
splits_by r l true left right hl hr e f = (subst (λ (p : Pt). pos 0 <ℤ ray_value r (point_of p)) e hl, subst (λ (p : Pt). ray_value r (point_of p) <ℤ pos 0) f hr)
splits_by r l false left right hl hr e f = (subst (λ (p : Pt). ray_value r (point_of p) <ℤ pos 0) f hr, subst (λ (p : Pt). pos 0 <ℤ ray_value r (point_of p)) e hl)

pub crossed_line_splits : (m : Map) (r : Ray) (s : Side) (g : CrossedLine) → IsCrossedLineOf m r s g → RaySplitsSide m r s g.first_left
crossed_line_splits m r s g h = record { line = h.line; is = h.is; ends = splits_by r h.line g.first_left g.left g.right h.crossed_line.parts.left h.crossed_line.parts.right h.crossed_line.left h.crossed_line.right }

two_of : (r : Ray) (l : MapLine) (b : Bool) → SplitsLine r l b → AreOnTwoSides (side_value r l.first) (side_value r l.second)
unfolding side_value
two_of r l true h = inl h
two_of r l false h = inr h

pub unsplit : (m : Map) (r : Ray) (s : Side) (l : MapLine) → line_at m s.line ≡ Some l → ¬ AreOnTwoSides (side_value r l.first) (side_value r l.second) → ¬ IsSplit m r s
unsplit m r s l e n (b, h) = n (subst (λ (k : MapLine). AreOnTwoSides (side_value r k.first) (side_value r k.second)) (same_line m s.line h.line l h.is e) (two_of r h.line b h.ends))

-- ---- the way
one_way : (r : Ray) (l : MapLine) (b : Bool) → SplitsLine r l b → SplitsLine r l (not b) → ⊥
one_way r l true h k = let a = h.0 in let b = k.0 in pos_not_neg _ a b
one_way r l false h k = let a = h.0 in let b = k.0 in pos_not_neg _ b a

pub one_split : (m : Map) (r : Ray) (s : Side) (b : Bool) → RaySplitsSide m r s b → RaySplitsSide m r s (not b) → ⊥
one_split m r s b h k = one_way r h.line b h.ends (subst (λ (l : MapLine). SplitsLine r l (not b)) (same_line m s.line k.line h.line k.is h.is) k.ends)

pub beq_true : (a b : Bool) → beq a b ≡ true → a ≡ b
beq_true true true e = refl
beq_true true false e = cc
beq_true false true e = cc
beq_true false false e = refl

pub beq_false : (a b : Bool) → beq a b ≡ false → a ≡ not b
beq_false true true e = cc
beq_false true false e = refl
beq_false false true e = refl
beq_false false false e = cc

pub not_false : (b : Bool) → not b ≡ false → b ≡ true
not_false true e = refl
not_false false e = cc

-- ---- crossings

at_line : (l : MapLine) (b : Bool) (left right : Pt) (z : Point) → left ≡ (if b then l.first else l.second) → right ≡ (if b then l.second else l.first)
    → OnSegment (point_of left) (point_of right) z → OnSegment (point_of l.first) (point_of l.second) z
at_line l true left right z e f o = subst (λ (p : Pt). OnSegment (point_of p) (point_of l.second) z) e (subst (λ (p : Pt). OnSegment (point_of left) (point_of p) z) f o)
at_line l false left right z e f o =
    on_segment_sym (point_of l.second) (point_of l.first) z (subst (λ (p : Pt). OnSegment (point_of p) (point_of l.first) z) e (subst (λ (p : Pt). OnSegment (point_of left) (point_of p) z) f o))

pub line_crosses : (m : Map) (r : Ray) (s : Side) (g : CrossedLine) (z : Point) → IsCrossedLineOf m r s g → CrossingOfLine r g z → CrossesSide m r s z
line_crosses m r s g z h c = record { line = h.line; is = h.is; crossing = (at_line h.line g.first_left g.left g.right z h.crossed_line.left h.crossed_line.right c.0, c.1) }

-- ---- the answers of the code
pub crossed_line_or_none : (m : Map) (r : Ray) (s : Side) (l : MapLine) (o : Option CrossedLine) (p q : Pt) → line_at m s.line ≡ Some l → p ≡ l.first → q ≡ l.second
    → MatchOption o (¬ AreOnTwoSides (side_value r p) (side_value r q)) (λ g. IsCrossedLineBetween r p q g) → MatchOption o (¬ IsSplit m r s) (λ g. IsCrossedLineOf m r s g)
crossed_line_or_none m r s l None p q e f g n = unsplit m r s l e (subst (λ (x : Pt). ¬ AreOnTwoSides (side_value r x) (side_value r l.second)) f (subst (λ (x : Pt). ¬ AreOnTwoSides (side_value r p) (side_value r x)) g n))
crossed_line_or_none m r s l (Some k) p q e f g h = record { line = l; is = e; crossed_line = subst (λ (x : Pt). IsCrossedLineBetween r x l.second k) f (subst (λ (x : Pt). IsCrossedLineBetween r p x k) g h) }
