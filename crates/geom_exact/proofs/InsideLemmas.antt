-- Strictly inside a triangle: the three turns are above 0 exactly where the point is a mean of the corners with three weights above 0.
use Rattle.std.proofs.Common.{ℤ, pos, ◌+ℤ◌, ◌*ℤ◌, ◌<ℤ◌, ◌≡◌, [], ◌∷◌}
use Rattle.math_base.proofs.Quoting.{quoting, ring_at}
use Rattle.sight_names.specs.declared.names.Pt.{Pt}
use Rattle.geom_exact.specs.Formulas.{turn_of}

pub record IsInside (a b c p : Pt) : Type 0 where
  pub l : ℤ
  pub m : ℤ
  pub n : ℤ
  pub first : pos 0 <ℤ l
  pub second : pos 0 <ℤ m
  pub third : pos 0 <ℤ n
  pub x : (l +ℤ m +ℤ n) *ℤ p.x ≡ l *ℤ a.x +ℤ m *ℤ b.x +ℤ n *ℤ c.x
  pub y : (l +ℤ m +ℤ n) *ℤ p.y ≡ l *ℤ a.y +ℤ m *ℤ b.y +ℤ n *ℤ c.y

pub inside_of_turns : (a b c p : Pt) → pos 0 <ℤ turn_of a b p → pos 0 <ℤ turn_of b c p → pos 0 <ℤ turn_of c a p → IsInside a b c p
unfolding turn_of
inside_of_turns a b c p h k g = record {
  l = turn_of b c p;
  m = turn_of c a p;
  n = turn_of a b p;
  first = k;
  second = g;
  third = h;
  x = ring_at (a.x ∷ a.y ∷ b.x ∷ b.y ∷ c.x ∷ c.y ∷ p.x ∷ p.y ∷ []) (search quoting depth 60 fits 200000) tt;
  y = ring_at (a.x ∷ a.y ∷ b.x ∷ b.y ∷ c.x ∷ c.y ∷ p.x ∷ p.y ∷ []) (search quoting depth 60 fits 200000) tt;
}
