-- One portal with different ends is split by a line: the one across its middle.
use Rattle.std.proofs.Common.{◌≡◌, ◌≢◌, [], ◌∷◌, ℤ, pos, ◌+ℤ◌, ◌-ℤ◌, ◌*ℤ◌, neg_ℤ, ◌<ℤ◌, sym, subst}
use Rattle.sight_names.specs.declared.names.Pt.{Pt}
use Rattle.sight_names.specs.Splitting.{EndPoints, IsSplittable}
use Rattle.sight_names.proofs.Records.{same_pt}
use Rattle.math_base.proofs.Quoting.{quoting, by_ring}
use Rattle.math_base.proofs.Small.{neg_of_negated_pos, same_where_no_difference, some_square}

-- what the line says of a point (px, py): l is on its left and r on its right
at_left : (lx ly rx ry : ℤ) → pos 2 *ℤ (lx -ℤ rx) *ℤ lx +ℤ pos 2 *ℤ (ly -ℤ ry) *ℤ ly +ℤ neg_ℤ ((lx -ℤ rx) *ℤ (lx +ℤ rx) +ℤ (ly -ℤ ry) *ℤ (ly +ℤ ry)) *ℤ pos 1 ≡ (lx -ℤ rx) *ℤ (lx -ℤ rx) +ℤ (ly -ℤ ry) *ℤ (ly -ℤ ry)
at_left lx ly rx ry = by_ring (lx ∷ ly ∷ rx ∷ ry ∷ []) _ _ (search quoting depth 60 fits 1000000) (search quoting depth 60 fits 1000000) tt

at_right : (lx ly rx ry : ℤ) → pos 2 *ℤ (lx -ℤ rx) *ℤ rx +ℤ pos 2 *ℤ (ly -ℤ ry) *ℤ ry +ℤ neg_ℤ ((lx -ℤ rx) *ℤ (lx +ℤ rx) +ℤ (ly -ℤ ry) *ℤ (ly +ℤ ry)) *ℤ pos 1 ≡ neg_ℤ ((lx -ℤ rx) *ℤ (lx -ℤ rx) +ℤ (ly -ℤ ry) *ℤ (ly -ℤ ry))
at_right lx ly rx ry = by_ring (lx ∷ ly ∷ rx ∷ ry ∷ []) _ _ (search quoting depth 60 fits 1000000) (search quoting depth 60 fits 1000000) tt

pub one_splittable : (e : EndPoints) → e.left ≢ e.right → IsSplittable (e ∷ [])
one_splittable e differ =
    let l : Pt = e.left in
    let r : Pt = e.right in
    let positive : pos 0 <ℤ ((l.x -ℤ r.x) *ℤ (l.x -ℤ r.x) +ℤ (l.y -ℤ r.y) *ℤ (l.y -ℤ r.y)) = some_square (l.x -ℤ r.x) (l.y -ℤ r.y) (λ h. differ (sym (same_pt r l (same_where_no_difference r.x l.x h.0) (same_where_no_difference r.y l.y h.1)))) in (
      pos 2 *ℤ (l.x -ℤ r.x),
      pos 2 *ℤ (l.y -ℤ r.y),
      neg_ℤ ((l.x -ℤ r.x) *ℤ (l.x +ℤ r.x) +ℤ (l.y -ℤ r.y) *ℤ (l.y +ℤ r.y)),
      ((subst (λ (z : ℤ). pos 0 <ℤ z) (sym (at_left l.x l.y r.x r.y)) positive, neg_of_negated_pos _ _ (at_right l.x l.y r.x r.y) positive), tt),
    )
