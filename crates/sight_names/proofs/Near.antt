-- Points by their coordinates.
use Rattle.std.proofs.Common.{◌≡◌, ◌≤◌, ◌^◌, Bool, cond, ℤ, pos, nat_abs, sym, ap, ◌∙◌, subst}
use Rattle.std.proofs.lemmas.Bool.{le-leb}
use Rattle.sight_names.specs.declared.names.Pt.{Pt}
use Rattle.sight_names.specs.Near.{near, point_at}
use Rattle.sight_names.proofs.Records.{same_pt}

-- a number that isn't too far is the number itself
pub near_is : (z : ℤ) → nat_abs z ≤ 2 ^ 25 → near z ≡ z
near_is z h = ap (λ (b : Bool). cond b z (pos 0)) (le-leb (nat_abs z) (2 ^ 25) h)

-- a point is the one with its coordinates
pub point_is : (p : Pt) (x y : ℤ) → p.x ≡ x → p.y ≡ y → p ≡ point_at x y
point_is p x y e f =
    same_pt p (point_at x y) (e ∙ sym (near_is x (subst (λ (z : ℤ). nat_abs z ≤ 2 ^ 25) e p.near_x))) (f ∙ sym (near_is y (subst (λ (z : ℤ). nat_abs z ≤ 2 ^ 25) f p.near_y)))
