-- How far from 0 a point's coordinates may be.
use Rattle.std.specs.Prelude.{◌≡◌, ◌≤◌, ◌^◌, Bool, true, false, leb, if◌then◌else◌, ℤ, pos, nat_abs}
use Rattle.std.proofs.Common.{refl}
use Rattle.std.proofs.lemmas.Bool.{leb-true}
use Rattle.std.proofs.Math.Facts.{leb_yes}
use Rattle.sight_names.specs.declared.names.Pt.{Pt}

-- the number; 0 in place of one that is farther, as none of 16 bits is
abbrev pub near : ℤ → ℤ
near z = if leb (nat_abs z) (2 ^ 25) then z else pos 0

near_by : (b : Bool) (z : ℤ) → leb (nat_abs z) (2 ^ 25) ≡ b → nat_abs (if b then z else pos 0) ≤ 2 ^ 25
near_by true z e = leb-true _ _ e
near_by false z e = leb_yes tt

pub is_near : (z : ℤ) → nat_abs (near z) ≤ 2 ^ 25
is_near z = near_by (leb (nat_abs z) (2 ^ 25)) z refl

-- the point with these coordinates
abbrev pub point_at : ℤ → ℤ → Pt
point_at x y = record { x = near x; y = near y; near_x = is_near x; near_y = is_near y }
