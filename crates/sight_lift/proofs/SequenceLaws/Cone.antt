-- The transitions of the fold over differences keep what is known of each difference seen so far.
use Rattle.std.proofs.Common.{ℤ, pos, ◌+ℤ◌, ◌-ℤ◌, ◌*ℤ◌, neg_ℤ, ◌≡◌, sym, ap, ◌∙◌, [], ◌∷◌, arith, ◌≤ℤ◌, ◌<ℤ◌, subst}
use Rattle.std.proofs.lemmas.Int.{ints}
use Rattle.math_base.proofs.Quoting.{quoting, by_ring}
use Rattle.math_base.proofs.Signs.{mul-pos, pos-of-mul}
use Rattle.math_base.proofs.MoreSigns.{sum-pos}
use Rattle.plane_base.proofs.Linear.{linear}

pub record Vec : Type 0 where
  pub x : ℤ
  pub y : ℤ

abbrev pub cross : Vec → Vec → ℤ
cross u v = u.x *ℤ v.y -ℤ u.y *ℤ v.x

abbrev pub dot : Vec → Vec → ℤ
dot u v = u.x *ℤ v.x +ℤ u.y *ℤ v.y

-- e has the direction of d
pub record Along (d e : Vec) : Type 0 where
  pub level : cross d e ≡ pos 0
  pub ahead : pos 0 <ℤ dot d e

-- e lies from d counterclockwise to f
pub record Between (d f e : Vec) : Type 0 where
  pub after : pos 0 ≤ℤ cross d e
  pub before : pos 0 ≤ℤ cross e f
  pub proper : pos 0 <ℤ (cross d e +ℤ cross e f)

pub turned : (u v : Vec) → cross v u ≡ neg_ℤ (cross u v)
turned u v = by_ring (u.x ∷ u.y ∷ v.x ∷ v.y ∷ []) _ _ (search quoting depth 40 fits 100000) (search quoting depth 40 fits 100000) tt

pub self : (u : Vec) → cross u u ≡ pos 0
self u = by_ring (u.x ∷ u.y ∷ []) _ _ (search quoting depth 40 fits 100000) (search quoting depth 40 fits 100000) tt

-- D * cross e d, by the two ends of the cone
split_by : (d f e g : Vec) → cross d f *ℤ cross e g ≡ cross e f *ℤ cross d g +ℤ cross d e *ℤ cross f g
split_by d f e g = by_ring (d.x ∷ d.y ∷ f.x ∷ f.y ∷ e.x ∷ e.y ∷ g.x ∷ g.y ∷ []) _ _ (search quoting depth 40 fits 100000) (search quoting depth 40 fits 100000) tt

-- the same by one direction and its normal
split_along : (d e g : Vec) → dot d d *ℤ cross e g ≡ dot d e *ℤ cross d g -ℤ cross d e *ℤ dot d g
split_along d e g = by_ring (d.x ∷ d.y ∷ e.x ∷ e.y ∷ g.x ∷ g.y ∷ []) _ _ (search quoting depth 40 fits 100000) (search quoting depth 40 fits 100000) tt

-- One d to Two d g
pub one_to_two_after : (d e g : Vec) → pos 0 <ℤ dot d d → Along d e → pos 0 <ℤ cross d g → Between d g e
one_to_two_after d e g hd a h =
    let z : cross d e *ℤ dot d g ≡ pos 0 = ap (λ (t : ℤ). t *ℤ dot d g) a.level ∙ omega (arith, ints) in
    let m = mul-pos (dot d e) (cross d g) a.ahead h in
    let s = split_along d e g in
    let l = a.level in
    let k : pos 0 <ℤ cross e g = pos-of-mul (dot d d) (cross e g) hd (omega (arith, linear, s, z, m)) in
    record { after = omega (arith, linear, l); before = omega (arith, linear, k); proper = omega (arith, linear, k, l) }

-- One d to Two g d
pub one_to_two_before : (d e g : Vec) → pos 0 <ℤ dot d d → Along d e → cross d g <ℤ pos 0 → Between g d e
one_to_two_before d e g hd a h =
    let z : cross d e *ℤ dot d g ≡ pos 0 = ap (λ (t : ℤ). t *ℤ dot d g) a.level ∙ omega (arith, ints) in
    let u = turned d g in
    let m = mul-pos (dot d e) (cross g d) a.ahead (omega (arith, linear, u, h)) in
    let n : dot d e *ℤ cross g d ≡ neg_ℤ (dot d e *ℤ cross d g) = by_ring (d.x ∷ d.y ∷ e.x ∷ e.y ∷ g.x ∷ g.y ∷ []) _ _ (search quoting depth 40 fits 100000) (search quoting depth 40 fits 100000) tt in
    let s = split_along d e g in
    let w = turned e g in
    let v : dot d d *ℤ cross g e ≡ neg_ℤ (dot d d *ℤ cross e g) = by_ring (d.x ∷ d.y ∷ e.x ∷ e.y ∷ g.x ∷ g.y ∷ []) _ _ (search quoting depth 40 fits 100000) (search quoting depth 40 fits 100000) tt in
    let k : pos 0 <ℤ cross g e = pos-of-mul (dot d d) (cross g e) hd (omega (arith, linear, s, z, m, n, v)) in
    let l = a.level in
    let l' = turned d e in
    record { after = omega (arith, linear, k); before = omega (arith, linear, l, l'); proper = omega (arith, linear, k, l, l') }

-- Two d f to Two d g
pub two_wider_after : (d f e g : Vec) → pos 0 <ℤ cross d f → Between d f e → pos 0 <ℤ cross d g → cross g f <ℤ pos 0 → Between d g e
two_wider_after d f e g hD b h1 h2 =
    let s = split_by d f e g in
    let t = turned g f in
    let ba = b.after in
    let bb = b.before in
    let bp = b.proper in
    let p = sum-pos (cross e f) (cross d e) (cross d g) (cross f g) bb ba (omega (arith, linear, bp)) h1 (omega (arith, linear, t, h2)) in
    let k : pos 0 <ℤ cross e g = pos-of-mul (cross d f) (cross e g) hD (omega (arith, linear, s, p)) in
    record { after = ba; before = omega (arith, linear, k); proper = omega (arith, linear, k, ba) }

-- Two d f to Two g f
pub two_wider_before : (d f e g : Vec) → pos 0 <ℤ cross d f → Between d f e → cross d g <ℤ pos 0 → pos 0 <ℤ cross g f → Between g f e
two_wider_before d f e g hD b h1 h2 =
    let s : cross d f *ℤ cross g e ≡ cross e f *ℤ cross g d +ℤ cross d e *ℤ cross g f = by_ring (d.x ∷ d.y ∷ f.x ∷ f.y ∷ e.x ∷ e.y ∷ g.x ∷ g.y ∷ []) _ _ (search quoting depth 40 fits 100000) (search quoting depth 40 fits 100000) tt in
    let t = turned d g in
    let ba = b.after in
    let bb = b.before in
    let bp = b.proper in
    let p = sum-pos (cross e f) (cross d e) (cross g d) (cross g f) bb ba (omega (arith, linear, bp)) (omega (arith, linear, t, h1)) h2 in
    let k : pos 0 <ℤ cross g e = pos-of-mul (cross d f) (cross g e) hD (omega (arith, linear, s, p)) in
    record { after = omega (arith, linear, k); before = bb; proper = omega (arith, linear, k, bb) }

-- Two d f meets g: D * g + (- cross g f) * d + (- cross d g) * f is 0
pub meets_x : (d f g : Vec) → cross d f *ℤ g.x ≡ cross g f *ℤ d.x +ℤ cross d g *ℤ f.x
meets_x d f g = by_ring (d.x ∷ d.y ∷ f.x ∷ f.y ∷ g.x ∷ g.y ∷ []) _ _ (search quoting depth 40 fits 100000) (search quoting depth 40 fits 100000) tt

pub meets_y : (d f g : Vec) → cross d f *ℤ g.y ≡ cross g f *ℤ d.y +ℤ cross d g *ℤ f.y
meets_y d f g = by_ring (d.x ∷ d.y ∷ f.x ∷ f.y ∷ g.x ∷ g.y ∷ []) _ _ (search quoting depth 40 fits 100000) (search quoting depth 40 fits 100000) tt

-- the normal of Two d f
abbrev pub normal : Vec → Vec → Vec
normal d f = record { x = f.y -ℤ d.y; y = d.x -ℤ f.x }

normal_is : (d f e : Vec) → dot (normal d f) e ≡ cross d e +ℤ cross e f
normal_is d f e = by_ring (d.x ∷ d.y ∷ f.x ∷ f.y ∷ e.x ∷ e.y ∷ []) _ _ (search quoting depth 40 fits 100000) (search quoting depth 40 fits 100000) tt

pub normal_positive : (d f e : Vec) → Between d f e → pos 0 <ℤ dot (normal d f) e
normal_positive d f e b = subst (λ (t : ℤ). pos 0 <ℤ t) (sym (normal_is d f e)) b.proper
