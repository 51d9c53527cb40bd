-- The sign argument of the first spoke: what a kept segment r s that crosses a d' would have to be.
use Rattle.std.proofs.Common.{◌≡◌, ℤ, pos, ◌+ℤ◌, ◌*ℤ◌, ◌-ℤ◌, ◌≤ℤ◌, ◌<ℤ◌, neg_ℤ, arith, sym, ap, ◌∙◌, [], ◌∷◌, inl, inr}
use borrow.Author.Differences.{ints}
use lib.IntN.{*ℤ-zero, zero-*ℤ, *ℤ_comm}
use Rattle.math_base.proofs.Quoting.{quoting, by_ring}
use Rattle.math_base.proofs.IntLaws.{neg-*ℤ, *ℤ_assoc}
use Rattle.math_base.proofs.Signs.{mul-pos, mul-nonneg, pos-of-mul, nonneg-of-mul, zero-of-mul, sign_cases, le_or_lt}
use Rattle.plane_base.proofs.Vec.{V, Lin, at, edge, det, On, value, mean, bary, det-swap, det-cycle, det-first, det-last, comb_of_bary, fan}
use Rattle.plane_base.proofs.Wedge.{mul_np, on_within, Inside, base_blocks}
use Rattle.math_base.proofs.MoreSigns.{mul-nonpos, mul-neg}

pub det-flip : (a x y : V) → det a y x ≡ neg_ℤ (det a x y)
det-flip a x y = let p = det-cycle a x y in let q = det-swap x y a in let r = det-cycle a y x in omega (arith, ints)

pub on_first : (r s : V) → On r s r
on_first r s = (pos 1, pos 0, pos 1, record { left = omega (arith, ints); right = omega (arith, ints); scale = omega (arith, ints); x = omega (arith, ints); y = omega (arith, ints); d = omega (arith, ints) })

pub on_straight : (r s w : V) → On r s w → det r s w ≡ pos 0
on_straight r s w (l, m, n, h) =
    let e = value (edge r s) l m n r s w h in
    let z : l *ℤ det r s r ≡ pos 0 = ap (λ (k : ℤ). l *ℤ k) (det-first r s) ∙ *ℤ-zero l in
    let t : m *ℤ det r s s ≡ pos 0 = ap (λ (k : ℤ). m *ℤ k) (det-last r s) ∙ *ℤ-zero m in
    zero-of-mul n (det r s w) h.scale (omega (arith, ints))

-- the wall p q as seen from a along a d, and the near point e
pub record Wall (a d p q e : V) : Type 0 where
  pub Ea : pos 0 <ℤ det p q a
  pub Ed : det p q d <ℤ pos 0
  pub Up : det a d p <ℤ pos 0
  pub Uq : pos 0 <ℤ det a d q
  pub Ue : pos 0 <ℤ det a d e
  pub Ee : pos 0 ≤ℤ det p q e
  pub Me : pos 0 ≤ℤ det q a e

-- r s crosses a e properly at y, r on the right
pub record Crosses (a e r s y : V) : Type 0 where
  pub first : Inside a e y
  pub second : Inside r s y
  pub right : det a e r <ℤ pos 0

pub data Why (a d p q r s : V) : Type 0 where
  nearer : pos 0 <ℤ det a d r → pos 0 ≤ℤ det p q r → pos 0 ≤ℤ det q a r → Why a d p q r s
  meets_wall : (w : V) → On r s w → Inside p q w → Why a d p q r s
  end_inside : Inside a d r → Why a d p q r s
  wall_before : det a d r <ℤ pos 0 → pos 0 <ℤ det a d s → pos 0 <ℤ det r s a → det r s d <ℤ pos 0
      → (det r s a *ℤ neg_ℤ (det p q d)) <ℤ (det p q a *ℤ neg_ℤ (det r s d)) → Why a d p q r s

pub on_inside : (p q y : V) → Inside p q y → On p q y
on_inside p q y h = (h.l, h.m, h.n, h.comb)

-- the values at y
pub at_y : (a e y : V) (f : Lin) → Inside a e y → pos 0 ≤ℤ at f a → pos 0 <ℤ at f e → pos 0 <ℤ at f y
at_y a e y f h fa fe =
    let v = value f h.l h.m h.n a e y h.comb in
    pos-of-mul h.n (at f y) h.comb.scale (omega (arith, ints, mul-nonneg h.l (at f a) h.comb.left fa, mul-pos h.m (at f e) h.right fe))

pub at_y_left : (a e y : V) (f : Lin) → Inside a e y → pos 0 <ℤ at f a → pos 0 ≤ℤ at f e → pos 0 <ℤ at f y
at_y_left a e y f h fa fe =
    let v = value f h.l h.m h.n a e y h.comb in
    pos-of-mul h.n (at f y) h.comb.scale (omega (arith, ints, mul-pos h.l (at f a) h.left fa, mul-nonneg h.m (at f e) h.comb.right fe))

pub at_y_nonneg : (a e y : V) (f : Lin) → Inside a e y → pos 0 ≤ℤ at f a → pos 0 ≤ℤ at f e → pos 0 ≤ℤ at f y
at_y_nonneg a e y f h fa fe =
    let v = value f h.l h.m h.n a e y h.comb in
    nonneg-of-mul h.n (at f y) h.comb.scale (omega (arith, ints, mul-nonneg h.l (at f a) h.comb.left fa, mul-nonneg h.m (at f e) h.comb.right fe))

case_a : (a d p q e r s y : V) → Wall a d p q e → Crosses a e r s y → pos 0 <ℤ det a d r → Why a d p q r s
case_a a d p q e r s y w c ur =
    let z = det-first a d in
    let f = fan (edge a d) a r e q z in
    let c1 = det-cycle q a e in
    let c2 = det-flip a r e in
    let c3 = det-cycle q a r in
    let g : pos 0 <ℤ (det a d e *ℤ det a r q) = omega (arith, ints, *ℤ_comm (det a r q) (det a d e), mul-nonneg (det a e q) (det a d r) (let m = w.Me in omega (arith, ints)) (omega (arith, ints)), mul-pos (det a r e) (det a d q) (let k = c.right in omega (arith, ints)) w.Uq) in
    let mr0 = pos-of-mul (det a d e) (det a r q) w.Ue g in
    let mr : pos 0 <ℤ det q a r = omega (arith, ints) in
    elim (le_or_lt (pos 0) (det p q r)) as (λ _. Why a d p q r s) [
      | inl h ↦ nearer ur h (omega (arith, ints))
      | inr h ↦
          let uy : pos 0 <ℤ det a d y = at_y a e y (edge a d) c.first (omega (arith, ints)) w.Ue in
          let ey : pos 0 <ℤ det p q y = at_y_left a e y (edge p q) c.first w.Ea w.Ee in
          let my : pos 0 ≤ℤ det q a y = at_y_nonneg a e y (edge q a) c.first (let k = det-last q a in omega (arith, ints)) w.Me in
          let b = base_blocks a p q r s y r (edge a d) w.Ea w.Up w.Uq (on_inside r s y c.second) (on_first r s) ey (omega (arith, ints)) uy (omega (arith, ints)) my mr in
          meets_wall b.0 b.1 b.2
    ]

-- k A + o D = 0 and A x - D y > 0 with k, o, x, y > 0
pub opposite : (k o x y A D : ℤ) → pos 0 <ℤ k → pos 0 <ℤ o → pos 0 <ℤ x → pos 0 <ℤ y → k *ℤ A +ℤ o *ℤ D ≡ pos 0 → (D *ℤ y) <ℤ (A *ℤ x) → (pos 0 <ℤ A) × (D <ℤ pos 0)
opposite k o x y A D hk ho hx hy e h =
    let a : pos 0 <ℤ A = elim (le_or_lt A (pos 0)) as (λ _. pos 0 <ℤ A) [
      | inl q ↦
          let p = mul-nonpos k A (omega (arith, ints)) q in
          let d : pos 0 ≤ℤ D = nonneg-of-mul o D ho (omega (arith, ints)) in
          absurd (omega (arith, ints, mul-nonneg D y d (omega (arith, ints)), mul_np A x q (omega (arith, ints))))
      | inr q ↦ q
    ] in (
      a,
      elim (le_or_lt (pos 0) D) as (λ _. D <ℤ pos 0) [
        | inl q ↦ absurd (omega (arith, ints, mul-pos k A hk a, mul-nonneg o D (omega (arith, ints)) q))
        | inr q ↦ q
      ],
    )

-- the last coordinate as a functional
abbrev pub unit : Lin
unit = record { a = pos 0; b = pos 0; c = pos 1 }

pub height : (x : V) → at unit x ≡ x.d
unfolding at
height x = omega (arith, ints)

before_ring : (k o A D E F : ℤ) → A *ℤ (k *ℤ E +ℤ o *ℤ F) -ℤ o *ℤ (A *ℤ F -ℤ D *ℤ E) ≡ E *ℤ (k *ℤ A +ℤ o *ℤ D -ℤ pos 0)
before_ring k o A D E F = by_ring (k ∷ o ∷ A ∷ D ∷ E ∷ F ∷ []) _ _ (search quoting depth 60 fits 1000000) (search quoting depth 60 fits 1000000) tt

case_b : (a d p q e r s y : V) → pos 0 <ℤ a.d → pos 0 <ℤ d.d → pos 0 <ℤ r.d → pos 0 <ℤ s.d → Wall a d p q e → Crosses a e r s y → det a d r ≤ℤ pos 0 → Why a d p q r s
case_b a d p q e r s y ad dd rd sd w c ur =
    let z = det-first a d in
    let zd = det-last a d in
    let uy : pos 0 <ℤ det a d y = at_y a e y (edge a d) c.first (omega (arith, ints)) w.Ue in
    let ey : pos 0 <ℤ det p q y = at_y_left a e y (edge p q) c.first w.Ea w.Ee in
    let my : pos 0 ≤ℤ det q a y = at_y_nonneg a e y (edge q a) c.first (let k = det-last q a in omega (arith, ints)) w.Me in
    let vy : det a e y ≡ pos 0 = on_straight a e y (on_inside a e y c.first) in
    let t = mean (neg_ℤ (det a d r)) (det a d y) y r (omega (arith, ints)) (omega (arith, ints)) in
    let v = t.0 in
    let ov : On r s v = on_within r s y r v (on_inside r s y c.second) (on_first r s) (_, _, _, t.1) in
    let uv0 = value (edge a d) _ _ _ y r v t.1 in
    let uv : det a d v ≡ pos 0 = omega (arith, ints, neg-*ℤ (det a d r) (det a d y), *ℤ_comm (det a d r) (det a d y)) in
    let vv0 = value (edge a e) _ _ _ y r v t.1 in
    let vz : neg_ℤ (det a d r) *ℤ det a e y ≡ pos 0 = ap (λ (k : ℤ). neg_ℤ (det a d r) *ℤ k) vy ∙ *ℤ-zero (neg_ℤ (det a d r)) in
    let vv : det a e v <ℤ pos 0 = omega (arith, ints, mul-neg (det a d y) (det a e r) uy c.right) in
    let so = det-swap a e v in
    let o : pos 0 <ℤ det e a v = omega (arith, ints) in
    let last : (f : Lin) → det a d v *ℤ at f e ≡ pos 0 = λ f. ap (λ (k : ℤ). k *ℤ at f e) uv ∙ zero-*ℤ (at f e) in
    let ma : det d e v *ℤ det q a a ≡ pos 0 = ap (λ (k : ℤ). det d e v *ℤ k) (det-last q a) ∙ *ℤ-zero (det d e v) in
    let mv : pos 0 <ℤ det q a v = pos-of-mul (det a d e) (det q a v) w.Ue (omega (arith, ints, bary (edge q a) a d e v, last (edge q a), mul-pos (det e a v) (det q a d) o (let u = w.Uq in let k = det-cycle q a d in omega (arith, ints)))) in
    elim (le_or_lt (det p q v) (pos 0)) as (λ _. Why a d p q r s) [
      | inl h ↦
          let b = base_blocks a p q r s y v (edge a d) w.Ea w.Up w.Uq (on_inside r s y c.second) ov ey h uy (omega (arith, ints)) my mv in
          meets_wall b.0 b.1 b.2
      | inr h ↦
          let be = bary (edge p q) a d e v in
          let le = last (edge p q) in
          let ke : pos 0 <ℤ (det p q a *ℤ det d e v) = omega (arith, ints, *ℤ_comm (det p q a) (det d e v), mul-pos (det a d e) (det p q v) w.Ue h, mul-neg (det e a v) (det p q d) o w.Ed) in
          let k : pos 0 <ℤ det d e v = pos-of-mul (det p q a) (det d e v) w.Ea ke in
          elim (sign_cases (det a d r)) as (λ _. Why a d p q r s) [
            | inl rn ↦
                let us0 = value (edge a d) c.second.l c.second.m c.second.n r s y c.second.comb in
                let us : pos 0 <ℤ det a d s = pos-of-mul c.second.m (det a d s) c.second.right (omega (arith, ints, mul-pos c.second.n (det a d y) c.second.comb.scale uy, mul-nonpos c.second.l (det a d r) c.second.comb.left ur)) in
                let gv = on_straight r s v ov in
                let bg = bary (edge r s) a d e v in
                let lg = last (edge r s) in
                let gz : det a d e *ℤ det r s v ≡ pos 0 = ap (λ (j : ℤ). det a d e *ℤ j) gv ∙ *ℤ-zero (det a d e) in
                let sum : det d e v *ℤ det r s a +ℤ det e a v *ℤ det r s d ≡ pos 0 = omega (arith, ints) in
                let bd = bary unit r s a d in
                let c1 = det-cycle s a d in
                let c2 = det-flip a d r in
                let p1 : pos 0 <ℤ (det s a d *ℤ at unit r) = mul-pos (det s a d) (at unit r) (omega (arith, ints)) (let j = height r in omega (arith, ints)) in
                let p2 : pos 0 <ℤ (det a r d *ℤ at unit s) = mul-pos (det a r d) (at unit s) (omega (arith, ints)) (let j = height s in omega (arith, ints)) in
                let op = opposite (det d e v) (det e a v) (at unit d) (at unit a) (det r s a) (det r s d) k o (let j = height d in omega (arith, ints)) (let j = height a in omega (arith, ints)) sum (omega (arith, ints)) in
                let ring = before_ring (det d e v) (det e a v) (det r s a) (det r s d) (det p q a) (det p q d) in
                let rz : det p q a *ℤ (det d e v *ℤ det r s a +ℤ det e a v *ℤ det r s d -ℤ pos 0) ≡ pos 0 = ap (λ (j : ℤ). det p q a *ℤ j) (let j = sum in omega (arith, ints)) ∙ *ℤ-zero (det p q a) in
                let kp : pos 0 <ℤ (det d e v *ℤ det p q a +ℤ det e a v *ℤ det p q d) = omega (arith, ints, mul-pos (det a d e) (det p q v) w.Ue h) in
                let ap0 : pos 0 <ℤ (det r s a *ℤ (det d e v *ℤ det p q a +ℤ det e a v *ℤ det p q d)) = mul-pos _ _ op.0 kp in
                let fin : pos 0 <ℤ (det r s a *ℤ det p q d -ℤ det r s d *ℤ det p q a) = pos-of-mul (det e a v) _ o (omega (arith, ints)) in
                wall_before rn us op.0 op.1 (omega (arith, ints, *ℤ_comm (det r s a) (neg_ℤ (det p q d)), neg-*ℤ (det p q d) (det r s a), *ℤ_comm (det p q d) (det r s a), *ℤ_comm (det p q a) (neg_ℤ (det r s d)), neg-*ℤ (det r s d) (det p q a)))
            | inr k2 ↦ elim k2 as (λ _. Why a d p q r s) [
              | inl rz ↦
                  let cb = comb_of_bary a d e v w.Ue uv (omega (arith, ints)) (omega (arith, ints)) in
                  end_inside (record {
                    l = det d e v;
                    m = det e a v;
                    n = det a d e *ℤ det a d y;
                    left = k;
                    right = o;
                    comb = record {
                      left = omega (arith, ints);
                      right = omega (arith, ints);
                      scale = mul-pos _ _ w.Ue uy;
                      x = same_x (det a d e) (det a d y) (det a d r) _ y.x r.x v.x rz t.1.x cb.x;
                      y = same_x (det a d e) (det a d y) (det a d r) _ y.y r.y v.y rz t.1.y cb.y;
                      d = same_x (det a d e) (det a d y) (det a d r) _ y.d r.d v.d rz t.1.d cb.d;
                    };
                  })
              | inr rp ↦ absurd (omega (arith, ints))
            ]
          ]
    ]
  where
    same_x : (D Y R S yx rx vx : ℤ) → R ≡ pos 0 → pos 1 *ℤ vx ≡ neg_ℤ R *ℤ yx +ℤ Y *ℤ rx → D *ℤ vx ≡ S → D *ℤ Y *ℤ rx ≡ S
    same_x D Y R S yx rx vx rz h e =
        let z : neg_ℤ R *ℤ yx ≡ pos 0 = neg-*ℤ R yx ∙ ap neg_ℤ (ap (λ (k : ℤ). k *ℤ yx) rz ∙ zero-*ℤ yx) in
        let v : vx ≡ Y *ℤ rx = omega (arith, ints) in
        *ℤ_assoc D Y rx ∙ ap (λ (k : ℤ). D *ℤ k) (sym v) ∙ e

pub near : (a d p q e r s y : V) → pos 0 <ℤ a.d → pos 0 <ℤ d.d → pos 0 <ℤ r.d → pos 0 <ℤ s.d → Wall a d p q e → Crosses a e r s y → Why a d p q r s
near a d p q e r s y ad dd rd sd w c = elim (le_or_lt (det a d r) (pos 0)) as (λ _. Why a d p q r s) [
  | inl h ↦ case_b a d p q e r s y ad dd rd sd w c h
  | inr h ↦ case_a a d p q e r s y w c h
]
