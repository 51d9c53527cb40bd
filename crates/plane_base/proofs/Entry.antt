-- A segment that leaves a wedge's triangle goes through one of the two sides at the apex.
use Rattle.std.proofs.Common.{◌≡◌, ℤ, pos, ◌+ℤ◌, ◌*ℤ◌, ◌-ℤ◌, ◌≤ℤ◌, ◌<ℤ◌, neg_ℤ, arith, ap, ◌⊎◌, inl, inr, [], ◌∷◌}
use borrow.Author.Differences.{ints}
use lib.IntN.{*ℤ_comm}
use Rattle.math_base.proofs.IntLaws.{neg-*ℤ}
use Rattle.math_base.proofs.Quoting.{quoting, by_ring, combine2}
use Rattle.math_base.proofs.Signs.{mul-pos, mul-nonneg, pos-of-mul, le_or_lt}
use Rattle.plane_base.proofs.Vec.{V, Lin, at, edge, det, On, value, mean, det-cycle, comb_of_bary}
use Rattle.plane_base.proofs.Wedge.{mul_np, Inside}
use Rattle.math_base.proofs.MoreSigns.{mul-nonpos}

-- where the segment from y to p leaves: a point with H > 0 on a b or on a c
pub record Leaves (a b c y p : V) : Type 0 where
  pub w : V
  pub on : On y p w
  pub high : pos 0 <ℤ det b c w
  pub side : On a b w ⊎ On a c w

-- a vector on the line a c, from the apex
comb_ac : (a b c w : V) → pos 0 <ℤ det a b c → det c a w ≡ pos 0 → pos 0 ≤ℤ det b c w → pos 0 ≤ℤ det a b w → On a c w
comb_ac a b c w h z k l =
    let x = det-cycle a b c in let y = det-cycle b c a in
    let q = comb_of_bary c a b w (omega (arith, ints)) z l k in
    (det b c w, det a b w, det c a b, record { left = k; right = l; scale = q.scale; x = let e = q.x in omega (arith, ints); y = let e = q.y in omega (arith, ints); d = let e = q.d in omega (arith, ints) })

left_out : (a b c y p : V) → pos 0 <ℤ det a b c → pos 0 <ℤ det a b y → pos 0 ≤ℤ det b c y → pos 0 <ℤ det b c p → det a b p ≤ℤ pos 0
    → (det a b p *ℤ det c a y) ≤ℤ (det a b y *ℤ det c a p) → Leaves a b c y p
left_out a b c y p h fy hy hp fp del =
    let t = mean (neg_ℤ (det a b p)) (det a b y) y p (omega (arith, ints)) (omega (arith, ints)) in
    let w = t.0 in
    let f0 = value (edge a b) _ _ _ y p w t.1 in
    let g0 = value (edge c a) _ _ _ y p w t.1 in
    let h0 = value (edge b c) _ _ _ y p w t.1 in
    let f : det a b w ≡ pos 0 = omega (arith, ints, neg-*ℤ (det a b p) (det a b y), *ℤ_comm (det a b p) (det a b y)) in
    let g : pos 0 ≤ℤ det c a w = omega (arith, ints, neg-*ℤ (det a b p) (det c a y)) in
    let k : pos 0 <ℤ det b c w = omega (arith, ints, mul-nonneg (neg_ℤ (det a b p)) (det b c y) (omega (arith, ints)) hy, mul-pos (det a b y) (det b c p) fy hp) in
    record { w = w; on = (_, _, _, t.1); high = k; side = inl (det b c w, det c a w, det a b c, comb_of_bary a b c w h f (omega (arith, ints)) g) }

right_out : (a b c y p : V) → pos 0 <ℤ det a b c → pos 0 <ℤ det c a y → pos 0 ≤ℤ det b c y → pos 0 <ℤ det b c p → det c a p ≤ℤ pos 0
    → (det a b y *ℤ det c a p) ≤ℤ (det a b p *ℤ det c a y) → Leaves a b c y p
right_out a b c y p h gy hy hp gp del =
    let t = mean (neg_ℤ (det c a p)) (det c a y) y p (omega (arith, ints)) (omega (arith, ints)) in
    let w = t.0 in
    let f0 = value (edge a b) _ _ _ y p w t.1 in
    let g0 = value (edge c a) _ _ _ y p w t.1 in
    let h0 = value (edge b c) _ _ _ y p w t.1 in
    let g : det c a w ≡ pos 0 = omega (arith, ints, neg-*ℤ (det c a p) (det c a y), *ℤ_comm (det c a p) (det c a y)) in
    let f : pos 0 ≤ℤ det a b w = omega (arith, ints, neg-*ℤ (det c a p) (det a b y), *ℤ_comm (det c a p) (det a b y), *ℤ_comm (det a b p) (det c a y)) in
    let k : pos 0 <ℤ det b c w = omega (arith, ints, mul-nonneg (neg_ℤ (det c a p)) (det b c y) (omega (arith, ints)) hy, mul-pos (det c a y) (det b c p) gy hp) in
    record { w = w; on = (_, _, _, t.1); high = k; side = inr (comb_ac a b c w h g (omega (arith, ints)) f) }

pub entry : (a b c y p : V) → pos 0 <ℤ det a b c → pos 0 <ℤ det a b y → pos 0 <ℤ det c a y → pos 0 ≤ℤ det b c y → pos 0 <ℤ det b c p
    → ((pos 0 <ℤ det a b p) × (pos 0 <ℤ det c a p)) ⊎ Leaves a b c y p
entry a b c y p h fy gy hy hp =
    elim (le_or_lt (det a b p) (pos 0)) as (λ _. ((pos 0 <ℤ det a b p) × (pos 0 <ℤ det c a p)) ⊎ Leaves a b c y p) [
      | inl fp ↦ elim (le_or_lt (det a b p *ℤ det c a y) (det a b y *ℤ det c a p)) as (λ _. ((pos 0 <ℤ det a b p) × (pos 0 <ℤ det c a p)) ⊎ Leaves a b c y p) [
        | inl k ↦ inr (left_out a b c y p h fy hy hp fp k)
        | inr k ↦
            let gp : det c a p ≤ℤ pos 0 = elim (le_or_lt (det c a p) (pos 0)) as (λ _. det c a p ≤ℤ pos 0) [
              | inl q ↦ q
              | inr q ↦ absurd (omega (arith, ints, mul-pos (det a b y) (det c a p) fy q, mul_np (det a b p) (det c a y) fp (omega (arith, ints))))
            ] in
            inr (right_out a b c y p h gy hy hp gp (omega (arith, ints)))
      ]
      | inr fp ↦ elim (le_or_lt (det c a p) (pos 0)) as (λ _. ((pos 0 <ℤ det a b p) × (pos 0 <ℤ det c a p)) ⊎ Leaves a b c y p) [
        | inl gp ↦ inr (right_out a b c y p h gy hy hp gp (omega (arith, ints, mul-nonpos (det a b y) (det c a p) (omega (arith, ints)) gp, mul-pos (det a b p) (det c a y) fp gy)))
        | inr gp ↦ inl (fp, gp)
      ]
    ]

pub weights : (l m n pd qd rd : ℤ) → pd ≡ pos 1 → qd ≡ pos 1 → n *ℤ rd ≡ l *ℤ pd +ℤ m *ℤ qd → n *ℤ rd ≡ l +ℤ m
weights l m n pd qd rd hp hq e =
    let a : l *ℤ pd ≡ l *ℤ pos 1 = ap (λ (k : ℤ). l *ℤ k) hp in
    let b : m *ℤ qd ≡ m *ℤ pos 1 = ap (λ (k : ℤ). m *ℤ k) hq in
    omega (arith, ints)

over_ring : (l m n A D Y d : ℤ) → n *ℤ (Y -ℤ d *ℤ D) -ℤ l *ℤ (A -ℤ D) ≡ pos 1 *ℤ (n *ℤ Y -ℤ (l *ℤ A +ℤ m *ℤ D)) +ℤ neg_ℤ D *ℤ (n *ℤ d -ℤ (l +ℤ m))
over_ring l m n A D Y d = by_ring (l ∷ m ∷ n ∷ A ∷ D ∷ Y ∷ d ∷ []) _ _ (search quoting depth 60 fits 1000000) (search quoting depth 60 fits 1000000) tt

under_ring : (g e k P Q D Y d : ℤ) → k *ℤ (Y -ℤ d *ℤ D) -ℤ (g *ℤ (P -ℤ D) +ℤ e *ℤ (Q -ℤ D)) ≡ pos 1 *ℤ (k *ℤ Y -ℤ (g *ℤ P +ℤ e *ℤ Q)) +ℤ neg_ℤ D *ℤ (k *ℤ d -ℤ (g +ℤ e))
under_ring g e k P Q D Y d = by_ring (g ∷ e ∷ k ∷ P ∷ Q ∷ D ∷ Y ∷ d ∷ []) _ _ (search quoting depth 60 fits 1000000) (search quoting depth 60 fits 1000000) tt

clash : (l m n g e k A D P Q Y d : ℤ) → pos 0 <ℤ l → pos 0 ≤ℤ g → pos 0 ≤ℤ e → pos 0 <ℤ n → pos 0 <ℤ k → D <ℤ A → P ≤ℤ D → Q ≤ℤ D
    → n *ℤ Y ≡ l *ℤ A +ℤ m *ℤ D → k *ℤ Y ≡ g *ℤ P +ℤ e *ℤ Q → n *ℤ d ≡ l +ℤ m → k *ℤ d ≡ g +ℤ e → ⊥
clash l m n g e k A D P Q Y d hl hg he hn hk hA hP hQ e1 e2 e3 e4 =
    let x = Y -ℤ d *ℤ D in
    let over : n *ℤ x ≡ l *ℤ (A -ℤ D) = combine2 (pos 1) (neg_ℤ D) e1 e3 (over_ring l m n A D Y d) in
    let under : k *ℤ x ≡ g *ℤ (P -ℤ D) +ℤ e *ℤ (Q -ℤ D) = combine2 (pos 1) (neg_ℤ D) e2 e4 (under_ring g e k P Q D Y d) in
    let s : pos 0 <ℤ (l *ℤ (A -ℤ D)) = mul-pos l (A -ℤ D) hl (omega (arith, ints)) in
    let t : pos 0 <ℤ x = pos-of-mul n x hn (omega (arith, ints)) in
    omega (arith, ints, mul-nonpos g (P -ℤ D) hg (omega (arith, ints)), mul-nonpos e (Q -ℤ D) he (omega (arith, ints)), mul-pos k x hk t)

-- the crossing of a d and p q is higher than d, so one of p, q is
pub higher : (f : Lin) (a d p q y : V) → a.d ≡ pos 1 → d.d ≡ pos 1 → p.d ≡ pos 1 → q.d ≡ pos 1 → Inside a d y → Inside p q y → at f d <ℤ at f a
    → (at f d <ℤ at f p) ⊎ (at f d <ℤ at f q)
higher f a d p q y ad dd pd qd h k less =
    elim (le_or_lt (at f p) (at f d)) as (λ _. (at f d <ℤ at f p) ⊎ (at f d <ℤ at f q)) [
      | inl np ↦ elim (le_or_lt (at f q) (at f d)) as (λ _. (at f d <ℤ at f p) ⊎ (at f d <ℤ at f q)) [
        | inl nq ↦ absurd (clash h.l h.m h.n k.l k.m k.n (at f a) (at f d) (at f p) (at f q) (at f y) y.d h.left k.comb.left k.comb.right h.comb.scale k.comb.scale less np nq
            (value f h.l h.m h.n a d y h.comb) (value f k.l k.m k.n p q y k.comb) (weights h.l h.m h.n a.d d.d y.d ad dd h.comb.d) (weights k.l k.m k.n p.d q.d y.d pd qd k.comb.d))
        | inr hq ↦ inr hq
      ]
      | inr hp ↦ inl hp
    ]
