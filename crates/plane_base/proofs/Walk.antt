-- A segment that misses all lines stays in linked triangles, or comes to an edge that is no line and has no mate.
use Rattle.std.proofs.Common.{◌≡◌, ℤ, pos, ◌+ℤ◌, ◌*ℤ◌, ◌≤ℤ◌, ◌<ℤ◌, neg_ℤ, arith, refl, sym, ap, ◌∙◌, subst, ◌⊎◌, inl, inr, List, [], ◌∷◌}
use borrow.Author.Differences.{ints}
use lib.IntN.{*ℤ-zero, zero-*ℤ, *ℤ_comm}
use Rattle.math_base.proofs.IntLaws.{neg-*ℤ}
use Rattle.math_base.proofs.Quoting.{quoting, by_ring}
use Rattle.math_base.proofs.Signs.{mul-pos, pos-of-mul, nonneg-of-mul, le-of-mul, mul-le, le_or_lt}
use Rattle.plane_base.proofs.Vec.{V, edge, det, IsComb, On, value, mean, det-swap, det-cycle, det-first, det-last, comb_of_bary}
use Rattle.plane_base.proofs.Search.{In, find_or_none, Least, least_by, leave_first}
use Rattle.math_base.proofs.MoreSigns.{mul-nonpos}

pub record Tri : Type 0 where
  pub a : V
  pub b : V
  pub c : V

abbrev pub turned : Tri → Tri
turned t = record { a = t.b; b = t.c; c = t.a }

-- the value of the first edge
abbrev pub side : Tri → V → ℤ
side t r = det t.a t.b r

pub record Closed (t : Tri) (r : V) : Type 0 where
  pub ab : pos 0 ≤ℤ side t r
  pub bc : pos 0 ≤ℤ side (turned t) r
  pub ca : pos 0 ≤ℤ side (turned (turned t)) r

-- linked triangles, each in its three turned forms
pub record Region (cs : List Tri) (OnLine : V → Type 0) (Escape : Type 0) : Type 0 where
  pub turn : (t : Tri) → In t cs → pos 0 <ℤ side t t.c
  pub turns : (t : Tri) → In t cs → In (turned t) cs
  pub vertex : (t : Tri) → In t cs → (l n : ℤ) (r : V) → IsComb l (pos 0) n t.a t.b r → OnLine r
  pub step : (t : Tri) → In t cs → ((r : V) → On t.a t.b r → OnLine r) ⊎ (((w : V) × In (record { a = t.b; b = t.a; c = w }) cs) ⊎ Escape)

pub record Stays (cs : List Tri) (p q : V) : Type 0 where
  pub t : Tri
  pub member : In t cs
  pub z : V
  pub l : ℤ
  pub m : ℤ
  pub n : ℤ
  pub comb : IsComb l m n p q z
  pub left : pos 0 <ℤ l
  pub from : Closed t z
  pub to : Closed t q

abbrev pub sides : Tri → List Tri
sides t = t ∷ turned t ∷ turned (turned t) ∷ []

-- ---- candidates
pub record Weights : Type 0 where
  pub l : ℤ
  pub m : ℤ

abbrev pub Le : Weights → Weights → Type 0
Le v w = (w.m *ℤ v.l) ≤ℤ (v.m *ℤ w.l)

abbrev pub value_of : Weights → V → V → Tri → ℤ
value_of w p q g = w.l *ℤ side g p +ℤ w.m *ℤ side g q

pub record Holds (w : Weights) (p q : V) (t : Tri) : Type 0 where
  pub ab : pos 0 ≤ℤ value_of w p q t
  pub bc : pos 0 ≤ℤ value_of w p q (turned t)
  pub ca : pos 0 ≤ℤ value_of w p q (turned (turned t))

pub record Good (cs : List Tri) (p q : V) (w : Weights) : Type 0 where
  pub left : pos 0 <ℤ w.l
  pub right : pos 0 ≤ℤ w.m
  pub t : Tri
  pub member : In t cs
  pub holds : Holds w p q t

dec_holds : (w : Weights) (p q : V) (t : Tri) → Holds w p q t ⊎ ¬ Holds w p q t
dec_holds w p q t =
    elim (le_or_lt (pos 0) (value_of w p q t)) as (λ _. Holds w p q t ⊎ ¬ Holds w p q t) [
      | inr n ↦ inr (λ h. let k = h.ab in omega (arith, ints))
      | inl x ↦ elim (le_or_lt (pos 0) (value_of w p q (turned t))) as (λ _. Holds w p q t ⊎ ¬ Holds w p q t) [
        | inr n ↦ inr (λ h. let k = h.bc in omega (arith, ints))
        | inl y ↦ elim (le_or_lt (pos 0) (value_of w p q (turned (turned t)))) as (λ _. Holds w p q t ⊎ ¬ Holds w p q t) [
          | inr n ↦ inr (λ h. let k = h.ca in omega (arith, ints))
          | inl z ↦ inl (record { ab = x; bc = y; ca = z })
        ]
      ]
    ]

dec_good : (cs : List Tri) (p q : V) (w : Weights) → Good cs p q w ⊎ ¬ Good cs p q w
dec_good cs p q w =
    elim (le_or_lt w.l (pos 0)) as (λ _. Good cs p q w ⊎ ¬ Good cs p q w) [
      | inl n ↦ inr (λ h. let k = h.left in omega (arith, ints))
      | inr x ↦ elim (le_or_lt (pos 0) w.m) as (λ _. Good cs p q w ⊎ ¬ Good cs p q w) [
        | inr n ↦ inr (λ h. let k = h.right in omega (arith, ints))
        | inl y ↦ elim (find_or_none (Holds w p q) (dec_holds w p q) cs) as (λ _. Good cs p q w ⊎ ¬ Good cs p q w) [
          | inl f ↦ inl (record { left = x; right = y; t = f.0; member = f.1; holds = f.2 })
          | inr k ↦ inr (λ h. k h.t h.member h.holds)
        ]
      ]
    ]

le_trans0 : (al am bl bm cl cm : ℤ) → pos 0 <ℤ al → pos 0 <ℤ bl → pos 0 <ℤ cl → (bm *ℤ al) ≤ℤ (am *ℤ bl) → (cm *ℤ bl) ≤ℤ (bm *ℤ cl) → (cm *ℤ al) ≤ℤ (am *ℤ cl)
le_trans0 al am bl bm cl cm a b c h k =
    let x = mul-le al (cm *ℤ bl) (bm *ℤ cl) (omega (arith, ints)) k in
    let y = mul-le cl (bm *ℤ al) (am *ℤ bl) (omega (arith, ints)) h in
    let r1 : al *ℤ (cm *ℤ bl) ≡ bl *ℤ (cm *ℤ al) = by_ring (al ∷ cm ∷ bl ∷ []) _ _ (search quoting depth 60 fits 1000000) (search quoting depth 60 fits 1000000) tt in
    let r2 : al *ℤ (bm *ℤ cl) ≡ cl *ℤ (bm *ℤ al) = by_ring (al ∷ bm ∷ cl ∷ []) _ _ (search quoting depth 60 fits 1000000) (search quoting depth 60 fits 1000000) tt in
    let r3 : cl *ℤ (am *ℤ bl) ≡ bl *ℤ (am *ℤ cl) = by_ring (cl ∷ am ∷ bl ∷ []) _ _ (search quoting depth 60 fits 1000000) (search quoting depth 60 fits 1000000) tt in
    le-of-mul bl (cm *ℤ al) (am *ℤ cl) b (omega (arith, ints))

abbrev pub exit_weights : V → V → Tri → Weights
exit_weights p q g = record { l = neg_ℤ (side g q); m = side g p }

abbrev pub candidates : V → V → List Tri → List Weights
candidates p q [] = []
candidates p q (g ∷ gs) = exit_weights p q g ∷ candidates p q gs

candidate_in : (p q : V) (g : Tri) (gs : List Tri) → In g gs → In (exit_weights p q g) (candidates p q gs)
candidate_in p q g [] i = i
candidate_in p q g (x ∷ xs) i = elim i as (λ _. In (exit_weights p q g) (candidates p q (x ∷ xs))) [
  | inl e ↦ inl (ap (exit_weights p q) e)
  | inr j ↦ inr (candidate_in p q g xs j)
]

abbrev pub start : Weights
start = record { l = pos 1; m = pos 0 }

last_good : (cs : List Tri) (p q : V) (t : Tri) → In t cs → Closed t p → Least (Good cs p q) Le (start ∷ candidates p q cs)
last_good cs p q t i c =
    elim (least_by (Good cs p q) Le (dec_good cs p q)
    (λ v w g h. elim (le_or_lt (w.m *ℤ v.l) (v.m *ℤ w.l)) as (λ _. Le v w ⊎ Le w v) [ inl k ↦ inl k | inr k ↦ inr (omega (arith, ints)) ])
    (λ u v w f g h. le_trans0 u.l u.m v.l v.m w.l w.m f.left g.left h.left)
    (start ∷ candidates p q cs)) as (λ _. Least (Good cs p q) Le (start ∷ candidates p q cs)) [
      | inl h ↦ h
      | inr n ↦ absurd (n start (inl refl) (record {
        left = omega (arith, ints);
        right = omega (arith, ints);
        t = t;
        member = i;
        holds = record { ab = let k = c.ab in omega (arith, ints); bc = let k = c.bc in omega (arith, ints); ca = let k = c.ca in omega (arith, ints) };
      }))
    ]

-- the exit over a side, from a point with weights l, m
scale_ring : (l m Fp Fq Gp Gq : ℤ) → l *ℤ (neg_ℤ Fq *ℤ Gp +ℤ Fp *ℤ Gq) ≡ neg_ℤ Fq *ℤ (l *ℤ Gp +ℤ m *ℤ Gq) +ℤ (l *ℤ Fp +ℤ m *ℤ Fq) *ℤ Gq
scale_ring l m Fp Fq Gp Gq = by_ring (l ∷ m ∷ Fp ∷ Fq ∷ Gp ∷ Gq ∷ []) _ _ (search quoting depth 60 fits 1000000) (search quoting depth 60 fits 1000000) tt

pub record Point_at (p q z : V) (w : Weights) : Type 0 where
  pub left : pos 0 <ℤ w.l
  pub right : pos 0 ≤ℤ w.m
  pub comb : IsComb w.l w.m (pos 1) p q z

side_at : (p q z : V) (w : Weights) → Point_at p q z w → (g : Tri) → side g z ≡ w.l *ℤ side g p +ℤ w.m *ℤ side g q
side_at p q z w h g = let e = value (edge g.a g.b) w.l w.m (pos 1) p q z h.comb in omega (arith, ints)

holds_one : (p q z : V) (w : Weights) → Point_at p q z w → (g u : Tri) → pos 0 ≤ℤ (neg_ℤ (side g q) *ℤ side u z +ℤ side g z *ℤ side u q) → pos 0 ≤ℤ value_of (exit_weights p q g) p q u
holds_one p q z w h g u k =
    let gz = side_at p q z w h g in
    let uz = side_at p q z w h u in
    let r = scale_ring w.l w.m (side g p) (side g q) (side u p) (side u q) in
    let a : neg_ℤ (side g q) *ℤ side u z ≡ neg_ℤ (side g q) *ℤ (w.l *ℤ side u p +ℤ w.m *ℤ side u q) = ap (λ (x : ℤ). neg_ℤ (side g q) *ℤ x) uz in
    let b : side g z *ℤ side u q ≡ (w.l *ℤ side g p +ℤ w.m *ℤ side g q) *ℤ side u q = ap (λ (x : ℤ). x *ℤ side u q) gz in
    nonneg-of-mul w.l (value_of (exit_weights p q g) p q u) h.left (omega (arith, ints))

-- a good candidate isn't later than the last one: the exit is at the point itself
near_exit : (cs : List Tri) (p q z : V) (h : Least (Good cs p q) Le (start ∷ candidates p q cs)) → Point_at p q z h.it
    → (g t : Tri) → In g cs → In t cs → side g q <ℤ pos 0 → pos 0 ≤ℤ side g z
    → ((u : Tri) → In u (sides t) → pos 0 ≤ℤ (neg_ℤ (side g q) *ℤ side u z +ℤ side g z *ℤ side u q)) → side g z ≡ pos 0
near_exit cs p q z h at_z g t ig it gq gz first =
    let e = side_at p q z h.it at_z g in
    let m = mul-nonpos h.it.m (side g q) at_z.right (omega (arith, ints)) in
    let gp : pos 0 ≤ℤ side g p = nonneg-of-mul h.it.l (side g p) at_z.left (omega (arith, ints)) in
    let good : Good cs p q (exit_weights p q g) = record {
      left = omega (arith, ints);
      right = gp;
      t = t;
      member = it;
      holds = record {
        ab = holds_one p q z h.it at_z g t (first t (inl refl));
        bc = holds_one p q z h.it at_z g (turned t) (first (turned t) (inr (inl refl)));
        ca = holds_one p q z h.it at_z g (turned (turned t)) (first (turned (turned t)) (inr (inr (inl refl))));
      };
    } in
    let k = h.least (exit_weights p q g) (inr (candidate_in p q g cs ig)) good in
    omega (arith, ints, *ℤ_comm (side g p) h.it.l, *ℤ_comm h.it.m (neg_ℤ (side g q)), neg-*ℤ (side g q) h.it.m, *ℤ_comm (side g q) h.it.m)

-- the three sides of a closed triangle
pub side_of : (t : Tri) (r : V) → Closed t r → (u : Tri) → In u (sides t) → pos 0 ≤ℤ side u r
side_of t r c u i = elim i as (λ _. pos 0 ≤ℤ side u r) [
  | inl e ↦ subst (λ (x : Tri). pos 0 ≤ℤ side x r) e c.ab
  | inr j ↦ elim j as (λ _. pos 0 ≤ℤ side u r) [
    | inl e ↦ subst (λ (x : Tri). pos 0 ≤ℤ side x r) e c.bc
    | inr k ↦ elim k as (λ _. pos 0 ≤ℤ side u r) [
      | inl e ↦ subst (λ (x : Tri). pos 0 ≤ℤ side x r) e c.ca
      | inr n ↦ absurd n
    ]
  ]
]

pub closed_of : (t : Tri) (r : V) → ((u : Tri) → In u (sides t) → pos 0 ≤ℤ side u r) → Closed t r
closed_of t r h = record { ab = h t (inl refl); bc = h (turned t) (inr (inl refl)); ca = h (turned (turned t)) (inr (inr (inl refl))) }

-- a side of a triangle of the region, and the triangle turned to it
pub turned_to : (cs : List Tri) → ((t : Tri) → In t cs → In (turned t) cs) → (t : Tri) → In t cs → (r : V) → Closed t r → (u : Tri) → In u (sides t) → In u cs × Closed u r
turned_to cs turns t i r c u j = elim j as (λ _. In u cs × Closed u r) [
  | inl e ↦ subst (λ (x : Tri). In x cs × Closed x r) e (i, c)
  | inr k ↦ elim k as (λ _. In u cs × Closed u r) [
    | inl e ↦ subst (λ (x : Tri). In x cs × Closed x r) e (turns t i, record { ab = c.bc; bc = c.ca; ca = c.ab })
    | inr n ↦ elim n as (λ _. In u cs × Closed u r) [
      | inl e ↦ subst (λ (x : Tri). In x cs × Closed x r) e (turns (turned t) (turns t i), record { ab = c.ca; bc = c.ab; ca = c.bc })
      | inr o ↦ absurd o
    ]
  ]
]

-- a point of the first side that is no vertex, in the mate
pub record Between (g : Tri) (z : V) : Type 0 where
  pub bc : pos 0 <ℤ side (turned g) z
  pub ca : pos 0 <ℤ side (turned (turned g)) z

between : (cs : List Tri) (OnLine : V → Type 0) (Escape : Type 0) → Region cs OnLine Escape → (g : Tri) → In g cs → (z : V) → Closed g z → side g z ≡ pos 0 → ¬ OnLine z → Between g z
between cs OnLine Escape reg g i z c e free =
    let cb = comb_of_bary g.a g.b g.c z (reg.turn g i) e c.bc c.ca in
    record {
      bc = elim (le_or_lt (side (turned g) z) (pos 0)) as (λ _. pos 0 <ℤ side (turned g) z) [
        | inl n ↦ absurd (free (reg.vertex (turned g) (reg.turns g i) (side (turned (turned g)) z) (side g g.c) z (other g z cb (let k = c.bc in omega (arith, ints)))))
        | inr p ↦ p
      ];
      ca = elim (le_or_lt (side (turned (turned g)) z) (pos 0)) as (λ _. pos 0 <ℤ side (turned (turned g)) z) [
        | inl n ↦ absurd (free (reg.vertex g i (side (turned g) z) (side g g.c) z (same g z cb (let k = c.ca in omega (arith, ints)))))
        | inr p ↦ p
      ];
    }
  where
    drop_x : (x X y Y : ℤ) → x ≡ pos 0 → x *ℤ X +ℤ y *ℤ Y ≡ y *ℤ Y +ℤ pos 0 *ℤ X
    drop_x x X y Y e = let t : x *ℤ X ≡ pos 0 *ℤ X = ap (λ (k : ℤ). k *ℤ X) e in omega (arith, ints)

    other : (g : Tri) (z : V) → IsComb (side (turned g) z) (side (turned (turned g)) z) (side g g.c) g.a g.b z → side (turned g) z ≡ pos 0 → IsComb (side (turned (turned g)) z) (pos 0) (side g g.c) g.b g.c z
    other g z h e = record {
      left = h.right;
      right = omega (arith, ints);
      scale = h.scale;
      x = h.x ∙ drop_y (side (turned g) z) g.a.x (side (turned (turned g)) z) g.b.x g.c.x e;
      y = h.y ∙ drop_y (side (turned g) z) g.a.y (side (turned (turned g)) z) g.b.y g.c.y e;
      d = h.d ∙ drop_y (side (turned g) z) g.a.d (side (turned (turned g)) z) g.b.d g.c.d e;
    }
      where
        drop_y : (x X y Y Z : ℤ) → x ≡ pos 0 → x *ℤ X +ℤ y *ℤ Y ≡ y *ℤ Y +ℤ pos 0 *ℤ Z
        drop_y x X y Y Z e = let t : x *ℤ X ≡ pos 0 *ℤ X = ap (λ (k : ℤ). k *ℤ X) e in omega (arith, ints, zero-*ℤ X, zero-*ℤ Z)

    same : (g : Tri) (z : V) → IsComb (side (turned g) z) (side (turned (turned g)) z) (side g g.c) g.a g.b z → side (turned (turned g)) z ≡ pos 0 → IsComb (side (turned g) z) (pos 0) (side g g.c) g.a g.b z
    same g z h e = subst (λ (k : ℤ). IsComb (side (turned g) z) k (side g g.c) g.a g.b z) e h

mate_sides : (g : Tri) (w z : V) → pos 0 <ℤ side g g.c → pos 0 <ℤ det g.b g.a w → Closed g z → side g z ≡ pos 0 → Between g z
    → (pos 0 <ℤ det g.a w z) × (pos 0 <ℤ det w g.b z)
mate_sides g w z h k c e b =
    let cb = comb_of_bary g.a g.b g.c z h e c.bc c.ca in
    let v1 = value (edge g.a w) _ _ _ g.a g.b z cb in
    let v2 = value (edge w g.b) _ _ _ g.a g.b z cb in
    let z1 : side (turned g) z *ℤ det g.a w g.a ≡ pos 0 = ap (λ (x : ℤ). side (turned g) z *ℤ x) (det-first g.a w) ∙ *ℤ-zero (side (turned g) z) in
    let z2 : side (turned (turned g)) z *ℤ det w g.b g.b ≡ pos 0 = ap (λ (x : ℤ). side (turned (turned g)) z *ℤ x) (det-last w g.b) ∙ *ℤ-zero (side (turned (turned g)) z) in
    let c1 = det-cycle g.b g.a w in
    let c2 = det-cycle g.a w g.b in
    let c3 = det-cycle w g.b g.a in (
      pos-of-mul (side g g.c) (det g.a w z) h (omega (arith, ints, mul-pos (side (turned (turned g)) z) (det g.a w g.b) b.ca (omega (arith, ints)))),
      pos-of-mul (side g g.c) (det w g.b z) h (omega (arith, ints, mul-pos (side (turned g) z) (det w g.b g.a) b.bc (omega (arith, ints)))),
    )

-- over the side g into its mate u: u has the end, or one of its other sides is left later than z
into_mate : (cs : List Tri) (OnLine : V → Type 0) (Escape : Type 0) → Region cs OnLine Escape → (p q z : V) (h : Least (Good cs p q) Le (start ∷ candidates p q cs)) → Point_at p q z h.it
    → (g : Tri) → In g cs → side g q <ℤ pos 0 → side g z ≡ pos 0 → (w : V) → In (record { a = g.b; b = g.a; c = w }) cs
    → pos 0 <ℤ det g.a w z → pos 0 <ℤ det w g.b z → Closed (record { a = g.b; b = g.a; c = w }) q × Closed (record { a = g.b; b = g.a; c = w }) z
into_mate cs OnLine Escape reg p q z h at_z g i gq gz w iu s1 s2 =
    let u : Tri = record { a = g.b; b = g.a; c = w } in
    let f1 = det-swap g.a g.b z in
    let f2 = det-swap g.a g.b q in
    let cz : Closed u z = record { ab = omega (arith, ints); bc = omega (arith, ints); ca = omega (arith, ints) } in
    elim (leave_first (λ x. side x z) (λ x. side x q) (sides u) (λ x j. side_of u z cz x j)) as (λ _. Closed u q × Closed u z) [
      | inl all ↦ (closed_of u q all, cz)
      | inr f ↦
          let tt0 = turned_to cs reg.turns u iu z cz f.it f.member in
          let zero = near_exit cs p q z h at_z f.it u tt0.0 iu f.below tt0.1.ab f.first in
          absurd (elim f.member as (λ _. ⊥) [
            | inl e ↦ let b : side u q <ℤ pos 0 = subst (λ (x : Tri). side x q <ℤ pos 0) (sym e) f.below in omega (arith, ints)
            | inr j ↦ elim j as (λ _. ⊥) [
              | inl e ↦ let b : side (turned u) z ≡ pos 0 = subst (λ (x : Tri). side x z ≡ pos 0) (sym e) zero in omega (arith, ints)
              | inr k ↦ elim k as (λ _. ⊥) [
                | inl e ↦ let b : side (turned (turned u)) z ≡ pos 0 = subst (λ (x : Tri). side x z ≡ pos 0) (sym e) zero in omega (arith, ints)
                | inr n ↦ n
              ]
            ]
          ])
    ]

pub segment_walk : (cs : List Tri) (OnLine : V → Type 0) (Escape : Type 0) → Region cs OnLine Escape → (p q : V) (t : Tri) → In t cs → Closed t p
    → ((l m n : ℤ) (r : V) → IsComb l m n p q r → pos 0 <ℤ l → ¬ OnLine r) → Stays cs p q ⊎ Escape
segment_walk cs OnLine Escape reg p q t0 i0 c0 free =
    let h = last_good cs p q t0 i0 c0 in
    let good = h.has in
    let zz = mean h.it.l h.it.m p q (let k = good.left in omega (arith, ints)) good.right in
    let z = zz.0 in
    let at_z : Point_at p q z h.it = record { left = good.left; right = good.right; comb = zz.1 } in
    let t = good.t in
    let cz : Closed t z = record {
      ab = let e = side_at p q z h.it at_z t in let k = good.holds.ab in omega (arith, ints);
      bc = let e = side_at p q z h.it at_z (turned t) in let k = good.holds.bc in omega (arith, ints);
      ca = let e = side_at p q z h.it at_z (turned (turned t)) in let k = good.holds.ca in omega (arith, ints);
    } in
    let off : ¬ OnLine z = free _ _ _ z zz.1 good.left in
    elim (leave_first (λ x. side x z) (λ x. side x q) (sides t) (λ x j. side_of t z cz x j)) as (λ _. Stays cs p q ⊎ Escape) [
      | inl all ↦ inl (record { t = t; member = good.member; z = z; l = h.it.l; m = h.it.m; n = pos 1; comb = zz.1; left = good.left; from = cz; to = closed_of t q all })
      | inr f ↦
          let g = f.it in
          let gt = turned_to cs reg.turns t good.member z cz g f.member in
          let zero = near_exit cs p q z h at_z g t gt.0 good.member f.below gt.1.ab f.first in
          let btw = between cs OnLine Escape reg g gt.0 z gt.1 zero off in
          elim (reg.step g gt.0) as (λ _. Stays cs p q ⊎ Escape) [
            | inl line ↦ absurd (off (line z (_, _, _, comb_of_bary g.a g.b g.c z (reg.turn g gt.0) zero gt.1.bc gt.1.ca)))
            | inr rest ↦ elim rest as (λ _. Stays cs p q ⊎ Escape) [
              | inl mate ↦
                  let ms = mate_sides g mate.0 z (reg.turn g gt.0) (reg.turn _ mate.1) gt.1 zero btw in
                  let im = into_mate cs OnLine Escape reg p q z h at_z g gt.0 f.below zero mate.0 mate.1 ms.0 ms.1 in
                  inl (record { t = record { a = g.b; b = g.a; c = mate.0 }; member = mate.1; z = z; l = h.it.l; m = h.it.m; n = pos 1; comb = zz.1; left = good.left; from = im.1; to = im.0 })
              | inr esc ↦ inr esc
            ]
          ]
    ]
