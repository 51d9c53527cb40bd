-- Ends that others cover: an arrow in an angle, put onto one that the angle's sides span: they span the sum too, and so does a wider angle.
use Rattle.std.proofs.Common.{ℤ, pos, ◌+ℤ◌, ◌-ℤ◌, ◌*ℤ◌, neg_ℤ, ◌≡◌, sym, ap, ap₂, ◌∙◌, [], ◌∷◌, arith, ◌≤ℤ◌, ◌<ℤ◌, subst}
use Rattle.std.proofs.lemmas.Int.{ints}
use lib.IntN.{*ℤ_comm}
use Rattle.math_base.proofs.Quoting.{quoting, by_ring}
use Rattle.math_base.proofs.Ring.{same_of_difference}
use Rattle.math_base.proofs.Signs.{mul-nonneg, nonneg-of-mul, mul-pos}
use Rattle.math_base.proofs.MoreSigns.{mul-neg_ℤ}
use Rattle.math_base.proofs.Small.{zero_by_first, zero_by_second}
use Rattle.plane_base.specs.Arrows.{Arrow, cross, dot, IsArrowBetween}
use Rattle.plane_base.proofs.Middle.{cross_by, dot_by}
use Rattle.plane_base.proofs.Turns.{turned, split_by, split_along, dot_nonneg}
use Rattle.sight_names.specs.declared.names.Pt.{Pt}
use Rattle.sight_names.proofs.Records.{same_pt}
use Rattle.geom_exact.specs.declared.extreme_lines.cone.Cone.{Cone}
use Rattle.geom_exact.specs.declared.extreme_lines.cone.Cone.TheVariants.{Ray, Open}
use Rattle.geom_exact.specs.ExtremeLines.Differences.{arrow_to, difference}
use Rattle.geom_exact.specs.ExtremeLines.Spans.{arrow_of, Spans, first_extreme, second_of}
use Rattle.stab_hull.specs.Stacks.{IsInAngle}

both_negated : (n y : ℤ) → neg_ℤ n *ℤ neg_ℤ y ≡ n *ℤ y
both_negated n y = by_ring (n ∷ y ∷ []) _ _ (search quoting depth 40 fits 100000) (search quoting depth 40 fits 100000) tt

-- where the arrow has the direction of a side, it has it forwards
forwards_first : (d f x : Arrow) → pos 0 <ℤ cross d f → cross d x ≡ pos 0 → pos 0 ≤ℤ cross x f → pos 0 ≤ℤ dot d x
forwards_first d f x k z h =
    let s = split_along d x f in
    let y = zero_by_first (cross d x) (dot d f) z in
    let m = mul-nonneg (dot d d) (cross x f) (dot_nonneg d) h in
    let c = *ℤ_comm (dot d x) (cross d f) in
    nonneg-of-mul (cross d f) (dot d x) k (omega (arith, ints))

forwards_second : (d f x : Arrow) → pos 0 <ℤ cross d f → cross x f ≡ pos 0 → pos 0 ≤ℤ cross d x → pos 0 ≤ℤ dot f x
forwards_second d f x k z h =
    let s = split_along f x d in
    let t = turned x f in
    let y = zero_by_first (cross f x) (dot f d) (omega (arith, ints, t, z)) in
    let m = mul-nonneg (dot f f) (cross d x) (dot_nonneg f) h in
    let c = *ℤ_comm (dot f x) (cross d f) in
    let p = ap (λ (v : ℤ). dot f f *ℤ v) (turned d x) ∙ mul-neg_ℤ (dot f f) (cross d x) in
    let q = ap (λ (v : ℤ). dot f x *ℤ v) (turned d f) ∙ mul-neg_ℤ (dot f x) (cross d f) in
    nonneg-of-mul (cross d f) (dot f x) k (omega (arith, ints))

-- the sides span the sum t of an arrow s that they span and an arrow x in their angle
pub still_between : (d f s x t : Arrow) → pos 0 <ℤ cross d f → ((b : Arrow) → cross b t ≡ cross b s +ℤ cross b x) → ((b : Arrow) → dot b t ≡ dot b s +ℤ dot b x) → pos 0 ≤ℤ cross d x → pos 0 ≤ℤ cross x f → IsArrowBetween d f s → IsArrowBetween d f t
still_between d f s x t k cs ds hx hf b =
    let u = cs d in
    let v = cs f in
    let t1 = turned s f in
    let t2 = turned x f in
    let t3 = turned t f in
    let ba = b.after in
    let bb = b.before in
    record {
      after = omega (arith, ints);
      before = omega (arith, ints);
      far_after = λ w.
          let l = b.far_after (omega (arith, ints, u, ba, hx, w)) in
          let p = forwards_first d f x k (omega (arith, ints, u, ba, hx, w)) hf in
          let e = ds d in
          omega (arith, ints, l, p, e);
      far_before = λ w.
          let l = b.far_before (omega (arith, ints, v, t1, t2, t3, bb, hf, w)) in
          let p = forwards_second d f x k (omega (arith, ints, v, t1, t2, t3, bb, hf, w)) hx in
          let e = ds f in
          omega (arith, ints, l, p, e);
    }

-- an arrow in the angle from d to f lies in each angle that has these two
pub in_wider : (d f x b c : Arrow) → pos 0 <ℤ cross d f → pos 0 ≤ℤ cross d x → pos 0 ≤ℤ cross x f → pos 0 ≤ℤ cross b d → pos 0 ≤ℤ cross b f → pos 0 ≤ℤ cross d c → pos 0 ≤ℤ cross f c → (pos 0 ≤ℤ cross b x) × (pos 0 ≤ℤ cross x c)
in_wider d f x b c k hx hf bd bf dc fc =
    let s1 = split_by d f b x in
    let p1 = ap₂ (λ (u v : ℤ). u *ℤ v) (turned b d) (turned x f) ∙ both_negated (cross b d) (cross x f) in
    let m1 = mul-nonneg (cross b f) (cross d x) bf hx in
    let m2 = mul-nonneg (cross b d) (cross x f) bd hf in
    let s2 = split_by d f x c in
    let m3 = mul-nonneg (cross x f) (cross d c) hf dc in
    let m4 = mul-nonneg (cross d x) (cross f c) hx fc in
    (nonneg-of-mul (cross d f) (cross b x) k (omega (arith, ints)), nonneg-of-mul (cross d f) (cross x c) k (omega (arith, ints)))

-- ---- the same of cones
cross_none : (b x : Arrow) → x.x ≡ pos 0 → x.y ≡ pos 0 → cross b x ≡ pos 0
unfolding cross
cross_none b x hx hy = let p = zero_by_second b.x x.y hy in let q = zero_by_second b.y x.x hx in omega (arith, ints)

none_in_angle : (c : Cone) (x : Arrow) → x.x ≡ pos 0 → x.y ≡ pos 0 → IsInAngle c x
none_in_angle (Ray e) x hx hy = (hx, hy)
none_in_angle (Open w) x hx hy =
    let p = cross_none (arrow_of w.first) x hx hy in
    let q = cross_none (arrow_of w.second) x hx hy in
    let t = turned x (arrow_of w.second) in
    (omega (arith, ints), omega (arith, ints))

pub same_angle : (c : Cone) (p q : Pt) → p ≡ q → IsInAngle c (difference p q)
same_angle c p q e = none_in_angle c (difference p q) (let k = ap (λ (r : Pt). r.x) e in omega (arith, ints)) (let k = ap (λ (r : Pt). r.y) e in omega (arith, ints))

-- a cone that has the lines of another one has its angle
pub wider_angle : (c d : Cone) (x : Arrow) → Spans d (arrow_of (first_extreme c)) → Spans d (arrow_of (second_of c)) → IsInAngle c x → IsInAngle d x
wider_angle (Ray e) d x s t h = none_in_angle d x h.0 h.1
wider_angle (Open w) (Open v) x s t h = in_wider (arrow_of w.first) (arrow_of w.second) x (arrow_of v.first) (arrow_of v.second) w.spread h.0 h.1 s.after t.after s.before t.before
wider_angle (Open w) (Ray e) x s t h =
    let k = split_along (arrow_of e) (arrow_of w.first) (arrow_of w.second) in
    let p = zero_by_second (dot (arrow_of e) (arrow_of w.first)) (cross (arrow_of e) (arrow_of w.second)) t.level in
    let q = zero_by_first (cross (arrow_of e) (arrow_of w.first)) (dot (arrow_of e) (arrow_of w.second)) s.level in
    let m = mul-pos (dot (arrow_of e) (arrow_of e)) (cross (arrow_of w.first) (arrow_of w.second)) e.long w.spread in
    absurd (omega (arith, ints, k, p, q, m))

same_point : (p q : Pt) → p.x -ℤ q.x ≡ pos 0 → p.y -ℤ q.y ≡ pos 0 → p ≡ q
same_point p q hx hy = same_pt p q (same_of_difference p.x q.x hx) (same_of_difference p.y q.y hy)

-- from p over s to q, by what a functional says of each part
cross_sum : (b : Arrow) (p s q : Pt) → cross b (difference p q) ≡ cross b (difference s q) +ℤ cross b (difference p s)
cross_sum b p s q =
    let u = cross_by b (arrow_to p) (arrow_to q) (arrow_to s) in
    let v = cross_by b (arrow_to q) (arrow_to q) (arrow_to s) in
    let w = cross_by b (arrow_to s) (arrow_to q) (arrow_to s) in
    let z = cross_by b (arrow_to s) (arrow_to s) (arrow_to s) in
    omega (arith, ints)

dot_sum : (b : Arrow) (p s q : Pt) → dot b (difference p q) ≡ dot b (difference s q) +ℤ dot b (difference p s)
dot_sum b p s q =
    let u = dot_by b (arrow_to p) (arrow_to q) (arrow_to s) in
    let v = dot_by b (arrow_to q) (arrow_to q) (arrow_to s) in
    let w = dot_by b (arrow_to s) (arrow_to q) (arrow_to s) in
    let z = dot_by b (arrow_to s) (arrow_to s) (arrow_to s) in
    omega (arith, ints)

-- the cone has the line to a left end that another one covers
pub left_covered_spans : (c : Cone) (p e r : Pt) → IsInAngle c (difference p e) → Spans c (difference e r) → Spans c (difference p r)
left_covered_spans (Ray k) p e r h s = subst (λ (q : Pt). Spans (Ray k) (difference q r)) (sym (same_point p e h.0 h.1)) s
left_covered_spans (Open w) p e r h s = still_between (arrow_of w.first) (arrow_of w.second) (difference e r) (difference p e) (difference p r) w.spread (λ b. cross_sum b p e r) (λ b. dot_sum b p e r) h.0 h.1 s

pub right_covered_spans : (c : Cone) (l e q : Pt) → IsInAngle c (difference e q) → Spans c (difference l e) → Spans c (difference l q)
right_covered_spans (Ray k) l e q h s = subst (λ (u : Pt). Spans (Ray k) (difference l u)) (same_point e q h.0 h.1) s
right_covered_spans (Open w) l e q h s = still_between (arrow_of w.first) (arrow_of w.second) (difference l e) (difference e q) (difference l q) w.spread
    (λ b. let u = cross_sum b l e q in omega (arith, ints)) (λ b. let u = dot_sum b l e q in omega (arith, ints)) h.0 h.1 s
