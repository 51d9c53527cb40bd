-- Each kind of record: what is read is spelled so and in range, and what is spelled so and in range is read.
use Rattle.std.proofs.Common.{◌≡◌, ◌≢◌, ℕ, ◌^◌, ◌<◌, true, ltb, ◌&&◌, List, ◌++◌, Option, Some, None, Ok, refl, sym, ap, subst, ◌∙◌, append_assoc, arith, inl, inr, ℤ, pos, negsuc}
use Rattle.std.specs.Prelude.{FitsSigned}
use Rattle.std.specs.Int.{w32, w64, to_le_bytes, cast_unsigned}
use Rattle.std.proofs.lemmas.Bool.{ltb-true, lt-ltb, eqb-true, eq-eqb, and_parts, and_from, or_cases, or_left, or_right}
use Rattle.std.proofs.lemmas.Int.{of_z-to_z}
use Rattle.std.proofs.Math.Facts.{sfits_to_z}
use Rattle.sight_names.specs.declared.names.Pair.{Pair}
use Rattle.sight_names.specs.declared.names.PairRay.{PairRay}
use Rattle.sight_names.specs.declared.names.Ray.{Ray}
use Rattle.sight_names.specs.Mesh.{IsTriangle, IsAbove}
use Rattle.cert_format.specs.declared.cert.Sizes.{Sizes}
use Rattle.cert_format.specs.declared.cert.Labelled.{Labelled}
use Rattle.block_evidence.specs.SightTree.Spelling.{u16}
use Rattle.cert_format.specs.Grammar.{IsPairInRange, IsRayInRange, FitsRay, side_code, triangle_bytes, line_bytes, ray_bytes, pair_bytes}
use Rattle.sight_names.specs.Order.{PairBefore}
use Rattle.cert_format.specs.Reading.{triangle_after, pair_after, pair_if_any, triangle_at, sight_line_at, ray_at, pair_at, signed_at}
use Rattle.cert_format.proofs.FieldLaws.{IsBytes, bind_ok, passed_ok, ok_is, Takes, Takes-then, wide32, wide64, below_takes, below_again, apart_takes, apart_again, side_takes, side_again, signed_takes, signed_again}

-- ---- triangles

pub record FitsLabelled (sizes : Sizes) (l : Labelled) : Type 0 where
  pub triangle : IsTriangle sizes.points l.triangle
  pub sector : l.sector < sizes.sectors

abbrev pub TriangleAfter : Option Labelled → Labelled → Type 0
TriangleAfter None l = Unit {0}
TriangleAfter (Some o) l = IsAbove o.triangle l.triangle

after_is : (k : Option Labelled) (l : Labelled) → triangle_after k l.triangle ≡ true → TriangleAfter k l
after_is None l h = tt
after_is (Some o) l h = elim (or_cases _ _ h) [
  | inl lt ↦ inl (ltb-true _ _ lt)
  | inr b ↦ let p = and_parts _ _ b in inr (eqb-true _ _ p.0, elim (or_cases _ _ p.1) [ inl lt ↦ inl (ltb-true _ _ lt) | inr c ↦ let q = and_parts _ _ c in inr (eqb-true _ _ q.0, ltb-true _ _ q.1) ])
]

after_test : (k : Option Labelled) (l : Labelled) → TriangleAfter k l → triangle_after k l.triangle ≡ true
after_test None l h = refl
after_test (Some o) l (inl lt) = or_left _ _ (lt-ltb _ _ lt)
after_test (Some o) l (inr (e, inl lt)) = or_right _ _ (and_from _ _ (eq-eqb _ _ e) (or_left _ _ (lt-ltb _ _ lt)))
after_test (Some o) l (inr (e, inr (f, lt))) = or_right _ _ (and_from _ _ (eq-eqb _ _ e) (or_right _ _ (and_from _ _ (eq-eqb _ _ f) (lt-ltb _ _ lt))))

pub triangle_takes : (sizes : Sizes) (total : ℕ) (k : Option Labelled) (bytes : List ℕ) (x : Labelled × List ℕ) → IsBytes bytes → triangle_at sizes total k bytes ≡ Ok x → Takes bytes (triangle_bytes x.0) x.1 × FitsLabelled sizes x.0 × TriangleAfter k x.0
unfolding triangle_at
triangle_takes sizes total k bytes x fits e =
    let p = bind_ok _ _ x e in
    let q = bind_ok _ _ x p.2 in
    let r = bind_ok _ _ x q.2 in
    let s = bind_ok _ _ x r.2 in
    let l : Labelled = record { triangle = record { p = p.0.0; q = q.0.0; r = r.0.0 }; sector = s.0.0 } in
    let g = passed_ok _ _ (l, s.0.1) x s.2 in
    let t0 = below_takes sizes.points total bytes p.0 fits p.1 in
    let t1 = apart_takes sizes.points p.0.0 p.0.0 total p.0.1 q.0 t0.0.rest_fits q.1 in
    let t2 = apart_takes sizes.points p.0.0 q.0.0 total q.0.1 r.0 t1.0.rest_fits r.1 in
    let t3 = below_takes sizes.sectors total r.0.1 s.0 t2.0.rest_fits s.1 in
    let e1 = Takes-then bytes (u16 p.0.0) p.0.1 (u16 q.0.0) q.0.1 t0.0 t1.0 in
    let e2 = Takes-then bytes (u16 p.0.0 ++ u16 q.0.0) q.0.1 (u16 r.0.0) r.0.1 e1 t2.0 in
    let e3 = Takes-then bytes (u16 p.0.0 ++ u16 q.0.0 ++ u16 r.0.0) r.0.1 (u16 s.0.0) s.0.1 e2 t3.0 in
    let a = and_parts (ltb p.0.0 q.0.0 && ltb p.0.0 r.0.0) (triangle_after k l.triangle) g.0 in
    let b = and_parts (ltb p.0.0 q.0.0) (ltb p.0.0 r.0.0) a.0 in
    let in_range : FitsLabelled sizes l = record { triangle = record { least = ltb-true _ _ b.0; least_too = ltb-true _ _ b.1; differ = λ h. t2.3 (sym h); second = t1.1; third = t2.1 }; sector = t3.1 } in
    subst (λ (y : Labelled × List ℕ). Takes bytes (triangle_bytes y.0) y.1 × FitsLabelled sizes y.0 × TriangleAfter k y.0) g.1 (e3, in_range, after_is k l a.1)

pub triangle_again : (sizes : Sizes) → sizes.points < 2 ^ 16 → sizes.sectors < 2 ^ 16 → (total : ℕ) (k : Option Labelled) (l : Labelled) (rest : List ℕ) → FitsLabelled sizes l → TriangleAfter k l → triangle_at sizes total k (triangle_bytes l ++ rest) ≡ Ok (l, rest)
unfolding triangle_at
triangle_again sizes small small_too total k l rest fits after =
    let t = l.triangle in
    let is : IsTriangle sizes.points t = fits.triangle in
    let regrouped : triangle_bytes l ++ rest ≡ u16 t.p ++ (u16 t.q ++ (u16 t.r ++ (u16 l.sector ++ rest))) = append_assoc (u16 t.p ++ u16 t.q ++ u16 t.r) (u16 l.sector) rest ∙ append_assoc (u16 t.p ++ u16 t.q) (u16 t.r) (u16 l.sector ++ rest) ∙ append_assoc (u16 t.p) (u16 t.q) (u16 t.r ++ (u16 l.sector ++ rest)) in
    let p_fits : t.p < sizes.points = omega (arith, is.least, is.second) in
    let q_not_p : t.q ≢ t.p = λ h. omega (arith, is.least, h) in
    let r_not_p : t.r ≢ t.p = λ h. omega (arith, is.least_too, h) in
    let tested : ((ltb t.p t.q && ltb t.p t.r) && triangle_after k t) ≡ true = and_from _ _ (and_from _ _ (lt-ltb _ _ is.least) (lt-ltb _ _ is.least_too)) (after_test k l after) in
    ap (triangle_at sizes total k) regrouped
    ∙ rw (
      below_again sizes.points total t.p (u16 t.q ++ (u16 t.r ++ (u16 l.sector ++ rest))) small p_fits,
      apart_again sizes.points t.p t.p total t.q (u16 t.r ++ (u16 l.sector ++ rest)) small is.second q_not_p q_not_p,
      apart_again sizes.points t.p t.q total t.r (u16 l.sector ++ rest) small is.third r_not_p (λ h. is.differ (sym h)),
      below_again sizes.sectors total l.sector rest small_too fits.sector,
      tested,
    ) refl

-- ---- pairs and rays

abbrev pub PairAfter : Option Pair → Pair → Type 0
PairAfter None p = Unit {0}
PairAfter (Some o) p = PairBefore o p

pair_after_is : (k : Option Pair) (p : Pair) → pair_after k p ≡ true → PairAfter k p
pair_after_is None p h = tt
pair_after_is (Some o) p h = elim (or_cases _ _ h) [ inl lt ↦ inl (ltb-true _ _ lt) | inr b ↦ let q = and_parts _ _ b in inr (eqb-true _ _ q.0, ltb-true _ _ q.1) ]

pair_after_test : (k : Option Pair) (p : Pair) → PairAfter k p → pair_after k p ≡ true
pair_after_test None p h = refl
pair_after_test (Some o) p (inl lt) = or_left _ _ (lt-ltb _ _ lt)
pair_after_test (Some o) p (inr (e, lt)) = or_right _ _ (and_from _ _ (eq-eqb _ _ e) (lt-ltb _ _ lt))

pub pair_takes : (sizes : Sizes) (total : ℕ) (k : Option Pair) (bytes : List ℕ) (x : Pair × List ℕ) → IsBytes bytes → pair_at sizes total k bytes ≡ Ok x → Takes bytes (pair_bytes x.0) x.1 × IsPairInRange sizes x.0 × PairAfter k x.0
unfolding pair_at
pair_takes sizes total k bytes x fits e =
    let a = bind_ok _ _ x e in
    let b = bind_ok _ _ x a.2 in
    let p : Pair = record { a = a.0.0; b = b.0.0 } in
    let g = passed_ok _ _ (p, b.0.1) x b.2 in
    let t0 = below_takes sizes.sectors total bytes a.0 fits a.1 in
    let t1 = below_takes sizes.sectors total a.0.1 b.0 t0.0.rest_fits b.1 in
    let h = and_parts (ltb a.0.0 b.0.0) (pair_after k p) g.0 in
    subst (λ (y : Pair × List ℕ). Takes bytes (pair_bytes y.0) y.1 × IsPairInRange sizes y.0 × PairAfter k y.0) g.1
    (Takes-then bytes (u16 a.0.0) a.0.1 (u16 b.0.0) b.0.1 t0.0 t1.0, (ltb-true _ _ h.0, t1.1), pair_after_is k p h.1)

pub pair_again : (sizes : Sizes) → sizes.sectors < 2 ^ 16 → (total : ℕ) (k : Option Pair) (p : Pair) (rest : List ℕ) → IsPairInRange sizes p → PairAfter k p → pair_at sizes total k (pair_bytes p ++ rest) ≡ Ok (p, rest)
unfolding pair_at
pair_again sizes small total k p rest fits after =
    let a_fits : p.a < sizes.sectors = omega (arith, fits.0, fits.1) in
    ap (pair_at sizes total k) (append_assoc (u16 p.a) (u16 p.b) rest)
    ∙ rw (below_again sizes.sectors total p.a (u16 p.b ++ rest) small a_fits, below_again sizes.sectors total p.b rest small fits.1, lt-ltb _ _ fits.0, pair_after_test k p after) refl

pub record FitsPairRay (sizes : Sizes) (r : PairRay) : Type 0 where
  pub in_range : IsRayInRange sizes r
  pub fits : FitsRay r.ray

abbrev pub RayAfter : Option PairRay → PairRay → Type 0
RayAfter None r = Unit {0}
RayAfter (Some o) r = PairBefore o.pair r.pair

ray_after_is : (k : Option PairRay) (r : PairRay) → PairAfter (pair_if_any k) r.pair → RayAfter k r
ray_after_is None r h = h
ray_after_is (Some o) r h = h

ray_after_test : (k : Option PairRay) (r : PairRay) → RayAfter k r → PairAfter (pair_if_any k) r.pair
ray_after_test None r h = h
ray_after_test (Some o) r h = h

signed32_takes : (total : ℕ) (bytes : List ℕ) (x : ℤ × List ℕ) → IsBytes bytes → signed_at w32 total bytes ≡ Ok x → Takes bytes (to_le_bytes w32 (cast_unsigned w32 x.0)) x.1 × FitsSigned w32 x.0
signed32_takes = signed_takes w32 (2 ^ 32) wide32 (λ n lt. sfits_to_z (record { fits = lt })) (λ n lt. of_z-to_z w32 n lt)

signed64_takes : (total : ℕ) (bytes : List ℕ) (x : ℤ × List ℕ) → IsBytes bytes → signed_at w64 total bytes ≡ Ok x → Takes bytes (to_le_bytes w64 (cast_unsigned w64 x.0)) x.1 × FitsSigned w64 x.0
signed64_takes = signed_takes w64 (2 ^ 64) wide64 (λ n lt. sfits_to_z (record { fits = lt })) (λ n lt. of_z-to_z w64 n lt)

unsigned32 : (z : ℤ) → FitsSigned w32 z → cast_unsigned w32 z < 2 ^ 32
unsigned32 (pos n) h = omega (arith, h.sfits)
unsigned32 (negsuc n) h = omega (arith, h.sfits)

unsigned64 : (z : ℤ) → FitsSigned w64 z → cast_unsigned w64 z < 2 ^ 64
unsigned64 (pos n) h = omega (arith, h.sfits)
unsigned64 (negsuc n) h = omega (arith, h.sfits)

record FitsLine (lines : ℕ) (r : Ray) : Type 0 where
  first : (r.first.line < lines) × (r.first.line < 2 ^ 15)
  last : (r.last.line < lines) × (r.last.line < 2 ^ 15)
  fits : FitsRay r

line_takes : (lines total : ℕ) (bytes : List ℕ) (x : Ray × List ℕ) → IsBytes bytes → sight_line_at lines total bytes ≡ Ok x → Takes bytes (line_bytes x.0) x.1 × FitsLine lines x.0
unfolding sight_line_at
line_takes lines total bytes x fits e =
    let f = bind_ok _ _ x e in
    let l = bind_ok _ _ x f.2 in
    let a = bind_ok _ _ x l.2 in
    let b = bind_ok _ _ x a.2 in
    let c = bind_ok _ _ x b.2 in
    let made : Ray × List ℕ = (record { first = f.0.0; last = l.0.0; a = a.0.0; b = b.0.0; c = c.0.0 }, c.0.1) in
    let t2 = side_takes lines total bytes f.0 fits f.1 in
    let t3 = side_takes lines total f.0.1 l.0 t2.0.rest_fits l.1 in
    let t4 = signed32_takes total l.0.1 a.0 t3.0.rest_fits a.1 in
    let t5 = signed32_takes total a.0.1 b.0 t4.0.rest_fits b.1 in
    let t6 = signed64_takes total b.0.1 c.0 t5.0.rest_fits c.1 in
    let s2 = u16 (side_code f.0.0) in
    let s3 = u16 (side_code l.0.0) in
    let s4 = to_le_bytes w32 (cast_unsigned w32 a.0.0) in
    let s5 = to_le_bytes w32 (cast_unsigned w32 b.0.0) in
    let s6 = to_le_bytes w64 (cast_unsigned w64 c.0.0) in
    let e3 = Takes-then bytes s2 f.0.1 s3 l.0.1 t2.0 t3.0 in
    let e4 = Takes-then bytes (s2 ++ s3) l.0.1 s4 a.0.1 e3 t4.0 in
    let e5 = Takes-then bytes (s2 ++ s3 ++ s4) a.0.1 s5 b.0.1 e4 t5.0 in
    let e6 = Takes-then bytes (s2 ++ s3 ++ s4 ++ s5) b.0.1 s6 c.0.1 e5 t6.0 in
    subst (λ (y : Ray × List ℕ). Takes bytes (line_bytes y.0) y.1 × FitsLine lines y.0) {x = made} (ok_is made x c.2) (e6, record { first = t2.1; last = t3.1; fits = record { a = t4.1; b = t5.1; c = t6.1 } })

line_again : (lines total : ℕ) (r : Ray) (rest : List ℕ) → FitsLine lines r → sight_line_at lines total (line_bytes r ++ rest) ≡ Ok (r, rest)
unfolding sight_line_at
line_again lines total r rest fits =
    let s2 = u16 (side_code r.first) in
    let s3 = u16 (side_code r.last) in
    let s4 = to_le_bytes w32 (cast_unsigned w32 r.a) in
    let s5 = to_le_bytes w32 (cast_unsigned w32 r.b) in
    let s6 = to_le_bytes w64 (cast_unsigned w64 r.c) in
    let regrouped : line_bytes r ++ rest ≡ s2 ++ (s3 ++ (s4 ++ (s5 ++ (s6 ++ rest)))) =
    append_assoc (s2 ++ s3 ++ s4 ++ s5) s6 rest ∙ append_assoc (s2 ++ s3 ++ s4) s5 (s6 ++ rest) ∙ append_assoc (s2 ++ s3) s4 (s5 ++ (s6 ++ rest)) ∙ append_assoc s2 s3 (s4 ++ (s5 ++ (s6 ++ rest))) in
    ap (sight_line_at lines total) regrouped
    ∙ rw (
      side_again lines total r.first (s3 ++ (s4 ++ (s5 ++ (s6 ++ rest)))) fits.first.0 fits.first.1,
      side_again lines total r.last (s4 ++ (s5 ++ (s6 ++ rest))) fits.last.0 fits.last.1,
      signed_again w32 (2 ^ 32) wide32 total r.a (s5 ++ (s6 ++ rest)) (unsigned32 r.a fits.fits.a) fits.fits.a,
      signed_again w32 (2 ^ 32) wide32 total r.b (s6 ++ rest) (unsigned32 r.b fits.fits.b) fits.fits.b,
      signed_again w64 (2 ^ 64) wide64 total r.c rest (unsigned64 r.c fits.fits.c) fits.fits.c,
    ) refl

pub ray_takes : (sizes : Sizes) (total : ℕ) (k : Option PairRay) (bytes : List ℕ) (x : PairRay × List ℕ) → IsBytes bytes → ray_at sizes total k bytes ≡ Ok x → Takes bytes (ray_bytes x.0) x.1 × FitsPairRay sizes x.0 × RayAfter k x.0
unfolding ray_at
ray_takes sizes total k bytes x fits e =
    let u = bind_ok _ _ x e in
    let v = bind_ok _ _ x u.2 in
    let l = bind_ok _ _ x v.2 in
    let p : Pair = record { a = u.0.0; b = v.0.0 } in
    let r : PairRay = record { pair = p; ray = l.0.0 } in
    let made : PairRay × List ℕ = (r, l.0.1) in
    let g = passed_ok _ _ made x l.2 in
    let t0 = below_takes sizes.sectors total bytes u.0 fits u.1 in
    let t1 = below_takes sizes.sectors total u.0.1 v.0 t0.0.rest_fits v.1 in
    let t2 = line_takes sizes.lines total v.0.1 l.0 t1.0.rest_fits l.1 in
    let e1 = Takes-then bytes (u16 u.0.0) u.0.1 (u16 v.0.0) v.0.1 t0.0 t1.0 in
    let e2 = Takes-then bytes (u16 u.0.0 ++ u16 v.0.0) v.0.1 (line_bytes l.0.0) l.0.1 e1 t2.0 in
    let h = and_parts (ltb u.0.0 v.0.0) (pair_after (pair_if_any k) p) g.0 in
    let in_range : FitsPairRay sizes r = record { in_range = ((ltb-true _ _ h.0, t1.1), t2.1.first, t2.1.last); fits = t2.1.fits } in
    subst (λ (y : PairRay × List ℕ). Takes bytes (ray_bytes y.0) y.1 × FitsPairRay sizes y.0 × RayAfter k y.0) {x = made} g.1
    (e2, in_range, ray_after_is k r (pair_after_is (pair_if_any k) p h.1))

pub ray_again : (sizes : Sizes) → sizes.sectors < 2 ^ 16 → (total : ℕ) (k : Option PairRay) (r : PairRay) (rest : List ℕ) → FitsPairRay sizes r → RayAfter k r → ray_at sizes total k (ray_bytes r ++ rest) ≡ Ok (r, rest)
unfolding ray_at
ray_again sizes small total k r rest fits after =
    let s0 = u16 r.pair.a in
    let s1 = u16 r.pair.b in
    let pair : IsPairInRange sizes r.pair = fits.in_range.0 in
    let a_fits : r.pair.a < sizes.sectors = omega (arith, pair.0, pair.1) in
    let line : FitsLine sizes.lines r.ray = record { first = fits.in_range.1; last = fits.in_range.2; fits = fits.fits } in
    let regrouped : ray_bytes r ++ rest ≡ s0 ++ (s1 ++ (line_bytes r.ray ++ rest)) = append_assoc (s0 ++ s1) (line_bytes r.ray) rest ∙ append_assoc s0 s1 (line_bytes r.ray ++ rest) in
    ap (ray_at sizes total k) regrouped
    ∙ rw (
      below_again sizes.sectors total r.pair.a (s1 ++ (line_bytes r.ray ++ rest)) small a_fits,
      below_again sizes.sectors total r.pair.b (line_bytes r.ray ++ rest) small pair.1,
      line_again sizes.lines total r.ray rest line,
      lt-ltb _ _ pair.0,
      pair_after_test (pair_if_any k) r.pair (ray_after_test k r after),
    ) refl
