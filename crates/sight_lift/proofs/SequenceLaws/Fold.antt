-- Of finitely many vectors, either a normal has a positive product with each, or three of them have 0 as a mean.
use Rattle.std.proofs.Common.{ℤ, pos, ◌+ℤ◌, ◌-ℤ◌, ◌*ℤ◌, neg_ℤ, ◌≡◌, refl, sym, ap, ◌∙◌, List, [], ◌∷◌, arith, ◌≤ℤ◌, ◌<ℤ◌, ◌⊎◌, inl, inr, subst}
use Rattle.std.proofs.lemmas.Int.{ints}
use Rattle.math_base.proofs.IntLaws.{neg-*ℤ}
use Rattle.math_base.proofs.Quoting.{quoting, by_ring}
use Rattle.math_base.proofs.Signs.{zero-of-mul, sign_cases, le_or_lt, square-nonneg}
use Rattle.plane_base.proofs.Linear.{linear}
use Rattle.sight_lift.proofs.SequenceLaws.Cone.{Vec, cross, dot, self, turned, Along, Between, normal, normal_positive, one_to_two_after, one_to_two_before, two_wider_after, two_wider_before, meets_x, meets_y}
use Rattle.math_base.proofs.Small.{zero_of_square, one_times, zero_times}

pub data In (x : Vec) : List Vec → Type 0 where
  here : {xs : List Vec} (y : Vec) (ys : List Vec) → xs ≡ y ∷ ys → x ≡ y → In x xs
  there : {xs : List Vec} (y : Vec) (ys : List Vec) → xs ≡ y ∷ ys → In x ys → In x xs

abbrev pub Every : (Vec → Type 0) → List Vec → Type 0
Every P [] = Unit {0}
Every P (x ∷ xs) = P x × Every P xs

every_map : (P Q : Vec → Type 0) (xs : List Vec) → ((e : Vec) → P e → Q e) → Every P xs → Every Q xs
every_map P Q [] f h = tt
every_map P Q (x ∷ xs) f h = (f x h.0, every_map P Q xs f h.1)

pub record IsOne (xs : List Vec) : Type 0 where
  pub d : Vec
  pub member : In d xs
  pub long : pos 0 <ℤ dot d d
  pub each : Every (Along d) xs

pub record IsTwo (xs : List Vec) : Type 0 where
  pub d : Vec
  pub f : Vec
  pub member : In d xs
  pub member_too : In f xs
  pub open_angle : pos 0 <ℤ cross d f
  pub each : Every (Between d f) xs

-- the origin is a mean of three of them
pub record Meets (xs : List Vec) : Type 0 where
  pub d : Vec
  pub e : Vec
  pub f : Vec
  pub d_in : In d xs
  pub e_in : In e xs
  pub f_in : In f xs
  pub u : ℤ
  pub v : ℤ
  pub w : ℤ
  pub u_in : pos 0 ≤ℤ u
  pub v_in : pos 0 ≤ℤ v
  pub w_in : pos 0 ≤ℤ w
  pub proper : pos 0 <ℤ (u +ℤ v +ℤ w)
  pub x : u *ℤ d.x +ℤ v *ℤ e.x +ℤ w *ℤ f.x ≡ pos 0
  pub y : u *ℤ d.y +ℤ v *ℤ e.y +ℤ w *ℤ f.y ≡ pos 0

pub data State (xs : List Vec) : Type 0 where
  Empty : xs ≡ [] → State xs
  One : IsOne xs → State xs
  Two : IsTwo xs → State xs
  Stuck : Meets xs → State xs

no_length : (d : Vec) → dot d d ≤ℤ pos 0 → (d.x ≡ pos 0) × (d.y ≡ pos 0)
no_length d h =
    let a = square-nonneg d.x in
    let b = square-nonneg d.y in
    (zero_of_square d.x (omega (arith, linear, a, b, h)), zero_of_square d.y (omega (arith, linear, a, b, h)))

-- d itself is the mean of weights 1, 0, 0
at_zero : (xs : List Vec) (d : Vec) → In d xs → d.x ≡ pos 0 → d.y ≡ pos 0 → Meets xs
at_zero xs d i ex ey =
    record {
      d = d;
      e = d;
      f = d;
      d_in = i;
      e_in = i;
      f_in = i;
      u = pos 1;
      v = pos 0;
      w = pos 0;
      u_in = omega (arith, ints);
      v_in = omega (arith, ints);
      w_in = omega (arith, ints);
      proper = omega (arith, ints);
      x = (let a = one_times d.x in let b = zero_times d.x in omega (arith, linear, a, b, ex));
      y = (let a = one_times d.y in let b = zero_times d.y in omega (arith, linear, a, b, ey));
    }

-- opposite vectors
opposite : (xs : List Vec) (d x : Vec) → In d xs → In x xs → cross d x ≡ pos 0 → dot d x <ℤ pos 0 → Meets xs
opposite xs d x i j c h =
    let px : dot x x *ℤ d.x -ℤ dot d x *ℤ x.x ≡ cross d x *ℤ x.y = by_ring (d.x ∷ d.y ∷ x.x ∷ x.y ∷ []) _ _ (search quoting depth 40 fits 100000) (search quoting depth 40 fits 100000) tt in
    let py : dot x x *ℤ d.y -ℤ dot d x *ℤ x.y ≡ neg_ℤ (cross d x *ℤ x.x) = by_ring (d.x ∷ d.y ∷ x.x ∷ x.y ∷ []) _ _ (search quoting depth 40 fits 100000) (search quoting depth 40 fits 100000) tt in
    let zx : cross d x *ℤ x.y ≡ pos 0 = ap (λ (s : ℤ). s *ℤ x.y) c ∙ zero_times x.y in
    let zy : cross d x *ℤ x.x ≡ pos 0 = ap (λ (s : ℤ). s *ℤ x.x) c ∙ zero_times x.x in
    let nx = neg-*ℤ (dot d x) x.x in
    let ny = neg-*ℤ (dot d x) x.y in
    let ox = zero_times x.x in let oy = zero_times x.y in
    let a = square-nonneg x.x in let b = square-nonneg x.y in
    record {
      d = d;
      e = x;
      f = x;
      d_in = i;
      e_in = j;
      f_in = j;
      u = dot x x;
      v = neg_ℤ (dot d x);
      w = pos 0;
      u_in = omega (arith, linear, a, b);
      v_in = omega (arith, linear, h);
      w_in = omega (arith, ints);
      proper = omega (arith, linear, a, b, h);
      x = omega (arith, linear, px, zx, nx, ox);
      y = omega (arith, linear, py, zy, ny, oy);
    }

-- a vector with neither turn nor product with a long one is 0
nothing : (d x : Vec) → pos 0 <ℤ dot d d → cross d x ≡ pos 0 → dot d x ≡ pos 0 → (x.x ≡ pos 0) × (x.y ≡ pos 0)
nothing d x l c p =
    let ix : dot d d *ℤ x.x ≡ dot d x *ℤ d.x -ℤ cross d x *ℤ d.y = by_ring (d.x ∷ d.y ∷ x.x ∷ x.y ∷ []) _ _ (search quoting depth 40 fits 100000) (search quoting depth 40 fits 100000) tt in
    let iy : dot d d *ℤ x.y ≡ dot d x *ℤ d.y +ℤ cross d x *ℤ d.x = by_ring (d.x ∷ d.y ∷ x.x ∷ x.y ∷ []) _ _ (search quoting depth 40 fits 100000) (search quoting depth 40 fits 100000) tt in
    let a : dot d x *ℤ d.x ≡ pos 0 = ap (λ (s : ℤ). s *ℤ d.x) p ∙ zero_times d.x in
    let b : cross d x *ℤ d.y ≡ pos 0 = ap (λ (s : ℤ). s *ℤ d.y) c ∙ zero_times d.y in
    let a' : dot d x *ℤ d.y ≡ pos 0 = ap (λ (s : ℤ). s *ℤ d.y) p ∙ zero_times d.y in
    let b' : cross d x *ℤ d.x ≡ pos 0 = ap (λ (s : ℤ). s *ℤ d.x) c ∙ zero_times d.x in
    (zero-of-mul (dot d d) x.x l (omega (arith, linear, ix, a, b)), zero-of-mul (dot d d) x.y l (omega (arith, linear, iy, a', b')))

first : (x : Vec) (xs : List Vec) → In x (x ∷ xs)
first x xs = here x xs refl refl

more : (d x : Vec) (xs : List Vec) → In d xs → In d (x ∷ xs)
more d x xs i = there x xs refl i

meets_more : (x : Vec) (xs : List Vec) → Meets xs → Meets (x ∷ xs)
meets_more x xs m = record { d = m.d; e = m.e; f = m.f; d_in = more m.d x xs m.d_in; e_in = more m.e x xs m.e_in; f_in = more m.f x xs m.f_in; u = m.u; v = m.v; w = m.w; u_in = m.u_in; v_in = m.v_in; w_in = m.w_in; proper = m.proper; x = m.x; y = m.y }

-- inside the cone by itself, at its one end or the other
at_after : (d x : Vec) → pos 0 <ℤ cross d x → Between d x x
at_after d x h = let z = self x in record { after = omega (arith, linear, h); before = omega (arith, linear, z); proper = omega (arith, linear, h, z) }

at_before : (x f : Vec) → pos 0 <ℤ cross x f → Between x f x
at_before x f h = let z = self x in record { after = omega (arith, linear, z); before = omega (arith, linear, h); proper = omega (arith, linear, h, z) }

add_to_one : (x : Vec) (xs : List Vec) → IsOne xs → State (x ∷ xs)
add_to_one x xs s = elim (sign_cases (cross s.d x)) [
  | inr (inr p) ↦ Two (record { d = s.d; f = x; member = more s.d x xs s.member; member_too = first x xs; open_angle = p; each = (at_after s.d x p, every_map (Along s.d) (Between s.d x) xs (λ e a. one_to_two_after s.d e x s.long a p) s.each) })
  | inl n ↦
      let q : pos 0 <ℤ cross x s.d = (let t = turned s.d x in omega (arith, linear, t, n)) in
      Two (record { d = x; f = s.d; member = first x xs; member_too = more s.d x xs s.member; open_angle = q; each = (at_before x s.d q, every_map (Along s.d) (Between x s.d) xs (λ e a. one_to_two_before s.d e x s.long a n) s.each) })
  | inr (inl z) ↦ elim (sign_cases (dot s.d x)) [
    | inl n ↦ Stuck (opposite (x ∷ xs) s.d x (more s.d x xs s.member) (first x xs) z n)
    | inr (inl o) ↦ let w = nothing s.d x s.long z o in Stuck (at_zero (x ∷ xs) x (first x xs) w.0 w.1)
    | inr (inr p) ↦ One (record { d = s.d; member = more s.d x xs s.member; long = s.long; each = (record { level = z; ahead = p }, s.each) })
  ]
]

add_to_two : (x : Vec) (xs : List Vec) → IsTwo xs → State (x ∷ xs)
add_to_two x xs s = elim (le_or_lt (cross s.d x) (pos 0)) [
  | inl a ↦ elim (le_or_lt (cross x s.f) (pos 0)) [
    | inl b ↦ Stuck (around a b)
    | inr b ↦ elim (le_or_lt (pos 0) (cross s.d x)) [
      | inl c ↦ keep c (omega (arith, linear, b)) (omega (arith, linear, b, c))
      | inr c ↦ Two (record { d = x; f = s.f; member = first x xs; member_too = more s.f x xs s.member_too; open_angle = b; each = (at_before x s.f b, every_map (Between s.d s.f) (Between x s.f) xs (λ e k. two_wider_before s.d s.f e x s.open_angle k c b) s.each) })
    ]
  ]
  | inr a ↦ elim (le_or_lt (pos 0) (cross x s.f)) [
    | inl b ↦ keep (omega (arith, linear, a)) b (omega (arith, linear, a, b))
    | inr b ↦ Two (record { d = s.d; f = x; member = more s.d x xs s.member; member_too = first x xs; open_angle = a; each = (at_after s.d x a, every_map (Between s.d s.f) (Between s.d x) xs (λ e k. two_wider_after s.d s.f e x s.open_angle k a b) s.each) })
  ]
]
  where
    keep : pos 0 ≤ℤ cross s.d x → pos 0 ≤ℤ cross x s.f → pos 0 <ℤ (cross s.d x +ℤ cross x s.f) → State (x ∷ xs)
    keep a b c = Two (record { d = s.d; f = s.f; member = more s.d x xs s.member; member_too = more s.f x xs s.member_too; open_angle = s.open_angle; each = (record { after = a; before = b; proper = c }, s.each) })

    around : cross s.d x ≤ℤ pos 0 → cross x s.f ≤ℤ pos 0 → Meets (x ∷ xs)
    around a b =
        let ix = meets_x s.d s.f x in
        let iy = meets_y s.d s.f x in
        let n1 = neg-*ℤ (cross x s.f) s.d.x in let n2 = neg-*ℤ (cross s.d x) s.f.x in
        let n3 = neg-*ℤ (cross x s.f) s.d.y in let n4 = neg-*ℤ (cross s.d x) s.f.y in
        let o = s.open_angle in
        record {
          d = s.d;
          e = s.f;
          f = x;
          d_in = more s.d x xs s.member;
          e_in = more s.f x xs s.member_too;
          f_in = first x xs;
          u = neg_ℤ (cross x s.f);
          v = neg_ℤ (cross s.d x);
          w = cross s.d s.f;
          u_in = omega (arith, linear, b);
          v_in = omega (arith, linear, a);
          w_in = omega (arith, linear, o);
          proper = omega (arith, linear, a, b, o);
          x = omega (arith, linear, ix, n1, n2);
          y = omega (arith, linear, iy, n3, n4);
        }

add_to_none : (x : Vec) (xs : List Vec) → xs ≡ [] → State (x ∷ xs)
add_to_none x xs e = elim (le_or_lt (dot x x) (pos 0)) [
  | inl h ↦ let w = no_length x h in Stuck (at_zero (x ∷ xs) x (first x xs) w.0 w.1)
  | inr h ↦ One (record { d = x; member = first x xs; long = h; each = (record { level = self x; ahead = h }, subst (Every (Along x)) (sym e) tt) })
]

pub add : (x : Vec) (xs : List Vec) → State xs → State (x ∷ xs)
add x xs (Empty e) = add_to_none x xs e
add x xs (One s) = add_to_one x xs s
add x xs (Two s) = add_to_two x xs s
add x xs (Stuck m) = Stuck (meets_more x xs m)

pub fold_cone : (xs : List Vec) → State xs
fold_cone [] = Empty refl
fold_cone (x ∷ xs) = add x xs (fold_cone xs)

-- the line, or three that meet
pub record Ahead (xs : List Vec) : Type 0 where
  pub n : Vec
  pub each : Every (λ e. pos 0 <ℤ dot n e) xs

pub ahead_or_meets : (xs : List Vec) → Ahead xs ⊎ Meets xs
ahead_or_meets xs = elim (fold_cone xs) [
  | Empty e ↦ inl (record { n = record { x = pos 0; y = pos 0 }; each = subst (Every (λ e. pos 0 <ℤ dot (record { x = pos 0; y = pos 0 }) e)) (sym e) tt })
  | One s ↦ inl (record { n = s.d; each = every_map (Along s.d) (λ e. pos 0 <ℤ dot s.d e) xs (λ e a. a.ahead) s.each })
  | Two s ↦ inl (record { n = normal s.d s.f; each = every_map (Between s.d s.f) (λ e. pos 0 <ℤ dot (normal s.d s.f) e) xs (λ e b. normal_positive s.d s.f e b) s.each })
  | Stuck m ↦ inr m
]
