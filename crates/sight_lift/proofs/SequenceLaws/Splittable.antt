-- Some line splits the ends of portals, or none does: one can tell.
use Rattle.std.proofs.Common.{◌≡◌, ◌⊎◌, inl, inr, List, [], ◌∷◌, ◌++◌, ℤ, pos, ◌+ℤ◌, ◌-ℤ◌, ◌*ℤ◌, neg_ℤ, ◌≤ℤ◌, ◌<ℤ◌, sym, ◌∙◌, subst, arith}
use Rattle.std.specs.List.{AllByRecursion}
use Rattle.std.proofs.lemmas.Int.{ints}
use Rattle.math_base.proofs.Quoting.{quoting, by_ring}
use Rattle.math_base.proofs.Signs.{mul-pos, mul-nonneg, sign_cases, le_or_lt}
use Rattle.sight_names.specs.Point.{point_of, value_at}
use Rattle.sight_names.specs.Splitting.{EndPoints, SplitsEnds, IsSplittable}
use Rattle.sight_lift.proofs.SequenceLaws.Cone.{Vec, dot}
use Rattle.sight_lift.proofs.SequenceLaws.Fold.{In, here, there, Every, Ahead, Meets, ahead_or_meets}
use Rattle.math_base.proofs.Small.{le_itself, nonneg_of_pos}

-- from a right end to a left one
abbrev difference : EndPoints → EndPoints → Vec
difference l r = record { x = l.left.x -ℤ r.right.x; y = l.left.y -ℤ r.right.y }

abbrev row : EndPoints → List EndPoints → List Vec
row l [] = []
row l (r ∷ rs) = difference l r ∷ row l rs

abbrev differences : List EndPoints → List EndPoints → List Vec
differences [] rs = []
differences (l ∷ ls) rs = row l rs ++ differences ls rs

every_join : (P : Vec → Type 0) (xs ys : List Vec) → Every P xs → Every P ys → Every P (xs ++ ys)
every_join P [] ys h k = k
every_join P (x ∷ xs) ys h k = (h.0, every_join P xs ys h.1 k)

every_first : (P : Vec → Type 0) (xs ys : List Vec) → Every P (xs ++ ys) → Every P xs
every_first P [] ys h = tt
every_first P (x ∷ xs) ys h = (h.0, every_first P xs ys h.1)

every_rest : (P : Vec → Type 0) (xs ys : List Vec) → Every P (xs ++ ys) → Every P ys
every_rest P [] ys h = h
every_rest P (x ∷ xs) ys h = every_rest P xs ys h.1

every_in : (P : Vec → Type 0) (v : Vec) (xs : List Vec) → Every P xs → In v xs → P v
every_in P v xs h (here y ys e s) = subst P (sym s) (subst (Every P) e h).0
every_in P v xs h (there y ys e i) = every_in P v ys (subst (Every P) e h).1 i

-- ---- a line that splits is ahead of all differences

module _ (a b c : ℤ) where
  abbrev IsAhead : Vec → Type 0
  IsAhead e = pos 0 <ℤ (a *ℤ e.x +ℤ b *ℤ e.y)

  gap_ring : (lx ly rx ry : ℤ) → a *ℤ (lx -ℤ rx) +ℤ b *ℤ (ly -ℤ ry) ≡ (a *ℤ lx +ℤ b *ℤ ly +ℤ c *ℤ pos 1) -ℤ (a *ℤ rx +ℤ b *ℤ ry +ℤ c *ℤ pos 1)
  gap_ring lx ly rx ry = by_ring (a ∷ b ∷ c ∷ lx ∷ ly ∷ rx ∷ ry ∷ []) _ _ (search quoting depth 60 fits 400000) (search quoting depth 60 fits 400000) tt

  above : (x u v : ℤ) → x ≡ u -ℤ v → pos 0 <ℤ u → v <ℤ pos 0 → pos 0 <ℤ x
  above x u v e h k = omega (arith, ints)

  row_ahead : (l : EndPoints) → pos 0 <ℤ value_at a b c (point_of l.left) → (rs : List EndPoints) → SplitsEnds rs a b c → Every IsAhead (row l rs)
  row_ahead l h [] k = tt
  row_ahead l h (r ∷ rs) k = (above _ _ _ (gap_ring l.left.x l.left.y r.right.x r.right.y) h k.0.1, row_ahead l h rs k.1)

  all_ahead : (ls rs : List EndPoints) → SplitsEnds ls a b c → SplitsEnds rs a b c → Every IsAhead (differences ls rs)
  all_ahead [] rs h k = tt
  all_ahead (l ∷ ls) rs h k = every_join IsAhead (row l rs) (differences ls rs) (row_ahead l h.0.0 rs k) (all_ahead ls rs h.1 k)

  sum_ring : (u v w dx dy ex ey fx fy : ℤ) → u *ℤ (a *ℤ dx +ℤ b *ℤ dy) +ℤ v *ℤ (a *ℤ ex +ℤ b *ℤ ey) +ℤ w *ℤ (a *ℤ fx +ℤ b *ℤ fy) ≡ a *ℤ (u *ℤ dx +ℤ v *ℤ ex +ℤ w *ℤ fx) +ℤ b *ℤ (u *ℤ dy +ℤ v *ℤ ey +ℤ w *ℤ fy)
  sum_ring u v w dx dy ex ey fx fy = by_ring (a ∷ b ∷ u ∷ v ∷ w ∷ dx ∷ dy ∷ ex ∷ ey ∷ fx ∷ fy ∷ []) _ _ (search quoting depth 60 fits 600000) (search quoting depth 60 fits 600000) tt

  weighed : (u v w d e f : ℤ) → pos 0 ≤ℤ u → pos 0 ≤ℤ v → pos 0 ≤ℤ w → pos 0 <ℤ (u +ℤ v +ℤ w) → pos 0 <ℤ d → pos 0 <ℤ e → pos 0 <ℤ f → pos 0 <ℤ (u *ℤ d +ℤ v *ℤ e +ℤ w *ℤ f)
  weighed u v w d e f hu hv hw s hd he hf =
      let p = mul-nonneg u d hu (nonneg_of_pos d hd) in let q = mul-nonneg v e hv (nonneg_of_pos e he) in let r = mul-nonneg w f hw (nonneg_of_pos f hf) in
      by (sign_cases u) (sign_cases v) (sign_cases w) p q r
    where
      first : (x y z : ℤ) → pos 0 <ℤ x → pos 0 ≤ℤ y → pos 0 ≤ℤ z → pos 0 <ℤ (x +ℤ y +ℤ z)
      first x y z h k l = omega (arith, ints)

      second : (x y z : ℤ) → pos 0 ≤ℤ x → pos 0 <ℤ y → pos 0 ≤ℤ z → pos 0 <ℤ (x +ℤ y +ℤ z)
      second x y z h k l = omega (arith, ints)

      third : (x y z : ℤ) → pos 0 ≤ℤ x → pos 0 ≤ℤ y → pos 0 <ℤ z → pos 0 <ℤ (x +ℤ y +ℤ z)
      third x y z h k l = omega (arith, ints)

      not_below : (x : ℤ) → pos 0 ≤ℤ x → x <ℤ pos 0 → ⊥
      not_below x h k = omega (arith, ints)

      none : (x y z : ℤ) → x ≡ pos 0 → y ≡ pos 0 → z ≡ pos 0 → pos 0 <ℤ (x +ℤ y +ℤ z) → ⊥
      none x y z e f g h = omega (arith, ints)

      by : (u <ℤ pos 0) ⊎ (u ≡ pos 0) ⊎ (pos 0 <ℤ u) → (v <ℤ pos 0) ⊎ (v ≡ pos 0) ⊎ (pos 0 <ℤ v) → (w <ℤ pos 0) ⊎ (w ≡ pos 0) ⊎ (pos 0 <ℤ w) → pos 0 ≤ℤ (u *ℤ d) → pos 0 ≤ℤ (v *ℤ e) → pos 0 ≤ℤ (w *ℤ f) → pos 0 <ℤ (u *ℤ d +ℤ v *ℤ e +ℤ w *ℤ f)
      by (inl n) y z p q r = absurd (not_below u hu n)
      by (inr (inr k)) y z p q r = first (u *ℤ d) (v *ℤ e) (w *ℤ f) (mul-pos u d k hd) q r
      by (inr (inl e0)) (inl n) z p q r = absurd (not_below v hv n)
      by (inr (inl e0)) (inr (inr k)) z p q r = second (u *ℤ d) (v *ℤ e) (w *ℤ f) p (mul-pos v e k he) r
      by (inr (inl e0)) (inr (inl e1)) (inl n) p q r = absurd (not_below w hw n)
      by (inr (inl e0)) (inr (inl e1)) (inr (inr k)) p q r = third (u *ℤ d) (v *ℤ e) (w *ℤ f) p q (mul-pos w f k hf)
      by (inr (inl e0)) (inr (inl e1)) (inr (inl e2)) p q r = absurd (none u v w e0 e1 e2 s)

  no_meeting : (es : List EndPoints) → Meets (differences es es) → ¬ SplitsEnds es a b c
  no_meeting es m h =
      let at : (v : Vec) → In v (differences es es) → IsAhead v = λ v i. every_in IsAhead v (differences es es) (all_ahead es es h h) i in
      clash _ _ _ (weighed m.u m.v m.w _ _ _ m.u_in m.v_in m.w_in m.proper (at m.d m.d_in) (at m.e m.e_in) (at m.f m.f_in)) (sum_ring m.u m.v m.w m.d.x m.d.y m.e.x m.e.y m.f.x m.f.y) m.x m.y
    where
      clash : (s p q : ℤ) → pos 0 <ℤ s → s ≡ a *ℤ p +ℤ b *ℤ q → p ≡ pos 0 → q ≡ pos 0 → ⊥
      clash s p q h e f g = let t : s ≡ pos 0 = e ∙ zero p q f g in omega (arith, ints)
        where
          zero : (p q : ℤ) → p ≡ pos 0 → q ≡ pos 0 → a *ℤ p +ℤ b *ℤ q ≡ pos 0
          zero p q f g = rw (f, g) (by_ring (a ∷ b ∷ []) _ _ (search quoting depth 40 fits 100000) (search quoting depth 40 fits 100000) tt)

-- ---- a direction that is ahead of all differences gives a line

-- the last along the direction, and what holds of all holds of it
greatest : (f : EndPoints → ℤ) (r : EndPoints) (rs : List EndPoints) → (q : EndPoints) × (((P : EndPoints → Type 0) → AllByRecursion P (r ∷ rs) → P q) × AllByRecursion (λ s. f s ≤ℤ f q) (r ∷ rs))
greatest f r [] = (r, ((λ P h. h.0), (le_itself (f r), tt)))
greatest f r (s ∷ rs) = by (greatest f s rs)
  where
    up : (x y z : ℤ) → x ≤ℤ y → y <ℤ z → x ≤ℤ z
    up x y z h k = omega (arith, ints)

    lift : (q : EndPoints) (ts : List EndPoints) → f q <ℤ f r → AllByRecursion (λ t. f t ≤ℤ f q) ts → AllByRecursion (λ t. f t ≤ℤ f r) ts
    lift q [] h k = tt
    lift q (t ∷ ts) h k = (up (f t) (f q) (f r) k.0 h, lift q ts h k.1)

    by : (q : EndPoints) × (((P : EndPoints → Type 0) → AllByRecursion P (s ∷ rs) → P q) × AllByRecursion (λ t. f t ≤ℤ f q) (s ∷ rs)) → (q : EndPoints) × (((P : EndPoints → Type 0) → AllByRecursion P (r ∷ s ∷ rs) → P q) × AllByRecursion (λ t. f t ≤ℤ f q) (r ∷ s ∷ rs))
    by (q, (of_all, most)) = elim (le_or_lt (f r) (f q)) as (λ _. (q : EndPoints) × (((P : EndPoints → Type 0) → AllByRecursion P (r ∷ s ∷ rs) → P q) × AllByRecursion (λ t. f t ≤ℤ f q) (r ∷ s ∷ rs))) [
      | inl le ↦ (q, ((λ P h. of_all P h.1), (le, most)))
      | inr lt ↦ (r, ((λ P h. h.0), (le_itself (f r), lift q (s ∷ rs) lt most)))
    ]

module _ (x y : ℤ) where
  abbrev IsClear : EndPoints → EndPoints → Type 0
  IsClear l r = pos 0 <ℤ dot (record { x = x; y = y }) (difference l r)

  clear_row : (l : EndPoints) (rs : List EndPoints) → Every (λ e. pos 0 <ℤ dot (record { x = x; y = y }) e) (row l rs) → AllByRecursion (IsClear l) rs
  clear_row l [] h = tt
  clear_row l (r ∷ rs) h = (h.0, clear_row l rs h.1)

  clear_rows : (ls rs : List EndPoints) → Every (λ e. pos 0 <ℤ dot (record { x = x; y = y }) e) (differences ls rs) → AllByRecursion (λ l. AllByRecursion (IsClear l) rs) ls
  clear_rows [] rs h = tt
  clear_rows (l ∷ ls) rs h = (clear_row l rs (every_first _ (row l rs) (differences ls rs) h), clear_rows ls rs (every_rest _ (row l rs) (differences ls rs) h))

  value_ring : (m px py : ℤ) → (pos 2 *ℤ x) *ℤ px +ℤ (pos 2 *ℤ y) *ℤ py +ℤ neg_ℤ (pos 2 *ℤ m +ℤ pos 1) *ℤ pos 1 ≡ pos 2 *ℤ (x *ℤ px +ℤ y *ℤ py) -ℤ pos 2 *ℤ m -ℤ pos 1
  value_ring m px py = by_ring (x ∷ y ∷ m ∷ px ∷ py ∷ []) _ _ (search quoting depth 60 fits 400000) (search quoting depth 60 fits 400000) tt

  clear_ring : (lx ly rx ry : ℤ) → x *ℤ (lx -ℤ rx) +ℤ y *ℤ (ly -ℤ ry) ≡ (x *ℤ lx +ℤ y *ℤ ly) -ℤ (x *ℤ rx +ℤ y *ℤ ry)
  clear_ring lx ly rx ry = by_ring (x ∷ y ∷ lx ∷ ly ∷ rx ∷ ry ∷ []) _ _ (search quoting depth 60 fits 400000) (search quoting depth 60 fits 400000) tt

  left_of : (v d l m : ℤ) → v ≡ pos 2 *ℤ l -ℤ pos 2 *ℤ m -ℤ pos 1 → d ≡ l -ℤ m → pos 0 <ℤ d → pos 0 <ℤ v
  left_of v d l m e f h = omega (arith, ints)

  right_of : (v r m : ℤ) → v ≡ pos 2 *ℤ r -ℤ pos 2 *ℤ m -ℤ pos 1 → r ≤ℤ m → v <ℤ pos 0
  right_of v r m e h = omega (arith, ints)

  abbrev far_of : EndPoints → ℤ
  far_of e = x *ℤ e.right.x +ℤ y *ℤ e.right.y

  -- all left ends are beyond q, and no right end is
  parts_by : (q : EndPoints) (es : List EndPoints) → AllByRecursion (λ l. IsClear l q) es → AllByRecursion (λ s. far_of s ≤ℤ far_of q) es → SplitsEnds es (pos 2 *ℤ x) (pos 2 *ℤ y) (neg_ℤ (pos 2 *ℤ far_of q +ℤ pos 1))
  parts_by q [] h k = tt
  parts_by q (e ∷ es) h k = (
    (
      left_of _ _ (x *ℤ e.left.x +ℤ y *ℤ e.left.y) (far_of q) (value_ring (far_of q) e.left.x e.left.y) (clear_ring e.left.x e.left.y q.right.x q.right.y) h.0,
      right_of _ (far_of e) (far_of q) (value_ring (far_of q) e.right.x e.right.y) k.0,
    ),
    parts_by q es h.1 k.1,
  )

  clear_of : (q : EndPoints) (rs : List EndPoints) → ((P : EndPoints → Type 0) → AllByRecursion P rs → P q) → (ls : List EndPoints) → AllByRecursion (λ l. AllByRecursion (IsClear l) rs) ls → AllByRecursion (λ l. IsClear l q) ls
  clear_of q rs of_all [] h = tt
  clear_of q rs of_all (l ∷ ls) h = (of_all (IsClear l) h.0, clear_of q rs of_all ls h.1)

pub splittable_or_not : (es : List EndPoints) → IsSplittable es ⊎ ¬ IsSplittable es
splittable_or_not [] = inl (pos 0, pos 0, pos 0, tt)
splittable_or_not (e ∷ es) = elim (ahead_or_meets (differences (e ∷ es) (e ∷ es))) as (λ _. IsSplittable (e ∷ es) ⊎ ¬ IsSplittable (e ∷ es)) [
  | inl n ↦ inl (by n (greatest (far_of n.n.x n.n.y) e es))
  | inr m ↦ inr (λ h. no_meeting h.0 h.1 h.2 (e ∷ es) m h.3)
]
  where
    by : (n : Ahead (differences (e ∷ es) (e ∷ es))) → (q : EndPoints) × (((P : EndPoints → Type 0) → AllByRecursion P (e ∷ es) → P q) × AllByRecursion (λ s. far_of n.n.x n.n.y s ≤ℤ far_of n.n.x n.n.y q) (e ∷ es)) → IsSplittable (e ∷ es)
    by n (q, (of_all, most)) = (pos 2 *ℤ n.n.x, pos 2 *ℤ n.n.y, neg_ℤ (pos 2 *ℤ far_of n.n.x n.n.y q +ℤ pos 1), parts_by n.n.x n.n.y q (e ∷ es) (clear_of n.n.x n.n.y q (e ∷ es) of_all (e ∷ es) (clear_rows n.n.x n.n.y (e ∷ es) (e ∷ es) n.each)) most)
