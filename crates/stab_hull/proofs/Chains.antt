-- Ends with their steps: one more at the end, the first ones, and the last one with a longer step.
use Rattle.std.proofs.Common.{◌≡◌, ◌⊎◌, inl, inr, ℕ, zero, suc, ◌+◌, ◌<◌, ◌≤◌, List, [], ◌∷◌, ◌++◌, length, take, set, slice_get, Some, refl, sym, ap, ap₂, ◌∙◌, subst, arith, ℤ, pos, ◌+ℤ◌, ◌-ℤ◌, ◌*ℤ◌, ◌≤ℤ◌}
use Rattle.std.proofs.Math.Nat.{eq-or-lt_of_le}
use Rattle.std.proofs.lemmas.Int.{ints}
use Rattle.std.proofs.lemmas.Option.{none-some, same_Some, slice_get_within}
use Rattle.math_base.proofs.Lists.{get_take, pushed_at}
use Rattle.plane_base.specs.Arrows.{cross, dot}
use Rattle.sight_names.specs.declared.names.Pt.{Pt}
use Rattle.sight_names.specs.declared.names.EndAt.{EndAt}
use Rattle.geom_exact.specs.ExtremeLines.Differences.{difference}
use Rattle.stab_hull.specs.declared.chain.Kept.{Kept}
use Rattle.stab_hull.specs.Chains.{LiesBetween, HasChainSteps, kept_ends}
use Rattle.stab_hull.proofs.Between.{further, lies_between}

-- ---- by the products of the ways from each point to the next
level : (a b c : Pt) → (b.x -ℤ a.x) *ℤ (c.y -ℤ b.y) ≡ (b.y -ℤ a.y) *ℤ (c.x -ℤ b.x) → cross (difference b a) (difference c b) ≡ pos 0
unfolding cross
level a b c e = omega (arith, ints)

forth : (a b c : Pt) → pos 0 ≤ℤ ((b.x -ℤ a.x) *ℤ (c.x -ℤ b.x) +ℤ (b.y -ℤ a.y) *ℤ (c.y -ℤ b.y)) → pos 0 ≤ℤ dot (difference b a) (difference c b)
unfolding dot
forth a b c h = h

pub between_by : (a b c : Pt) (turn back along rise : ℤ) → turn ≡ (b.x -ℤ a.x) *ℤ (c.y -ℤ b.y) → back ≡ (b.y -ℤ a.y) *ℤ (c.x -ℤ b.x) → along ≡ (b.x -ℤ a.x) *ℤ (c.x -ℤ b.x) → rise ≡ (b.y -ℤ a.y) *ℤ (c.y -ℤ b.y)
    → turn ≡ back → pos 0 ≤ℤ (along +ℤ rise) → LiesBetween a b c
between_by a b c turn back along rise et eb ea er flat ahead = lies_between a b c (level a b c (sym et ∙ flat ∙ eb)) (forth a b c (subst (λ (v : ℤ). pos 0 ≤ℤ v) (ap₂ (λ (v w : ℤ). v +ℤ w) ea er) ahead))

-- ---- the first ones
pub steps_take : (n : ℕ) (ks : List Kept) → HasChainSteps ks → HasChainSteps (take n ks)
steps_take n ks h = record {
  within = λ m k e. h.within m k (get_take n ks m k e).1;
  first = λ m k e. h.first m k (get_take n ks m k e).1;
  between = λ m i j a b c ea eb ec. h.between m i j a b c (get_take n ks m a ea).1 (get_take n ks i b eb).1 (get_take n ks j c ec).1;
}

-- ---- one more, with a step to the one before it
abbrev IsPushed : List Kept → Kept → ℕ → Kept → Type 0
IsPushed ks k n c = (slice_get ks n ≡ Some c) ⊎ ((n ≡ length ks) × (k ≡ c))

steps_pushed : (ks : List Kept) (k : Kept) → k.step ≡ 1 → HasChainSteps ks → HasChainSteps (ks ++ k ∷ [])
steps_pushed ks k one h = record {
  within = λ n c e. within n c (pushed_at ks k c n e);
  first = λ n c e. first n c (pushed_at ks k c n e);
  between = λ m i n a b c ea eb ec. between m i n a b c (pushed_at ks k a m ea) (pushed_at ks k b i eb) (pushed_at ks k c n ec);
}
  where
    step_of_new : (c : Kept) → k ≡ c → c.step ≡ 1
    step_of_new c e = sym (ap (λ (x : Kept). x.step) e) ∙ one

    within : (n : ℕ) (c : Kept) → IsPushed ks k n c → (0 < c.step) × (c.step ≤ n + 1)
    within n c (inl g) = h.within n c g
    within n c (inr g) = let s = step_of_new c g.1 in (omega (arith, s), omega (arith, s))

    first : (n : ℕ) (c : Kept) → IsPushed ks k n c → c.step ≡ n + 1 → n ≡ 0
    first n c (inl g) q = h.first n c g q
    first n c (inr g) q = let s = step_of_new c g.1 in omega (arith, s, q)

    old : (m : ℕ) (a : Kept) → IsPushed ks k m a → m < length ks → slice_get ks m ≡ Some a
    old m a (inl g) l = g
    old m a (inr g) l = let e = g.0 in absurd (omega (arith, e, l))

    between : (m i n : ℕ) (a b c : Kept) → IsPushed ks k m a → IsPushed ks k i b → IsPushed ks k n c → m + c.step ≡ n → m < i → i < n → LiesBetween a.end.at b.end.at c.end.at
    between m i n a b c ea eb (inl g) q mi il = let l = slice_get_within ks n c g in h.between m i n a b c (old m a ea (omega (arith, l, mi, il))) (old i b eb (omega (arith, l, il))) g q mi il
    between m i n a b c ea eb (inr g) q mi il = let s = step_of_new c g.1 in absurd (omega (arith, s, q, mi, il))

pub steps_after : (old made new : List Kept) (k : Kept) → k.step ≡ 1 → made ≡ old → new ≡ made ++ k ∷ [] → HasChainSteps old → HasChainSteps new
steps_after old made new k one same more h = subst HasChainSteps (sym (more ∙ ap (λ (ks : List Kept). ks ++ k ∷ []) same)) (steps_pushed old k one h)

-- ---- one with another step
pub set_at : {X : Type 0} (xs : List X) (i j : ℕ) (d x : X) → slice_get (set xs i d) j ≡ Some x → ((j ≡ i → ⊥) × (slice_get xs j ≡ Some x)) ⊎ ((j ≡ i) × (d ≡ x))
set_at [] i j d x e = absurd (none-some x e)
set_at (z ∷ zs) zero zero d x e = inr (refl, same_Some d x e)
set_at (z ∷ zs) zero (suc j) d x e = inl (λ q. omega (arith, q), e)
set_at (z ∷ zs) (suc i) zero d x e = inl (λ q. omega (arith, q), e)
set_at (z ∷ zs) (suc i) (suc j) d x e = elim (set_at zs i j d x e) [ inl h ↦ inl (λ q. h.0 (omega (arith, q)), h.1) | inr h ↦ inr (ap suc h.0, h.1) ]

pub same_ends : (ks : List Kept) (i : ℕ) (c d : Kept) → slice_get ks i ≡ Some c → d.end ≡ c.end → kept_ends (set ks i d) ≡ kept_ends ks
same_ends [] i c d g e = refl
same_ends (k ∷ ks) zero c d g e = ap (λ (x : EndAt). x ∷ kept_ends ks) (e ∙ ap (λ (x : Kept). x.end) (sym (same_Some k c g)))
same_ends (k ∷ ks) (suc i) c d g e = ap (λ (xs : List EndAt). k.end ∷ xs) (same_ends ks i c d g e)

abbrev IsSet : List Kept → ℕ → Kept → ℕ → Kept → Type 0
IsSet ks i d n k = ((n ≡ i → ⊥) × (slice_get ks n ≡ Some k)) ⊎ ((n ≡ i) × (d ≡ k))

-- the last one steps over the one before it, where that lies between it and the one that that one steps to
pub steps_longer : (ks : List Kept) (m under last step : ℕ) (a b c d : Kept) → HasChainSteps ks → last + 1 ≡ length ks → under + 1 ≡ last → m + step ≡ under → slice_get ks m ≡ Some a → slice_get ks under ≡ Some b → slice_get ks last ≡ Some c
    → b.step ≡ step → LiesBetween a.end.at b.end.at c.end.at → d.end ≡ c.end → d.step ≡ step + 1 → HasChainSteps (set ks last d)
steps_longer ks m under last step a b c d h all next back ga gb gc bs lies de ds = record {
  within = λ n k e. within n k (set_at ks last n d k e);
  first = λ n k e. first n k (set_at ks last n d k e);
  between = λ j i n x y z ex ey ez. between j i n x y z (set_at ks last j d x ex) (set_at ks last i d y ey) (set_at ks last n d z ez);
}
  where
    step_of_new : (k : Kept) → d ≡ k → k.step ≡ step + 1
    step_of_new k e = sym (ap (λ (x : Kept). x.step) e) ∙ ds

    within : (n : ℕ) (k : Kept) → IsSet ks last d n k → (0 < k.step) × (k.step ≤ n + 1)
    within n k (inl g) = h.within n k g.1
    within n k (inr g) = let e = g.0 in let s = step_of_new k g.1 in (omega (arith, s), omega (arith, e, s, next, back))

    first : (n : ℕ) (k : Kept) → IsSet ks last d n k → k.step ≡ n + 1 → n ≡ 0
    first n k (inl g) q = h.first n k g.1 q
    first n k (inr g) q = let e = g.0 in let s = step_of_new k g.1 in omega (arith, e, s, q, next, back)

    old : (n : ℕ) (k : Kept) → IsSet ks last d n k → n < last → slice_get ks n ≡ Some k
    old n k (inl g) l = g.1
    old n k (inr g) l = let e = g.0 in absurd (omega (arith, e, l))

    same_at : (n o : ℕ) (x y : Kept) → n ≡ o → slice_get ks n ≡ Some x → slice_get ks o ≡ Some y → x ≡ y
    same_at n o x y e gx gy = same_Some x y (sym gx ∙ ap (λ (k : ℕ). slice_get ks k) e ∙ gy)

    over : (i : ℕ) (y : Kept) → slice_get ks i ≡ Some y → m < i → (i ≡ under) ⊎ (i < under) → LiesBetween a.end.at y.end.at c.end.at
    over i y gy l (inl e) = subst (λ (k : Kept). LiesBetween a.end.at k.end.at c.end.at) (same_at under i b y (sym e) gb gy) lies
    over i y gy l (inr u) = further a.end.at y.end.at b.end.at c.end.at (h.between m i under a y b ga gy gb (ap (λ (s : ℕ). m + s) bs ∙ back) l u) lies

    between : (j i n : ℕ) (x y z : Kept) → IsSet ks last d j x → IsSet ks last d i y → IsSet ks last d n z → j + z.step ≡ n → j < i → i < n → LiesBetween x.end.at y.end.at z.end.at
    between j i n x y z ex ey (inl g) q ji il =
        let l = slice_get_within ks n z g.1 in
        h.between j i n x y z (old j x ex (omega (arith, l, ji, il, all))) (old i y ey (omega (arith, l, il, all))) g.1 q ji il
    between j i n x y z ex ey (inr g) q ji il =
        let e = g.0 in
        let s = step_of_new z g.1 in
        let same : m ≡ j = omega (arith, e, s, q, next, back) in
        let gx = old j x ex (omega (arith, e, ji, il)) in
        let gy = old i y ey (omega (arith, e, il)) in
        subst (λ (k : EndAt). LiesBetween x.end.at y.end.at k.at) (sym de ∙ ap (λ (k : Kept). k.end) g.1)
        (subst (λ (k : Kept). LiesBetween k.end.at y.end.at c.end.at) (same_at m j a x same ga gx) (over i y gy (omega (arith, same, ji)) (eq-or-lt_of_le (omega (arith, e, il, next)))))
