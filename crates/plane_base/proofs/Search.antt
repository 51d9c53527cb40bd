-- Finite search in lists.
use Rattle.std.proofs.Common.{◌≡◌, ℤ, pos, ◌+ℤ◌, ◌*ℤ◌, ◌-ℤ◌, ◌≤ℤ◌, ◌<ℤ◌, neg_ℤ, arith, refl, sym, subst, ◌⊎◌, inl, inr, List, [], ◌∷◌, ◌++◌}
use borrow.Author.Differences.{ints}
use lib.IntN.{*ℤ_comm}
use Rattle.math_base.proofs.IntLaws.{neg-*ℤ}
use Rattle.math_base.proofs.Quoting.{quoting, by_ring}
use Rattle.math_base.proofs.Signs.{mul-nonneg, nonneg-of-mul, le_or_lt}

abbrev pub In : {A : Type 0} → A → List A → Type 0
In x [] = ⊥
In x (y ∷ ys) = (y ≡ x) ⊎ In x ys

-- a member with the property, or none
-- ---- members of joined lists
pub in_left : {A : Type 0} (x : A) (xs ys : List A) → In x xs → In x (xs ++ ys)
in_left x [] ys i = absurd i
in_left x (a ∷ xs) ys i = elim i as (λ _. In x ((a ∷ xs) ++ ys)) [ inl e ↦ inl e | inr j ↦ inr (in_left x xs ys j) ]

pub in_right : {A : Type 0} (x : A) (xs ys : List A) → In x ys → In x (xs ++ ys)
in_right x [] ys i = i
in_right x (a ∷ xs) ys i = inr (in_right x xs ys i)

pub in_cases : {A : Type 0} (x : A) (xs ys : List A) → In x (xs ++ ys) → In x xs ⊎ In x ys
in_cases x [] ys i = inr i
in_cases x (a ∷ xs) ys i = elim i as (λ _. In x (a ∷ xs) ⊎ In x ys) [ inl e ↦ inl (inl e) | inr j ↦ elim (in_cases x xs ys j) as (λ _. In x (a ∷ xs) ⊎ In x ys) [ inl k ↦ inl (inr k) | inr k ↦ inr k ] ]

pub find_or_none : {A : Type 0} (P : A → Type 0) → ((a : A) → P a ⊎ ¬ P a) → (xs : List A) → ((a : A) × In a xs × P a) ⊎ ((a : A) → In a xs → ¬ P a)
find_or_none P dec [] = inr (λ a i p. i)
find_or_none {A} P dec (x ∷ xs) = elim (dec x) as (λ _. ((a : A) × In a (x ∷ xs) × P a) ⊎ ((a : A) → In a (x ∷ xs) → ¬ P a)) [
  | inl p ↦ inl (x, inl refl, p)
  | inr n ↦ elim (find_or_none P dec xs) as (λ _. ((a : A) × In a (x ∷ xs) × P a) ⊎ ((a : A) → In a (x ∷ xs) → ¬ P a)) [
    | inl f ↦ inl (f.0, inr f.1, f.2)
    | inr k ↦ inr (λ a i p. elim i as (λ _. ⊥) [ inl e ↦ n (subst P (sym e) p) | inr j ↦ k a j p ])
  ]
]

-- the least of the members with the property, for a total and transitive relation on them
pub record Least {A : Type 0} (P : A → Type 0) (Le : A → A → Type 0) (xs : List A) : Type 0 where
  pub it : A
  pub member : In it xs
  pub has : P it
  pub least : (a : A) → In a xs → P a → Le it a

least_step : {A : Type 0} (P : A → Type 0) (Le : A → A → Type 0) → ((a b : A) → P a → P b → Le a b ⊎ Le b a) → ((a b c : A) → P a → P b → P c → Le a b → Le b c → Le a c)
    → (x : A) (xs : List A) → P x → Least P Le xs → Least P Le (x ∷ xs)
least_step P Le total trans x xs p h = elim (total x h.it p h.has) as (λ _. Least P Le (x ∷ xs)) [
  | inl k ↦ record { it = x; member = inl refl; has = p; least = λ a i q. elim i as (λ _. Le x a) [ inl e ↦ subst (Le x) e (elim (total x x p p) as (λ _. Le x x) [ inl r ↦ r | inr r ↦ r ]) | inr j ↦ trans x h.it a p h.has q k (h.least a j q) ] }
  | inr k ↦ record { it = h.it; member = inr h.member; has = h.has; least = λ a i q. elim i as (λ _. Le h.it a) [ inl e ↦ subst (Le h.it) e k | inr j ↦ h.least a j q ] }
]

least_skip : {A : Type 0} (P : A → Type 0) (Le : A → A → Type 0) (x : A) (xs : List A) → ¬ P x → Least P Le xs → Least P Le (x ∷ xs)
least_skip P Le x xs n h = record { it = h.it; member = inr h.member; has = h.has; least = λ a i q. elim i as (λ _. Le h.it a) [ inl e ↦ absurd (n (subst P (sym e) q)) | inr j ↦ h.least a j q ] }

least_alone : {A : Type 0} (P : A → Type 0) (Le : A → A → Type 0) → ((a b : A) → P a → P b → Le a b ⊎ Le b a) → (x : A) (xs : List A) → P x → ((a : A) → In a xs → ¬ P a) → Least P Le (x ∷ xs)
least_alone P Le total x xs p n = record { it = x; member = inl refl; has = p; least = λ a i q. elim i as (λ _. Le x a) [ inl e ↦ subst (Le x) e (elim (total x x p p) as (λ _. Le x x) [ inl r ↦ r | inr r ↦ r ]) | inr j ↦ absurd (n a j q) ] }

pub least_by : {A : Type 0} (P : A → Type 0) (Le : A → A → Type 0) → ((a : A) → P a ⊎ ¬ P a) → ((a b : A) → P a → P b → Le a b ⊎ Le b a) → ((a b c : A) → P a → P b → P c → Le a b → Le b c → Le a c)
    → (xs : List A) → Least P Le xs ⊎ ((a : A) → In a xs → ¬ P a)
least_by P Le dec total trans [] = inr (λ a i p. i)
least_by {A} P Le dec total trans (x ∷ xs) = elim (dec x) as (λ _. Least P Le (x ∷ xs) ⊎ ((a : A) → In a (x ∷ xs) → ¬ P a)) [
  | inl p ↦ elim (least_by P Le dec total trans xs) as (λ _. Least P Le (x ∷ xs) ⊎ ((a : A) → In a (x ∷ xs) → ¬ P a)) [
    | inl h ↦ inl (least_step P Le total trans x xs p h)
    | inr n ↦ inl (least_alone P Le total x xs p n)
  ]
  | inr q ↦ elim (least_by P Le dec total trans xs) as (λ _. Least P Le (x ∷ xs) ⊎ ((a : A) → In a (x ∷ xs) → ¬ P a)) [
    | inl h ↦ inl (least_skip P Le x xs q h)
    | inr n ↦ inr (λ a i p. elim i as (λ _. ⊥) [ inl e ↦ q (subst P (sym e) p) | inr j ↦ n a j p ])
  ]
]

-- ---- where a moving point leaves: each member has a value x ≥ 0 at the start and y at the end. No y is below 0, or some member is left first
pub record First {A : Type 0} (x y : A → ℤ) (xs : List A) : Type 0 where
  pub it : A
  pub member : In it xs
  pub below : y it <ℤ pos 0
  pub first : (a : A) → In a xs → pos 0 ≤ℤ (neg_ℤ (y it) *ℤ x a +ℤ x it *ℤ y a)

later_ring : (X Y x y u v : ℤ) → neg_ℤ Y *ℤ (neg_ℤ y *ℤ u +ℤ x *ℤ v) ≡ neg_ℤ y *ℤ (neg_ℤ Y *ℤ u +ℤ X *ℤ v) +ℤ neg_ℤ v *ℤ (x *ℤ Y -ℤ y *ℤ X)
later_ring X Y x y u v = by_ring (X ∷ Y ∷ x ∷ y ∷ u ∷ v ∷ []) _ _ (search quoting depth 60 fits 1000000) (search quoting depth 60 fits 1000000) tt

-- x/-y before X/-Y, and X/-Y not after u/-v
earlier : (X Y x y u v : ℤ) → Y <ℤ pos 0 → y <ℤ pos 0 → pos 0 ≤ℤ x → pos 0 ≤ℤ u → pos 0 ≤ℤ (x *ℤ Y -ℤ y *ℤ X) → pos 0 ≤ℤ (neg_ℤ Y *ℤ u +ℤ X *ℤ v) → pos 0 ≤ℤ (neg_ℤ y *ℤ u +ℤ x *ℤ v)
earlier X Y x y u v hY hy hx hu h k = elim (le_or_lt (pos 0) v) as (λ _. pos 0 ≤ℤ (neg_ℤ y *ℤ u +ℤ x *ℤ v)) [
  | inl p ↦ omega (arith, ints, mul-nonneg (neg_ℤ y) u (omega (arith, ints)) hu, mul-nonneg x v hx p)
  | inr n ↦ nonneg-of-mul (neg_ℤ Y) (neg_ℤ y *ℤ u +ℤ x *ℤ v) (omega (arith, ints))
      (omega (arith, ints, later_ring X Y x y u v, mul-nonneg (neg_ℤ y) (neg_ℤ Y *ℤ u +ℤ X *ℤ v) (omega (arith, ints)) k, mul-nonneg (neg_ℤ v) (x *ℤ Y -ℤ y *ℤ X) (omega (arith, ints)) h))
]

self_ring : (x y : ℤ) → neg_ℤ y *ℤ x +ℤ x *ℤ y ≡ pos 0
self_ring x y = by_ring (x ∷ y ∷ []) _ _ (search quoting depth 60 fits 1000000) (search quoting depth 60 fits 1000000) tt

at_member : {A : Type 0} (P : A → Type 0) (a b : A) (xs : List A) → In b (a ∷ xs) → P a → ((c : A) → In c xs → P c) → P b
at_member P a b xs i p h = elim i as (λ _. P b) [ inl e ↦ subst P e p | inr j ↦ h b j ]

pub leave_first : {A : Type 0} (x y : A → ℤ) (xs : List A) → ((a : A) → In a xs → pos 0 ≤ℤ x a) → ((a : A) → In a xs → pos 0 ≤ℤ y a) ⊎ First x y xs
leave_first x y [] h = inl (λ a i. absurd i)
leave_first {A} x y (a ∷ xs) h = elim (leave_first x y xs (λ b i. h b (inr i))) as (λ _. ((b : A) → In b (a ∷ xs) → pos 0 ≤ℤ y b) ⊎ First x y (a ∷ xs)) [
  | inl n ↦ elim (le_or_lt (pos 0) (y a)) as (λ _. ((b : A) → In b (a ∷ xs) → pos 0 ≤ℤ y b) ⊎ First x y (a ∷ xs)) [
    | inl p ↦ inl (λ b i. at_member (λ c. pos 0 ≤ℤ y c) a b xs i p n)
    | inr q ↦ inr (record {
      it = a;
      member = inl refl;
      below = q;
      first = λ b i. at_member (λ c. pos 0 ≤ℤ (neg_ℤ (y a) *ℤ x c +ℤ x a *ℤ y c)) a b xs i (omega (arith, ints, self_ring (x a) (y a)))
          (λ c j. omega (arith, ints, mul-nonneg (neg_ℤ (y a)) (x c) (omega (arith, ints)) (h c (inr j)), mul-nonneg (x a) (y c) (h a (inl refl)) (n c j)));
    })
  ]
  | inr f ↦ elim (le_or_lt (pos 0) (neg_ℤ (y f.it) *ℤ x a +ℤ x f.it *ℤ y a)) as (λ _. ((b : A) → In b (a ∷ xs) → pos 0 ≤ℤ y b) ⊎ First x y (a ∷ xs)) [
    | inl p ↦ inr (record { it = f.it; member = inr f.member; below = f.below; first = λ b i. at_member (λ c. pos 0 ≤ℤ (neg_ℤ (y f.it) *ℤ x c +ℤ x f.it *ℤ y c)) a b xs i p f.first })
    | inr q ↦
        let xa : pos 0 ≤ℤ x a = h a (inl refl) in
        let xf : pos 0 ≤ℤ x f.it = h f.it (inr f.member) in
        let t = mul-nonneg (neg_ℤ (y f.it)) (x a) (let k = f.below in omega (arith, ints)) xa in
        let ya : y a <ℤ pos 0 = elim (le_or_lt (pos 0) (y a)) as (λ _. y a <ℤ pos 0) [ inl p ↦ absurd (omega (arith, ints, mul-nonneg (x f.it) (y a) xf p)) | inr r ↦ r ] in
        let g : pos 0 ≤ℤ (x a *ℤ y f.it -ℤ y a *ℤ x f.it) = omega (arith, ints, neg-*ℤ (y f.it) (x a), *ℤ_comm (y f.it) (x a), *ℤ_comm (y a) (x f.it)) in
        inr (record {
          it = a;
          member = inl refl;
          below = ya;
          first = λ b i. at_member (λ c. pos 0 ≤ℤ (neg_ℤ (y a) *ℤ x c +ℤ x a *ℤ y c)) a b xs i (omega (arith, ints, self_ring (x a) (y a)))
              (λ c j. earlier (x f.it) (y f.it) (x a) (y a) (x c) (y c) f.below ya xa (h c (inr j)) g (f.first c j));
        })
  ]
]
