-- A solver for polynomial identities over ℤ, by computation.
--   Expr      a polynomial as it is written, over numbered variables; `val ρ e` is its value where variable i is the i-th number of ρ
--   Poly      a normal form: `Hor a p` is a + x * p, where x is the first variable and a speaks of the later ones only
--   norm      from the one to the other; `ring ρ e f tt` proves val ρ e ≡ val ρ f where the normal form of the difference is 0
use Rattle.std.proofs.Common.{ℤ, pos, negsuc, ◌+ℤ◌, ◌-ℤ◌, ◌*ℤ◌, neg_ℤ, ◌≡◌, refl, sym, ap, ap₂, ◌∙◌, ℕ, zero, suc, List, [], ◌∷◌, Bool, true, false, T}
use lib.IntN.{*ℤ_comm, +ℤ_assoc, +ℤ_comm, +ℤ_idl, +ℤ_idr, zero-*ℤ, *ℤ-zero, -ℤ-+ℤ_cancel}
use Rattle.math_base.proofs.IntLaws.{*ℤ_assoc, *ℤ-add, add-*ℤ, neg-*ℤ, sum-swap}

infixl 6 ◌⊕◌ ◌⊖◌
infixl 7 ◌⊗◌
pub data Expr : Type 0 where
  Var : ℕ → Expr
  Num : ℤ → Expr
  ◌⊕◌ : Expr → Expr → Expr
  ◌⊖◌ : Expr → Expr → Expr
  ◌⊗◌ : Expr → Expr → Expr
  Neg : Expr → Expr

pub data Poly : Type 0 where
  Con : ℤ → Poly
  Hor : Poly → Poly → Poly

abbrev pub head : List ℤ → ℤ
head [] = pos 0
head (x ∷ xs) = x

abbrev pub tail : List ℤ → List ℤ
tail [] = []
tail (x ∷ xs) = xs

abbrev pub nth : ℕ → List ℤ → ℤ
nth zero ρ = head ρ
nth (suc i) ρ = nth i (tail ρ)

abbrev pub val : List ℤ → Expr → ℤ
val ρ (Var i) = nth i ρ
val ρ (Num c) = c
val ρ (a ⊕ b) = val ρ a +ℤ val ρ b
val ρ (a ⊖ b) = val ρ a -ℤ val ρ b
val ρ (a ⊗ b) = val ρ a *ℤ val ρ b
val ρ (Neg a) = neg_ℤ (val ρ a)

abbrev pub ev : List ℤ → Poly → ℤ
ev ρ (Con c) = c
ev ρ (Hor a p) = ev (tail ρ) a +ℤ head ρ *ℤ ev ρ p

-- Hor a p, but in its shortest form where p is 0
abbrev pub hor : Poly → Poly → Poly
hor (Con c) (Con (pos zero)) = Con c
hor a p = Hor a p

abbrev pub add_con : ℤ → Poly → Poly
add_con c (Con d) = Con (c +ℤ d)
add_con c (Hor a p) = Hor (add_con c a) p

abbrev pub add : Poly → Poly → Poly
add (Con c) q = add_con c q
add (Hor a p) (Con d) = Hor (add_con d a) p
add (Hor a p) (Hor b q) = hor (add a b) (add p q)

abbrev pub scale : ℤ → Poly → Poly
scale c (Con d) = Con (c *ℤ d)
scale c (Hor a p) = hor (scale c a) (scale c p)

-- c * p, in one step where c is 0
abbrev pub times : ℤ → Poly → Poly
times (pos zero) p = Con (pos zero)
times (pos (suc n)) p = scale (pos (suc n)) p
times (negsuc n) p = scale (negsuc n) p

-- f at each coefficient
abbrev pub each : (Poly → Poly) → Poly → Poly
each f (Con d) = hor (f (Con d)) (Con (pos zero))
each f (Hor b q) = hor (f b) (each f q)

abbrev pub mul : Poly → Poly → Poly
mul (Con c) q = times c q
mul (Hor a p) q = add (each (mul a) q) (hor (Con (pos zero)) (mul p q))

abbrev pub var : ℕ → Poly
var zero = Hor (Con (pos zero)) (Con (pos 1))
var (suc i) = Hor (var i) (Con (pos zero))

abbrev pub norm : Expr → Poly
norm (Var i) = var i
norm (Num c) = Con c
norm (a ⊕ b) = add (norm a) (norm b)
norm (a ⊖ b) = add (norm a) (scale (negsuc 0) (norm b))
norm (a ⊗ b) = mul (norm a) (norm b)
norm (Neg a) = scale (negsuc 0) (norm a)

abbrev pub is_zero : Poly → Bool
is_zero (Con (pos zero)) = true
is_zero (Con (pos (suc n))) = false
is_zero (Con (negsuc n)) = false
is_zero (Hor a p) = false

-- ---- soundness
ev-hor : (ρ : List ℤ) (a p : Poly) → ev ρ (hor a p) ≡ ev (tail ρ) a +ℤ head ρ *ℤ ev ρ p
ev-hor ρ (Con c) (Con (pos zero)) = sym (ap (λ (x : ℤ). c +ℤ x) (*ℤ-zero (head ρ)) ∙ +ℤ_idr c)
ev-hor ρ (Con c) (Con (pos (suc n))) = refl
ev-hor ρ (Con c) (Con (negsuc n)) = refl
ev-hor ρ (Con c) (Hor b q) = refl
ev-hor ρ (Hor a p) q = refl

ev-add_con : (ρ : List ℤ) (c : ℤ) (p : Poly) → ev ρ (add_con c p) ≡ c +ℤ ev ρ p
ev-add_con ρ c (Con d) = refl
ev-add_con ρ c (Hor a p) = ap (λ (x : ℤ). x +ℤ head ρ *ℤ ev ρ p) (ev-add_con (tail ρ) c a) ∙ +ℤ_assoc c (ev (tail ρ) a) (head ρ *ℤ ev ρ p)

ev-add : (ρ : List ℤ) (p q : Poly) → ev ρ (add p q) ≡ ev ρ p +ℤ ev ρ q
ev-add ρ (Con c) q = ev-add_con ρ c q
ev-add ρ (Hor a p) (Con d) =
    ap (λ (x : ℤ). x +ℤ head ρ *ℤ ev ρ p) (ev-add_con (tail ρ) d a) ∙ +ℤ_assoc d (ev (tail ρ) a) (head ρ *ℤ ev ρ p) ∙ +ℤ_comm d (ev (tail ρ) a +ℤ head ρ *ℤ ev ρ p)
ev-add ρ (Hor a p) (Hor b q) =
    ev-hor ρ (add a b) (add p q)
    ∙ ap₂ (λ (x y : ℤ). x +ℤ head ρ *ℤ y) (ev-add (tail ρ) a b) (ev-add ρ p q)
    ∙ ap (λ (y : ℤ). (ev (tail ρ) a +ℤ ev (tail ρ) b) +ℤ y) (*ℤ-add (head ρ) (ev ρ p) (ev ρ q))
    ∙ sum-swap (ev (tail ρ) a) (ev (tail ρ) b) (head ρ *ℤ ev ρ p) (head ρ *ℤ ev ρ q)

-- x * (c * p) is c * (x * p)
swap_mul : (c x p : ℤ) → x *ℤ (c *ℤ p) ≡ c *ℤ (x *ℤ p)
swap_mul c x p = sym (*ℤ_assoc x c p) ∙ ap (λ (y : ℤ). y *ℤ p) (*ℤ_comm x c) ∙ *ℤ_assoc c x p

ev-scale : (ρ : List ℤ) (c : ℤ) (p : Poly) → ev ρ (scale c p) ≡ c *ℤ ev ρ p
ev-scale ρ c (Con d) = refl
ev-scale ρ c (Hor a p) =
    ev-hor ρ (scale c a) (scale c p)
    ∙ ap₂ (λ (x y : ℤ). x +ℤ head ρ *ℤ y) (ev-scale (tail ρ) c a) (ev-scale ρ c p)
    ∙ ap (λ (y : ℤ). c *ℤ ev (tail ρ) a +ℤ y) (swap_mul c (head ρ) (ev ρ p))
    ∙ sym (*ℤ-add c (ev (tail ρ) a) (head ρ *ℤ ev ρ p))

ev-times : (ρ : List ℤ) (c : ℤ) (p : Poly) → ev ρ (times c p) ≡ c *ℤ ev ρ p
ev-times ρ (pos zero) p = sym (zero-*ℤ (ev ρ p))
ev-times ρ (pos (suc n)) p = ev-scale ρ (pos (suc n)) p
ev-times ρ (negsuc n) p = ev-scale ρ (negsuc n) p

ev-each : (ρ : List ℤ) (f : Poly → Poly) (k : ℤ) → ((r : Poly) → ev (tail ρ) (f r) ≡ k *ℤ ev (tail ρ) r) → (q : Poly) → ev ρ (each f q) ≡ k *ℤ ev ρ q
ev-each ρ f k h (Con d) = ev-hor ρ (f (Con d)) (Con (pos zero)) ∙ ap (λ (x : ℤ). ev (tail ρ) (f (Con d)) +ℤ x) (*ℤ-zero (head ρ)) ∙ +ℤ_idr (ev (tail ρ) (f (Con d))) ∙ h (Con d)
ev-each ρ f k h (Hor b q) =
    ev-hor ρ (f b) (each f q)
    ∙ ap₂ (λ (x y : ℤ). x +ℤ head ρ *ℤ y) (h b) (ev-each ρ f k h q)
    ∙ ap (λ (y : ℤ). k *ℤ ev (tail ρ) b +ℤ y) (swap_mul k (head ρ) (ev ρ q))
    ∙ sym (*ℤ-add k (ev (tail ρ) b) (head ρ *ℤ ev ρ q))

ev-mul : (ρ : List ℤ) (p q : Poly) → ev ρ (mul p q) ≡ ev ρ p *ℤ ev ρ q
ev-mul ρ (Con c) q = ev-times ρ c q
ev-mul ρ (Hor a p) q =
    ev-add ρ (each (mul a) q) (hor (Con (pos zero)) (mul p q))
    ∙ ap₂ (λ (x y : ℤ). x +ℤ y) (ev-each ρ (mul a) (ev (tail ρ) a) (λ r. ev-mul (tail ρ) a r) q) (ev-hor ρ (Con (pos zero)) (mul p q) ∙ +ℤ_idl (head ρ *ℤ ev ρ (mul p q)) ∙ ap (λ (y : ℤ). head ρ *ℤ y) (ev-mul ρ p q) ∙ sym (*ℤ_assoc (head ρ) (ev ρ p) (ev ρ q)))
    ∙ sym (add-*ℤ (ev (tail ρ) a) (head ρ *ℤ ev ρ p) (ev ρ q))

one-*ℤ : (x : ℤ) → x *ℤ pos 1 ≡ x
unfolding lib.IntN.one
one-*ℤ x = lib.IntN.*ℤ-one x

ev-var : (ρ : List ℤ) (i : ℕ) → ev ρ (var i) ≡ nth i ρ
ev-var ρ zero = +ℤ_idl (head ρ *ℤ pos 1) ∙ one-*ℤ (head ρ)
ev-var ρ (suc i) = ap (λ (x : ℤ). ev (tail ρ) (var i) +ℤ x) (*ℤ-zero (head ρ)) ∙ +ℤ_idr (ev (tail ρ) (var i)) ∙ ev-var (tail ρ) i

minus_one : (x : ℤ) → negsuc 0 *ℤ x ≡ neg_ℤ x
minus_one x = neg-*ℤ (pos 1) x ∙ ap neg_ℤ (*ℤ_comm (pos 1) x ∙ one-*ℤ x)

pub ev-norm : (ρ : List ℤ) (e : Expr) → ev ρ (norm e) ≡ val ρ e
ev-norm ρ (Var i) = ev-var ρ i
ev-norm ρ (Num c) = refl
ev-norm ρ (a ⊕ b) = ev-add ρ (norm a) (norm b) ∙ ap₂ (λ (x y : ℤ). x +ℤ y) (ev-norm ρ a) (ev-norm ρ b)
ev-norm ρ (a ⊖ b) =
    ev-add ρ (norm a) (scale (negsuc 0) (norm b))
    ∙ ap₂ (λ (x y : ℤ). x +ℤ y) (ev-norm ρ a) (ev-scale ρ (negsuc 0) (norm b) ∙ minus_one (ev ρ (norm b)) ∙ ap neg_ℤ (ev-norm ρ b))
ev-norm ρ (a ⊗ b) = ev-mul ρ (norm a) (norm b) ∙ ap₂ (λ (x y : ℤ). x *ℤ y) (ev-norm ρ a) (ev-norm ρ b)
ev-norm ρ (Neg a) = ev-scale ρ (negsuc 0) (norm a) ∙ minus_one (ev ρ (norm a)) ∙ ap neg_ℤ (ev-norm ρ a)

ev-zero : (ρ : List ℤ) (p : Poly) → T (is_zero p) → ev ρ p ≡ pos 0
ev-zero ρ (Con (pos zero)) t = refl
ev-zero ρ (Con (pos (suc n))) t = absurd t
ev-zero ρ (Con (negsuc n)) t = absurd t
ev-zero ρ (Hor a p) t = absurd t

-- an expression whose normal form is 0 has the value 0
pub ring_zero : (ρ : List ℤ) (e : Expr) → T (is_zero (norm e)) → val ρ e ≡ pos 0
ring_zero ρ e t = sym (ev-norm ρ e) ∙ ev-zero ρ (norm e) t

pub same_of_difference : (x y : ℤ) → x -ℤ y ≡ pos 0 → x ≡ y
same_of_difference x y h = sym (-ℤ-+ℤ_cancel x y) ∙ ap (λ (z : ℤ). z +ℤ y) h ∙ +ℤ_idl y

-- two expressions whose difference has the normal form 0 have one value
pub ring : (ρ : List ℤ) (e f : Expr) → T (is_zero (norm (e ⊖ f))) → val ρ e ≡ val ρ f
ring ρ e f t = same_of_difference (val ρ e) (val ρ f) (ring_zero ρ (e ⊖ f) t)
