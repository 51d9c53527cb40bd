-- Reads a term of ℤ as an expression, by proof search.
use Rattle.std.proofs.Common.{ℤ, pos, negsuc, ◌+ℤ◌, ◌-ℤ◌, ◌*ℤ◌, neg_ℤ, ◌≡◌, refl, sym, ap, ap₂, ◌∙◌, ℕ, suc, List, ◌∷◌, T, arith}
use lib.IntN.{*ℤ-zero}
use borrow.Author.Differences.{ints}
use Rattle.math_base.proofs.Ring.{same_of_difference, Expr, Var, Num, ◌⊕◌, ◌⊖◌, ◌⊗◌, Neg, val, nth, norm, is_zero, ring, ring_zero}

pub record Placed (ρ : List ℤ) (x : ℤ) : Type 0 where
  pub place : ℕ
  pub is : nth place ρ ≡ x

pub record Quoted (ρ : List ℤ) (x : ℤ) : Type 0 where
  pub expr : Expr
  pub is : val ρ expr ≡ x

abbrev pub here : (ρ : List ℤ) (x : ℤ) → Placed (x ∷ ρ) x
here ρ x = record { place = 0; is = refl }

abbrev pub there : (ρ : List ℤ) (x y : ℤ) → Placed ρ x → Placed (y ∷ ρ) x
there ρ x y p = record { place = suc p.place; is = p.is }

abbrev pub q-var : (ρ : List ℤ) (x : ℤ) → Placed ρ x → Quoted ρ x
q-var ρ x p = record { expr = Var p.place; is = p.is }

-- literals by themselves: a rule for every `pos n` would take `pos m` with a variable m too, and then nothing computes
abbrev pub q-0 : (ρ : List ℤ) → Quoted ρ (pos 0)
q-0 ρ = record { expr = Num (pos 0); is = refl }

abbrev pub q-1 : (ρ : List ℤ) → Quoted ρ (pos 1)
q-1 ρ = record { expr = Num (pos 1); is = refl }

abbrev pub q-minus_1 : (ρ : List ℤ) → Quoted ρ (negsuc 0)
q-minus_1 ρ = record { expr = Num (negsuc 0); is = refl }

abbrev pub q-2 : (ρ : List ℤ) → Quoted ρ (pos 2)
q-2 ρ = record { expr = Num (pos 2); is = refl }

abbrev pub q-add : (ρ : List ℤ) (x y : ℤ) → Quoted ρ x → Quoted ρ y → Quoted ρ (x +ℤ y)
q-add ρ x y p q = record { expr = p.expr ⊕ q.expr; is = ap₂ (λ (a b : ℤ). a +ℤ b) p.is q.is }

abbrev pub q-mul : (ρ : List ℤ) (x y : ℤ) → Quoted ρ x → Quoted ρ y → Quoted ρ (x *ℤ y)
q-mul ρ x y p q = record { expr = p.expr ⊗ q.expr; is = ap₂ (λ (a b : ℤ). a *ℤ b) p.is q.is }

abbrev pub q-neg : (ρ : List ℤ) (x : ℤ) → Quoted ρ x → Quoted ρ (neg_ℤ x)
q-neg ρ x p = record { expr = Neg p.expr; is = ap neg_ℤ p.is }

pub ruleset quoting = (here, there, q-add, q-mul, q-neg, q-0, q-1, q-2, q-minus_1, q-var)

abbrev pub by_ring : (ρ : List ℤ) (x y : ℤ) (p : Quoted ρ x) (q : Quoted ρ y) → T (is_zero (norm (p.expr ⊖ q.expr))) → x ≡ y
by_ring ρ x y p q t = sym p.is ∙ ring ρ p.expr q.expr t ∙ q.is

-- the same by one reading, of the difference: `ring_at (x ∷ y ∷ []) (search quoting depth 60 fits 200000) tt`
abbrev pub ring_at : {x y : ℤ} (ρ : List ℤ) (q : Quoted ρ (x -ℤ y)) → T (is_zero (norm q.expr)) → x ≡ y
ring_at {x} {y} ρ q t = same_of_difference x y (sym q.is ∙ ring_zero ρ q.expr t)

-- equations from equations: the difference of the two sides is a sum of multiples of the differences that are 0
pub combine1 : {x y a b : ℤ} (k : ℤ) → a ≡ b → x -ℤ y ≡ k *ℤ (a -ℤ b) → x ≡ y
combine1 {x} {y} {a} {b} k h e =
    let z : a -ℤ b ≡ pos 0 = omega (arith, ints) in
    same_of_difference x y (e ∙ ap (λ (t : ℤ). k *ℤ t) z ∙ *ℤ-zero k)

pub combine2 : {x y a b c d : ℤ} (k l : ℤ) → a ≡ b → c ≡ d → x -ℤ y ≡ k *ℤ (a -ℤ b) +ℤ l *ℤ (c -ℤ d) → x ≡ y
combine2 {x} {y} {a} {b} {c} {d} k l h i e =
    let z : a -ℤ b ≡ pos 0 = omega (arith, ints) in
    let w : c -ℤ d ≡ pos 0 = omega (arith, ints) in
    let p : k *ℤ (a -ℤ b) ≡ pos 0 = ap (λ (t : ℤ). k *ℤ t) z ∙ *ℤ-zero k in
    let q : l *ℤ (c -ℤ d) ≡ pos 0 = ap (λ (t : ℤ). l *ℤ t) w ∙ *ℤ-zero l in
    same_of_difference x y (e ∙ ap₂ (λ (s t : ℤ). s +ℤ t) p q)

pub combine3 : {x y a b c d u v : ℤ} (k l m : ℤ) → a ≡ b → c ≡ d → u ≡ v → x -ℤ y ≡ (k *ℤ (a -ℤ b) +ℤ l *ℤ (c -ℤ d)) +ℤ m *ℤ (u -ℤ v) → x ≡ y
combine3 {x} {y} {a} {b} {c} {d} {u} {v} k l m h i j e =
    let z : a -ℤ b ≡ pos 0 = omega (arith, ints) in
    let w : c -ℤ d ≡ pos 0 = omega (arith, ints) in
    let t : u -ℤ v ≡ pos 0 = omega (arith, ints) in
    let p : k *ℤ (a -ℤ b) ≡ pos 0 = ap (λ (t : ℤ). k *ℤ t) z ∙ *ℤ-zero k in
    let q : l *ℤ (c -ℤ d) ≡ pos 0 = ap (λ (t : ℤ). l *ℤ t) w ∙ *ℤ-zero l in
    let r : m *ℤ (u -ℤ v) ≡ pos 0 = ap (λ (t : ℤ). m *ℤ t) t ∙ *ℤ-zero m in
    same_of_difference x y (e ∙ ap₂ (λ (s t : ℤ). s +ℤ t) (ap₂ (λ (s t : ℤ). s +ℤ t) p q) r)
