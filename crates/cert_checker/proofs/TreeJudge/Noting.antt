-- Bits of sectors that are noted, one sector after another; and flags put back into their vector.
use Rattle.std.proofs.Common.{◌≡◌, ℕ, ◌<◌, ◌⊎◌, inl, inr, List, [], ◌++◌, length, take, Contains, refl, sym, ◌∙◌, subst}
use Rattle.std.proofs.Math.Seq.{take-append_seam}
use Rattle.std.proofs.lemmas.List.Elements.{Contains-append_left, Contains-append_right, Contains-append_cases}
use Rattle.reject_bits.specs.Parts.{TableParts, Rejects}
use Rattle.cert_checker.specs.TreeJudge.Whole.{Notes}
use Rattle.math_base.proofs.Lists.{contains_none}

pub notes_none : (source : ℕ) (t : TableParts) → Notes source [] t t
notes_none source t = record { size = refl; bits = λ a b h k. (λ s. inl s, λ s. only a b s) }
  where
    only : (a b : ℕ) → Rejects t a b ⊎ ((a ≡ source) × Contains [] b) → Rejects t a b
    only a b (inl h) = h
    only a b (inr h) = absurd (contains_none b h.1)

pub notes_more : (source : ℕ) (xs ys : List ℕ) (t u v : TableParts) → Notes source xs t u → Notes source ys u v → Notes source (xs ++ ys) t v
notes_more source xs ys t u v f g = record { size = g.size ∙ f.size; bits = λ a b h k. (λ s. up a b h k ((g.bits a b (size a h) (size b k)).0 s), λ s. (g.bits a b (size a h) (size b k)).1 (down a b h k s)) }
  where
    size : (a : ℕ) → a < t.n → a < u.n
    size a h = subst (λ (n : ℕ). a < n) (sym f.size) h

    up : (a b : ℕ) → a < t.n → b < t.n → Rejects u a b ⊎ ((a ≡ source) × Contains ys b) → Rejects t a b ⊎ ((a ≡ source) × Contains (xs ++ ys) b)
    up a b h k (inl s) = elim ((f.bits a b h k).0 s) as (λ _. Rejects t a b ⊎ ((a ≡ source) × Contains (xs ++ ys) b)) [ inl r ↦ inl r | inr r ↦ inr (r.0, Contains-append_left xs ys b r.1) ]
    up a b h k (inr s) = inr (s.0, Contains-append_right xs ys b s.1)

    down : (a b : ℕ) → a < t.n → b < t.n → Rejects t a b ⊎ ((a ≡ source) × Contains (xs ++ ys) b) → Rejects u a b ⊎ ((a ≡ source) × Contains ys b)
    down a b h k (inl s) = inl ((f.bits a b h k).1 (inl s))
    down a b h k (inr s) = elim (Contains-append_cases xs ys b s.1) as (λ _. Rejects u a b ⊎ ((a ≡ source) × Contains ys b)) [ inl r ↦ inl ((f.bits a b h k).1 (inr (s.0, r))) | inr r ↦ inr (s.0, r) ]

-- flags put back into their vector
pub stored : {X : Type 0} (new rest : List X) (n : ℕ) → length new ≡ n → take n (new ++ rest) ≡ new
stored new rest n e = subst (λ (k : ℕ). take k (new ++ rest) ≡ new) e (take-append_seam new rest)
