-- Two sectors have one first noise path, and a map has one count of those that hear each other.
use Rattle.std.proofs.Common.{◌≡◌, ℕ, ◌+◌, ◌-◌, ◌<◌, ◌↔◌, inl, inr, List, [], ◌∷◌, length, Bool, true, false, not, cond, refl, sym, ap, ◌∙◌, subst, arith}
use Rattle.std.specs.Prelude.{IsTrue}
use Rattle.sight_names.specs.declared.names.Side.{Side}
use Rattle.sight_names.specs.Found.{SideBefore}
use Rattle.sight_names.specs.Map.{Map}
use Rattle.sight_names.specs.Noise.{AreHeardCounts, IsFirstNoisePath, SidesBefore}
use Rattle.sight_names.proofs.OnePlace.{side_asymmetric, side_irreflexive}
use Rattle.sound_reach.proofs.Heards.{sum_same, sum_same_from}

sides_asymmetric : (ss ts : List Side) → SidesBefore ss ts → SidesBefore ts ss → ⊥
sides_asymmetric [] [] h k = h
sides_asymmetric [] (t ∷ ts) h k = k
sides_asymmetric (s ∷ ss) [] h k = h
sides_asymmetric (s ∷ ss) (t ∷ ts) (inl h) (inl k) = side_asymmetric s t h k
sides_asymmetric (s ∷ ss) (t ∷ ts) (inl h) (inr k) = side_irreflexive s (subst (SideBefore s) k.0 h)
sides_asymmetric (s ∷ ss) (t ∷ ts) (inr h) (inl k) = side_irreflexive t (subst (SideBefore t) h.0 k)
sides_asymmetric (s ∷ ss) (t ∷ ts) (inr h) (inr k) = sides_asymmetric ss ts h.1 k.1

pub one_first : (m : Map) (d : List Bool) (a b : ℕ) (ss ts : List Side) → IsFirstNoisePath m d a b ss → IsFirstNoisePath m d a b ts → ss ≡ ts
one_first m d a b ss ts h k = elim (h.first ts k.path same) as (λ _. ss ≡ ts) [
  | inl e ↦ sym e
  | inr before ↦ elim (k.first ss h.path (sym same)) as (λ _. ss ≡ ts) [ inl e ↦ e | inr after ↦ absurd (sides_asymmetric ss ts before after) ]
]
  where
    same : length ts ≡ length ss
    same = let x = h.fewest ts k.path in let y = k.fewest ss h.path in omega (arith, x, y)

same_test : (b c : Bool) (P : Type 0) → IsTrue b ↔ P → IsTrue c ↔ P → b ≡ c
same_test true true P f g = refl
same_test false false P f g = refl
same_test true false P f g = sym (g.1 (f.0 refl))
same_test false true P f g = f.1 (g.0 refl)

pub one_count : (m : Map) (d : List Bool) (pairs silent pairs' silent' : ℕ) → AreHeardCounts m d pairs silent → AreHeardCounts m d pairs' silent' → (pairs ≡ pairs') × (silent ≡ silent')
one_count m d pairs silent pairs' silent' h k = (
  h.pairs_are ∙ sum_same _ _ m.sectors (λ a lt. sum_same_from (λ b. cond (h.hears a b) 1 0) (λ b. cond (k.hears a b) 1 0) a (m.sectors - a) (λ b less. ap (λ (c : Bool). cond c 1 0) (same a b lt (within a b lt less)))) ∙ sym k.pairs_are,
  h.silent_are ∙ sum_same _ _ m.sectors (λ a lt. sum_same_from (λ b. cond (not (h.hears a b)) 1 0) (λ b. cond (not (k.hears a b)) 1 0) a (m.sectors - a) (λ b less. ap (λ (c : Bool). cond (not c) 1 0) (same a b lt (within a b lt less)))) ∙ sym k.silent_are,
)
  where
    within : (a b : ℕ) → a < m.sectors → b < a + (m.sectors - a) → b < m.sectors
    within a b lt less = omega (arith, lt, less)

    same : (a b : ℕ) → a < m.sectors → b < m.sectors → h.hears a b ≡ k.hears a b
    same a b lt less = same_test (h.hears a b) (k.hears a b) _ (h.tells a b lt less) (k.tells a b lt less)
