-- What is kept of searches among points stays true.
use Rattle.std.proofs.Common.{◌≡◌, ℕ, zero, suc, ◌<◌, ◌⊎◌, inl, inr, List, [], ◌∷◌, length, Option, Some, None, get_or, pos, ◌<ℤ◌, ℤ, refl, sym, ◌∙◌, subst, slice_set, get_or-set_same, get_or-set_other}
use Rattle.std.specs.Prelude.{replicate}
use Rattle.std.proofs.lemmas.Option.{none-some, same_Some}
use Rattle.math_base.proofs.Numbers.{same_or_not}
use Rattle.math_base.proofs.Quoting.{quoting, by_ring}
use Rattle.sight_names.specs.declared.names.Pt.{Pt}
use Rattle.sight_names.specs.Map.{Map}
use Rattle.sight_names.specs.Points.{place}
use Rattle.geom_exact.specs.Formulas.{turn_of}
use Rattle.triangulate.specs.declared.greedy_segments.searched.Corners.{Corners}
use Rattle.triangulate.specs.GreedySegments.Saturated.{IsEmptyTriangle}
use Rattle.triangulate.specs.GreedySegments.Searched.{AreSearched}

-- ---- a triangle told from its next corner

turned : (a b c : Pt) → turn_of a b c ≡ turn_of b c a
unfolding turn_of
turned a b c = by_ring (a.x ∷ a.y ∷ b.x ∷ b.y ∷ c.x ∷ c.y ∷ []) _ _ (search quoting depth 60 fits 200000) (search quoting depth 60 fits 200000) tt

pub empty_turned : (m : Map) (a b c : ℕ) → IsEmptyTriangle m a b c → IsEmptyTriangle m b c a
empty_turned m a b c e = record {
  turn = subst (λ (t : ℤ). pos 0 <ℤ t) (turned (place m a) (place m b) (place m c)) e.turn;
  empty = λ k lt h. e.empty k lt (h.2, h.0, h.1);
}

pub empty_back : (m : Map) (a b c : ℕ) → IsEmptyTriangle m b c a → IsEmptyTriangle m a b c
empty_back m a b c e = empty_turned m c a b (empty_turned m b c a e)

-- ---- what is kept

-- where a relation leaves no value, only None is left
pub only_none : (X : Type 0) (R : Option X → Type 0) → ((x : X) → ¬ R (Some x)) → (y : Option X) → R y → y ≡ None
only_none X R apart None r = refl
only_none X R apart (Some x) r = absurd (apart x r)

same_there : (X : Type 0) (x : X) (n k : ℕ) → get_or (replicate n x) k x ≡ x
same_there X x zero k = refl
same_there X x (suc n) zero = refl
same_there X x (suc n) (suc k) = same_there X x n k

pub nothing_kept : (m : Map) (n : ℕ) → AreSearched m (replicate n None)
nothing_kept m n = record { empty = λ k t at. absurd (none-some t (sym (same_there (Option Corners) None n k) ∙ at)) }

-- what stands in a list after a write stood there before, or is what was written
after_write : (X : Type 0) (xs : List (Option X)) (i k : ℕ) (x y : X) → i < length xs → get_or (slice_set xs i (Some x)) k None ≡ Some y → ((k ≡ i) × (x ≡ y)) ⊎ (get_or xs k None ≡ Some y)
after_write X xs i k x y lt at = elim (same_or_not k i) [
  | inl same ↦ inl (same, same_Some x y (sym (get_or-set_same xs i (Some x) None lt) ∙ subst (λ (j : ℕ). get_or (slice_set xs i (Some x)) j None ≡ Some y) same at))
  | inr differ ↦ inr (sym (get_or-set_other xs i k (Some x) None differ) ∙ at)
]

pub triangle_kept : (m : Map) (ts : List (Option Corners)) (i : ℕ) (t : Corners) → i < length ts → AreSearched m ts → IsEmptyTriangle m t.a t.b t.c → AreSearched m (slice_set ts i (Some t))
triangle_kept m ts i t lt are new = record {
  empty = λ k u at. elim (after_write Corners ts i k t u lt at) [
    | inl here ↦ subst (λ (v : Corners). IsEmptyTriangle m v.a v.b v.c) here.1 new
    | inr before ↦ are.empty k u before
  ];
}
