-- Ends of which a look at all may pass over those between two others.
use Rattle.std.specs.Prelude.{◌≡◌, ℕ, ℤ, ◌+◌, ◌<◌, ◌≤◌, ◌+ℤ◌, ◌*ℤ◌, ◌≤ℤ◌, List, Some, map, slice_get}
use Rattle.sight_names.specs.declared.names.Pt.{Pt}
use Rattle.sight_names.specs.declared.names.EndAt.{EndAt}
use Rattle.stab_hull.specs.declared.chain.Kept.{Kept}

-- each half-plane that has both other points has this one, so that it lies between them on a line
abbrev pub LiesBetween : Pt → Pt → Pt → Type 0
LiesBetween a b c = (p q m : ℤ) → m ≤ℤ (p *ℤ a.x +ℤ q *ℤ a.y) → m ≤ℤ (p *ℤ c.x +ℤ q *ℤ c.y) → m ≤ℤ (p *ℤ b.x +ℤ q *ℤ b.y)

abbrev pub kept_ends : List Kept → List EndAt
kept_ends ks = map (λ (k : Kept). k.end) ks

-- from each end a step goes back to one before it, and from the first one beyond it; all ends between lie between these two
pub record HasChainSteps (ks : List Kept) : Type 0 where
  pub within : (n : ℕ) (k : Kept) → slice_get ks n ≡ Some k → (0 < k.step) × (k.step ≤ n + 1)
  pub first : (n : ℕ) (k : Kept) → slice_get ks n ≡ Some k → k.step ≡ n + 1 → n ≡ 0
  pub between : (m i n : ℕ) (a b c : Kept) → slice_get ks m ≡ Some a → slice_get ks i ≡ Some b → slice_get ks n ≡ Some c → m + c.step ≡ n → m < i → i < n → LiesBetween a.end.at b.end.at c.end.at
