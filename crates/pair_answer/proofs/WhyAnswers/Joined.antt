-- Words added one behind another.
use Rattle.std.proofs.Common.{◌≡◌, ◌++◌, ℕ, List, ap, sym, ◌∙◌, append_assoc}

-- behind what was added before come two words more
pub behind : (old front mid new x y : List ℕ) → mid ≡ old ++ front → new ≡ mid ++ (x ++ y) → new ≡ old ++ (front ++ x ++ y)
behind old front mid new x y first second = second ∙ ap (λ (l : List ℕ). l ++ (x ++ y)) first ∙ append_assoc old front (x ++ y) ∙ ap (λ (l : List ℕ). old ++ l) (sym (append_assoc front x y))
