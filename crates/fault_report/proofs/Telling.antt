-- What is told of pairs that clash, and texts behind each other.
use Rattle.std.proofs.Common.{◌≡◌, ℕ, ◌+◌, ◌<◌, ◌≤◌, List, [], ◌∷◌, ◌++◌, length, get_or, take, All, append_assoc, sym, ap, subst, ◌∙◌}
use Rattle.std.proofs.lemmas.List.{take_all, take_more}
use Rattle.std.proofs.lemmas.List.Elements.{All-from_recursion}
use Rattle.math_base.proofs.Lists.{all_join, all_of, get_take, map_pushed}
use Rattle.sight_names.specs.Map.{Map}
use Rattle.sight_names.proofs.Lists.{contains_of_get, get_of_contains}
use Rattle.map_faults.specs.Clashes.{AreFirstClashes, IsClash}
use Rattle.map_faults.specs.declared.clashes.LinePair.{LinePair}
use Rattle.map_faults.specs.declared.clashes.TheConstants.{MOST_CLASHES}
use Rattle.fault_report.specs.declared.clashes.Clash.{Clash}
use Rattle.fault_report.specs.Clashes.{AreToldClashes, IsToldClash}

-- the next pair
pub told_more : (m : Map) (ps : List LinePair) (k : ℕ) (d : LinePair) (old new : List Clash) (c : Clash) → k < length ps → AreToldClashes m (take k ps) old → c.pair ≡ get_or ps k d → IsToldClash m c → new ≡ old ++ c ∷ [] → AreToldClashes m (take (k + 1) ps) new
told_more m ps k d old new c lt h is told pushed = subst (AreToldClashes m (take (k + 1) ps)) (sym pushed) (record {
  pairs = map_pushed (λ (x : Clash). x.pair) old c ∙ ap (λ (xs : List LinePair). xs ++ c.pair ∷ []) h.pairs ∙ ap (λ (x : LinePair). take k ps ++ x ∷ []) is ∙ sym (take_more ps k d lt);
  each = all_join (IsToldClash m) old (c ∷ []) h.each (told, tt);
})

-- the last one
pub told_all : (m : Map) (ps : List LinePair) (k : ℕ) (cs : List Clash) → length ps ≤ k → AreToldClashes m (take k ps) cs → AreToldClashes m ps cs
told_all m ps k cs past h = subst (λ (xs : List LinePair). AreToldClashes m xs cs) (take_all k ps past) h

-- of few all are taken
pub few_taken : {X : Type 0} (n : ℕ) (xs : List X) → length xs ≤ n → xs ≡ take n xs
few_taken n xs few = sym (take_all n xs few)

-- each of the first clashing pairs clashes
pub first_clash : (m : Map) (xs first : List LinePair) (count : ℕ) → xs ≡ first → AreFirstClashes m first count → All (IsClash m) xs
first_clash m xs first count same h = subst (All (IsClash m)) (sym (same ∙ h.first_of_all)) (All-from_recursion (IsClash m) (take MOST_CLASHES h.all) (all_of (IsClash m) (take MOST_CLASHES h.all) (λ x c. h.are.each x (contains_of_get h.all x c.0 (get_take MOST_CLASHES h.all c.0 x (get_of_contains (take MOST_CLASHES h.all) x c.0 c.1 c.2)).1))))

-- a text of two parts behind two others, and a text behind these
pub two_then : (old b w x c one two three : List ℕ) → three ≡ two ++ c → two ≡ one ++ (w ++ x) → one ≡ old ++ b → three ≡ old ++ (((b ++ w) ++ x) ++ c)
two_then old b w x c one two three h g f =
    h ∙ ap (λ (ys : List ℕ). ys ++ c) (g ∙ ap (λ (ys : List ℕ). ys ++ (w ++ x)) f ∙ append_assoc old b (w ++ x) ∙ ap (λ (ys : List ℕ). old ++ ys) (sym (append_assoc b w x))) ∙ append_assoc old ((b ++ w) ++ x) c
