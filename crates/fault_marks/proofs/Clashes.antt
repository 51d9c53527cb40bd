-- What is told of each pair that clashes.
use Rattle.std.proofs.Common.{◌≡◌, ℕ, zero, suc, ◌+◌, ◌<◌, ◌≤◌, List, [], ◌∷◌, ◌++◌, length, take, get_or, All, Contains, sym, subst, arith}
use Rattle.std.proofs.lemmas.List.{take_all, take_more}
use Rattle.std.proofs.lemmas.List.Elements.{All-from_recursion}
use Rattle.math_base.proofs.Lists.{all_of, get_take}
use Rattle.sight_names.proofs.Lists.{contains_of_get, get_of_contains}
use Rattle.sight_names.specs.Map.{Map}
use Rattle.map_faults.specs.declared.clashes.LinePair.{LinePair}
use Rattle.map_faults.specs.declared.clashes.TheConstants.{MOST_CLASHES}
use Rattle.map_faults.specs.Clashes.{AreFirstClashes, IsClash}
use Rattle.map_picture.specs.declared.faults.FaultAt.{FaultAt}
use Rattle.fault_marks.specs.Marks.{AreClashesAt, IsClashAt}

-- ---- one pair after the other

joined_at : (m : Map) (ps : List LinePair) (p : LinePair) (xs : List FaultAt) (a : FaultAt) → AreClashesAt m ps xs → IsClashAt m p a → AreClashesAt m (ps ++ p ∷ []) (xs ++ a ∷ [])
joined_at m [] p [] a h k = (k, tt)
joined_at m [] p (x ∷ xs) a h k = absurd h
joined_at m (q ∷ ps) p [] a h k = absurd h
joined_at m (q ∷ ps) p (x ∷ xs) a h k = (h.0, joined_at m ps p xs a h.1 k)

pub one_more_at : (m : Map) (ps : List LinePair) (n : ℕ) (d : LinePair) (xs : List FaultAt) (a : FaultAt) → n < length ps → AreClashesAt m (take n ps) xs → IsClashAt m (get_or ps n d) a → AreClashesAt m (take (n + 1) ps) (xs ++ a ∷ [])
one_more_at m ps n d xs a lt h k = subst (λ (qs : List LinePair). AreClashesAt m qs (xs ++ a ∷ [])) (sym (take_more ps n d lt)) (joined_at m (take n ps) (get_or ps n d) xs a h k)

pub all_at_end : (m : Map) (ps : List LinePair) (n : ℕ) (xs : List FaultAt) → length ps ≤ n → AreClashesAt m (take n ps) xs → AreClashesAt m ps xs
all_at_end m ps n xs past h = subst (λ (qs : List LinePair). AreClashesAt m qs xs) (take_all n ps past) h

-- ---- the first pairs of all

take_shorter : {X : Type 0} (n : ℕ) (xs : List X) → length (take n xs) ≤ length xs
take_shorter zero xs = omega arith
take_shorter (suc n) [] = omega arith
take_shorter (suc n) (x ∷ xs) = let h = take_shorter n xs in omega arith

module _ (m : Map) (first : List LinePair) (count : ℕ) (h : AreFirstClashes m first count) where
  pub few : length first ≤ count
  few = subst (λ (n : ℕ). length first ≤ n) (sym h.count_of_all) (subst (λ (ps : List LinePair). length ps ≤ length h.all) (sym h.first_of_all) (take_shorter MOST_CLASHES h.all))

  in_all : (p : LinePair) → Contains first p → Contains h.all p
  in_all p c =
      let d : Contains (take MOST_CLASHES h.all) p = subst (λ (ps : List LinePair). Contains ps p) h.first_of_all c in
      contains_of_get h.all p d.0 (get_take MOST_CLASHES h.all d.0 p (get_of_contains (take MOST_CLASHES h.all) p d.0 d.1 d.2)).1

  pub each_clashes : All (IsClash m) first
  each_clashes = All-from_recursion (IsClash m) first (all_of (IsClash m) first (λ p c. h.are.each p (in_all p c)))

pub each_at : (m : Map) (first seen : List LinePair) (count : ℕ) → seen ≡ first → AreFirstClashes m first count → All (IsClash m) seen
each_at m first seen count e h = subst (λ (ps : List LinePair). All (IsClash m) ps) (sym e) (each_clashes m first count h)

pub few_at : (m : Map) (first seen : List LinePair) (count : ℕ) → seen ≡ first → AreFirstClashes m first count → length seen ≤ count
few_at m first seen count e h = subst (λ (ps : List LinePair). length ps ≤ count) (sym e) (few m first count h)
