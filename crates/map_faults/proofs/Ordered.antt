-- Lists in order: sorted and without repeats, one behind another, and the first of them.
use Rattle.std.proofs.Common.{◌≡◌, ℕ, zero, suc, ◌+◌, ◌<◌, ◌≤◌, ◌==◌, inl, inr, List, [], ◌∷◌, ◌++◌, length, take, drop, map, slice_get, get_or, Contains, Some, true, refl, sym, ap, ◌∙◌, subst, arith, IsPermutation, Less}
use Rattle.std.specs.Ordering.{nat_cmp, is_eq}
use Rattle.std.specs.List.{dedup}
use Rattle.std.specs.List.Retain.{IsFiltered, DiffersFromLast}
use Rattle.std.specs.List.Sorted.{IsSorted, IsStrictlySortedBy}
use Rattle.std.proofs.lemmas.Cmp.{nat_cmp_total, nat_eq_equiv}
use Rattle.std.proofs.lemmas.List.{append-nil, append_assoc, map-append, take_at, take_all, take_more, take-append-drop}
use Rattle.std.proofs.lemmas.List.Filters.{dedup_is}
use Rattle.std.proofs.lemmas.List.Kept.{Contains-dedup, Contains-from_dedup, IsStrictlySortedBy-dedup}
use Rattle.std.proofs.lemmas.List.Sorted.{Contains-permutation, IsPermutation-sym}
use Rattle.std.proofs.lemmas.Option.{same_Some, none-some}
use Rattle.math_base.proofs.Lists.{all_at, map_pushed, contains_none, contains_cons, contains_here, contains_one, contains_there, contains_append}
use Rattle.sight_names.specs.Order.{Ascends}
use Rattle.sight_names.proofs.Lists.{contains_of_get, ascends_tail, ascends_head}
use Rattle.map_faults.specs.declared.clashes.LinePair.{LinePair}
use Rattle.map_faults.specs.Clashes.{clash_of_lines, IsEarlierClash, AreNumbersInOrder}

-- ---- sorted and without repeats

same_number : (a b : ℕ) → (a == b) ≡ true → a ≡ b
same_number a b h = grind arith

less_number : (a b : ℕ) → nat_cmp a b ≡ Less → a < b
less_number a b h = grind arith

ascend_later : (ns : List ℕ) → IsStrictlySortedBy nat_cmp ns → (i j : ℕ) (n o : ℕ) → i < j → slice_get ns i ≡ Some n → slice_get ns j ≡ Some o → n < o
unfolding IsStrictlySortedBy
ascend_later [] h i j n o lt p q = absurd (none-some n p)
ascend_later (x ∷ xs) h zero zero n o lt p q = absurd (omega arith)
ascend_later (x ∷ xs) h zero (suc j) n o lt p q = subst (λ (y : ℕ). y < o) (same_Some x n p) (less_number x o (all_at (λ y. nat_cmp x y ≡ Less) xs h.0 j o q))
ascend_later (x ∷ xs) h (suc i) zero n o lt p q = absurd (omega arith)
ascend_later (x ∷ xs) h (suc i) (suc j) n o lt p q = ascend_later xs h.1 i j n o (omega arith) p q

pub in_order_of : (all sorted left : List ℕ) → IsPermutation all sorted → IsSorted nat_cmp sorted → IsFiltered (DiffersFromLast (λ (a b : ℕ). a == b)) [] sorted left → AreNumbersInOrder all left
in_order_of all sorted left moved up kept =
    let is : left ≡ dedup (λ (a b : ℕ). a == b) sorted = dedup_is (λ (a b : ℕ). a == b) sorted left kept in
    subst (AreNumbersInOrder all) (sym is) (record {
      ascend = ascend_later (dedup (λ (a b : ℕ). a == b) sorted) (IsStrictlySortedBy-dedup nat_cmp_total (λ n o. ties n o) sorted up);
      exactly = λ n. (
        λ c. Contains-permutation sorted all n (IsPermutation-sym all sorted moved) (Contains-from_dedup (λ (a b : ℕ). a == b) sorted n c),
        λ c. Contains-dedup nat_eq_equiv same_number sorted n (Contains-permutation all sorted n moved c),
      );
    })
  where
    ties : (a b : ℕ) → (a == b) ≡ is_eq (nat_cmp a b)
    ties a b = grind arith

-- ---- one list behind another

ascends_cons : {X : Type 0} (R : X → X → Type 0) (x : X) (xs : List X) → ((y : X) → Contains xs y → R x y) → Ascends R xs → Ascends R (x ∷ xs)
ascends_cons {X} R x xs first rest zero zero a b lt p q = absurd (omega arith)
ascends_cons {X} R x xs first rest zero (suc j) a b lt p q = subst (λ (y : X). R y b) (same_Some x a p) (first b (contains_of_get xs b j q))
ascends_cons {X} R x xs first rest (suc i) zero a b lt p q = absurd (omega arith)
ascends_cons {X} R x xs first rest (suc i) (suc j) a b lt p q = rest i j a b (omega arith) p q

pub ascends_join : {X : Type 0} (R : X → X → Type 0) (xs ys : List X) → Ascends R xs → Ascends R ys → ((x y : X) → Contains xs x → Contains ys y → R x y) → Ascends R (xs ++ ys)
ascends_join {X} R [] ys up later between = later
ascends_join {X} R (x ∷ xs) ys up later between = ascends_cons R x (xs ++ ys) first (ascends_join R xs ys (ascends_tail R x xs up) later (λ a b c d. between a b (contains_there a x xs c) d))
  where
    first : (y : X) → Contains (xs ++ ys) y → R x y
    first y c = elim (contains_append y xs ys c) as (λ _. R x y) [ inl here ↦ ascends_head R x y xs up here | inr there ↦ between x y (contains_here x xs) there ]

-- one behind the others
pub one_behind : {X : Type 0} (R : X → X → Type 0) (old : List X) (new : X) → Ascends R old → ((x : X) → Contains old x → R x new) → Ascends R (old ++ new ∷ [])
one_behind {X} R old new up before =
    ascends_join R old (new ∷ []) up (ascends_cons R new [] (λ y c. absurd (contains_none y c)) (λ i j x y lt a b. absurd (none-some x a)))
    (λ x y c d. subst (R x) (contains_one y new d) (before x c))

-- the pairs of one number
pub ascends_map : (n : ℕ) (js : List ℕ) → Ascends (λ x y. x < y) js → Ascends IsEarlierClash (map (clash_of_lines n) js)
ascends_map n [] up = λ i j x y lt a b. absurd (none-some x a)
ascends_map n (j ∷ js) up = ascends_cons IsEarlierClash (clash_of_lines n j) (map (clash_of_lines n) js) (first js (λ k c. ascends_head (λ x y. x < y) j k js up c)) (ascends_map n js (ascends_tail (λ x y. x < y) j js up))
  where
    first : (ks : List ℕ) → ((k : ℕ) → Contains ks k → j < k) → (p : LinePair) → Contains (map (clash_of_lines n) ks) p → IsEarlierClash (clash_of_lines n j) p
    first [] above p c = absurd (contains_none p c)
    first (k ∷ ks) above p c = elim (contains_cons p (clash_of_lines n k) (map (clash_of_lines n) ks) c) as (λ _. IsEarlierClash (clash_of_lines n j) p) [
      | inl e ↦ subst (IsEarlierClash (clash_of_lines n j)) e (inr (refl, above k (contains_here k ks)))
      | inr d ↦ first ks (λ x c. above x (contains_there x k ks c)) p d
    ]

-- ---- the first of a list

pub take_joined : {X : Type 0} (n : ℕ) (xs ys : List X) → take n (take n xs ++ ys) ≡ take n (xs ++ ys)
take_joined zero xs ys = refl
take_joined (suc n) [] ys = refl
take_joined (suc n) (x ∷ xs) ys = ap (λ zs. x ∷ zs) (take_joined n xs ys)

-- the pairs with the first n numbers stand behind the others
abbrev pub AreKept : ℕ → List LinePair → List ℕ → ℕ → List LinePair → Type 0
AreKept i old js n new = new ≡ old ++ map (clash_of_lines i) (take n js)

pub none_kept : (i : ℕ) (old : List LinePair) (js : List ℕ) → AreKept i old js 0 old
none_kept i old js = sym (append-nil old)

pub kept_more : (i : ℕ) (old now : List LinePair) (js : List ℕ) (n d : ℕ) → n < length js → AreKept i old js n now → AreKept i old js (n + 1) (now ++ clash_of_lines i (get_or js n d) ∷ [])
kept_more i old now js n d lt h =
    let j = get_or js n d in
    ap (λ (ps : List LinePair). ps ++ clash_of_lines i j ∷ []) h ∙ append_assoc old (map (clash_of_lines i) (take n js)) (clash_of_lines i j ∷ []) ∙ ap (λ (ps : List LinePair). old ++ ps) (sym (ap (map (clash_of_lines i)) (take_more js n d lt) ∙ map_pushed (clash_of_lines i) (take n js) j))

-- as many as wanted
pub kept_enough : (i most : ℕ) (old now : List LinePair) (js : List ℕ) (n : ℕ) → AreKept i old js n now → length now ≡ most → now ≡ take most (old ++ map (clash_of_lines i) js)
kept_enough i most old now js n h len =
    let rest = map (clash_of_lines i) (drop n js) in
    let whole : now ++ rest ≡ old ++ map (clash_of_lines i) js =
    ap (λ (ps : List LinePair). ps ++ rest) h ∙ append_assoc old (map (clash_of_lines i) (take n js)) rest ∙ ap (λ (ps : List LinePair). old ++ ps) (sym (map-append (clash_of_lines i) (take n js) (drop n js)) ∙ ap (map (clash_of_lines i)) (take-append-drop n js)) in
    sym (take_at now rest most len) ∙ ap (take most) whole

-- all of them
pub kept_all : (i most : ℕ) (old now : List LinePair) (js : List ℕ) (n : ℕ) → AreKept i old js n now → length js ≤ n → length now ≤ most → now ≡ take most (old ++ map (clash_of_lines i) js)
kept_all i most old now js n h past few = sym (take_all most now few) ∙ ap (take most) (h ∙ ap (λ (ks : List ℕ). old ++ map (clash_of_lines i) ks) (take_all n js past))
