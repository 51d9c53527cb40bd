-- A number's root; what shortening a way up, hanging one tree below another and naming each number do to the classes.
use Rattle.std.proofs.Common.{◌≡◌, ◌≢◌, ℕ, zero, suc, ◌+◌, ◌<◌, ◌≤◌, inl, inr, List, length, set, refl, sym, ap, ◌∙◌, subst, arith}
use Rattle.std.proofs.lemmas.List.{get_or-set_same, get_or-set_other, length-set}
use Rattle.std.proofs.lemmas.Grind.{same_number_lists}
use Rattle.std.proofs.lemmas.List.FromFn.{get_or-map-range_with_len, length-map-range_with_len}
use Rattle.math_base.proofs.Numbers.{same_or_not, same_or_below, below_or_last}
use Rattle.face_groups.specs.TriSectors.Classes.{class_of, renamed, AreLeast, AreSingles, AreRenamed}
use Rattle.face_groups.specs.TriSectors.Forest.{IsForest, number_above, forest_root, classes_in}

-- ---- ways up

above_root : (ps : List ℕ) (n k : ℕ) → class_of ps k ≡ k → number_above ps n k ≡ k
above_root ps zero k e = refl
above_root ps (suc n) k e = ap (number_above ps n) e ∙ above_root ps n k e

-- so many steps suffice from a number that is no greater
pub record IsAtRoot (ps : List ℕ) (k r : ℕ) : Type 0 where
  pub below : r ≤ k
  pub root : class_of ps r ≡ r

arrives : (ps : List ℕ) → IsForest ps → (n k : ℕ) → k < length ps → k ≤ n → IsAtRoot ps k (number_above ps n k)
arrives ps is zero k lt le = let b = is k lt in let e : k ≡ 0 = omega (arith, le) in record { below = omega arith; root = omega (arith, b, e) }
arrives ps is (suc n) k lt le = let b = is k lt in elim (same_or_below (class_of ps k) k b) as (λ _. IsAtRoot ps k (number_above ps n (class_of ps k))) [
  | inl same ↦ subst (IsAtRoot ps k) (sym (ap (number_above ps n) same ∙ above_root ps n k same)) (record { below = omega arith; root = same })
  | inr less ↦ let h = arrives ps is n (class_of ps k) (omega (arith, less, lt)) (omega (arith, less, le)) in let hb = h.below in record { below = omega (arith, hb, b); root = h.root }
]

pub at_root : (ps : List ℕ) → IsForest ps → (k : ℕ) → k < length ps → IsAtRoot ps k (forest_root ps k)
at_root ps is k lt = arrives ps is (length ps) k lt (omega (arith, lt))

-- what does not change from a number to its parent, and is the number at a root, is its root
names : (ps : List ℕ) → IsForest ps → (f : ℕ → ℕ) → ((k : ℕ) → k < length ps → f (class_of ps k) ≡ f k) → ((k : ℕ) → k < length ps → class_of ps k ≡ k → f k ≡ k) → (k : ℕ) → k < length ps → forest_root ps k ≡ f k
names ps is f step own k lt =
    let r = at_root ps is k lt in let b = r.below in
    sym (own (forest_root ps k) (omega (arith, b, lt)) r.root) ∙ up (length ps) k lt
  where
    up : (n k : ℕ) → k < length ps → f (number_above ps n k) ≡ f k
    up zero k lt = refl
    up (suc n) k lt = let b = is k lt in up n (class_of ps k) (omega (arith, b, lt)) ∙ step k lt

root_of_root : (ps : List ℕ) (k : ℕ) → class_of ps k ≡ k → forest_root ps k ≡ k
root_of_root ps k e = above_root ps (length ps) k e

last_step : (ps : List ℕ) (n k : ℕ) → number_above ps (suc n) k ≡ class_of ps (number_above ps n k)
last_step ps zero k = refl
last_step ps (suc n) k = last_step ps n (class_of ps k)

pub root_of_parent : (ps : List ℕ) → IsForest ps → (k : ℕ) → k < length ps → forest_root ps (class_of ps k) ≡ forest_root ps k
root_of_parent ps is k lt = last_step ps (length ps) k ∙ (at_root ps is k lt).root

-- ---- the list of classes

pub classes_many : (ps : List ℕ) → length (classes_in ps) ≡ length ps
classes_many ps = length-map-range_with_len (forest_root ps) 0 (length ps)

pub class_is_root : (ps : List ℕ) (k : ℕ) → k < length ps → class_of (classes_in ps) k ≡ forest_root ps k
class_is_root ps k lt = get_or-map-range_with_len (forest_root ps) 0 (length ps) k k 0 lt (omega arith)

pub forest_named : (ps : List ℕ) → IsForest ps → AreLeast (classes_in ps)
forest_named ps is = record {
  least = λ k h. let len = classes_many ps in let lt : k < length ps = omega (arith, h, len) in let e = class_is_root ps k lt in let b = (at_root ps is k lt).below in omega (arith, e, b);
  own = λ k h. let len = classes_many ps in let lt : k < length ps = omega (arith, h, len) in let e = class_is_root ps k lt in let r = at_root ps is k lt in let b = r.below in
      ap (class_of (classes_in ps)) e ∙ class_is_root ps (forest_root ps k) (omega (arith, b, lt)) ∙ root_of_root ps (forest_root ps k) r.root ∙ sym e;
}

same_classes : (ps qs : List ℕ) → length qs ≡ length ps → ((k : ℕ) → k < length ps → forest_root qs k ≡ forest_root ps k) → classes_in qs ≡ classes_in ps
same_classes ps qs len h = same_number_lists (classes_in qs) (classes_in ps) (classes_many qs ∙ len ∙ sym (classes_many ps))
    (λ k lt. let m = classes_many qs in let l : k < length ps = omega (arith, lt, m, len) in class_is_root qs k (omega (arith, l, len)) ∙ h k l ∙ sym (class_is_root ps k l))

-- ---- a number hung elsewhere

-- no greater parent for one number
pub hung_is_forest : (ps : List ℕ) → IsForest ps → (k p : ℕ) → p ≤ k → IsForest (set ps k p)
hung_is_forest ps is k p le j h =
    let len = length-set ps k p in let lt : j < length ps = omega (arith, h, len) in
    elim (same_or_not j k) as (λ _. class_of (set ps k p) j ≤ j) [
      | inl same ↦ let e = ap (λ (i : ℕ). class_of (set ps k p) i) same ∙ get_or-set_same ps k p 0 (omega (arith, lt, same)) in omega (arith, e, le, same)
      | inr other ↦ let e = get_or-set_other ps k j p 0 other in let b = is j lt in omega (arith, e, b)
    ]

-- the roots after a number is hung elsewhere, told by what they are where it now hangs
hung_roots : (ps : List ℕ) → IsForest ps → (k p : ℕ) → k < length ps → p ≤ k → (f : ℕ → ℕ)
    → ((j : ℕ) → j < length ps → j ≢ k → f (class_of ps j) ≡ f j) → f p ≡ f k
    → ((j : ℕ) → j < length ps → j ≢ k → class_of ps j ≡ j → f j ≡ j) → (p ≡ k → f k ≡ k)
    → (j : ℕ) → j < length ps → forest_root (set ps k p) j ≡ f j
hung_roots ps is k p hk le f step step_k own own_k j lt =
    let len = length-set ps k p in names (set ps k p) (hung_is_forest ps is k p le) f
    (λ i h. let hi : i < length ps = omega (arith, h, len) in elim (same_or_not i k) as (λ _. f (class_of (set ps k p) i) ≡ f i) [
      | inl same ↦ ap f (at_k i same) ∙ step_k ∙ ap f (sym same)
      | inr other ↦ ap f (get_or-set_other ps k i p 0 other) ∙ step i hi other
    ])
    (λ i h e. let hi : i < length ps = omega (arith, h, len) in elim (same_or_not i k) as (λ _. f i ≡ i) [
      | inl same ↦ ap f same ∙ own_k (sym (at_k i same) ∙ e ∙ same) ∙ sym same
      | inr other ↦ own i hi other (sym (get_or-set_other ps k i p 0 other) ∙ e)
    ])
    j (omega (arith, lt, len))
  where
    at_k : (i : ℕ) → i ≡ k → class_of (set ps k p) i ≡ p
    at_k i same = ap (λ (x : ℕ). class_of (set ps k p) x) same ∙ get_or-set_same ps k p 0 hk

-- below its parent's parent
pub shortened : (ps : List ℕ) → IsForest ps → (k p q : ℕ) → k < length ps → p ≡ class_of ps k → q ≡ class_of ps p → IsForest (set ps k q) × (classes_in (set ps k q) ≡ classes_in ps) × (q ≤ p) × (p ≤ k)
shortened ps is k p q lt ep eq =
    let b0 = is k lt in let b : p ≤ k = omega (arith, b0, ep) in
    let hp : p < length ps = omega (arith, b, lt) in
    let c0 = is p hp in let c : q ≤ p = omega (arith, c0, eq) in
    let le : q ≤ k = omega (arith, b, c) in (
      hung_is_forest ps is k q le,
      same_classes ps (set ps k q) (length-set ps k q) (hung_roots ps is k q lt le (forest_root ps)
          (λ j h other. root_of_parent ps is j h)
          (ap (forest_root ps) eq ∙ root_of_parent ps is p hp ∙ ap (forest_root ps) ep ∙ root_of_parent ps is k lt)
          (λ j h other e. root_of_root ps j e)
          (λ e. root_of_root ps k (sym ep ∙ (let f : p ≡ k = omega (arith, b, c, e) in f)))),
      c,
      b,
    )

-- a root below a lesser one
pub hung : (ps : List ℕ) → IsForest ps → (k p : ℕ) → k < length ps → p < k → class_of (classes_in ps) k ≡ k → class_of (classes_in ps) p ≡ p → AreRenamed k p (classes_in ps) (classes_in (set ps k p))
hung ps is k p lt less ek ep = record {
  len = classes_many (set ps k p) ∙ length-set ps k p ∙ sym (classes_many ps);
  each = λ j h. let m = classes_many ps in let hj : j < length ps = omega (arith, h, m) in let l = length-set ps k p in
      class_is_root (set ps k p) j (omega (arith, hj, l))
      ∙ hung_roots ps is k p lt (omega (arith, less)) (λ i. renamed k p (forest_root ps i))
      (λ i hi other. ap (renamed k p) (root_of_parent ps is i hi))
      (ap (renamed k p) rp ∙ kept p (omega (arith, less)) ∙ sym from_is ∙ ap (renamed k p) (sym rk))
      (λ i hi other e. ap (renamed k p) (root_of_root ps i e) ∙ kept i other)
      (λ e. absurd (omega (arith, less, e)))
      j hj
      ∙ ap (renamed k p) (sym (class_is_root ps j hj));
}
  where
    rk : forest_root ps k ≡ k
    rk = sym (class_is_root ps k lt) ∙ ek

    rp : forest_root ps p ≡ p
    rp = sym (class_is_root ps p (omega (arith, lt, less))) ∙ ep

    kept : (i : ℕ) → i ≢ k → renamed k p i ≡ i
    kept i other = grind arith

    from_is : renamed k p k ≡ p
    from_is = grind arith

-- ---- the numbers alone

pub singles_forest : (n : ℕ) (ps : List ℕ) → AreSingles n ps → IsForest ps
singles_forest n ps s k lt = let len = s.len in let e = s.alone k (omega (arith, lt, len)) in omega (arith, e)

pub singles_alone : (n : ℕ) (ps : List ℕ) → AreSingles n ps → AreSingles n (classes_in ps)
singles_alone n ps s = record {
  len = classes_many ps ∙ s.len;
  alone = λ k lt. let len = s.len in class_is_root ps k (omega (arith, lt, len)) ∙ root_of_root ps k (s.alone k lt);
}

-- ---- the loop that names each number

-- those before n have their names, the others their parents
pub record AreNamedBefore (ps : List ℕ) (n : ℕ) (qs : List ℕ) : Type 0 where
  pub len : length qs ≡ length ps
  pub named : (k : ℕ) → k < n → k < length ps → class_of qs k ≡ forest_root ps k
  pub rest : (k : ℕ) → n ≤ k → class_of qs k ≡ class_of ps k

pub none_is_named : (ps : List ℕ) → AreNamedBefore ps 0 ps
none_is_named ps = record { len = refl; named = λ k lt. absurd (omega (arith, lt)); rest = λ k le. refl }

pub named_more : (ps : List ℕ) → IsForest ps → (n p q : ℕ) (qs : List ℕ) → n < length ps → p ≡ class_of qs n → q ≡ class_of qs p → AreNamedBefore ps n qs → AreNamedBefore ps (n + 1) (set qs n q)
named_more ps is n p q qs lt ep eq h =
    let len = h.len in record {
      len = length-set qs n q ∙ len;
      named = λ k less hk. elim (below_or_last k n less) as (λ _. class_of (set qs n q) k ≡ forest_root ps k) [
        | inl l ↦ get_or-set_other qs n k q 0 (omega (arith, l)) ∙ h.named k l hk
        | inr same ↦ ap (class_of (set qs n q)) same ∙ get_or-set_same qs n q 0 (omega (arith, lt, len)) ∙ name ∙ ap (forest_root ps) (sym same)
      ];
      rest = λ k le. get_or-set_other qs n k q 0 (omega (arith, le)) ∙ h.rest k (omega (arith, le));
    }
  where
    parent : p ≡ class_of ps n
    parent = ep ∙ h.rest n (omega arith)

    name : q ≡ forest_root ps n
    name = let b = is n lt in elim (same_or_below p n (omega (arith, b, parent))) as (λ _. q ≡ forest_root ps n) [
      | inl same ↦ eq ∙ ap (class_of qs) same ∙ sym ep ∙ same ∙ sym (root_of_root ps n (sym parent ∙ same))
      | inr less ↦ eq ∙ h.named p less (omega (arith, less, lt)) ∙ ap (forest_root ps) parent ∙ root_of_parent ps is n lt
    ]

pub all_named : (ps : List ℕ) (n : ℕ) (qs : List ℕ) → length ps ≤ n → AreNamedBefore ps n qs → qs ≡ classes_in ps
all_named ps n qs past h = same_number_lists qs (classes_in ps) (h.len ∙ sym (classes_many ps))
    (λ k lt. let len = h.len in let l : k < length ps = omega (arith, lt, len) in h.named k (omega (arith, l, past)) l ∙ sym (class_is_root ps k l))

-- ---- the loop that goes up to a root

-- the way up from k has come to a number of its tree, and the classes are what they were
pub record IsOnWay (old ps : List ℕ) (k at : ℕ) : Type 0 where
  pub forest : IsForest ps
  pub len : length ps ≡ length old
  pub classes : classes_in ps ≡ classes_in old
  pub within : at < length ps
  pub name : class_of (classes_in old) at ≡ class_of (classes_in old) k

pub way_begins : (ps : List ℕ) (k : ℕ) → IsForest ps → k < length ps → IsOnWay ps ps k k
way_begins ps k is lt = record { forest = is; len = refl; classes = refl; within = lt; name = refl }

-- a number's parent is in its class
of_parent : (ps : List ℕ) → IsForest ps → (k : ℕ) → k < length ps → class_of (classes_in ps) (class_of ps k) ≡ class_of (classes_in ps) k
of_parent ps is k lt = let b = is k lt in class_is_root ps (class_of ps k) (omega (arith, b, lt)) ∙ root_of_parent ps is k lt ∙ sym (class_is_root ps k lt)

pub way_goes_on : (old ps : List ℕ) (k at p q : ℕ) → p ≡ class_of ps at → q ≡ class_of ps p → IsOnWay old ps k at → IsOnWay old (set ps at q) k q
way_goes_on old ps k at p q ep eq w =
    let lt = w.within in
    let s = shortened ps w.forest at p q lt ep eq in
    let b = s.2 in let c = s.3 in let len = length-set ps at q in
    record {
      forest = s.0;
      len = len ∙ w.len;
      classes = s.1 ∙ w.classes;
      within = omega (arith, b, c, len, lt);
      name = subst (λ (cs : List ℕ). class_of cs q ≡ class_of cs at) w.classes
          (ap (class_of (classes_in ps)) eq ∙ of_parent ps w.forest p (omega (arith, c, lt)) ∙ ap (class_of (classes_in ps)) ep ∙ of_parent ps w.forest at lt)
          ∙ w.name;
    }

pub parent_there : (old ps : List ℕ) (k at : ℕ) → IsOnWay old ps k at → class_of ps at < length ps
parent_there old ps k at w = let b = w.forest at w.within in let lt = w.within in omega (arith, b, lt)

pub way_shortens : (old ps : List ℕ) (k at : ℕ) → class_of ps at ≢ at → IsOnWay old ps k at → class_of ps (class_of ps at) < at
way_shortens old ps k at other w =
    let b = w.forest at w.within in
    let c = w.forest (class_of ps at) (parent_there old ps k at w) in
    elim (same_or_below (class_of ps at) at b) as (λ _. class_of ps (class_of ps at) < at) [
      | inl same ↦ absurd (other same)
      | inr less ↦ omega (arith, c, less)
    ]

pub way_ends : (old ps : List ℕ) (k at : ℕ) → class_of ps at ≡ at → IsOnWay old ps k at → at ≡ class_of (classes_in old) k
way_ends old ps k at e w = sym (root_of_root ps at e) ∙ sym (class_is_root ps at w.within) ∙ ap (λ (cs : List ℕ). class_of cs at) w.classes ∙ w.name
