-- The namings of one face are a run of the list, and their sectors are the face's list.
use Rattle.std.proofs.Common.{◌≡◌, ℕ, zero, suc, ◌+◌, ◌-◌, ◌<◌, ◌≤◌, ◌⊎◌, inl, inr, List, [], ◌∷◌, ◌++◌, length, take, drop, get_or, map, slice_get, Contains, Option, Some, None, option_map, ltb, true, false, refl, sym, ap, ◌∙◌, subst, arith, length-take, length-drop}
use Rattle.std.specs.List.Sorted.{IsPartitionPoint}
use Rattle.std.proofs.lemmas.Bool.{ltb-true, ltb-false}
use Rattle.std.proofs.lemmas.List.{get_or-take, get_or-drop}
use Rattle.std.proofs.lemmas.Option.{slice_get_within, get_or_from_slice_get, slice_get-map, same_Some, none-some}
use Rattle.math_base.proofs.Lists.{get_take, get_there, contains_map, length_pushed, pushed_at}
use Rattle.math_base.proofs.Numbers.{below_or_not}
use Rattle.sight_names.specs.Order.{Ascends}
use Rattle.sight_names.proofs.Lists.{get_of_contains, contains_of_get}
use Rattle.face_groups.proofs.GroupsBase.Ordered.{contains_at, ascending_same}
use Rattle.face_groups.specs.declared.namings.Naming.{Naming}
use Rattle.face_groups.specs.TriSectors.Classes.{class_of}
use Rattle.face_groups.specs.Namings.{NamingBefore, naming, IsNamingStart, IsRunOf, AreSectorsOn}
use Rattle.face_groups.proofs.NamingOrder.{naming_of_numbers}

-- ---- where a face begins

pub start_at : (ns : List Naming) (face i : ℕ) → i ≤ length ns → IsPartitionPoint (λ (n : Naming). ltb n.face face ≡ true) (λ (n : Naming). ltb n.face face ≡ false) ns i → IsNamingStart ns face i
start_at ns face i le point = record {
  within = le;
  before = λ k n lt at. subst (λ (o : Naming). o.face < face) (get_or_from_slice_get ns k n n at) (ltb-true _ face (point.0 k n (omega arith) lt));
  from = λ k n ge at. subst (λ (o : Naming). face ≤ o.face) (get_or_from_slice_get ns k n n at) (ltb-false _ face (point.1 k n ge (slice_get_within ns k n at)));
}

pub start_order : (ns : List Naming) (face i j : ℕ) → IsNamingStart ns face i → IsNamingStart ns (face + 1) j → i ≤ j
start_order ns face i j s t = elim (below_or_not j i) as (λ _. i ≤ j) [
  | inr le ↦ le
  | inl lt ↦
      let w = s.within in
      let at = get_there ns j (omega (arith, lt, w)) in
      let x = s.before j at.0 lt at.1 in
      let y = t.from j at.0 (omega arith) at.1 in
      absurd (omega (arith, x, y))
]

-- ---- the namings between two starts

get_dropped : {X : Type 0} (n : ℕ) (xs : List X) (k : ℕ) → slice_get (drop n xs) k ≡ slice_get xs (n + k)
get_dropped zero xs k = let e : k ≡ 0 + k = omega arith in ap (slice_get xs) e
get_dropped (suc n) [] k = refl
get_dropped (suc n) (x ∷ xs) k = let e : suc (n + k) ≡ suc n + k = omega arith in get_dropped n xs k ∙ ap (slice_get (x ∷ xs)) e

pub run_between : (ns : List Naming) (face i j : ℕ) → Ascends NamingBefore ns → IsNamingStart ns face i → IsNamingStart ns (face + 1) j → IsRunOf ns face (take (j - i) (drop i ns))
run_between ns face i j up s t = record { ascend = λ a b n o lt p q. ascend a b n o lt p q; exactly = λ n. (there n, back n) }
  where
    at : (k : ℕ) (n : Naming) → slice_get (take (j - i) (drop i ns)) k ≡ Some n → slice_get ns (i + k) ≡ Some n
    at k n e = sym (get_dropped i ns k) ∙ (get_take (j - i) (drop i ns) k n e).1

    ascend : (a b : ℕ) (n o : Naming) → a < b → slice_get (take (j - i) (drop i ns)) a ≡ Some n → slice_get (take (j - i) (drop i ns)) b ≡ Some o → NamingBefore n o
    ascend a b n o lt p q = up (i + a) (i + b) n o (omega (arith, lt)) (at a n p) (at b o q)

    there : (n : Naming) → Contains (take (j - i) (drop i ns)) n → Contains ns n × (n.face ≡ face)
    there n (k, lt, is) =
        let len = length-take (j - i) (drop i ns) in
        let got = at k n (get_of_contains (take (j - i) (drop i ns)) n k lt is) in
        let less : k < j - i = omega (arith, lt, len) in
        let low = s.from (i + k) n (omega arith) got in
        let high = t.before (i + k) n (omega (arith, less)) got in
        (contains_of_get ns n (i + k) got, omega (arith, low, high))

    back : (n : Naming) → Contains ns n × (n.face ≡ face) → Contains (take (j - i) (drop i ns)) n
    back n ((k, lt, is), same) =
        let got = get_of_contains ns n k lt is in
        elim (below_or_not k i) as (λ _. Contains (take (j - i) (drop i ns)) n) [
          | inl less ↦ let low = s.before k n less got in absurd (omega (arith, low, same))
          | inr ge ↦ elim (below_or_not k j) as (λ _. Contains (take (j - i) (drop i ns)) n) [
            | inr far ↦ let high = t.from k n far got in absurd (omega (arith, high, same))
            | inl near ↦
                let w = t.within in
                let len = length-take (j - i) (drop i ns) in
                let len2 = length-drop i ns in
                let less : k - i < j - i = omega (arith, ge, near) in
                let place : i + (k - i) ≡ k = omega (arith, ge) in
                (k - i, omega (arith, ge, near, w, len, len2), get_or-take (j - i) (drop i ns) (k - i) n less ∙ get_or-drop i ns (k - i) n ∙ ap (λ x. get_or ns x n) place ∙ is)
          ]
        ]

-- ---- the sectors of a run

mapped_at : (run : List Naming) (k a : ℕ) → slice_get (map (λ (n : Naming). n.sector) run) k ≡ Some a → (n : Naming) × (slice_get run k ≡ Some n) × (n.sector ≡ a)
mapped_at run k a e = go (slice_get run k) refl (sym (slice_get-map (λ (n : Naming). n.sector) run k) ∙ e)
  where
    go : (o : Option Naming) → slice_get run k ≡ o → option_map (λ (n : Naming). n.sector) (slice_get run k) ≡ Some a → (n : Naming) × (slice_get run k ≡ Some n) × (n.sector ≡ a)
    go None is h = absurd (none-some a (sym (ap (option_map (λ (n : Naming). n.sector)) is) ∙ h))
    go (Some n) is h = (n, is, same_Some n.sector a (sym (ap (option_map (λ (n : Naming). n.sector)) is) ∙ h))

pub run_sectors : (ns : List Naming) (face : ℕ) (run : List Naming) → IsRunOf ns face run → AreSectorsOn ns face (map (λ (n : Naming). n.sector) run)
run_sectors ns face run r = record {
  ascend = λ i j x y lt p q. ascend i j x y lt p q;
  exactly = λ a. (there a, λ c. contains_map (λ (n : Naming). n.sector) run (naming face a) ((r.exactly (naming face a)).1 (c, refl)));
}
  where
    on_face : (k : ℕ) (n : Naming) → slice_get run k ≡ Some n → Contains ns n × (n.face ≡ face)
    on_face k n e = (r.exactly n).0 (contains_of_get run n k e)

    ascend : (i j x y : ℕ) → i < j → slice_get (map (λ (n : Naming). n.sector) run) i ≡ Some x → slice_get (map (λ (n : Naming). n.sector) run) j ≡ Some y → x < y
    ascend i j x y lt p q =
        let n = mapped_at run i x p in
        let o = mapped_at run j y q in
        go n.0 o.0 n.2 o.2 (on_face i n.0 n.1).1 (on_face j o.0 o.1).1 (r.ascend i j n.0 o.0 lt n.1 o.1)
      where
        go : (n o : Naming) → n.sector ≡ x → o.sector ≡ y → n.face ≡ face → o.face ≡ face → NamingBefore n o → x < y
        go n o ex ey fn fo (inl less) = absurd (omega (arith, fn, fo, less))
        go n o ex ey fn fo (inr h) = let less = h.1 in omega (arith, ex, ey, less)

    there : (a : ℕ) → Contains (map (λ (n : Naming). n.sector) run) a → Contains ns (naming face a)
    there a c =
        let p = contains_at (map (λ (n : Naming). n.sector) run) a c in
        let n = mapped_at run p.0 a p.1 in
        let w = on_face p.0 n.0 n.1 in
        subst (λ (o : Naming). Contains ns o) (naming_of_numbers n.0.face n.0.sector face a w.1 n.2) w.0

-- a face has one list
pub one_list : (ns : List Naming) (face : ℕ) (xs ys : List ℕ) → AreSectorsOn ns face xs → AreSectorsOn ns face ys → xs ≡ ys
one_list ns face xs ys a b = ascending_same xs ys a.ascend b.ascend (λ x. (λ c. (b.exactly x).1 ((a.exactly x).0 c), λ c. (a.exactly x).1 ((b.exactly x).0 c)))

-- ---- the lists of the first n triangles

pub record AreListsSo (ns : List Naming) (fs : List ℕ) (n : ℕ) (lists : List (List ℕ)) : Type 0 where
  pub len : length lists ≡ n
  pub each : (k : ℕ) (xs : List ℕ) → slice_get lists k ≡ Some xs → AreSectorsOn ns (class_of fs k) xs

pub one_list_more : (ns : List Naming) (fs : List ℕ) (n : ℕ) (lists : List (List ℕ)) (xs : List ℕ) → AreListsSo ns fs n lists → AreSectorsOn ns (class_of fs n) xs → AreListsSo ns fs (n + 1) (lists ++ xs ∷ [])
one_list_more ns fs n lists xs h on = record { len = length_pushed lists xs ∙ ap (λ (k : ℕ). k + 1) h.len; each = λ k ys e. go k ys (pushed_at lists xs ys k e) }
  where
    go : (k : ℕ) (ys : List ℕ) → (slice_get lists k ≡ Some ys) ⊎ ((k ≡ length lists) × (xs ≡ ys)) → AreSectorsOn ns (class_of fs k) ys
    go k ys (inl e) = h.each k ys e
    go k ys (inr e) = subst (AreSectorsOn ns (class_of fs k)) e.1 (subst (λ (j : ℕ). AreSectorsOn ns (class_of fs j) xs) (sym (e.0 ∙ h.len)) on)
