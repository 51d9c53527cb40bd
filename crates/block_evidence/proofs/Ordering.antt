-- Four ends of which the signs of turns show that they are stuck, by their codes.
use Rattle.std.proofs.Common.{◌≡◌, ℕ, ◌+◌, ◌<◌, ◌≤◌, List, [], ◌∷◌, ◌++◌, length, refl, sym, ap, ap₂, subst, ◌∙◌, arith, inl, inr}
use Rattle.std.specs.Prelude.{map, drop, replicate, ◌-◌}
use Rattle.std.specs.List.{AllByRecursion}
use Rattle.std.proofs.lemmas.Bool.{cases_order}
use Rattle.std.proofs.lemmas.List.{length-append, map-append}
use Rattle.sight_names.specs.declared.limits.TheConstants.{RIGHT_END}
use Rattle.sight_names.specs.declared.names.Pt.{Pt}
use Rattle.sight_names.specs.declared.names.EndAt.{EndAt}
use Rattle.block_evidence.specs.declared.Evidence.{Evidence}
use Rattle.block_evidence.specs.Stuck.{HullsMeet, left_ends, right_ends, end_codes}
use Rattle.block_evidence.specs.Picked.{IsOneOfEnds, CodesAscend, AreAmong, AreDistinct, Orders, Picks}
use Rattle.block_evidence.proofs.Means.{In, mean_more}
use Rattle.block_evidence.proofs.Ordered.{all_at, all_of, left_in, right_in}
use Rattle.math_base.proofs.Lists.{all_join}

abbrev pub AreLeft : List EndAt → Type 0
AreLeft ends = AllByRecursion (λ (d : EndAt). d.code < RIGHT_END) ends

abbrev pub AreRight : List EndAt → Type 0
AreRight ends = AllByRecursion (λ (d : EndAt). RIGHT_END ≤ d.code) ends

abbrev points : List EndAt → List Pt
points ends = map (λ (d : EndAt). d.at) ends

-- ---- the codes in order
pub less : (m n : ℕ) → ¬ (m ≡ n) → n ≤ m → n < m
less m n h k = elim (cases_order m n) as (λ _. n < m) [
  | inl e ↦ absurd (h e)
  | inr l ↦ elim l as (λ _. n < m) [ inl l ↦ absurd (omega (arith, l, k)) | inr l ↦ l ]
]

pub two_ordered : (a b x y : EndAt) → AreAmong (a ∷ b ∷ []) (x ∷ y ∷ []) → AreAmong (x ∷ y ∷ []) (a ∷ b ∷ []) → (AreDistinct (a ∷ b ∷ []) → x.code < y.code) → Orders (a ∷ b ∷ []) (x.code ∷ y.code ∷ [])
two_ordered a b x y h k l = record {
  ends = x ∷ y ∷ [];
  coded = refl;
  many = refl;
  among = h;
  all = k;
  ascends = λ d. ((l d, tt), (tt, tt));
}

pub three_ordered : (a b c x y z : EndAt) → AreAmong (a ∷ b ∷ c ∷ []) (x ∷ y ∷ z ∷ []) → AreAmong (x ∷ y ∷ z ∷ []) (a ∷ b ∷ c ∷ []) → (AreDistinct (a ∷ b ∷ c ∷ []) → (x.code < y.code) × (y.code < z.code)) → Orders (a ∷ b ∷ c ∷ []) (x.code ∷ y.code ∷ z.code ∷ [])
three_ordered a b c x y z h k l = record {
  ends = x ∷ y ∷ z ∷ [];
  coded = refl;
  many = refl;
  among = h;
  all = k;
  ascends = λ d. let m = l d in let u = m.0 in let v = m.1 in ((m.0, (omega (arith, u, v), tt)), ((m.1, tt), (tt, tt)));
}

pub one_ordered : (a : EndAt) → Orders (a ∷ []) (a.code ∷ [])
one_ordered a = record {
  ends = a ∷ [];
  coded = refl;
  many = refl;
  among = (inl refl, tt);
  all = (inl refl, tt);
  ascends = λ d. (tt, tt);
}

-- ---- lists of ends, one behind the other
in_front : (e : EndAt) (xs ys : List EndAt) → IsOneOfEnds e xs → IsOneOfEnds e (xs ++ ys)
in_front e [] ys h = absurd h
in_front e (x ∷ xs) ys (inl h) = inl h
in_front e (x ∷ xs) ys (inr h) = inr (in_front e xs ys h)

in_back : (e : EndAt) (xs ys : List EndAt) → IsOneOfEnds e ys → IsOneOfEnds e (xs ++ ys)
in_back e [] ys h = h
in_back e (x ∷ xs) ys h = inr (in_back e xs ys h)

-- two ends in order, and one that is later than both
pub last_ordered : (a b c : EndAt) (x y : ℕ) → a.code < c.code → b.code < c.code → Orders (a ∷ b ∷ []) (x ∷ y ∷ []) → Orders (a ∷ b ∷ c ∷ []) (x ∷ y ∷ c.code ∷ [])
last_ordered a b c x y h k o = record {
  ends = o.ends ++ c ∷ [];
  coded = map-append (λ (d : EndAt). d.code) o.ends (c ∷ []) ∙ ap (λ (xs : List ℕ). xs ++ c.code ∷ []) o.coded;
  many = (let m = o.many in let l = length-append o.ends (c ∷ []) in omega (arith, l, m));
  among = all_join (λ (d : EndAt). IsOneOfEnds d (a ∷ b ∷ c ∷ [])) o.ends (c ∷ []) (all_of (λ (d : EndAt). IsOneOfEnds d (a ∷ b ∷ c ∷ [])) o.ends (λ d i. in_front d (a ∷ b ∷ []) (c ∷ []) (all_at (λ (d : EndAt). IsOneOfEnds d (a ∷ b ∷ [])) d o.ends o.among i))) (inr (inr (inl refl)), tt);
  all = (in_front a o.ends (c ∷ []) o.all.0, (in_front b o.ends (c ∷ []) o.all.1.0, (in_back c o.ends (c ∷ []) (inl refl), tt)));
  ascends = λ d. ascends_last o.ends (o.ascends ((d.0.0, tt), (tt, tt))) (all_of (λ (d : EndAt). d.code < c.code) o.ends (λ e i. below e (all_at (λ (d : EndAt). IsOneOfEnds d (a ∷ b ∷ [])) e o.ends o.among i)));
}
  where
    below : (e : EndAt) → IsOneOfEnds e (a ∷ b ∷ []) → e.code < c.code
    below e (inl p) = subst (λ (d : EndAt). d.code < c.code) p h
    below e (inr (inl p)) = subst (λ (d : EndAt). d.code < c.code) p k
    below e (inr (inr p)) = absurd p

    ascends_last : (xs : List EndAt) → CodesAscend xs → AllByRecursion (λ (d : EndAt). d.code < c.code) xs → CodesAscend (xs ++ c ∷ [])
    ascends_last [] u v = (tt, tt)
    ascends_last (x ∷ xs) u v = (all_join (λ (d : EndAt). x.code < d.code) xs (c ∷ []) u.0 (v.0, tt), ascends_last xs u.1 v.1)

-- ---- left ends before right ones

above : (x : EndAt) (ys : List EndAt) → x.code < RIGHT_END → AreRight ys → AllByRecursion (λ (d : EndAt). x.code < d.code) ys
above x [] h k = tt
above x (y ∷ ys) h k = (let l = k.0 in omega (arith, h, l), above x ys h k.1)

both_ascend : (xs ys : List EndAt) → CodesAscend xs → CodesAscend ys → AreLeft xs → AreRight ys → CodesAscend (xs ++ ys)
both_ascend [] ys h k l r = k
both_ascend (x ∷ xs) ys h k l r = (all_join (λ (d : EndAt). x.code < d.code) xs ys h.0 (above x ys l.0 r), both_ascend xs ys h.1 k l.1 r)

among_all : (P : EndAt → Type 0) (given ends : List EndAt) → AreAmong given ends → AllByRecursion P given → AllByRecursion P ends
among_all P given ends h k = all_of P ends (λ e i. all_at P e given k (all_at (λ (d : EndAt). IsOneOfEnds d given) e ends h i))

all_points : (P : Pt → Type 0) (ends : List EndAt) → ((e : EndAt) → IsOneOfEnds e ends → P e.at) → AllByRecursion P (points ends)
all_points P [] h = tt
all_points P (e ∷ ends) h = (h e (inl refl), all_points P ends (λ d i. h d (inr i)))

-- left and right ends whose hulls meet, in the order of their codes
pub picks_ordered : (ls rs : List EndAt) (cl cr : List ℕ) (e : Evidence) → Orders ls cl → Orders rs cr → AreLeft ls → AreRight rs → AreDistinct ls → AreDistinct rs → HullsMeet (points ls) (points rs)
    → length ls + length rs ≡ 4 → e.count ≡ 4 → end_codes e ≡ cl ++ cr → drop e.count e.ends ≡ replicate (4 - e.count) 0 → Picks (ls ++ rs) e
picks_ordered ls rs cl cr e o p l r dl dr (t, m, n) few count codes unused = record {
  ends = o.ends ++ p.ends;
  ascends = both_ascend o.ends p.ends (o.ascends dl) (p.ascends dr) (among_all (λ (d : EndAt). d.code < RIGHT_END) ls o.ends o.among l) (among_all (λ (d : EndAt). RIGHT_END ≤ d.code) rs p.ends p.among r);
  among = all_join (λ (d : EndAt). IsOneOfEnds d (ls ++ rs)) o.ends p.ends
      (all_of (λ (d : EndAt). IsOneOfEnds d (ls ++ rs)) o.ends (λ d i. in_front d ls rs (all_at (λ (d : EndAt). IsOneOfEnds d ls) d o.ends o.among i)))
      (all_of (λ (d : EndAt). IsOneOfEnds d (ls ++ rs)) p.ends (λ d i. in_back d ls rs (all_at (λ (d : EndAt). IsOneOfEnds d rs) d p.ends p.among i)));
  few = omega (arith, whole);
  stuck = (
    t,
    mean_more (left_ends (o.ends ++ p.ends)) (points ls) t (all_points (λ q. In q (left_ends (o.ends ++ p.ends))) ls (λ d i. left_in d (o.ends ++ p.ends) (all_at (λ (d : EndAt). d.code < RIGHT_END) d ls l i) (in_front d o.ends p.ends (all_at (λ (d : EndAt). IsOneOfEnds d o.ends) d ls o.all i)))) m,
    mean_more (right_ends (o.ends ++ p.ends)) (points rs) t (all_points (λ q. In q (right_ends (o.ends ++ p.ends))) rs (λ d i. right_in d (o.ends ++ p.ends) (all_at (λ (d : EndAt). RIGHT_END ≤ d.code) d rs r i) (in_back d o.ends p.ends (all_at (λ (d : EndAt). IsOneOfEnds d p.ends) d rs p.all i)))) n,
  );
  names = record {
    count = omega (arith, count, whole);
    codes = codes ∙ ap₂ (λ (xs ys : List ℕ). xs ++ ys) (sym o.coded) (sym p.coded) ∙ sym (map-append (λ (d : EndAt). d.code) o.ends p.ends);
    unused = unused;
  };
}
  where
    whole : length (o.ends ++ p.ends) ≡ 4
    whole = let a = length-append o.ends p.ends in let b = o.many in let c = p.many in omega (arith, a, b, c, few)
