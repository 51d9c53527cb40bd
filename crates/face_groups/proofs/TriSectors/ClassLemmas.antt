-- Two classes put together, where the one gets the other's name, which is less.
use Rattle.std.proofs.Common.{◌≡◌, ℕ, ◌<◌, ◌≤◌, ◌⊎◌, inl, inr, ◌↔◌, List, length, refl, sym, ap, ◌∙◌, subst, arith}
use Rattle.face_groups.specs.TriSectors.Classes.{class_of, renamed, AreLeast, AreMerged, AreRenamed, WillBeOne}
use Rattle.face_groups.specs.TriSectors.Forest.{IsForest, classes_in}
use Rattle.face_groups.proofs.TriSectors.Forests.{classes_many, forest_named}

pub renamed_cases : (from to c : ℕ) → ((c ≡ from) × (renamed from to c ≡ to)) ⊎ ((c ≡ from → ⊥) × (renamed from to c ≡ c))
renamed_cases from to c = grind arith

-- the class of b gets the name of the class of a
pub renamed_merged : (a b : ℕ) (old new : List ℕ) → a < length old → b < length old → AreLeast old → class_of old a < class_of old b → AreRenamed (class_of old b) (class_of old a) old new → AreMerged a b old new
renamed_merged a b old new ha hb least lt are = record {
  len = are.len;
  named = record { least = λ k h. below k (len_of k h); own = λ k h. own k (len_of k h) };
  exactly = λ k j hk hj. split (class_of old k) (class_of old j) (class_of old a) (class_of old b) _ _ (one k hk) (one j hj) lt;
}
  where
    len_of : (k : ℕ) → k < length new → k < length old
    len_of k h = let e = are.len in omega (arith, h, e)

    one : (k : ℕ) → k < length old → ((class_of old k ≡ class_of old b) × (class_of new k ≡ class_of old a)) ⊎ ((class_of old k ≡ class_of old b → ⊥) × (class_of new k ≡ class_of old k))
    one k h =
        let e = are.each k h in
        elim (renamed_cases (class_of old b) (class_of old a) (class_of old k)) as (λ _. ((class_of old k ≡ class_of old b) × (class_of new k ≡ class_of old a)) ⊎ ((class_of old k ≡ class_of old b → ⊥) × (class_of new k ≡ class_of old k))) [
          | inl c ↦ inl (c.0, e ∙ c.1)
          | inr c ↦ inr (c.0, e ∙ c.1)
        ]

    below : (k : ℕ) → k < length old → class_of new k ≤ k
    below k h = let l = least.least k h in elim (one k h) as (λ _. class_of new k ≤ k) [
      | inl c ↦ (let x = c.0 in let y = c.1 in omega (arith, lt, l, x, y))
      | inr c ↦ (let y = c.1 in omega (arith, l, y))
    ]

    own : (k : ℕ) → k < length old → class_of new (class_of new k) ≡ class_of new k
    own k h =
        let P : ℕ → Type 0 = λ x. class_of new x ≡ x in
        elim (one k h) as (λ _. P (class_of new k)) [
          | inl c ↦ subst P (sym c.1) (self a (class_of old a) ha refl (λ q. omega (arith, lt, q)))
          | inr c ↦ subst P (sym c.1) (self k (class_of old k) h refl c.0)
        ]
      where
        -- the name of a class that stays
        self : (i c : ℕ) → i < length old → class_of old i ≡ c → (c ≡ class_of old b → ⊥) → class_of new c ≡ c
        self i c hi e n =
            let l = least.least i hi in
            let hc : c < length old = omega (arith, l, e, hi) in
            let o : class_of old c ≡ c = ap (class_of old) (sym e) ∙ least.own i hi ∙ e in
            elim (one c hc) as (λ _. class_of new c ≡ c) [
              | inl x ↦ absurd (n (sym o ∙ x.0))
              | inr x ↦ x.1 ∙ o
            ]

    split : (ck cj ca cb nk nj : ℕ) → ((ck ≡ cb) × (nk ≡ ca)) ⊎ ((ck ≡ cb → ⊥) × (nk ≡ ck)) → ((cj ≡ cb) × (nj ≡ ca)) ⊎ ((cj ≡ cb → ⊥) × (nj ≡ cj)) → ca < cb
        → (nk ≡ nj) ↔ ((ck ≡ cj) ⊎ ((ck ≡ ca) × (cj ≡ cb)) ⊎ ((ck ≡ cb) × (cj ≡ ca)))
    split ck cj ca cb nk nj (inl x) (inl y) less = (λ e. inl (x.0 ∙ sym y.0), λ h. x.1 ∙ sym y.1)
    split ck cj ca cb nk nj (inl x) (inr y) less = (
      λ e. inr (inr (x.0, sym y.1 ∙ sym e ∙ x.1)),
      λ h. elim h as (λ _. nk ≡ nj) [ inl q ↦ absurd (y.0 (sym q ∙ x.0)) | inr (inl q) ↦ absurd (y.0 q.1) | inr (inr q) ↦ x.1 ∙ sym q.1 ∙ sym y.1 ],
    )
    split ck cj ca cb nk nj (inr x) (inl y) less = (
      λ e. inr (inl (sym x.1 ∙ e ∙ y.1, y.0)),
      λ h. elim h as (λ _. nk ≡ nj) [ inl q ↦ absurd (x.0 (q ∙ y.0)) | inr (inl q) ↦ x.1 ∙ q.0 ∙ sym y.1 | inr (inr q) ↦ absurd (x.0 q.0) ],
    )
    split ck cj ca cb nk nj (inr x) (inr y) less = (
      λ e. inl (sym x.1 ∙ e ∙ y.1),
      λ h. elim h as (λ _. nk ≡ nj) [ inl q ↦ x.1 ∙ q ∙ sym y.1 | inr (inl q) ↦ absurd (y.0 q.1) | inr (inr q) ↦ absurd (x.0 q.0) ],
    )

pub merged_back : (a b : ℕ) (old new : List ℕ) → AreMerged b a old new → AreMerged a b old new
merged_back a b old new h = record {
  len = h.len;
  named = h.named;
  exactly = λ k j hk hj. let x = h.exactly k j hk hj in (λ e. turned a b k j (x.0 e), λ w. x.1 (turned b a k j w));
}
  where
    turned : (a b k j : ℕ) → WillBeOne old b a k j → WillBeOne old a b k j
    turned a b k j w = elim w as (λ _. WillBeOne old a b k j) [ inl q ↦ inl q | inr (inl q) ↦ inr (inr q) | inr (inr q) ↦ inr (inl q) ]

-- they are one class already
pub merged_already : (a b : ℕ) (old : List ℕ) → AreLeast old → class_of old a ≡ class_of old b → AreMerged a b old old
merged_already a b old least e = record {
  len = refl;
  named = least;
  exactly = λ k j hk hj. (λ q. inl q, λ w. elim w as (λ _. class_of old k ≡ class_of old j) [ inl q ↦ q | inr (inl q) ↦ q.0 ∙ e ∙ sym q.1 | inr (inr q) ↦ q.0 ∙ sym e ∙ sym q.1 ]);
}

-- ---- what `merge` does, by the names that it found

-- the names of the classes of a and b, where the forest has changed and the classes have not
pub record AreNames (old ps : List ℕ) (a b x y : ℕ) : Type 0 where
  pub least : AreLeast (classes_in old)
  pub first_within : a < length (classes_in old)
  pub second_within : b < length (classes_in old)
  pub same : classes_in ps ≡ classes_in old
  pub many : length ps ≡ length (classes_in old)
  pub first : x ≡ class_of (classes_in old) a
  pub second : y ≡ class_of (classes_in old) b

pub names_found : (old ps qs : List ℕ) (a b x y : ℕ) → IsForest old → a < length old → b < length old
    → length ps ≡ length old → classes_in ps ≡ classes_in old → x ≡ class_of (classes_in old) a
    → length qs ≡ length ps → classes_in qs ≡ classes_in ps → y ≡ class_of (classes_in ps) b → AreNames old qs a b x y
names_found old ps qs a b x y is ha hb len1 same1 ex len2 same2 ey = let m = classes_many old in record {
  least = forest_named old is;
  first_within = omega (arith, m, ha);
  second_within = omega (arith, m, hb);
  same = same2 ∙ same1;
  many = len2 ∙ len1 ∙ sym m;
  first = ex;
  second = ey ∙ ap (λ (cs : List ℕ). class_of cs b) same1;
}

-- a name that was found names itself
name_is_own : (k x : ℕ) (cs ps : List ℕ) → AreLeast cs → k < length cs → classes_in ps ≡ cs → length ps ≡ length cs → x ≡ class_of cs k → (x < length ps) × (class_of (classes_in ps) x ≡ x)
name_is_own k x cs ps least lt e many f = let b = least.least k lt in
    (omega (arith, b, f, lt, many), ap (λ (xs : List ℕ). class_of xs x) e ∙ ap (class_of cs) f ∙ least.own k lt ∙ sym f)

pub first_is_root : (old ps : List ℕ) (a b x y : ℕ) → AreNames old ps a b x y → (x < length ps) × (class_of (classes_in ps) x ≡ x)
first_is_root old ps a b x y n = name_is_own a x (classes_in old) ps n.least n.first_within n.same n.many n.first

pub second_is_root : (old ps : List ℕ) (a b x y : ℕ) → AreNames old ps a b x y → (y < length ps) × (class_of (classes_in ps) y ≡ y)
second_is_root old ps a b x y n = name_is_own b y (classes_in old) ps n.least n.second_within n.same n.many n.second

pub first_names_both : (old ps : List ℕ) (a b x y : ℕ) (new : List ℕ) → AreNames old ps a b x y → x < y → AreRenamed y x (classes_in ps) new → AreMerged a b (classes_in old) new
first_names_both old ps a b x y new n lt are =
    let ex = n.first in let ey = n.second in
    renamed_merged a b (classes_in old) new n.first_within n.second_within n.least (omega (arith, lt, ex, ey))
    (subst (λ (p : ℕ). AreRenamed p (class_of (classes_in old) a) (classes_in old) new) ey
    (subst (λ (p : ℕ). AreRenamed y p (classes_in old) new) ex
    (subst (λ (xs : List ℕ). AreRenamed y x xs new) n.same are)))

pub second_names_both : (old ps : List ℕ) (a b x y : ℕ) (new : List ℕ) → AreNames old ps a b x y → y < x → AreRenamed x y (classes_in ps) new → AreMerged a b (classes_in old) new
second_names_both old ps a b x y new n lt are = merged_back a b (classes_in old) new (first_names_both old ps b a y x new (record {
  least = n.least;
  first_within = n.second_within;
  second_within = n.first_within;
  same = n.same;
  many = n.many;
  first = n.second;
  second = n.first;
}) lt are)

pub names_agree : (old ps : List ℕ) (a b x y : ℕ) → AreNames old ps a b x y → x ≡ y → AreMerged a b (classes_in old) (classes_in ps)
names_agree old ps a b x y n e = subst (λ (xs : List ℕ). AreMerged a b (classes_in old) xs) (sym n.same) (merged_already a b (classes_in old) n.least (sym n.first ∙ e ∙ n.second))
