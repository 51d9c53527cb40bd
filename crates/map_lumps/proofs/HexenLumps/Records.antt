-- The numbers of a turned record are those of the record.
use Rattle.std.proofs.Common.{◌≡◌, ℕ, zero, suc, ◌+◌, ◌-◌, ◌*◌, ◌<◌, ◌≤◌, inl, inr, List, [], ◌++◌, length, take, drop, replicate, slice_range, refl, sym, ap, ◌∙◌, subst, arith, append_assoc}
use Rattle.std.specs.Int.{from_le_bytes, w16}
use Rattle.std.proofs.Math.Seq.{drop-append_seam, drop-append-add}
use Rattle.std.proofs.lemmas.List.{append-nil, drop-append-le, take-append-le, take-append-drop, length-append, length-drop, length-take, length-replicate}
use Rattle.std.proofs.lemmas.List.Folds.{drop_split}
use Rattle.sight_names.specs.Lumps.{u16_at}
use Rattle.map_lumps.specs.HexenLumps.Turned.{hexen_first, hexen_record}
use Rattle.math_base.proofs.Lists.{drop_more}
use Rattle.math_base.proofs.Numbers.{below_or_at}

-- ---- lengths

record_length : (xs : List ℕ) (at : ℕ) → at + 14 ≤ length xs → length (slice_range xs at (at + 14)) ≡ 14
record_length xs at le = let a = length-take (at + 14 - at) (drop at xs) in let b = length-drop at xs in omega (arith, a, b, le)

-- the vertices and the flags, and what stands before the sides
abbrev front : List ℕ → List ℕ
front r = take 6 r ++ replicate 6 0

front_length : (r : List ℕ) → length r ≡ 14 → length (front r) ≡ 12
front_length r e = let a = length-append (take 6 r) (replicate {A = ℕ} 6 0) in let b = length-take 6 r in let c = length-replicate {A = ℕ} 6 0 in omega (arith, a, b, c, e)

turned_length : (r : List ℕ) → length r ≡ 14 → length (hexen_record r) ≡ 16
turned_length r e = let a = length-append (front r) (drop 10 r) in let b = front_length r e in let c = length-drop 10 r in omega (arith, a, b, c, e)

pub first_length : (xs : List ℕ) (n : ℕ) → 14 * n ≤ length xs → length (hexen_first xs n) ≡ 16 * n
first_length xs zero le = refl
first_length xs (suc n) le =
    let r : List ℕ = slice_range xs (14 * n) (14 * n + 14) in
    let a = first_length xs n (omega (arith, le)) in
    let b = turned_length r (record_length xs (14 * n) (omega (arith, le))) in
    let c = length-append (hexen_first xs n) (hexen_record r) in
    omega (arith, a, b, c)

-- ---- where a record stands, and where it stands once turned

record IsTurned (xs ys : List ℕ) (k : ℕ) : Type 0 where
  doom : List ℕ
  behind : List ℕ
  behind_turned : List ℕ
  len : length doom ≡ 14
  was : drop (14 * k) xs ≡ doom ++ behind
  is : drop (16 * k) ys ≡ hexen_record doom ++ behind_turned

last_turned : (xs : List ℕ) (n : ℕ) → 14 * n + 14 ≤ length xs → IsTurned xs (hexen_first xs (suc n)) n
last_turned xs n le =
    let r : List ℕ = slice_range xs (14 * n) (14 * n + 14) in
    record {
      doom = r;
      behind = drop (14 * n + 14) xs;
      behind_turned = [];
      len = record_length xs (14 * n) le;
      was = drop_split xs (14 * n) (14 * n + 14) (omega arith);
      is = ap (λ (m : ℕ). drop m (hexen_first xs n ++ hexen_record r)) (sym (first_length xs n (omega (arith, le)))) ∙ drop-append_seam (hexen_first xs n) (hexen_record r) ∙ sym (append-nil (hexen_record r));
    }

turned : (xs : List ℕ) (n k : ℕ) → k < n → 14 * n ≤ length xs → IsTurned xs (hexen_first xs n) k
turned xs zero k lt le = absurd (omega (arith, lt))
turned xs (suc n) k lt le = elim (below_or_at k n lt) [
  | inl before ↦ (let t = turned xs n k before (omega (arith, le)) in
      let r : List ℕ = slice_range xs (14 * n) (14 * n + 14) in
      let h = first_length xs n (omega (arith, le)) in
      record {
        doom = t.doom;
        behind = t.behind;
        behind_turned = t.behind_turned ++ hexen_record r;
        len = t.len;
        was = t.was;
        is = drop-append-le (16 * k) (hexen_first xs n) (hexen_record r) (omega (arith, h, before)) ∙ ap (λ (zs : List ℕ). zs ++ hexen_record r) t.is ∙ append_assoc (hexen_record t.doom) t.behind_turned (hexen_record r);
      })
  | inr same ↦ subst (λ (j : ℕ). IsTurned xs (hexen_first xs (suc n)) j) (sym same) (last_turned xs n (omega (arith, le)))
]

-- ---- two bytes in it

two_at : (xs : List ℕ) (a b : ℕ) → slice_range xs (a + b) (a + b + 2) ≡ take 2 (drop b (drop a xs))
two_at xs a b =
    let two : a + b + 2 - (a + b) ≡ 2 = omega arith in
    ap (λ (n : ℕ). take n (drop (a + b) xs)) two ∙ ap (take 2) (drop_more a b xs)

in_front : (xs ys : List ℕ) (b : ℕ) → b + 2 ≤ length xs → take 2 (drop b (xs ++ ys)) ≡ take 2 (drop b xs)
in_front xs ys b le = let l = length-drop b xs in ap (take 2) (drop-append-le b xs ys (omega (arith, le))) ∙ take-append-le 2 (drop b xs) ys (omega (arith, l, le))

module _ (doom behind behind_turned : List ℕ) (len : length doom ≡ 14) where
  six : length (take 6 doom) ≡ 6
  six = let a = length-take 6 doom in omega (arith, a, len)

  -- in the first six bytes
  same_front : (b : ℕ) → b + 2 ≤ 6 → take 2 (drop b (hexen_record doom ++ behind_turned)) ≡ take 2 (drop b (doom ++ behind))
  same_front b le =
      let l = six in
      let m = turned_length doom len in
      let f = front_length doom len in
      in_front (hexen_record doom) behind_turned b (omega (arith, m, le)) ∙ in_front (front doom) (drop 10 doom) b (omega (arith, f, le)) ∙ in_front (take 6 doom) (replicate {A = ℕ} 6 0) b (omega (arith, l, le))
      ∙ sym (in_front (take 6 doom) (drop 6 doom) b (omega (arith, l, le))) ∙ ap (λ (xs : List ℕ). take 2 (drop b xs)) (take-append-drop 6 doom)
      ∙ sym (in_front doom behind b (omega (arith, len, le)))

  -- behind the special and the arguments
  same_sides : (b : ℕ) → b + 2 ≤ 4 → take 2 (drop (12 + b) (hexen_record doom ++ behind_turned)) ≡ take 2 (drop (10 + b) (doom ++ behind))
  same_sides b le =
      let m = turned_length doom len in
      let f = front_length doom len in
      let at : 12 + b ≡ length (front doom) + b = omega (arith, f) in
      in_front (hexen_record doom) behind_turned (12 + b) (omega (arith, m, le))
      ∙ ap (λ (n : ℕ). take 2 (drop n (hexen_record doom))) at ∙ ap (take 2) (drop-append-add (front doom) (drop 10 doom) b)
      ∙ ap (take 2) (sym (drop_more 10 b doom)) ∙ sym (in_front doom behind (10 + b) (omega (arith, len, le)))

-- ---- the numbers of a record

pub record HasSameNumbers (xs ys : List ℕ) (k : ℕ) : Type 0 where
  pub first : u16_at ys (16 * k) ≡ u16_at xs (14 * k)
  pub second : u16_at ys (16 * k + 2) ≡ u16_at xs (14 * k + 2)
  pub flags : u16_at ys (16 * k + 4) ≡ u16_at xs (14 * k + 4)
  pub right : u16_at ys (16 * k + 12) ≡ u16_at xs (14 * k + 10)
  pub left : u16_at ys (16 * k + 14) ≡ u16_at xs (14 * k + 12)

pub same_numbers : (xs : List ℕ) (n k : ℕ) → k < n → 14 * n ≤ length xs → HasSameNumbers xs (hexen_first xs n) k
same_numbers xs n k lt le = record {
  first = ap (λ (a : ℕ). u16_at ys a) (here (16 * k)) ∙ at 0 0 (same_front t.doom t.behind t.behind_turned t.len 0 (omega arith)) ∙ ap (λ (a : ℕ). u16_at xs a) (sym (here (14 * k)));
  second = at 2 2 (same_front t.doom t.behind t.behind_turned t.len 2 (omega arith));
  flags = at 4 4 (same_front t.doom t.behind t.behind_turned t.len 4 (omega arith));
  right = at 12 10 (same_sides t.doom t.behind t.behind_turned t.len 0 (omega arith));
  left = at 14 12 (same_sides t.doom t.behind t.behind_turned t.len 2 (omega arith));
}
  where
    ys : List ℕ
    ys = hexen_first xs n

    t : IsTurned xs (hexen_first xs n) k
    t = turned xs n k lt le

    here : (a : ℕ) → a ≡ a + 0
    here a = omega arith

    at : (b c : ℕ) → take 2 (drop b (hexen_record t.doom ++ t.behind_turned)) ≡ take 2 (drop c (t.doom ++ t.behind)) → u16_at (hexen_first xs n) (16 * k + b) ≡ u16_at xs (14 * k + c)
    at b c same = ap (from_le_bytes w16) (two_at (hexen_first xs n) (16 * k) b ∙ ap (λ (zs : List ℕ). take 2 (drop b zs)) t.is ∙ same ∙ sym (ap (λ (zs : List ℕ). take 2 (drop c zs)) t.was) ∙ sym (two_at xs (14 * k) c))
