-- A name as it is told is the same name, and tells which names are the same.
use Rattle.std.proofs.Common.{◌≡◌, ℕ, zero, suc, ◌+◌, ◌-◌, ◌<◌, ◌≤◌, List, [], ◌∷◌, ◌++◌, ◌≢◌, length, get_or, take, drop, map, replicate, set, Bool, true, false, ◌&&◌, ◌==◌, if◌then◌else◌, Ordering, Less, Equal, Greater, is_eq, nat_cmp, refl, sym, ap, ◌∙◌, append_assoc, append-nil, arith}
use Rattle.std.specs.Prelude.{bytes_eq}
use Rattle.std.specs.Char.{to_ascii_uppercase}
use Rattle.std.specs.Cmp.Lexicographic.{slice_cmp}
use Rattle.std.specs.Ordering.{MatchOrdering}
use Rattle.std.proofs.lemmas.Bool.Decides.{nat_tests, same_from_decides}
use Rattle.std.proofs.lemmas.Cmp.{ranked, same_from_slice_cmp}
use Rattle.std.proofs.lemmas.List.{drop_all, drop_more, length-map, length-take-le, set_at, take_more}
use Rattle.std.proofs.lemmas.Slice.Eq.{bytes_eq-Decides}
use Rattle.std.proofs.lemmas.Str.Ascii.{uppercase-uppercase}
use Rattle.wad_dir.specs.Map.{key_of, same_name}
use Rattle.wad_dir.specs.AllMaps.Maps.{told}
use Rattle.math_base.proofs.Lists.{map_pushed}
use Rattle.math_base.proofs.Numbers.{below_differs, tells_other, tells_same}

-- ---- the key of a name as it is told

key_zeros : (n : ℕ) → key_of (replicate n 0) ≡ []
key_zeros zero = refl
key_zeros (suc n) = refl

upper_some : (c : ℕ) → (c == 0) ≡ false → (to_ascii_uppercase c == 0) ≡ false
upper_some c e = grind (arith, nat_tests)

key_padded : (name : List ℕ) (n : ℕ) → key_of (key_of name ++ replicate n 0) ≡ key_of name
key_padded [] n = key_zeros n
key_padded (c ∷ cs) n = by (c == 0) refl (key_padded cs n)
  where
    inner : (t : Bool) → t ≡ false → key_of (key_of cs ++ replicate n 0) ≡ key_of cs
        → (if t then [] else to_ascii_uppercase (to_ascii_uppercase c) ∷ key_of (key_of cs ++ replicate n 0)) ≡ to_ascii_uppercase c ∷ key_of cs
    inner true e rest = absurd cc
    inner false e rest = λ i. uppercase-uppercase c i ∷ rest i

    by : (t : Bool) → (c == 0) ≡ t → key_of (key_of cs ++ replicate n 0) ≡ key_of cs → key_of ((if t then [] else to_ascii_uppercase c ∷ key_of cs) ++ replicate n 0) ≡ (if t then [] else to_ascii_uppercase c ∷ key_of cs)
    by true e rest = key_zeros n
    by false e rest = inner (to_ascii_uppercase c == 0) (upper_some c e) rest

pub key_told : (name : List ℕ) → key_of (told name) ≡ key_of name
unfolding told
key_told name = key_padded name (8 - length (key_of name))

pub told_alike : (a b : List ℕ) → key_of a ≡ key_of b → told a ≡ told b
unfolding told
told_alike a b e = ap (λ (key : List ℕ). key ++ replicate (8 - length key) 0) e

told_back : (a b : List ℕ) → told a ≡ told b → key_of a ≡ key_of b
told_back a b e = sym (key_told a) ∙ ap key_of e ∙ key_told b

pub told_same : (a b : List ℕ) → bytes_eq (told a) (told b) ≡ same_name a b
told_same a b = grind (arith, bytes_eq-Decides, same_from_decides, told_alike, told_back)

-- ---- lists that compare as equal

heads : (x y : ℕ) (xs ys : List ℕ) (o : Ordering) → MatchOrdering o (x < y) (x ≡ y) (y < x)
    → MatchOrdering o (bytes_eq (x ∷ xs) (y ∷ ys) ≡ false) (bytes_eq (x ∷ xs) (y ∷ ys) ≡ bytes_eq xs ys) (bytes_eq (x ∷ xs) (y ∷ ys) ≡ false)
heads x y xs ys Less h = ap (λ (t : Bool). t && bytes_eq xs ys) (tells_other x y (λ e. below_differs x y h e))
heads x y xs ys Equal h = ap (λ (t : Bool). t && bytes_eq xs ys) (tells_same x y h)
heads x y xs ys Greater h = ap (λ (t : Bool). t && bytes_eq xs ys) (tells_other x y (λ e. below_differs y x h (sym e)))

pub compares_equal : (xs ys : List ℕ) → is_eq (slice_cmp nat_cmp xs ys) ≡ bytes_eq xs ys
compares_equal xs ys = same_from_slice_cmp nat_cmp is_eq bytes_eq refl (λ y ys. refl) (λ x xs. refl) (λ x y xs ys o h. heads x y xs ys o (ranked x y o h)) xs ys (slice_cmp nat_cmp xs ys) refl

-- ---- a name as it is told, put together

zeros_from : (k : ℕ) → k < 8 → replicate {A = ℕ} (8 - k) 0 ≡ 0 ∷ replicate (8 - (k + 1)) 0
zeros_from k lt = let more : 8 - k ≡ suc (8 - (k + 1)) = omega arith in ap (λ (n : ℕ). replicate {A = ℕ} n 0) more

-- one more byte
pub upper_more : (front : List ℕ) (k c : ℕ) → length front ≡ k → k < 8 → set (front ++ replicate (8 - k) 0) k c ≡ (front ++ c ∷ []) ++ replicate (8 - (k + 1)) 0
upper_more front k c len lt =
    ap (λ (zs : List ℕ). set (front ++ zs) k c) (zeros_from k lt) ∙ set_at front 0 (replicate (8 - (k + 1)) 0) c k len ∙ sym (joined front (replicate (8 - (k + 1)) 0))
  where
    joined : (xs ys : List ℕ) → (xs ++ c ∷ []) ++ ys ≡ xs ++ c ∷ ys
    joined [] ys = refl
    joined (x ∷ xs) ys = ap (λ (zs : List ℕ). x ∷ zs) (joined xs ys)

pub told_is : (name front upper : List ℕ) (k : ℕ) → key_of name ≡ front → length front ≡ k → upper ≡ front ++ replicate (8 - k) 0 → upper ≡ told name
unfolding told
told_is name front upper k key len e = search

-- the first bytes of a name in upper case, one more
front_more : (name : List ℕ) (k : ℕ) → k < length name → map to_ascii_uppercase (take (k + 1) name) ≡ map to_ascii_uppercase (take k name) ++ to_ascii_uppercase (get_or name k 0) ∷ []
front_more name k lt = ap (λ (xs : List ℕ). map to_ascii_uppercase xs) (take_more name k 0 lt) ∙ map_pushed to_ascii_uppercase (take k name) (get_or name k 0)

front_long : (name : List ℕ) (k : ℕ) → k ≤ length name → length (map to_ascii_uppercase (take k name)) ≡ k
front_long name k le = length-map (take k name) to_ascii_uppercase ∙ length-take-le k name le

pub front_upper : (name upper : List ℕ) (k : ℕ) → length name ≡ 8 → k < length name → upper ≡ map to_ascii_uppercase (take k name) ++ replicate (8 - k) 0
    → set upper k (to_ascii_uppercase (get_or name k 0)) ≡ map to_ascii_uppercase (take (k + 1) name) ++ replicate (8 - (k + 1)) 0
front_upper name upper k len lt e =
    ap (λ (xs : List ℕ). set xs k (to_ascii_uppercase (get_or name k 0))) e
    ∙ upper_more (map to_ascii_uppercase (take k name)) k (to_ascii_uppercase (get_or name k 0)) (front_long name k (omega (arith, lt))) (omega (arith, lt, len))
    ∙ ap (λ (xs : List ℕ). xs ++ replicate (8 - (k + 1)) 0) (sym (front_more name k lt))

pub front_key : (name : List ℕ) (k : ℕ) → k < length name → get_or name k 0 ≢ 0 → key_of name ≡ map to_ascii_uppercase (take k name) ++ key_of (drop k name)
    → key_of name ≡ map to_ascii_uppercase (take (k + 1) name) ++ key_of (drop (k + 1) name)
front_key name k lt some e =
    let c : ℕ = get_or name k 0 in
    let rest : key_of (drop k name) ≡ to_ascii_uppercase c ∷ key_of (drop (k + 1) name) = ap key_of (drop_more name k 0 lt) ∙ ap (λ (t : Bool). if t then [] else to_ascii_uppercase c ∷ key_of (drop (k + 1) name)) (tells_other c 0 some) in
    e ∙ ap (λ (xs : List ℕ). map to_ascii_uppercase (take k name) ++ xs) rest
    ∙ sym (append_assoc (map to_ascii_uppercase (take k name)) (to_ascii_uppercase c ∷ []) (key_of (drop (k + 1) name)))
    ∙ ap (λ (xs : List ℕ). xs ++ key_of (drop (k + 1) name)) (sym (front_more name k lt))

-- at the first NUL
pub told_at_nul : (name upper : List ℕ) (k : ℕ) → k < length name → get_or name k 0 ≡ 0 → upper ≡ map to_ascii_uppercase (take k name) ++ replicate (8 - k) 0 → key_of name ≡ map to_ascii_uppercase (take k name) ++ key_of (drop k name) → upper ≡ told name
told_at_nul name upper k lt nul e key =
    let c : ℕ = get_or name k 0 in
    let rest : key_of (drop k name) ≡ [] = ap key_of (drop_more name k 0 lt) ∙ ap (λ (t : Bool). if t then [] else to_ascii_uppercase c ∷ key_of (drop (k + 1) name)) (tells_same c 0 nul) in
    told_is name (map to_ascii_uppercase (take k name)) upper k (key ∙ ap (λ (xs : List ℕ). map to_ascii_uppercase (take k name) ++ xs) rest ∙ append-nil (map to_ascii_uppercase (take k name))) (front_long name k (omega (arith, lt))) e

-- behind the last byte
pub told_at_end : (name upper : List ℕ) (k : ℕ) → length name ≤ k → k ≤ length name → upper ≡ map to_ascii_uppercase (take k name) ++ replicate (8 - k) 0 → key_of name ≡ map to_ascii_uppercase (take k name) ++ key_of (drop k name) → upper ≡ told name
told_at_end name upper k ge le e key =
    let rest : key_of (drop k name) ≡ [] = ap key_of (drop_all k name ge) in
    told_is name (map to_ascii_uppercase (take k name)) upper k (key ∙ ap (λ (xs : List ℕ). map to_ascii_uppercase (take k name) ++ xs) rest ∙ append-nil (map to_ascii_uppercase (take k name))) (front_long name k le) e
