-- Lists: what they contain, what stands at a place, the first ones of them, and one more at the end.
use Rattle.std.proofs.Common.{◌≡◌, ◌⊎◌, inl, inr, ⊎_elim, ℕ, zero, suc, ◌+◌, ◌<◌, List, [], ◌∷◌, ◌++◌, length, take, drop, get_or, map, filter, slice_get, refl, sym, ap, ◌∙◌, subst, arith, zero-lt-suc, Bool, true, false, cond, Option, Some, Contains}
use Rattle.std.specs.List.{AllByRecursion, last_or}
use Rattle.std.proofs.Math.Seq.{drop-nil}
use Rattle.std.proofs.lemmas.Bool.{true≢false}
use Rattle.std.proofs.lemmas.Option.{none-some, same_Some, slice_get-get_or}
use Rattle.std.proofs.lemmas.List.Elements.{recursion_from_All, Contains-get_or}

module _ {X : Type 0} where
  -- ---- what a list contains

  pub contains_here : (x : X) (xs : List X) → Contains (x ∷ xs) x
  contains_here x xs = (0, omega arith, refl)

  pub contains_there : (x y : X) (xs : List X) → Contains xs x → Contains (y ∷ xs) x
  contains_there x y xs h = let l = h.1 in (suc h.0, omega arith, h.2)

  pub contains_none : (x : X) → Contains [] x → ⊥
  contains_none x h = let l = h.1 in omega arith

  pub contains_cons : (x y : X) (xs : List X) → Contains (y ∷ xs) x → (y ≡ x) ⊎ Contains xs x
  contains_cons x y xs h = at h.0 h.1 h.2
    where
      at : (k : ℕ) → k < length (y ∷ xs) → get_or (y ∷ xs) k x ≡ x → (y ≡ x) ⊎ Contains xs x
      at zero l e = inl e
      at (suc k) l e = inr (k, omega arith, e)

  pub contains_one : (x y : X) → Contains (y ∷ []) x → y ≡ x
  contains_one x y h = ⊎_elim (λ e. e) (λ n. absurd (contains_none x n)) (contains_cons x y [] h)

  pub contains_left : (x : X) (xs ys : List X) → Contains xs x → Contains (xs ++ ys) x
  contains_left x [] ys h = absurd (contains_none x h)
  contains_left x (z ∷ xs) ys h = ⊎_elim (λ e. subst (λ (w : X). Contains (z ∷ (xs ++ ys)) w) e (contains_here z (xs ++ ys))) (λ r. contains_there x z (xs ++ ys) (contains_left x xs ys r)) (contains_cons x z xs h)

  pub contains_right : (x : X) (xs ys : List X) → Contains ys x → Contains (xs ++ ys) x
  contains_right x [] ys h = h
  contains_right x (z ∷ xs) ys h = contains_there x z (xs ++ ys) (contains_right x xs ys h)

  pub contains_append : (x : X) (xs ys : List X) → Contains (xs ++ ys) x → Contains xs x ⊎ Contains ys x
  contains_append x [] ys h = inr h
  contains_append x (z ∷ xs) ys h = ⊎_elim (λ e. inl (subst (λ (w : X). Contains (z ∷ xs) w) e (contains_here z xs)))
      (λ r. ⊎_elim (λ a. inl (contains_there x z xs a)) (λ b. inr b) (contains_append x xs ys r)) (contains_cons x z (xs ++ ys) h)

  pub contains_kept : (test : X → Bool) (xs : List X) (x : X) → Contains xs x → test x ≡ true → Contains (filter test xs) x
  contains_kept test [] x c t = absurd (contains_none x c)
  contains_kept test (y ∷ ys) x c t = go (test y) refl (contains_cons x y ys c) (λ h. contains_kept test ys x h t)
    where
      go : (b : Bool) → test y ≡ b → (y ≡ x) ⊎ Contains ys x → (Contains ys x → Contains (filter test ys) x) → Contains (cond b (y ∷ filter test ys) (filter test ys)) x
      go true e (inl q) rest = (zero, zero-lt-suc _, q)
      go true e (inr h) rest = contains_there x y (filter test ys) (rest h)
      go false e (inl q) rest = absurd (true≢false (sym t ∙ ap test (sym q) ∙ e))
      go false e (inr h) rest = rest h

  -- ---- what stands at a place

  pub get_there : (xs : List X) (k : ℕ) → k < length xs → (x : X) × (slice_get xs k ≡ Some x)
  get_there [] k l = absurd (omega arith)
  get_there (x ∷ xs) zero l = (x, refl)
  get_there (x ∷ xs) (suc k) l = get_there xs k (omega arith)

  pub get_take : (n : ℕ) (xs : List X) (k : ℕ) (x : X) → slice_get (take n xs) k ≡ Some x → (k < n) × (slice_get xs k ≡ Some x)
  get_take zero xs k x e = absurd (none-some x e)
  get_take (suc n) [] k x e = absurd (none-some x e)
  get_take (suc n) (y ∷ ys) zero x e = (omega arith, e)
  get_take (suc n) (y ∷ ys) (suc k) x e = let h = get_take n ys k x e in (omega arith, h.1)

  -- ---- one more at the end

  pub length_pushed : (xs : List X) (x : X) → length (xs ++ x ∷ []) ≡ length xs + 1
  length_pushed [] x = refl
  length_pushed (y ∷ xs) x = let e = length_pushed xs x in omega (arith, e)

  pub get_pushed : (xs : List X) (x : X) → slice_get (xs ++ x ∷ []) (length xs) ≡ Some x
  get_pushed [] y = refl
  get_pushed (z ∷ xs) y = get_pushed xs y

  pub get_before_pushed : (xs : List X) (y x : X) (k : ℕ) → slice_get xs k ≡ Some x → slice_get (xs ++ y ∷ []) k ≡ Some x
  get_before_pushed [] y x i e = absurd (none-some x e)
  get_before_pushed (z ∷ xs) y x zero e = e
  get_before_pushed (z ∷ xs) y x (suc i) e = get_before_pushed xs y x i e

  -- what stands at a place of a list with one more stands there before, or is the one more
  pub pushed_at : (xs : List X) (x y : X) (k : ℕ) → slice_get (xs ++ x ∷ []) k ≡ Some y → (slice_get xs k ≡ Some y) ⊎ ((k ≡ length xs) × (x ≡ y))
  pushed_at [] x y zero e = inr (refl, same_Some x y e)
  pushed_at [] x y (suc k) e = absurd (none-some y e)
  pushed_at (z ∷ xs) x y zero e = inl e
  pushed_at (z ∷ xs) x y (suc k) e = elim (pushed_at xs x y k e) [ inl h ↦ inl h | inr h ↦ inr (ap suc h.0, h.1) ]

  pub contains_pushed : (xs : List X) (x y : X) → Contains (xs ++ x ∷ []) y → Contains xs y ⊎ (x ≡ y)
  contains_pushed xs x y c = ⊎_elim (λ h. inl h) (λ h. inr (contains_one y x h)) (contains_append y xs (x ∷ []) c)

  pub last_pushed : (x : X) (xs : List X) (o : Option X) → last_or o (xs ++ x ∷ []) ≡ Some x
  last_pushed x [] o = refl
  last_pushed x (y ∷ xs) o = last_pushed x xs (Some y)

pub item_there : {X : Type 0} (xs ys : List X) (k : ℕ) (d : X) → xs ≡ ys → k < length xs → slice_get ys k ≡ Some (get_or xs k d)
item_there {X} xs ys k d e lt = subst (λ (zs : List X). slice_get zs k ≡ Some (get_or xs k d)) e (slice_get-get_or xs k d lt)

pub drop_more : (a b : ℕ) (xs : List ℕ) → drop (a + b) xs ≡ drop b (drop a xs)
drop_more zero b xs = let e : 0 + b ≡ b = omega arith in ap (λ (n : ℕ). drop n xs) e
drop_more (suc a) b [] = drop-nil (suc a + b) ∙ sym (drop-nil b)
drop_more (suc a) b (x ∷ xs) = let e : suc a + b ≡ suc (a + b) = omega arith in ap (λ (n : ℕ). drop n (x ∷ xs)) e ∙ drop_more a b xs

-- ---- lists of what becomes of elements

pub map_pushed : {A B : Type 0} (f : A → B) (xs : List A) (x : A) → map f (xs ++ x ∷ []) ≡ map f xs ++ f x ∷ []
map_pushed f [] x = refl
map_pushed f (y ∷ ys) x = ap (λ zs. f y ∷ zs) (map_pushed f ys x)

pub contains_map : {A B : Type 0} (f : A → B) (xs : List A) (x : A) → Contains xs x → Contains (map f xs) (f x)
contains_map f [] x c = absurd (contains_none x c)
contains_map {A} {B} f (y ∷ ys) x c = ⊎_elim (λ e. subst (λ (w : B). Contains (f y ∷ map f ys) w) (ap f e) (contains_here (f y) (map f ys)))
    (λ r. contains_there (f x) (f y) (map f ys) (contains_map f ys x r)) (contains_cons x y ys c)

-- ---- what holds of each element

pub all_join : {A : Type 0} (P : A → Type 0) (xs ys : List A) → AllByRecursion P xs → AllByRecursion P ys → AllByRecursion P (xs ++ ys)
all_join P [] ys h k = k
all_join P (x ∷ xs) ys h k = (h.0, all_join P xs ys h.1 k)

pub all_front : {A : Type 0} (P : A → Type 0) (xs ys : List A) → AllByRecursion P (xs ++ ys) → AllByRecursion P xs
all_front P [] ys h = tt
all_front P (x ∷ xs) ys h = (h.0, all_front P xs ys h.1)

pub all_so : {A : Type 0} (P Q : A → Type 0) (xs : List A) → ((x : A) → P x → Q x) → AllByRecursion P xs → AllByRecursion Q xs
all_so P Q [] f h = tt
all_so P Q (x ∷ xs) f h = (f x h.0, all_so P Q xs f h.1)

pub all_at : {A : Type 0} (P : A → Type 0) (xs : List A) → AllByRecursion P xs → (k : ℕ) (x : A) → slice_get xs k ≡ Some x → P x
all_at P [] h k x e = absurd (none-some x e)
all_at P (y ∷ ys) h zero x e = subst P (same_Some y x e) h.0
all_at P (y ∷ ys) h (suc k) x e = all_at P ys h.1 k x e

pub all_of : {A : Type 0} (P : A → Type 0) (xs : List A) → ((x : A) → Contains xs x → P x) → AllByRecursion P xs
all_of P xs f = recursion_from_All P xs (λ k d lt. f (get_or xs k d) (Contains-get_or xs k d lt))
