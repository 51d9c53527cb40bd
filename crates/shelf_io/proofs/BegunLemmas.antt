-- Which names are begun after a change of the list.
use Rattle.std.proofs.Common.{◌≡◌, ◌⊎◌, ◌+◌, ◌<◌, ◌≤◌, ℕ, zero, suc, inl, inr, Bool, true, false, cond, List, [], ◌∷◌, ◌++◌, map, remove, take, drop, get_or, length, refl, sym, subst, ap, ◌∙◌}
use Rattle.std.proofs.Math.ListN.{drop_of_length-le}
use Rattle.std.proofs.lemmas.List.{drop_more, take_at}
use Rattle.std.proofs.lemmas.Slice.Eq.{bytes_eq-Decides}
use Rattle.std.specs.List.{items_where_true}
use Rattle.std.specs.Str.{bytes_eq}
use Rattle.shelf_io.specs.Shelf.{BeginsAmong, IsNameAmong, NoneBegun, is_named}

same_or : (n : List ℕ) (old names : List (List ℕ)) → IsNameAmong n old ⊎ IsNameAmong n [] → IsNameAmong n old ⊎ IsNameAmong n names
same_or n old names (inl h) = inl h
same_or n old names (inr h) = absurd h

then_or : (n : List ℕ) (old mid names : List (List ℕ)) → BeginsAmong old mid names → IsNameAmong n mid ⊎ IsNameAmong n names → IsNameAmong n old ⊎ IsNameAmong n names
then_or n old mid names p (inl h) = p.each n h
then_or n old mid names p (inr h) = inr h

pub among_same : (old new names : List (List ℕ)) → new ≡ old → BeginsAmong old new names
among_same old new names e = record { each = λ n h. inl (subst (IsNameAmong n) e h) }

-- where nothing is begun, any names may be
pub among_any : (old new names : List (List ℕ)) → BeginsAmong old new [] → BeginsAmong old new names
among_any old new names p = record { each = λ n h. same_or n old names (p.each n h) }

-- two changes
pub among_then : (old mid new names : List (List ℕ)) → BeginsAmong old mid names → BeginsAmong mid new names → BeginsAmong old new names
among_then old mid new names p q = record { each = λ n h. then_or n old mid names p (q.each n h) }

-- ---- of a list whose elements have names

module _ {X : Type 0} (name_of : X → List ℕ) where
  removed : (xs : List X) (i : ℕ) (n : List ℕ) → IsNameAmong n (map name_of (remove xs i)) → IsNameAmong n (map name_of xs)
  removed [] zero n h = absurd h
  removed [] (suc i) n h = absurd h
  removed (x ∷ xs) zero n h = inr h
  removed (x ∷ xs) (suc i) n (inl e) = inl e
  removed (x ∷ xs) (suc i) n (inr h) = inr (removed xs i n h)

  pub among_removed : (xs ys : List X) (i : ℕ) → ys ≡ remove xs i → BeginsAmong (map name_of xs) (map name_of ys) []
  among_removed xs ys i e = record { each = λ n h. inl (removed xs i n (subst (λ (zs : List X). IsNameAmong n (map name_of zs)) e h)) }

  retained : (bs : List Bool) (xs : List X) (n : List ℕ) → IsNameAmong n (map name_of (items_where_true bs xs)) → IsNameAmong n (map name_of xs)
  retained [] xs n h = absurd h
  retained (b ∷ bs) [] n h = absurd h
  retained (true ∷ bs) (x ∷ xs) n (inl e) = inl e
  retained (true ∷ bs) (x ∷ xs) n (inr h) = inr (retained bs xs n h)
  retained (false ∷ bs) (x ∷ xs) n h = inr (retained bs xs n h)

  pub among_retained : (xs ys : List X) (bs : List Bool) → ys ≡ items_where_true bs xs → BeginsAmong (map name_of xs) (map name_of ys) []
  among_retained xs ys bs e = record { each = λ n h. inl (retained bs xs n (subst (λ (zs : List X). IsNameAmong n (map name_of zs)) e h)) }

  behind : (x : X) (xs : List X) (names : List (List ℕ)) (n : List ℕ) → IsNameAmong n (map name_of xs) ⊎ IsNameAmong n names → IsNameAmong n (map name_of (x ∷ xs)) ⊎ IsNameAmong n names
  behind x xs names n (inl h) = inl (inr h)
  behind x xs names n (inr h) = inr h

  pushed : (xs : List X) (y : X) (n : List ℕ) → IsNameAmong n (map name_of (xs ++ y ∷ [])) → IsNameAmong n (map name_of xs) ⊎ IsNameAmong n (name_of y ∷ [])
  pushed [] y n h = inr h
  pushed (x ∷ xs) y n (inl e) = inl (inl e)
  pushed (x ∷ xs) y n (inr h) = behind x xs (name_of y ∷ []) n (pushed xs y n h)

  pub among_pushed : (xs ys : List X) (y : X) (name : List ℕ) → ys ≡ xs ++ y ∷ [] → name_of y ≡ name → BeginsAmong (map name_of xs) (map name_of ys) (name ∷ [])
  among_pushed xs ys y name e is = record { each = λ n h. subst (λ (m : List ℕ). IsNameAmong n (map name_of xs) ⊎ IsNameAmong n (m ∷ [])) is (pushed xs y n (subst (λ (zs : List X). IsNameAmong n (map name_of zs)) e h)) }

  unnamed : (xs : List X) (q : List ℕ) → is_named name_of xs q ≡ false → IsNameAmong q (map name_of xs) → ⊥
  unnamed [] q e h = h
  unnamed (x ∷ xs) q e (inl p) =
      let t : bytes_eq (name_of x) q ≡ true = (bytes_eq-Decides (name_of x) q).1 p in
      elim (bytes_eq (name_of x) q) as (λ b. bytes_eq (name_of x) q ≡ b → cond b true (is_named name_of xs q) ≡ false → ⊥) [ true ↦ λ b f. absurd cc | false ↦ λ b f. absurd cc ] refl e
  unnamed (x ∷ xs) q e (inr h) =
      elim (bytes_eq (name_of x) q) as (λ b. cond b true (is_named name_of xs q) ≡ false → ⊥) [ true ↦ λ f. absurd cc | false ↦ λ f. unnamed xs q f h ] e

  none_is : (xs : List X) (q : List ℕ) → is_named name_of xs q ≡ false → (n : List ℕ) → IsNameAmong n (map name_of xs) → IsNameAmong n (q ∷ []) → ⊥
  none_is xs q e n h (inl r) = unnamed xs q e (subst (λ (k : List ℕ). IsNameAmong k (map name_of xs)) (sym r) h)
  none_is xs q e n h (inr r) = r

  pub none_named : (xs : List X) (q : List ℕ) → is_named name_of xs q ≡ false → NoneBegun (map name_of xs) (q ∷ [])
  none_named xs q e = record { none = none_is xs q e }

  -- whether a name is among those from a place on, by the first of them
  pub named_from : (xs : List X) (q : List ℕ) (i : ℕ) (x : X) (b : Bool) → i < length xs → x ≡ get_or xs i x → bytes_eq (name_of x) q ≡ b → is_named name_of (drop i xs) q ≡ cond b true (is_named name_of (drop (i + 1) xs) q)
  named_from xs q i x b h e t = rw (drop_more xs i x h, ← e, t) refl

  pub named_past : (xs : List X) (q : List ℕ) (i : ℕ) → length xs ≤ i → is_named name_of (drop i xs) q ≡ false
  named_past xs q i h = rw (drop_of_length-le xs h) refl

  -- the names of a list of which all is lent, and comes back with the same names
  pub names_back : (old lent new : List X) (n : ℕ) → lent ≡ old → length lent ≡ n → length new ≡ length lent → map name_of new ≡ map name_of lent → map name_of (take n (new ++ drop (length new) old)) ≡ map name_of old
  names_back old lent new n v f e h =
      ap (λ (xs : List X). map name_of xs) (take_at new (drop (length new) old) n (e ∙ f)) ∙ h ∙ ap (λ (xs : List X). map name_of xs) v
