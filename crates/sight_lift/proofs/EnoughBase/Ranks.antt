-- How many members with a property stand before a place, and what the lines of roots are.
use Rattle.std.proofs.Common.{◌≡◌, ℕ, zero, suc, ◌+◌, ◌<◌, ◌≤◌, arith, refl, sym, ap, ◌∙◌, inl, inr, List, [], ◌∷◌, length, filter, Bool, true, false, not, ◌&&◌, cond, Option, Some, None, slice_get, Contains}
use Rattle.std.proofs.lemmas.Bool.{true≢false}
use Rattle.std.proofs.lemmas.Option.{none-some, same_Some}
use Rattle.sight_names.specs.declared.names.Side.{Side}
use Rattle.sight_names.specs.Map.{Map, MapLine, line_at, sector_on}
use Rattle.sight_names.specs.Sequence.{roots, sides_of, is_root, names_it}
use Rattle.sight_names.proofs.Lists.{contains_cases}
use Rattle.sight_names.specs.Enough.{is_passable, passable_lines}
use Rattle.math_base.proofs.Bools.{second_true, first_true}
use Rattle.math_base.proofs.Lists.{contains_none}
use Rattle.sight_names.proofs.Roots.{there_of}

module _ {X : Type 0} (test : X → Bool) where
  abbrev pub rank : List X → ℕ → ℕ
  rank [] i = zero
  rank (x ∷ xs) zero = zero
  rank (x ∷ xs) (suc i) = cond (test x) 1 0 + rank xs i

  pub rank_below : (xs : List X) (i : ℕ) (y : X) → slice_get xs i ≡ Some y → test y ≡ true → rank xs i < length (filter test xs)
  rank_below [] i y e t = absurd (none-some y e)
  rank_below (x ∷ xs) zero y e t = go (test x) (ap test (same_Some x y e) ∙ t)
    where
      go : (b : Bool) → b ≡ true → 0 < length (cond b (x ∷ filter test xs) (filter test xs))
      go true h = omega arith
      go false h = absurd (true≢false (sym h))
  rank_below (x ∷ xs) (suc i) y e t = go (test x) (rank_below xs i y e t)
    where
      go : (b : Bool) → rank xs i < length (filter test xs) → cond b 1 0 + rank xs i < length (cond b (x ∷ filter test xs) (filter test xs))
      go true h = omega arith
      go false h = omega arith

  counts : (x : X) → test x ≡ true → (r : ℕ) → zero ≡ cond (test x) 1 0 + r → ⊥
  counts x t r e = go (test x) t e
    where
      go : (b : Bool) → b ≡ true → zero ≡ cond b 1 0 + r → ⊥
      go true h e = omega (arith, e)
      go false h e = true≢false (sym h)

  pub rank_tells : (xs : List X) (i j : ℕ) (y z : X) → slice_get xs i ≡ Some y → slice_get xs j ≡ Some z → test y ≡ true → test z ≡ true → rank xs i ≡ rank xs j → i ≡ j
  rank_tells [] i j y z e f t u r = absurd (none-some y e)
  rank_tells (x ∷ xs) zero zero y z e f t u r = refl
  rank_tells (x ∷ xs) zero (suc j) y z e f t u r = absurd (counts x (ap test (same_Some x y e) ∙ t) (rank xs j) r)
  rank_tells (x ∷ xs) (suc i) zero y z e f t u r = absurd (counts x (ap test (same_Some x z f) ∙ u) (rank xs i) (sym r))
  rank_tells (x ∷ xs) (suc i) (suc j) y z e f t u r = ap suc (rank_tells xs i j y z e f t u (cancel (cond (test x) 1 0) (rank xs i) (rank xs j) r))
    where
      cancel : (a b c : ℕ) → a + b ≡ a + c → b ≡ c
      cancel a b c e = omega (arith, e)

  pub test_of_filter : (xs : List X) (y : X) → Contains (filter test xs) y → test y ≡ true
  test_of_filter [] y c = absurd (contains_none y c)
  test_of_filter (x ∷ xs) y c = go (test x) refl (λ h. test_of_filter xs y h) c
    where
      go : (b : Bool) → test x ≡ b → (Contains (filter test xs) y → test y ≡ true) → Contains (cond b (x ∷ filter test xs) (filter test xs)) y → test y ≡ true
      go true e rest h = elim (contains_cases x y (filter test xs) h) as (λ _. test y ≡ true) [ inl q ↦ ap test (sym q) ∙ e | inr k ↦ rest k ]
      go false e rest h = rest h

  pub filter_short : (xs : List X) → length (filter test xs) ≤ length xs
  filter_short [] = omega arith
  filter_short (x ∷ xs) = go (test x) (filter_short xs)
    where
      go : (b : Bool) → length (filter test xs) ≤ length xs → length (cond b (x ∷ filter test xs) (filter test xs)) ≤ suc (length xs)
      go true h = omega arith
      go false h = omega arith

-- ---- the line of a root

pub record RootLine (m : Map) (a : ℕ) (s : Side) : Type 0 where
  pub line : MapLine
  pub there : line_at m s.line ≡ Some line
  pub passable : not line.solid ≡ true
  pub names : names_it (sector_on line s.left) a ≡ true
  pub not_beyond : not (names_it (sector_on line (not s.left)) a) ≡ true

root_line_of : (m : Map) (a : ℕ) (s : Side) → is_root m a s ≡ true → RootLine m a s
root_line_of m a s h = go (line_at m s.line) refl
  where
    go : (o : Option MapLine) → line_at m s.line ≡ o → RootLine m a s
    go None e = absurd (true≢false (sym h ∙ no e))
      where
        no : line_at m s.line ≡ None → is_root m a s ≡ false
        no e = rw e refl
    go (Some l) e = let t = sym (yes e) ∙ h in record {
      line = l;
      there = e;
      passable = first_true (not l.solid) (names_it (sector_on l s.left) a) (first_true (not l.solid && names_it (sector_on l s.left) a) (not (names_it (sector_on l (not s.left)) a)) t);
      names = second_true (not l.solid) (names_it (sector_on l s.left) a) (first_true (not l.solid && names_it (sector_on l s.left) a) (not (names_it (sector_on l (not s.left)) a)) t);
      not_beyond = second_true (not l.solid && names_it (sector_on l s.left) a) (not (names_it (sector_on l (not s.left)) a)) t;
    }
      where
        yes : line_at m s.line ≡ Some l → is_root m a s ≡ (not l.solid && names_it (sector_on l s.left) a && not (names_it (sector_on l (not s.left)) a))
        yes e = rw e refl

pub root_line : (m : Map) (a : ℕ) (s : Side) → Contains (roots m a) s → RootLine m a s
root_line m a s c = root_line_of m a s (test_of_filter (is_root m a) (sides_of m) s c)

-- a line has one root of a source at most
one_side : (l : MapLine) (a : ℕ) (x y : Bool) → names_it (sector_on l x) a ≡ true → not (names_it (sector_on l (not x)) a) ≡ true → names_it (sector_on l y) a ≡ true → not (names_it (sector_on l (not y)) a) ≡ true → x ≡ y
one_side l a false false e f g h = refl
one_side l a true true e f g h = refl
one_side l a false true e f g h = absurd (true≢false (sym f ∙ ap not g))
one_side l a true false e f g h = absurd (true≢false (sym f ∙ ap not g))

pub listed : (m : Map) (i : ℕ) (l : MapLine) → line_at m i ≡ Some l → slice_get m.lines i ≡ Some (Some l)
listed m i l e = there_of (slice_get m.lines i) l e

-- the number of passable lines before the root's
abbrev pub root_rank : Map → Side → ℕ
root_rank m s = rank is_passable m.lines s.line

pub root_rank_below : (m : Map) (a : ℕ) (s : Side) → RootLine m a s → root_rank m s < passable_lines m
root_rank_below m a s r = rank_below is_passable m.lines s.line (Some r.line) (listed m s.line r.line r.there) r.passable

pub one_root : (m : Map) (a : ℕ) (s t : Side) → RootLine m a s → RootLine m a t → root_rank m s ≡ root_rank m t → s ≡ t
one_root m a s t f g e =
    let i : s.line ≡ t.line = rank_tells is_passable m.lines s.line t.line (Some f.line) (Some g.line) (listed m s.line f.line f.there) (listed m t.line g.line g.there) f.passable g.passable e in
    let l : f.line ≡ g.line = same_Some f.line g.line (sym f.there ∙ ap (line_at m) i ∙ g.there) in
    let k : s.left ≡ t.left = one_side g.line a s.left t.left (ap (λ (x : MapLine). names_it (sector_on x s.left) a) (sym l) ∙ f.names) (ap (λ (x : MapLine). not (names_it (sector_on x (not s.left)) a)) (sym l) ∙ f.not_beyond) g.names g.not_beyond in
    λ d. record { line = i d; left = k d }
