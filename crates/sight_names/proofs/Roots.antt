-- The sides of lines are listed by record number, those that are roots of a source among them.
use Rattle.std.proofs.Common.{◌≡◌, ℕ, zero, suc, ◌+◌, List, [], ◌∷◌, ◌++◌, slice_get, Option, Some, None, Bool, true, false, not, Contains, refl, sym, ap, ◌∙◌, option_and_then, zero-lt-suc, arith, ◌&&◌}
use Rattle.std.specs.List.{flat_map, enumerate_from}
use Rattle.std.proofs.lemmas.Bool.{true≢false}
use Rattle.std.proofs.lemmas.List.Elements.{Contains-append_right}
use Rattle.std.proofs.lemmas.Option.{none-some, same_Some}
use Rattle.math_base.proofs.Lists.{contains_there}
use Rattle.math_base.proofs.Numbers.{is_told_same, tells_same, tells_other}
use Rattle.sight_names.specs.declared.names.Side.{Side}
use Rattle.sight_names.specs.Map.{Map, MapLine, line_at, sector_on}
use Rattle.sight_names.specs.Sequence.{both_sides, is_root, names_it}

pub there_of : (o : Option (Option MapLine)) (l : MapLine) → option_and_then (λ (x : Option MapLine). x) o ≡ Some l → o ≡ Some (Some l)
there_of None l h = absurd (none-some l h)
there_of (Some o) l h = ap Some h

pub side_in : (n k : ℕ) (ls : List (Option MapLine)) (l : MapLine) (left : Bool) (i : ℕ) → slice_get ls k ≡ Some (Some l) → i ≡ n + k → Contains (flat_map both_sides (enumerate_from n ls)) (record { line = i; left = left })
side_in n k [] l left i h e = absurd (none-some (Some l) h)
side_in n zero (o ∷ ls) l left i h e = go o left h
  where
    same : n ≡ i
    same = omega arith

    go : (o : Option MapLine) (left : Bool) → ◌≡◌ {A = Option (Option MapLine)} (Some o) (Some (Some l)) → Contains (both_sides (n, o) ++ flat_map both_sides (enumerate_from (n + 1) ls)) (record { line = i; left = left })
    go None left h = absurd (no h)
      where
        no : ◌≡◌ {A = Option (Option MapLine)} (Some None) (Some (Some l)) → ⊥
        no h = cc
    go (Some q) false h = (zero, zero-lt-suc _, ap (λ (x : ℕ). let s : Side = record { line = x; left = false } in s) same)
    go (Some q) true h = contains_there (record { line = i; left = true }) (record { line = n; left = false }) (record { line = n; left = true } ∷ flat_map both_sides (enumerate_from (n + 1) ls)) (zero, zero-lt-suc _, ap (λ (x : ℕ). let s : Side = record { line = x; left = true } in s) same)
side_in n (suc k) (o ∷ ls) l left i h e = Contains-append_right (both_sides (n, o)) (flat_map both_sides (enumerate_from (n + 1) ls)) (record { line = i; left = left }) (side_in (n + 1) k ls l left i h (omega arith))

pub names_true : (o : Option ℕ) (a : ℕ) → names_it o a ≡ true → o ≡ Some a
names_true None a e = absurd (true≢false (sym e))
names_true (Some b) a e = ap (λ (x : ℕ). Some x) (is_told_same b a e)

pub is_named : (o : Option ℕ) (a : ℕ) → o ≡ Some a → names_it o a ≡ true
is_named None a e = absurd (none-some a e)
is_named (Some b) a e = tells_same b a (same_Some b a e)

pub not_named : (o : Option ℕ) (a b : ℕ) → o ≡ Some b → ¬ (b ≡ a) → names_it o a ≡ false
not_named None a b e n = refl
not_named (Some c) a b e n = tells_other c a (λ q. n (sym (same_Some c b e) ∙ q))

pub root_test : (m : Map) (a : ℕ) (s : Side) (l : MapLine) → line_at m s.line ≡ Some l → is_root m a s ≡ (not l.solid && names_it (sector_on l s.left) a && not (names_it (sector_on l (not s.left)) a))
root_test m a s l e = rw e refl
