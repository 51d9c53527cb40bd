-- Numbers of which something holds, one after the other; and the sectors that sides name.
use Rattle.std.proofs.Common.{◌≡◌, ℕ, ◌+◌, ◌<◌, inl, inr, ◌↔◌, List, [], ◌∷◌, ◌++◌, Bool, true, false, not, Option, Some, None, length, take, slice_index_or, option_and_then, Contains, refl, sym, subst, ◌∙◌, arith}
use Rattle.std.specs.Prelude.{IsTrue}
use Rattle.std.proofs.Math.Seq.{take-append_seam}
use Rattle.std.proofs.lemmas.Bool.{false≢true}
use Rattle.std.proofs.lemmas.Option.{none-some, slice_get_within}
use Rattle.math_base.proofs.Lists.{contains_none, contains_append, contains_left, contains_right, contains_one, contains_here, pushed_at}
use Rattle.math_base.proofs.Numbers.{below_or_last}
use Rattle.sight_names.specs.declared.names.Side.{Side}
use Rattle.sight_names.specs.Map.{Map, MapLine, Names, line_at, map_of, named, sector_on}
use Rattle.sight_names.specs.Order.{Ascends}
use Rattle.sight_names.specs.Plan.{PlanParts}
use Rattle.sight_names.proofs.Lists.{contains_of_get}
use Rattle.mesh_base.proofs.SightLaws.Plans.{line_below}
use Rattle.fault_report.specs.Slips.{AddsIf, AreJustNumbers, AreMarks, IsNamedBelow, IsNameless, MarksBoth}

-- ---- numbers of which something holds

pub just_none : (Q : ℕ → Type 0) → AreJustNumbers Q 0 []
just_none Q = record { each = λ k c. absurd (contains_none k c); all = λ k lt q. absurd (omega arith); ascend = λ i j x y lt a b. absurd (none-some x a) }

pub adds_so : (P Q : Type 0) (k : ℕ) (old new : List ℕ) → (P → Q) → (Q → P) → AddsIf P k old new → AddsIf Q k old new
adds_so P Q k old new f g (inl h) = inl (f h.0, h.1)
adds_so P Q k old new f g (inr h) = inr (λ q. h.0 (g q), h.1)

pub just_more : (Q : ℕ → Type 0) (n : ℕ) (old new : List ℕ) → AddsIf (Q n) n old new → AreJustNumbers Q n old → AreJustNumbers Q (n + 1) new
just_more Q n old new (inr f) h = subst (AreJustNumbers Q (n + 1)) (sym f.1) (record {
  each = λ k c. let w = h.each k c in (let lt = w.0 in omega arith, w.1);
  all = λ k lt q. elim (below_or_last k n lt) as (λ _. Contains old k) [ inl below ↦ h.all k below q | inr same ↦ absurd (f.0 (subst Q same q)) ];
  ascend = h.ascend;
})
just_more Q n old new (inl f) h = subst (AreJustNumbers Q (n + 1)) (sym f.1) (record {
  each = λ k c. elim (contains_append k old (n ∷ []) c) as (λ _. (k < n + 1) × Q k) [
    | inl before ↦ let w = h.each k before in (let lt = w.0 in omega arith, w.1)
    | inr last ↦ subst (λ (x : ℕ). (x < n + 1) × Q x) (contains_one k n last) (omega arith, f.0)
  ];
  all = λ k lt q. elim (below_or_last k n lt) as (λ _. Contains (old ++ n ∷ []) k) [
    | inl below ↦ contains_left k old (n ∷ []) (h.all k below q)
    | inr same ↦ contains_right k old (n ∷ []) (subst (Contains (n ∷ [])) (sym same) (contains_here n []))
  ];
  ascend = up;
})
  where
    up : Ascends (λ x y. x < y) (old ++ n ∷ [])
    up i j x y lt a b = elim (pushed_at old n y j b) as (λ _. x < y) [
      | inl there ↦ elim (pushed_at old n x i a) as (λ _. x < y) [
        | inl here ↦ h.ascend i j x y lt here there
        | inr last ↦ absurd (let w = slice_get_within old j y there in let s = last.0 in omega arith)
      ]
      | inr last ↦ elim (pushed_at old n x i a) as (λ _. x < y) [
        | inl here ↦ subst (λ (z : ℕ). x < z) last.1 (h.each x (contains_of_get old x i here)).0
        | inr both ↦ absurd (let s = last.0 in let t = both.0 in omega arith)
      ]
    ]

-- ---- sectors that sides name

pub marks_more : (m : Map) (n : ℕ) (old new : List Bool) → MarksBoth m n old new → AreMarks m n old → AreMarks m (n + 1) new
marks_more m n old new b h = record {
  len = b.left.len ∙ b.right.len ∙ h.len;
  each = λ a lt. (from a lt, to a lt);
}
  where
    side_of : ℕ → Bool → Side
    side_of k left = record { line = k; left = left }

    in_middle : (a : ℕ) → a < m.sectors → a < length b.middle
    in_middle a lt = let e = b.right.len in let f = h.len in omega arith

    in_old : (a : ℕ) → a < m.sectors → a < length old
    in_old a lt = let f = h.len in omega arith

    here : (a : ℕ) (left : Bool) → named m (side_of n left) ≡ Some a → IsNamedBelow m (n + 1) a
    here a left e = record { side = side_of n left; below = omega arith; names = e }

    from : (a : ℕ) → a < m.sectors → slice_index_or new a false ≡ true → IsNamedBelow m (n + 1) a
    from a lt e = elim ((b.left.each a (in_middle a lt)).0 e) as (λ _. IsNamedBelow m (n + 1) a) [
      | inl left ↦ here a true left
      | inr middle ↦ elim ((b.right.each a (in_old a lt)).0 middle) as (λ _. IsNamedBelow m (n + 1) a) [
        | inl right ↦ here a false right
        | inr before ↦ let w = (h.each a lt).0 before in record { side = w.side; below = let l = w.below in omega arith; names = w.names }
      ]
    ]

    of_middle : (a : ℕ) → a < m.sectors → slice_index_or b.middle a false ≡ true → slice_index_or new a false ≡ true
    of_middle a lt e = (b.left.each a (in_middle a lt)).1 (inr e)

    at_last : (a k : ℕ) (left : Bool) → a < m.sectors → k ≡ n → named m (side_of k left) ≡ Some a → slice_index_or new a false ≡ true
    at_last a k true lt same e = (b.left.each a (in_middle a lt)).1 (inl (subst (λ (x : ℕ). named m (side_of x true) ≡ Some a) same e))
    at_last a k false lt same e = of_middle a lt ((b.right.each a (in_old a lt)).1 (inl (subst (λ (x : ℕ). named m (side_of x false) ≡ Some a) same e)))

    to : (a : ℕ) → a < m.sectors → IsNamedBelow m (n + 1) a → slice_index_or new a false ≡ true
    to a lt w = elim (below_or_last w.side.line n w.below) as (λ _. slice_index_or new a false ≡ true) [
      | inl below ↦ of_middle a lt ((b.right.each a (in_old a lt)).1 (inr ((h.each a lt).1 (record { side = w.side; below = below; names = w.names }))))
      | inr same ↦ at_last a w.side.line w.side.left lt same w.names
    ]

-- a side that names a sector is one of the plan's
line_of_side : (p : PlanParts) (s : Side) (a : ℕ) → Names (map_of p) s a → (l : MapLine) × (line_at (map_of p) s.line ≡ Some l)
line_of_side p s a names = go (line_at (map_of p) s.line) refl names
  where
    go : (o : Option MapLine) → line_at (map_of p) s.line ≡ o → option_and_then (λ l. sector_on l s.left) o ≡ Some a → (l : MapLine) × (line_at (map_of p) s.line ≡ Some l)
    go None e f = absurd (none-some a f)
    go (Some l) e f = (l, e)

pub marks_none : (m : Map) (marks : List Bool) → length marks ≡ m.sectors → ((a : ℕ) → a < m.sectors → slice_index_or marks a false ≡ false) → AreMarks m 0 marks
marks_none m marks len clear = record { len = len; each = λ a lt. (λ e. absurd (false≢true (sym (clear a lt) ∙ e)), λ w. absurd (let l = w.below in omega arith)) }

-- just the sectors that aren't marked are named by no side
pub unmarked : (p : PlanParts) (marks : List Bool) (a : ℕ) → AreMarks (map_of p) (length p.lines) marks → a < p.sectors → (b : Bool) → slice_index_or marks a false ≡ b → IsTrue (not b) ↔ IsNameless (map_of p) a
unmarked p marks a h lt false e = (λ _ s names. let l = line_of_side p s a names in false≢true (sym e ∙ (h.each a lt).1 (record { side = s; below = line_below p s.line l.0 l.1; names = names })), λ _. refl)
unmarked p marks a h lt true e = (λ f. absurd (false≢true f), λ none. absurd (let w = (h.each a lt).0 e in none w.side w.names))

pub just_at : (Q : ℕ → Type 0) (n k : ℕ) (ks : List ℕ) → n ≡ k → AreJustNumbers Q n ks → AreJustNumbers Q k ks
just_at Q n k ks e h = subst (λ (x : ℕ). AreJustNumbers Q x ks) e h

pub marks_at : (m : Map) (n k : ℕ) (marks : List Bool) → n ≡ k → AreMarks m n marks → AreMarks m k marks
marks_at m n k marks e h = subst (λ (x : ℕ). AreMarks m x marks) e h

pub put_back : (new rest : List Bool) (n : ℕ) → length new ≡ n → take n (new ++ rest) ≡ new
put_back new rest n e = subst (λ (k : ℕ). take k (new ++ rest) ≡ new) e (take-append_seam new rest)
