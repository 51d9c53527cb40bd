-- Choices of the ends of pairs.
use Rattle.std.proofs.Common.{◌≡◌, ℕ, zero, suc, ◌+◌, ◌<◌, ◌≤◌, List, [], ◌∷◌, length, get_or, Bool, true, false, refl, sym, ap, ◌∙◌, arith, ◌⊎◌, inl, inr, subst, All, Contains, ℤ, Some}
use Rattle.std.specs.Prelude.{nat_lt, if◌then◌else◌, map, slice_get, slice_index, IsSome, filter_map}
use Rattle.std.specs.List.{AllByRecursion}
use Rattle.std.specs.List.Sorted.{IsStrictlyIncreasing}
use Rattle.std.proofs.lemmas.List.Elements.{All-contains, All-from_recursion, All-contains_itself}
use Rattle.std.proofs.lemmas.Option.{slice_get-get_or, slice_get_within}
use Rattle.sight_names.specs.declared.limits.TheConstants.{RIGHT_END}
use Rattle.sight_names.specs.declared.names.EndAt.{EndAt}
use Rattle.sight_names.specs.declared.names.EndPair.{EndPair}
use Rattle.sight_names.specs.Splitting.{EndPoints, IsEndPairOf, AreBalanced, end_of}
use Rattle.block_evidence.specs.declared.Evidence.{Evidence}
use Rattle.block_evidence.specs.Stuck.{left_ends, right_ends, AreStuck, AreCoded, IsEndOfPairs, IsEvidenceOf, BlocksEnds}
use Rattle.block_evidence.specs.Parted.{PartsEnds, AreEndsParted}
use Rattle.block_evidence.specs.Picked.{IsOneOfEnds, inserted, CodesAscend, left_out, IsChoice, Gathers, Shortens, NamesEnds}
use Rattle.block_evidence.proofs.Means.{In, lefts, rights, balanced_meet}
use Rattle.block_evidence.proofs.Ordered.{all_at, all_of, inserted_all, inserted_ascends, inserted_old, inserted_new, left_out_in, left_out_ascends, AreEnds, same_end, left_in, right_in, two_at_least, all_found, each_some}
use Rattle.math_base.proofs.Numbers.{next_is, below_or_at}
use Rattle.math_base.proofs.Options.{some_is_same}

many_by : (e d : EndAt) (ds es : List EndAt) (b c : Bool) → length es ≤ suc (length ds) → length (if b then d ∷ es else if c then e ∷ d ∷ ds else d ∷ ds) ≤ suc (suc (length ds))
many_by e d ds es true c h = omega (arith, h)
many_by e d ds es false true h = omega arith
many_by e d ds es false false h = omega arith

pub inserted_many : (e : EndAt) (ds : List EndAt) → length (inserted e ds) ≤ suc (length ds)
inserted_many e [] = omega arith
inserted_many e (d ∷ ds) = many_by e d ds (inserted e ds) (nat_lt d.code e.code) (nat_lt e.code d.code) (inserted_many e ds)

pub left_out_many : (i : ℕ) (ds : List EndAt) → i < length ds → suc (length (left_out i ds)) ≡ length ds
left_out_many i [] h = absurd (omega (arith, h))
left_out_many zero (d ∷ ds) h = refl
left_out_many (suc i) (d ∷ ds) h = ap suc (left_out_many i ds (omega (arith, h)))

-- ---- the ends of pairs

found_new : (pairs : List EndPair) → AreCoded pairs → (e : EndAt) → IsEndOfPairs pairs e → (ds : List EndAt) → AreEnds pairs ds → IsOneOfEnds e (inserted e ds)
found_new pairs c e h ds k = inserted_new e ds (λ d i n. same_end pairs c d e (all_at (IsEndOfPairs pairs) d ds k i) h n)

both_many : (e d : EndAt) (ds : List EndAt) (k : ℕ) → length ds ≤ k + k → length (inserted d (inserted e ds)) ≤ suc k + suc k
both_many e d ds k h = let a = inserted_many e ds in let b = inserted_many d (inserted e ds) in omega (arith, a, b, h)

pub gathers_more : (pairs : List EndPair) (ends : List EndAt) (k : ℕ) (p : EndPair) → AreCoded pairs → slice_get pairs k ≡ Some p → Contains pairs p → Gathers pairs k ends → Gathers pairs (suc k) (inserted p.right (inserted p.left ends))
gathers_more pairs ends k p c s i g =
    let left : IsEndOfPairs pairs p.left = (p, i, inl refl) in
    let right : IsEndOfPairs pairs p.right = (p, i, inr refl) in
    let first : AreEnds pairs (inserted p.left ends) = inserted_all (IsEndOfPairs pairs) p.left ends left g.from_pairs in
    record {
      ascends = inserted_ascends p.right (inserted p.left ends) (inserted_ascends p.left ends g.ascends);
      from_pairs = inserted_all (IsEndOfPairs pairs) p.right (inserted p.left ends) right first;
      many = both_many p.left p.right ends k g.many;
      has = λ j h q s'. has_by j q s' (cases j h);
    }
  where
    cases : (j : ℕ) → j < suc k → (j < k) ⊎ (j ≡ k)
    cases j h = elim (below_or_at j k h) as (λ _. (j < k) ⊎ (j ≡ k)) [ inl n ↦ inl n | inr n ↦ inr n ]

    has_by : (j : ℕ) (q : EndPair) → slice_get pairs j ≡ Some q → (j < k) ⊎ (j ≡ k) → IsOneOfEnds q.left (inserted p.right (inserted p.left ends)) × IsOneOfEnds q.right (inserted p.right (inserted p.left ends))
    has_by j q e (inl n) = (inserted_old q.left p.right (inserted p.left ends) (inserted_old q.left p.left ends (g.has j n q e).0), inserted_old q.right p.right (inserted p.left ends) (inserted_old q.right p.left ends (g.has j n q e).1))
    has_by j q e (inr n) = subst (λ (v : EndPair). IsOneOfEnds v.left (inserted p.right (inserted p.left ends)) × IsOneOfEnds v.right (inserted p.right (inserted p.left ends)))
        (some_is_same p q (sym s ∙ ap (slice_get pairs) (sym n) ∙ e)) (
          inserted_old p.left p.right (inserted p.left ends) (found_new pairs c p.left (p, i, inl refl) ends g.from_pairs),
          found_new pairs c p.right (p, i, inr refl) (inserted p.left ends) (inserted_all (IsEndOfPairs pairs) p.left ends (p, i, inl refl) g.from_pairs),
        )

lefts_in : (ps : List EndPair) (ends : List EndAt) → ((j : ℕ) (p : EndPair) → slice_get ps j ≡ Some p → In p.left.at (left_ends ends)) → AllByRecursion (λ p. In p (left_ends ends)) (lefts ps)
lefts_in [] ends h = tt
lefts_in (p ∷ ps) ends h = (h 0 p refl, lefts_in ps ends (λ j q s. h (suc j) q s))

rights_in : (ps : List EndPair) (ends : List EndAt) → ((j : ℕ) (p : EndPair) → slice_get ps j ≡ Some p → In p.right.at (right_ends ends)) → AllByRecursion (λ p. In p (right_ends ends)) (rights ps)
rights_in [] ends h = tt
rights_in (p ∷ ps) ends h = (h 0 p refl, rights_in ps ends (λ j q s. h (suc j) q s))

at_place : (P : EndPair → Type 0) (ps : List EndPair) (j : ℕ) (p : EndPair) → All P ps → slice_get ps j ≡ Some p → P p
at_place P ps j p h s = subst P (some_is_same (get_or ps j p) p (sym (slice_get-get_or ps j p (slice_get_within ps j p s)) ∙ s)) (h j p (slice_get_within ps j p s))

pub choice_gathered : (pairs : List EndPair) (ends : List EndAt) (k : ℕ) → k ≡ length pairs → AreCoded pairs → AreBalanced pairs → Gathers pairs k ends → IsChoice pairs ends
choice_gathered pairs ends k n c b g = record {
  ascends = g.ascends;
  from_pairs = g.from_pairs;
  stuck = balanced_meet (left_ends ends) (right_ends ends) pairs b
      (lefts_in pairs ends (λ j p s. left_in p.left ends (at_place (λ (v : EndPair). v.left.code < RIGHT_END) pairs j p c.lefts s) (g.has j (within j p s) p s).0))
      (rights_in pairs ends (λ j p s. right_in p.right ends (at_place (λ (v : EndPair). RIGHT_END ≤ v.right.code) pairs j p c.rights s) (g.has j (within j p s) p s).1));
}
  where
    within : (j : ℕ) (p : EndPair) → slice_get pairs j ≡ Some p → j < k
    within j p s = let h = slice_get_within pairs j p s in omega (arith, h, n)

pub choice_shortened : (pairs : List EndPair) (old new : List EndAt) → IsChoice pairs old → Shortens old new → IsChoice pairs new
choice_shortened pairs old new c s = subst (IsChoice pairs) (sym s.is) (record {
  ascends = left_out_ascends s.place old c.ascends;
  from_pairs = all_of (IsEndOfPairs pairs) (left_out s.place old) (λ e i. all_at (IsEndOfPairs pairs) e old c.from_pairs (left_out_in s.place old e i));
  stuck = subst AreStuck s.is s.stuck;
})

pub shorter : (old new : List EndAt) → Shortens old new → suc (length new) ≡ length old
shorter old new s = ap (λ (ds : List EndAt). suc (length ds)) s.is ∙ left_out_many s.place old s.within

-- ---- evidence
abbrev codes : List EndAt → List ℕ
codes ends = map (λ (d : EndAt). d.code) ends

rises : (ends : List EndAt) → CodesAscend ends → (k : ℕ) → suc k < length (codes ends) → slice_index (codes ends) k < slice_index (codes ends) (suc k)
rises [] h k n = absurd (omega (arith, n))
rises (e ∷ []) h k n = absurd (omega (arith, n))
rises (e ∷ d ∷ ds) h zero n = h.0.0
rises (e ∷ d ∷ ds) h (suc k) n = rises (d ∷ ds) h.1 k (omega (arith, n))

increasing : (ends : List EndAt) → CodesAscend ends → IsStrictlyIncreasing (codes ends)
increasing ends h k n = subst (λ (m : ℕ). slice_index (codes ends) k < slice_index (codes ends) m) (next_is k) (rises ends h k (omega (arith, n)))

pub choice_evidence : (pairs : List EndPair) (ends : List EndAt) (e : Evidence) → IsChoice pairs ends → length ends ≤ 4 → NamesEnds ends e → IsEvidenceOf pairs e
choice_evidence pairs ends e c n m = record {
  two = (let h = two_at_least ends c.stuck in let k = m.count in omega (arith, h, k));
  four = (let k = m.count in omega (arith, n, k));
  ascending = subst IsStrictlyIncreasing (sym m.codes) (increasing ends c.ascends);
  unused = m.unused;
  ends = ends;
  coded = sym m.codes;
  from_pairs = All-from_recursion (IsEndOfPairs pairs) ends c.from_pairs;
  stuck = c.stuck;
}

pub choice_blocks : (pairs : List EndPair) (ends : List EndAt) (e : Evidence) → IsChoice pairs ends → NamesEnds ends e → (es : List EndPoints) → All (IsEndPairOf es) pairs → BlocksEnds es e
choice_blocks pairs ends e c m es h = record {
  ends = subst (AllByRecursion (λ (code : ℕ). IsSome (end_of es code))) (sym m.codes) (each_some es pairs found ends c.from_pairs);
  stuck = subst AreStuck (sym (ap (filter_map (end_of es)) m.codes ∙ all_found es pairs found ends c.from_pairs)) c.stuck;
}
  where
    found : (p : EndPair) → Contains pairs p → IsEndPairOf es p
    found p i = All-contains (IsEndPairOf es) pairs p h i

-- ---- the code's lists
pub gathers_step : (pairs : List EndPair) (few a f b g : List EndAt) (k : ℕ) (d : EndPair) → AreCoded pairs → k < length pairs → Gathers pairs k few → a ≡ few → f ≡ inserted (get_or pairs k d).left a → b ≡ f → g ≡ inserted (get_or pairs k d).right b → Gathers pairs (k + 1) g
gathers_step pairs few a f b g k d c n h p q r s = subst (λ (j : ℕ). Gathers pairs j g) (next_is k) (subst (Gathers pairs (suc k)) (sym (s ∙ ap (inserted (get_or pairs k d).right) (r ∙ q ∙ ap (inserted (get_or pairs k d).left) p)))
    (gathers_more pairs few k (get_or pairs k d) c (slice_get-get_or pairs k d n) (All-contains_itself pairs k d n) h))

pub parted_is : (xs ys : List EndAt) (a b c : ℤ) → xs ≡ ys → PartsEnds xs a b c → AreEndsParted ys
parted_is xs ys a b c e h = (a, b, c, subst (λ (ds : List EndAt). PartsEnds ds a b c) e h)

pub shortens_is : (ends xs out : List EndAt) (i : ℕ) → i < length ends → out ≡ left_out i ends → xs ≡ out → AreStuck xs → Shortens ends out
shortens_is ends xs out i n e f s = record { place = i; within = n; is = e; stuck = subst AreStuck f s }
