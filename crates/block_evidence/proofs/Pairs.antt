-- Steps of the cone of a list of ends.
use Rattle.std.proofs.Common.{◌≡◌, ℕ, suc, ◌<◌, ◌≤◌, List, [], ◌∷◌, length, Option, Some, None, get_or, refl, sym, ap, ◌∙◌, arith, ◌⊎◌, inl, inr, subst, ℤ, pos, negsuc, ◌+ℤ◌, ◌-ℤ◌, ◌*ℤ◌}
use Rattle.std.specs.Prelude.{slice_get, MatchOption}
use Rattle.std.proofs.lemmas.Int.{ints}
use Rattle.std.proofs.lemmas.Option.{slice_get_read, slice_get_within}
use Rattle.sight_names.specs.declared.limits.TheConstants.{RIGHT_END}
use Rattle.sight_names.specs.declared.names.Pt.{Pt}
use Rattle.sight_names.specs.declared.names.EndAt.{EndAt}
use Rattle.sight_names.specs.declared.names.EndPair.{EndPair}
use Rattle.sight_names.specs.Splitting.{AreBalanced}
use Rattle.geom_exact.specs.declared.extreme_lines.extreme.Extreme.{Extreme}
use Rattle.geom_exact.specs.declared.extreme_lines.cone.Cone.{Cone}
use Rattle.geom_exact.specs.declared.extreme_lines.cone.Cone.TheVariants.{Ray}
use Rattle.geom_exact.specs.ExtremeLines.Differences.{difference}
use Rattle.geom_exact.specs.ExtremeLines.Spans.{Spans, first_extreme, second_of, end_pair_of, IsWidened, IsCutOf, three_pairs}
use Rattle.block_evidence.specs.Stuck.{left_ends, right_ends, AreStuck}
use Rattle.block_evidence.specs.Parted.{PartsEnd, PartsEnds}
use Rattle.block_evidence.specs.Pairs.{IsLeftIn, IsRightIn, IsConeIn, Keeps, HasAt, HasAllAt}
use Rattle.block_evidence.proofs.Means.{In, in_lefts, in_rights, balanced_meet}
use Rattle.math_base.proofs.Options.{some_is_same}

in_left : (ends : List EndAt) (e : EndAt) → IsLeftIn ends e → In e.at (left_ends ends)
in_left ends e h = in_lefts ends h.place e h.code h.is

in_right : (ends : List EndAt) (e : EndAt) → IsRightIn ends e → In e.at (right_ends ends)
in_right ends e h = in_rights ends h.place e h.code h.is

-- a pair that meets the extreme ones
pub meeting : (ends : List EndAt) (c : Cone) (l r : EndAt) → IsConeIn ends c → IsLeftIn ends l → IsRightIn ends r → AreBalanced (three_pairs c l r) → AreStuck ends
meeting ends c l r h i j b = balanced_meet (left_ends ends) (right_ends ends) (three_pairs c l r) b
    (in_left ends (first_extreme c).left h.first_left, (in_left ends (second_of c).left h.second_left, (in_left ends l i, tt)))
    (in_right ends (first_extreme c).right h.first_right, (in_right ends (second_of c).right h.second_right, (in_right ends r j, tt)))

choose_left : (ends : List EndAt) (old new made : EndPair) → (new ≡ old) ⊎ (new ≡ made) → IsLeftIn ends old.left → IsLeftIn ends made.left → IsLeftIn ends new.left
choose_left ends old new made (inl e) h k = subst (λ (p : EndPair). IsLeftIn ends p.left) (sym e) h
choose_left ends old new made (inr e) h k = subst (λ (p : EndPair). IsLeftIn ends p.left) (sym e) k

choose_right : (ends : List EndAt) (old new made : EndPair) → (new ≡ old) ⊎ (new ≡ made) → IsRightIn ends old.right → IsRightIn ends made.right → IsRightIn ends new.right
choose_right ends old new made (inl e) h k = subst (λ (p : EndPair). IsRightIn ends p.right) (sym e) h
choose_right ends old new made (inr e) h k = subst (λ (p : EndPair). IsRightIn ends p.right) (sym e) k

cone_widened : (ends : List EndAt) (c d : Cone) (l r : EndAt) → IsConeIn ends c → IsLeftIn ends l → IsRightIn ends r → IsWidened c l r d → IsConeIn ends d
cone_widened ends c d l r h i j w = record {
  first_left = choose_left ends (end_pair_of (first_extreme c)) (end_pair_of (first_extreme d)) (record { left = l; right = r }) w.first h.first_left i;
  first_right = choose_right ends (end_pair_of (first_extreme c)) (end_pair_of (first_extreme d)) (record { left = l; right = r }) w.first h.first_right j;
  second_left = choose_left ends (end_pair_of (second_of c)) (end_pair_of (second_of d)) (record { left = l; right = r }) w.second h.second_left i;
  second_right = choose_right ends (end_pair_of (second_of c)) (end_pair_of (second_of d)) (record { left = l; right = r }) w.second h.second_right j;
}

pub end_result : (ends : List EndAt) (c : Cone) (l r : EndAt) (j : ℕ) (o : Option Cone) → IsConeIn ends c → IsLeftIn ends l → IsRightIn ends r → slice_get ends j ≡ Some r
    → MatchOption o (AreBalanced (three_pairs c l r)) (λ d. IsWidened c l r d) → MatchOption o (AreStuck ends) (λ d. IsConeIn ends d × Keeps c d × HasAt ends l j d)
end_result ends c l r j None h i k e w = meeting ends c l r h i k w
end_result ends c l r j (Some d) h i k e w = (cone_widened ends c d l r h i k w, w.keeps, λ e' g n. subst (λ (u : EndAt). Spans d (difference l.at u.at)) (some_is_same r e' (sym e ∙ g)) w.has)

-- the end at a place
pub end_at_place : (ends : List EndAt) (k : ℕ) (e : EndAt) → k < length ends → e ≡ get_or ends k e → slice_get ends k ≡ Some e
end_at_place ends k e h is = slice_get_read ends (length ends) k e refl h is

-- ---- the line of a whole cone
each_parted : (a b c : ℤ) (ends : List EndAt) → ((k : ℕ) (e : EndAt) → slice_get ends k ≡ Some e → PartsEnd a b c e) → PartsEnds ends a b c
each_parted a b c [] h = tt
each_parted a b c (e ∷ ends) h = (h 0 e refl, each_parted a b c ends (λ k d g. h (suc k) d g))

pub whole_parted : (ends : List EndAt) (k : Cone) (a b c : ℤ) → IsConeIn ends k → ((i : ℕ) → i < length ends → HasAllAt ends i k) → IsCutOf k a b c → PartsEnds ends a b c
whole_parted ends k a b c h all cut = each_parted a b c ends (λ i e g. record {
  left = λ n. cut.left e.at (all i (slice_get_within ends i e g) e g n h.first_right.place (first_extreme k).right h.first_right.is h.first_right.code) (all i (slice_get_within ends i e g) e g n h.second_right.place (second_of k).right h.second_right.is h.second_right.code);
  right = λ n. cut.right e.at (at (first_extreme k).left h.first_left i e g n) (at (second_of k).left h.second_left i e g n);
})
  where
    at : (l : EndAt) → IsLeftIn ends l → (i : ℕ) (e : EndAt) → slice_get ends i ≡ Some e → RIGHT_END ≤ e.code → Spans k (difference l.at e.at)
    at l m i e g n = all m.place (slice_get_within ends m.place l m.is) l m.is m.code i e g n

pub whole_corner : (ends : List EndAt) (k : Cone) → IsConeIn ends k → ((i : ℕ) → i < length ends → HasAllAt ends i k) → Spans k (difference (second_of k).left.at (first_extreme k).right.at)
whole_corner ends k h all = all h.second_left.place (slice_get_within ends h.second_left.place (second_of k).left h.second_left.is) (second_of k).left h.second_left.is h.second_left.code h.first_right.place (first_extreme k).right h.first_right.is h.first_right.code

-- ---- without a left or without a right end
flat : (v : ℤ) (x y : ℤ) → pos 0 *ℤ x +ℤ pos 0 *ℤ y +ℤ v *ℤ pos 1 ≡ v
flat v x y = let a : pos 0 *ℤ x ≡ pos 0 = omega (arith, ints) in let b : pos 0 *ℤ y ≡ pos 0 = omega (arith, ints) in let c : v *ℤ pos 1 ≡ v = omega (arith, ints) in omega (arith, ints)

pub no_left : (ends : List EndAt) → ((k : ℕ) → k < length ends → (e : EndAt) → slice_get ends k ≡ Some e → RIGHT_END ≤ e.code) → PartsEnds ends (pos 0) (pos 0) (negsuc 0)
no_left ends h = each_parted (pos 0) (pos 0) (negsuc 0) ends (λ k e g. record {
  left = λ n. let m = h k (slice_get_within ends k e g) e g in absurd (omega (arith, n, m));
  right = λ n. let z = flat (negsuc 0) e.at.x e.at.y in omega (arith, ints);
})

pub no_right : (ends : List EndAt) → ((k : ℕ) → k < length ends → (e : EndAt) → slice_get ends k ≡ Some e → e.code < RIGHT_END) → PartsEnds ends (pos 0) (pos 0) (pos 1)
no_right ends h = each_parted (pos 0) (pos 0) (pos 1) ends (λ k e g. record {
  left = λ n. let z = flat (pos 1) e.at.x e.at.y in omega (arith, ints);
  right = λ n. let m = h k (slice_get_within ends k e g) e g in absurd (omega (arith, n, m));
})

-- one point that is a left and a right end
pub same_point : (ends : List EndAt) (l r : EndAt) → IsLeftIn ends l → IsRightIn ends r → l.at ≡ r.at → AreStuck ends
same_point ends l r i j e = balanced_meet (left_ends ends) (right_ends ends) (record { left = l; right = r } ∷ []) (record {
  weights = 1 ∷ [];
  one_each = refl;
  weighty = omega arith;
  x = zero (l.at.x) (r.at.x) (ap (λ (p : Pt). p.x) e);
  y = zero (l.at.y) (r.at.y) (ap (λ (p : Pt). p.y) e);
}) (in_left ends l i, tt) (in_right ends r j, tt)
  where
    zero : (a b : ℤ) → a ≡ b → pos 1 *ℤ (a -ℤ b) +ℤ pos 0 ≡ pos 0
    zero a b e = omega (arith, ints)

pub ray_in : (ends : List EndAt) (e : Extreme) (l r : EndAt) → e.left ≡ l → e.right ≡ r → IsLeftIn ends l → IsRightIn ends r → IsConeIn ends (Ray e)
ray_in ends e l r p q i j = record { first_left = subst (IsLeftIn ends) (sym p) i; first_right = subst (IsRightIn ends) (sym q) j; second_left = subst (IsLeftIn ends) (sym p) i; second_right = subst (IsRightIn ends) (sym q) j }

pub place_result : (ends : List EndAt) (c : Cone) (i : ℕ) (left : EndAt) (o : Option Cone) → slice_get ends i ≡ Some left → MatchOption o (AreStuck ends) (λ d. IsConeIn ends d × Keeps c d × ((j : ℕ) → j < length ends → HasAt ends left j d))
    → MatchOption o (AreStuck ends) (λ d. IsConeIn ends d × Keeps c d × HasAllAt ends i d)
place_result ends c i left None e h = h
place_result ends c i left (Some k) e h = (h.0, h.1, λ d g n j u m o. subst (λ (v : EndAt). Spans k (difference v.at u.at)) (some_is_same left d (sym e ∙ g)) (h.2 j (slice_get_within ends j u m) u m o))
