-- What one more end does to the cone of other ends.
use Rattle.std.proofs.Common.{◌≡◌, ℕ, zero, suc, ◌+◌, ◌-◌, ◌<◌, ◌≤◌, List, [], ◌∷◌, ◌++◌, length, Option, Some, None, Result, Ok, Err, refl, sym, ap, arith, ◌∙◌, ◌⊎◌, inl, inr, subst, subst₂, All, get_or, below_more}
use Rattle.std.specs.Prelude.{slice_get, MatchOption, IfOk}
use Rattle.std.proofs.lemmas.Option.{slice_get-get_or, slice_get_within}
use Rattle.std.proofs.lemmas.List.Elements.{All-nil, All-cons}
use Rattle.sight_names.specs.declared.names.Pt.{Pt}
use Rattle.sight_names.specs.declared.names.EndAt.{EndAt}
use Rattle.sight_names.specs.declared.names.EndPair.{EndPair}
use Rattle.sight_names.specs.declared.names.Memory.{Memory}
use Rattle.sight_names.specs.Splitting.{AreBalanced}
use Rattle.plane_base.specs.Arrows.{Arrow, IsOnRay}
use Rattle.plane_base.proofs.Turns.{at_ray}
use Rattle.geom_exact.specs.declared.extreme_lines.extreme.Extreme.{Extreme}
use Rattle.geom_exact.specs.declared.extreme_lines.cone.Cone.{Cone}
use Rattle.geom_exact.specs.declared.extreme_lines.cone.Cone.TheVariants.{Ray}
use Rattle.geom_exact.specs.ExtremeLines.Differences.{difference}
use Rattle.geom_exact.specs.ExtremeLines.Spans.{arrow_of, Spans, first_extreme, second_of, end_pair_of, IsWidened, three_pairs}
use Rattle.geom_exact.proofs.ExtremeLines.Widening.{made_arrow}
use Rattle.geom_exact.proofs.ExtremeLines.EndsLemmas.{get_append, get_cases}
use Rattle.stab_hull.specs.Stacks.{IsAmongEnds, IsPairAmong, SpansEnds, IsOfEnds, IsConeOfEnds, AreStuckAmong, IsTopCone, IsEndAdded}
use Rattle.math_base.proofs.Lists.{get_pushed}
use Rattle.math_base.proofs.Options.{some_is_same, none_is_not_some, some_is_not_none}

-- the places of the first n ends
abbrev pub Before : ℕ → ℕ → Type 0
Before n k = k < n

-- the places from this one on
abbrev pub From : ℕ → ℕ → Type 0
From n k = n ≤ k

-- the cone of the ends, on its way to take in a left end: it has the differences of that one and the right ends at these places
pub record IsLeftPart (lefts rights : List EndAt) (left : EndAt) (P : ℕ → Type 0) (c : Cone) : Type 0 where
  pub spans : SpansEnds lefts rights c
  pub ends : IsOfEnds (lefts ++ left ∷ []) rights c
  pub has : (k : ℕ) → P k → (r : EndAt) → slice_get rights k ≡ Some r → Spans c (difference left.at r.at)

-- the same for a right end
pub record IsRightPart (lefts rights : List EndAt) (right : EndAt) (P : ℕ → Type 0) (c : Cone) : Type 0 where
  pub spans : SpansEnds lefts rights c
  pub ends : IsOfEnds lefts (rights ++ right ∷ []) c
  pub has : (k : ℕ) → P k → (l : EndAt) → slice_get lefts k ≡ Some l → Spans c (difference l.at right.at)

-- ---- a place more
pub next_place : (n k : ℕ) → Before (n + 1) k → Before n k ⊎ (k ≡ n)
next_place n k = below_more (λ (j : ℕ). Before n j ⊎ (j ≡ n)) n (λ j l. inl l) (inr refl) k

pub among_more : (xs ys : List EndAt) (e : EndAt) → IsAmongEnds xs e → IsAmongEnds (xs ++ ys) e
among_more xs ys e h = (h.0, get_append xs ys h.0 e h.1)

pub among_last : (xs : List EndAt) (e : EndAt) → IsAmongEnds (xs ++ e ∷ []) e
among_last xs e = (length xs, get_pushed xs e)

chosen : (L R : List EndAt) (old new made : EndPair) → (new ≡ old) ⊎ (new ≡ made) → IsPairAmong L R old → IsPairAmong L R made → IsPairAmong L R new
chosen L R old new made (inl e) h k = subst (IsPairAmong L R) (sym e) h
chosen L R old new made (inr e) h k = subst (IsPairAmong L R) (sym e) k

ends_widened : (L R : List EndAt) (c d : Cone) (l r : EndAt) → IsWidened c l r d → IsOfEnds L R c → IsAmongEnds L l → IsAmongEnds R r → IsOfEnds L R d
ends_widened L R c d l r w h hl hr = record {
  first = chosen L R (end_pair_of (first_extreme c)) (end_pair_of (first_extreme d)) (record { left = l; right = r }) w.first h.first (hl, hr);
  second = chosen L R (end_pair_of (second_of c)) (end_pair_of (second_of d)) (record { left = l; right = r }) w.second h.second (hl, hr);
}

stuck_among : (L R : List EndAt) (c : Cone) (l r : EndAt) (pairs : List EndPair) → IsOfEnds L R c → IsAmongEnds L l → IsAmongEnds R r → pairs ≡ three_pairs c l r → AreBalanced (three_pairs c l r) → AreStuckAmong L R pairs
stuck_among L R c l r pairs h hl hr e b = record {
  ends = subst (All (IsPairAmong L R)) (sym e) (All-cons (IsPairAmong L R) (end_pair_of (first_extreme c)) (end_pair_of (second_of c) ∷ record { left = l; right = r } ∷ []) h.first (All-cons (IsPairAmong L R) (end_pair_of (second_of c)) (record { left = l; right = r } ∷ []) h.second (All-cons (IsPairAmong L R) (record { left = l; right = r }) [] (hl, hr) (All-nil (IsPairAmong L R)))));
  balanced = subst AreBalanced (sym e) b;
}

-- ---- a left end
module _ (L R : List EndAt) (left : EndAt) where
  pub left_ends : (c : Cone) → IsOfEnds L R c → IsOfEnds (L ++ left ∷ []) R c
  left_ends c h = record {
    first = (among_more L (left ∷ []) (first_extreme c).left h.first.0, h.first.1);
    second = (among_more L (left ∷ []) (second_of c).left h.second.0, h.second.1);
  }

  pub left_start : (P : ℕ → Type 0) (c : Cone) → ((k : ℕ) → P k → length R ≤ k) → IsConeOfEnds L R c → IsLeftPart L R left P c
  left_start P c f h = record { spans = h.spans; ends = left_ends c h.ends; has = λ k p r e. let b = slice_get_within R k r e in let o = f k p in absurd (omega (arith, b, o)) }

  pub left_more : (P Q : ℕ → Type 0) (n : ℕ) (r : EndAt) (c d : Cone) → ((k : ℕ) → Q k → P k ⊎ (k ≡ n)) → slice_get R n ≡ Some r → IsWidened c left r d → IsLeftPart L R left P c → IsLeftPart L R left Q d
  left_more P Q n r c d f e w h = record {
    spans = λ l r hl hr. w.keeps (difference l.at r.at) (h.spans l r hl hr);
    ends = ends_widened (L ++ left ∷ []) R c d left r w h.ends (among_last L left) (n, e);
    has = λ k q s g. case k s g (f k q);
  }
    where
      case : (k : ℕ) (s : EndAt) → slice_get R k ≡ Some s → P k ⊎ (k ≡ n) → Spans d (difference left.at s.at)
      case k s g (inl p) = w.keeps (difference left.at s.at) (h.has k p s g)
      case k s g (inr i) = subst (λ (u : EndAt). Spans d (difference left.at u.at)) (some_is_same r s (sym e ∙ ap (λ (j : ℕ). slice_get R j) (sym i) ∙ g)) w.has

  pub left_stuck : (P : ℕ → Type 0) (n : ℕ) (r : EndAt) (c : Cone) (pairs : List EndPair) → slice_get R n ≡ Some r → IsLeftPart L R left P c → pairs ≡ three_pairs c left r → AreBalanced (three_pairs c left r) → AreStuckAmong (L ++ left ∷ []) R pairs
  left_stuck P n r c pairs e h t b = stuck_among (L ++ left ∷ []) R c left r pairs h.ends (among_last L left) (n, e) t b

  left_spans : (c : Cone) → SpansEnds L R c → ((r : EndAt) → IsAmongEnds R r → Spans c (difference left.at r.at)) → SpansEnds (L ++ left ∷ []) R c
  left_spans c h k l r hl hr = case (get_cases L left hl.0 l hl.1)
    where
      case : (slice_get L hl.0 ≡ Some l) ⊎ (left ≡ l) → Spans c (difference l.at r.at)
      case (inl e) = h l r (hl.0, e) hr
      case (inr e) = subst (λ (u : EndAt). Spans c (difference u.at r.at)) e (k r hr)

  pub left_whole : (P : ℕ → Type 0) (c : Cone) → ((k : ℕ) → k < length R → P k) → IsLeftPart L R left P c → IsConeOfEnds (L ++ left ∷ []) R c
  left_whole P c f h = record {
    spans = left_spans c h.spans (λ r m. h.has m.0 (f m.0 (slice_get_within R m.0 r m.1)) r m.1);
    ends = h.ends;
  }

  pub left_outside : (c : Cone) → ((r : Pt) → Spans c (difference (first_extreme c).left.at r) → Spans c (difference (second_of c).left.at r) → Spans c (difference left.at r)) → IsConeOfEnds L R c → IsConeOfEnds (L ++ left ∷ []) R c
  left_outside c f h = record {
    spans = left_spans c h.spans (λ r m. f r.at (h.spans (first_extreme c).left r h.ends.first.0 m) (h.spans (second_of c).left r h.ends.second.0 m));
    ends = left_ends c h.ends;
  }

  pub left_meets : (c : Cone) (r : EndAt) (pairs : List EndPair) → IsConeOfEnds L R c → IsAmongEnds R r → pairs ≡ three_pairs c left r → AreBalanced (three_pairs c left r) → AreStuckAmong (L ++ left ∷ []) R pairs
  left_meets c r pairs h m t b = stuck_among (L ++ left ∷ []) R c left r pairs (left_ends c h.ends) (among_last L left) m t b

-- ---- a right end
module _ (L R : List EndAt) (right : EndAt) where
  pub right_ends : (c : Cone) → IsOfEnds L R c → IsOfEnds L (R ++ right ∷ []) c
  right_ends c h = record {
    first = (h.first.0, among_more R (right ∷ []) (first_extreme c).right h.first.1);
    second = (h.second.0, among_more R (right ∷ []) (second_of c).right h.second.1);
  }

  pub right_start : (P : ℕ → Type 0) (c : Cone) → ((k : ℕ) → P k → length L ≤ k) → IsConeOfEnds L R c → IsRightPart L R right P c
  right_start P c f h = record { spans = h.spans; ends = right_ends c h.ends; has = λ k p l e. let b = slice_get_within L k l e in let o = f k p in absurd (omega (arith, b, o)) }

  pub right_more : (P Q : ℕ → Type 0) (n : ℕ) (l : EndAt) (c d : Cone) → ((k : ℕ) → Q k → P k ⊎ (k ≡ n)) → slice_get L n ≡ Some l → IsWidened c l right d → IsRightPart L R right P c → IsRightPart L R right Q d
  right_more P Q n l c d f e w h = record {
    spans = λ l r hl hr. w.keeps (difference l.at r.at) (h.spans l r hl hr);
    ends = ends_widened L (R ++ right ∷ []) c d l right w h.ends (n, e) (among_last R right);
    has = λ k q s g. case k s g (f k q);
  }
    where
      case : (k : ℕ) (s : EndAt) → slice_get L k ≡ Some s → P k ⊎ (k ≡ n) → Spans d (difference s.at right.at)
      case k s g (inl p) = w.keeps (difference s.at right.at) (h.has k p s g)
      case k s g (inr i) = subst (λ (u : EndAt). Spans d (difference u.at right.at)) (some_is_same l s (sym e ∙ ap (λ (j : ℕ). slice_get L j) (sym i) ∙ g)) w.has

  pub right_stuck : (P : ℕ → Type 0) (n : ℕ) (l : EndAt) (c : Cone) (pairs : List EndPair) → slice_get L n ≡ Some l → IsRightPart L R right P c → pairs ≡ three_pairs c l right → AreBalanced (three_pairs c l right) → AreStuckAmong L (R ++ right ∷ []) pairs
  right_stuck P n l c pairs e h t b = stuck_among L (R ++ right ∷ []) c l right pairs h.ends (n, e) (among_last R right) t b

  right_spans : (c : Cone) → SpansEnds L R c → ((l : EndAt) → IsAmongEnds L l → Spans c (difference l.at right.at)) → SpansEnds L (R ++ right ∷ []) c
  right_spans c h k l r hl hr = case (get_cases R right hr.0 r hr.1)
    where
      case : (slice_get R hr.0 ≡ Some r) ⊎ (right ≡ r) → Spans c (difference l.at r.at)
      case (inl e) = h l r hl (hr.0, e)
      case (inr e) = subst (λ (u : EndAt). Spans c (difference l.at u.at)) e (k l hl)

  pub right_whole : (P : ℕ → Type 0) (c : Cone) → ((k : ℕ) → k < length L → P k) → IsRightPart L R right P c → IsConeOfEnds L (R ++ right ∷ []) c
  right_whole P c f h = record {
    spans = right_spans c h.spans (λ l m. h.has m.0 (f m.0 (slice_get_within L m.0 l m.1)) l m.1);
    ends = h.ends;
  }

  pub right_outside : (c : Cone) → ((l : Pt) → Spans c (difference l (first_extreme c).right.at) → Spans c (difference l (second_of c).right.at) → Spans c (difference l right.at)) → IsConeOfEnds L R c → IsConeOfEnds L (R ++ right ∷ []) c
  right_outside c f h = record {
    spans = right_spans c h.spans (λ l m. f l.at (h.spans l (first_extreme c).right m h.ends.first.1) (h.spans l (second_of c).right m h.ends.second.1));
    ends = right_ends c h.ends;
  }

  pub right_meets : (c : Cone) (l : EndAt) (pairs : List EndPair) → IsConeOfEnds L R c → IsAmongEnds L l → pairs ≡ three_pairs c l right → AreBalanced (three_pairs c l right) → AreStuckAmong L (R ++ right ∷ []) pairs
  right_meets c l pairs h m t b = stuck_among L (R ++ right ∷ []) c l right pairs (right_ends c h.ends) m (among_last R right) t b

-- ---- stacks of cones

-- the cone at the last place
pub top_is : (C : List Cone) (n : ℕ) (d : Cone) (c : Cone) → n ≡ length C → d ≡ get_or C (n - 1) d → slice_get C (length C - 1) ≡ Some c → c ≡ d
top_is C n d c e g h =
    let b = slice_get_within C (length C - 1) c h in
    let k : n - 1 ≡ length C - 1 = omega (arith, e) in
    some_is_same c d (sym h ∙ slice_get-get_or C (length C - 1) d b ∙ ap (λ (m : ℕ). Some (get_or C m d)) (sym k) ∙ ap (λ (x : Cone). Some x) (sym g))

pub top_cone : (L R : List EndAt) (C : List Cone) (n : ℕ) (d : Cone) → n ≡ length C → d ≡ get_or C (n - 1) d → IsTopCone L R C → IsConeOfEnds L R d
top_cone L R C n d e g h = subst (IsConeOfEnds L R) (top_is C n d h.0 e g h.1) h.2

-- the same cone, of more ends
pub top_same : (L R L' R' : List EndAt) (C : List Cone) (n : ℕ) (d : Cone) → n ≡ length C → d ≡ get_or C (n - 1) d → IsTopCone L R C → IsConeOfEnds L' R' d → IsTopCone L' R' C
top_same L R L' R' C n d e g h k = (d, h.1 ∙ ap (λ (x : Cone). Some x) (top_is C n d h.0 e g h.1), k)

-- a new cone
pub top_next : (L R : List EndAt) (C C' : List Cone) (d : Cone) → C' ≡ C ++ d ∷ [] → IsConeOfEnds L R d → IsTopCone L R C'
top_next L R C C' d e k = subst (IsTopCone L R) (sym e) (d, last, k)
  where
    one_more : (xs : List Cone) → length (xs ++ d ∷ []) ≡ length xs + 1
    one_more [] = refl
    one_more (x ∷ xs) = let h = one_more xs in omega (arith, h)

    last : slice_get (C ++ d ∷ []) (length (C ++ d ∷ []) - 1) ≡ Some d
    last = ap (λ (m : ℕ). slice_get (C ++ d ∷ []) m) (let h = one_more C in omega (arith, h)) ∙ get_pushed C d

pub top_moved : (L R L' R' : List EndAt) (C C' : List Cone) → L' ≡ L → R' ≡ R → C' ≡ C → IsTopCone L R C → IsTopCone L' R' C'
top_moved L R L' R' C C' a b c h = subst (λ (x : List EndAt). IsTopCone x R' C') (sym a) (subst (λ (x : List EndAt). IsTopCone L x C') (sym b) (subst (λ (x : List Cone). IsTopCone L R x) (sym c) h))

-- one pair alone
only : (e : EndAt) (m : ℕ) (d : EndAt) → slice_get (e ∷ []) m ≡ Some d → e ≡ d
only e zero d h = some_is_same e d h
only e (suc m) d h = absurd (none_is_not_some d h)

pub top_first : (e : Extreme) (left right : EndAt) (C C' : List Cone) → e.left ≡ left → e.right ≡ right → C' ≡ C ++ Ray e ∷ [] → IsTopCone (left ∷ []) (right ∷ []) C'
top_first e left right C C' u v k = top_next (left ∷ []) (right ∷ []) C C' (Ray e) k (record {
  spans = λ l r hl hr. subst₂ (λ (s t : EndAt). IsOnRay (arrow_of e) (difference s.at t.at)) (only left hl.0 l hl.1) (only right hr.0 r hr.1)
      (subst (λ (a : Arrow). IsOnRay (arrow_of e) a) (made_arrow e left right u v) (at_ray (arrow_of e)));
  ends = record { first = pair; second = pair };
})
  where
    pair : IsPairAmong (left ∷ []) (right ∷ []) (end_pair_of e)
    pair = ((0, ap (λ (x : EndAt). Some x) (sym u)), (0, ap (λ (x : EndAt). Some x) (sym v)))

-- ---- a left end, and then a right end
pub none_part : {X : Type 0} (P : Type 0) (Q : X → Type 0) (o : Option X) → o ≡ None → MatchOption o P Q → P
none_part P Q None e h = h
none_part P Q (Some x) e h = absurd (some_is_not_none x e)

pub some_part : {X : Type 0} (P : Type 0) (Q : X → Type 0) (o : Option X) (x : X) → o ≡ Some x → MatchOption o P Q → Q x
some_part P Q None x e h = absurd (none_is_not_some x e)
some_part P Q (Some y) x e h = subst Q (some_is_same y x e) h

all_pairs : (L R L' R' : List EndAt) (pairs : List EndPair) → ((e : EndAt) → IsAmongEnds L e → IsAmongEnds L' e) → ((e : EndAt) → IsAmongEnds R e → IsAmongEnds R' e) → AreStuckAmong L R pairs → AreStuckAmong L' R' pairs
all_pairs L R L' R' pairs f g h = record { ends = λ k d l. let m = h.ends k d l in (f _ m.0, g _ m.1); balanced = h.balanced }

pub left_alone : (left right : EndAt) (L0 R0 L1 R1 : List EndAt) (pairs : List EndPair) → L1 ≡ L0 → R1 ≡ R0 → AreStuckAmong (L1 ++ left ∷ []) R1 pairs → AreStuckAmong (L0 ++ left ∷ []) (R0 ++ right ∷ []) pairs
left_alone left right L0 R0 L1 R1 pairs el er h = all_pairs (L1 ++ left ∷ []) R1 (L0 ++ left ∷ []) (R0 ++ right ∷ []) pairs
    (λ e m. subst (λ (xs : List EndAt). IsAmongEnds (xs ++ left ∷ []) e) el m)
    (λ e m. among_more R0 (right ∷ []) e (subst (λ (xs : List EndAt). IsAmongEnds xs e) er m)) h

added_among : (xs ys : List EndAt) (d e : EndAt) → IsEndAdded xs d ys → IsAmongEnds ys e → IsAmongEnds (xs ++ d ∷ []) e
added_among xs ys d e (inl a) m = subst (λ (zs : List EndAt). IsAmongEnds zs e) a m
added_among xs ys d e (inr a) m = among_more xs (d ∷ []) e (subst (λ (zs : List EndAt). IsAmongEnds zs e) a.0 m)

pub both_added : (left right : EndAt) (L0 R0 T L1 R1 L2 R2 : List EndAt) (C2 : List Cone) (r : Result (Option (List EndPair)) Memory) → T ≡ L0 → R1 ≡ R0 → L2 ≡ L1 → IsEndAdded T left L1
    → IfOk r (λ stuck. MatchOption stuck (IsTopCone L1 R2 C2 × IsEndAdded R1 right R2) (λ pairs. AreStuckAmong L1 (R1 ++ right ∷ []) pairs))
    → IfOk r (λ stuck. MatchOption stuck (IsTopCone L2 R2 C2 × IsEndAdded L0 left L2 × IsEndAdded R0 right R2) (λ pairs. AreStuckAmong (L0 ++ left ∷ []) (R0 ++ right ∷ []) pairs))
both_added left right L0 R0 T L1 R1 L2 R2 C2 (Ok None) et er el a h = (
  subst (λ (xs : List EndAt). IsTopCone xs R2 C2) (sym el) h.0,
  subst₂ (λ (xs ys : List EndAt). IsEndAdded xs left ys) et (sym el) a,
  subst (λ (xs : List EndAt). IsEndAdded xs right R2) er h.1,
)
both_added left right L0 R0 T L1 R1 L2 R2 C2 (Ok (Some pairs)) et er el a h = all_pairs L1 (R1 ++ right ∷ []) (L0 ++ left ∷ []) (R0 ++ right ∷ []) pairs
    (λ e m. added_among L0 L1 left e (subst (λ (xs : List EndAt). IsEndAdded xs left L1) et a) m)
    (λ e m. subst (λ (xs : List EndAt). IsAmongEnds (xs ++ right ∷ []) e) er m) h
both_added left right L0 R0 T L1 R1 L2 R2 C2 (Err m) et er el a h = tt
