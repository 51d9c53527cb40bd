-- The ends of portals on the stacks, and one more portal's.
use Rattle.std.proofs.Common.{◌≡◌, ℕ, ◌+◌, ◌-◌, ◌<◌, List, [], ◌∷◌, ◌++◌, length, Some, refl, sym, ap, ◌∙◌, arith, ◌⊎◌, inl, inr, subst}
use Rattle.std.specs.Prelude.{slice_get}
use Rattle.std.proofs.lemmas.Option.{slice_get_within}
use Rattle.sight_names.specs.declared.limits.TheConstants.{RIGHT_END}
use Rattle.sight_names.specs.declared.names.Pt.{Pt}
use Rattle.sight_names.specs.declared.names.EndAt.{EndAt}
use Rattle.sight_names.specs.declared.names.EndPair.{EndPair}
use Rattle.sight_names.specs.Splitting.{EndPoints, IsEndPairOf, end_of}
use Rattle.plane_base.specs.Arrows.{Arrow}
use Rattle.geom_exact.specs.declared.extreme_lines.cone.Cone.{Cone}
use Rattle.geom_exact.specs.ExtremeLines.Differences.{difference}
use Rattle.geom_exact.specs.ExtremeLines.Spans.{Spans, first_extreme, second_of, end_pair_of}
use Rattle.geom_exact.proofs.ExtremeLines.EndsLemmas.{get_cases, end_of_more, left_end, right_end}
use Rattle.stab_hull.specs.Portals.{with_ends, IsConeOf, ShowsNoLine}
use Rattle.stab_hull.specs.Stacks.{IsAmongEnds, IsInAngle, CoversLeft, CoversRight, IsPairAmong, AreStuckAmong, IsConeOfEnds, IsTopCone, IsEndAdded, IsLeftEnd, IsRightEnd, IsHullOf}
use Rattle.stab_hull.proofs.Hiding.{same_angle, wider_angle, left_covered_spans, right_covered_spans}
use Rattle.stab_hull.proofs.StepLemmas.{among_more}
use Rattle.math_base.proofs.Lists.{get_pushed}
use Rattle.math_base.proofs.Options.{some_is_same}

abbrev pub AreLeftEnds : List EndPoints → List EndAt → Type 0
AreLeftEnds es ends = (m : ℕ) (e : EndAt) → slice_get ends m ≡ Some e → IsLeftEnd es e

abbrev pub AreRightEnds : List EndPoints → List EndAt → Type 0
AreRightEnds es ends = (m : ℕ) (e : EndAt) → slice_get ends m ≡ Some e → IsRightEnd es e

-- an end comes to the list, but where one of the list covers it
abbrev pub IsTakenLeft : Cone → List EndAt → EndAt → List EndAt → Type 0
IsTakenLeft c old e new = (new ≡ old ++ e ∷ []) ⊎ ((new ≡ old) × CoversLeft old c e.at)

abbrev pub IsTakenRight : Cone → List EndAt → EndAt → List EndAt → Type 0
IsTakenRight c old e new = (new ≡ old ++ e ∷ []) ⊎ ((new ≡ old) × CoversRight old c e.at)

pub taken_left : (c : Cone) (xs ys : List EndAt) (e : EndAt) → IsEndAdded xs e ys → IsTakenLeft c xs e ys
taken_left c xs ys e (inl a) = inl a
taken_left c xs ys e (inr a) = inr (a.0, (a.1.0, a.1.1, a.1.2, same_angle c e.at a.1.1.at (sym a.1.3)))

pub taken_right : (c : Cone) (xs ys : List EndAt) (e : EndAt) → IsEndAdded xs e ys → IsTakenRight c xs e ys
taken_right c xs ys e (inl a) = inl a
taken_right c xs ys e (inr a) = inr (a.0, (a.1.0, a.1.1, a.1.2, same_angle c a.1.1.at e.at a.1.3))

among_left : (c : Cone) (xs ys : List EndAt) (d e : EndAt) → IsTakenLeft c xs d ys → IsAmongEnds xs e → IsAmongEnds ys e
among_left c xs ys d e (inl a) h = subst (λ (zs : List EndAt). IsAmongEnds zs e) (sym a) (among_more xs (d ∷ []) e h)
among_left c xs ys d e (inr a) h = subst (λ (zs : List EndAt). IsAmongEnds zs e) (sym a.0) h

among_right : (c : Cone) (xs ys : List EndAt) (d e : EndAt) → IsTakenRight c xs d ys → IsAmongEnds xs e → IsAmongEnds ys e
among_right c xs ys d e (inl a) h = subst (λ (zs : List EndAt). IsAmongEnds zs e) (sym a) (among_more xs (d ∷ []) e h)
among_right c xs ys d e (inr a) h = subst (λ (zs : List EndAt). IsAmongEnds zs e) (sym a.0) h

-- the angle of the cone of more ends is wider
pub cone_wider : (ls rs ls' rs' : List EndAt) (c c' : Cone) → IsConeOfEnds ls rs c → IsConeOfEnds ls' rs' c' → ((e : EndAt) → IsAmongEnds ls e → IsAmongEnds ls' e) → ((e : EndAt) → IsAmongEnds rs e → IsAmongEnds rs' e) → (x : Arrow) → IsInAngle c x → IsInAngle c' x
cone_wider ls rs ls' rs' c c' k k' il ir x h = wider_angle c c' x
    (k'.spans (first_extreme c).left (first_extreme c).right (il (first_extreme c).left k.ends.first.0) (ir (first_extreme c).right k.ends.first.1))
    (k'.spans (second_of c).left (second_of c).right (il (second_of c).left k.ends.second.0) (ir (second_of c).right k.ends.second.1)) h

left_old : (c c' : Cone) (xs ys : List EndAt) (e : EndAt) (p : Pt) → ((x : Arrow) → IsInAngle c x → IsInAngle c' x) → IsTakenLeft c' xs e ys → CoversLeft xs c p → CoversLeft ys c' p
left_old c c' xs ys e p w t h = let m = among_left c' xs ys e h.1 t (h.0, h.2) in (m.0, h.1, m.1, w (difference p h.1.at) h.3)

right_old : (c c' : Cone) (xs ys : List EndAt) (e : EndAt) (p : Pt) → ((x : Arrow) → IsInAngle c x → IsInAngle c' x) → IsTakenRight c' xs e ys → CoversRight xs c p → CoversRight ys c' p
right_old c c' xs ys e p w t h = let m = among_right c' xs ys e h.1 t (h.0, h.2) in (m.0, h.1, m.1, w (difference h.1.at p) h.3)

left_new : (c : Cone) (xs ys : List EndAt) (e : EndAt) → IsTakenLeft c xs e ys → CoversLeft ys c e.at
left_new c xs ys e (inl a) = subst (λ (zs : List EndAt). CoversLeft zs c e.at) (sym a) (length xs, e, get_pushed xs e, same_angle c e.at e.at refl)
left_new c xs ys e (inr a) = subst (λ (zs : List EndAt). CoversLeft zs c e.at) (sym a.0) a.1

right_new : (c : Cone) (xs ys : List EndAt) (e : EndAt) → IsTakenRight c xs e ys → CoversRight ys c e.at
right_new c xs ys e (inl a) = subst (λ (zs : List EndAt). CoversRight zs c e.at) (sym a) (length xs, e, get_pushed xs e, same_angle c e.at e.at refl)
right_new c xs ys e (inr a) = subst (λ (zs : List EndAt). CoversRight zs c e.at) (sym a.0) a.1

module _ (es : List EndPoints) (left right : EndAt) where
  new_left : left.code ≡ length es → length es < RIGHT_END → IsLeftEnd (with_ends es left right) left
  new_left lc few = record {
    code = omega (arith, lc, few);
    end = ap (λ (k : ℕ). end_of (with_ends es left right) k) lc ∙ left_end (with_ends es left right) (length es) (record { left = left.at; right = right.at }) few (get_pushed es (record { left = left.at; right = right.at })) ∙ ap (λ (k : ℕ). Some (let v : EndAt = record { code = k; at = left.at } in v)) (sym lc);
  }

  new_right : right.code ≡ length es + RIGHT_END → IsRightEnd (with_ends es left right) right
  new_right rc = let rc' : right.code ≡ RIGHT_END + length es = omega (arith, rc) in record {
    code = omega (arith, rc);
    end = ap (λ (k : ℕ). end_of (with_ends es left right) k) rc' ∙ right_end (with_ends es left right) (length es) (record { left = left.at; right = right.at }) (get_pushed es (record { left = left.at; right = right.at })) ∙ ap (λ (k : ℕ). Some (let v : EndAt = record { code = k; at = right.at } in v)) (sym rc');
  }

  left_longer : (e : EndAt) → IsLeftEnd es e → IsLeftEnd (with_ends es left right) e
  left_longer e h = record { code = h.code; end = end_of_more es _ e.code e h.end }

  right_longer : (e : EndAt) → IsRightEnd es e → IsRightEnd (with_ends es left right) e
  right_longer e h = record { code = h.code; end = end_of_more es _ e.code e h.end }

  lefts_next : (xs : List EndAt) → left.code ≡ length es → length es < RIGHT_END → AreLeftEnds es xs → AreLeftEnds (with_ends es left right) (xs ++ left ∷ [])
  lefts_next xs lc few h m e k = case (get_cases xs left m e k)
    where
      case : (slice_get xs m ≡ Some e) ⊎ (left ≡ e) → IsLeftEnd (with_ends es left right) e
      case (inl g) = left_longer e (h m e g)
      case (inr g) = subst (IsLeftEnd (with_ends es left right)) g (new_left lc few)

  rights_next : (xs : List EndAt) → right.code ≡ length es + RIGHT_END → AreRightEnds es xs → AreRightEnds (with_ends es left right) (xs ++ right ∷ [])
  rights_next xs rc h m e k = case (get_cases xs right m e k)
    where
      case : (slice_get xs m ≡ Some e) ⊎ (right ≡ e) → IsRightEnd (with_ends es left right) e
      case (inl g) = right_longer e (h m e g)
      case (inr g) = subst (IsRightEnd (with_ends es left right)) g (new_right rc)

  lefts_added : (c : Cone) (xs ys : List EndAt) → left.code ≡ length es → length es < RIGHT_END → AreLeftEnds es xs → IsTakenLeft c xs left ys → AreLeftEnds (with_ends es left right) ys
  lefts_added c xs ys lc few h (inl a) = subst (AreLeftEnds (with_ends es left right)) (sym a) (lefts_next xs lc few h)
  lefts_added c xs ys lc few h (inr a) = subst (AreLeftEnds (with_ends es left right)) (sym a.0) (λ m e k. left_longer e (h m e k))

  rights_added : (c : Cone) (xs ys : List EndAt) → right.code ≡ length es + RIGHT_END → AreRightEnds es xs → IsTakenRight c xs right ys → AreRightEnds (with_ends es left right) ys
  rights_added c xs ys rc h (inl a) = subst (AreRightEnds (with_ends es left right)) (sym a) (rights_next xs rc h)
  rights_added c xs ys rc h (inr a) = subst (AreRightEnds (with_ends es left right)) (sym a.0) (λ m e k. right_longer e (h m e k))

  lefts_next_all : (c c' : Cone) (xs ys : List EndAt) → ((x : Arrow) → IsInAngle c x → IsInAngle c' x) → ((i : ℕ) (p : EndPoints) → slice_get es i ≡ Some p → CoversLeft xs c p.left) → IsTakenLeft c' xs left ys
      → (i : ℕ) (p : EndPoints) → slice_get (with_ends es left right) i ≡ Some p → CoversLeft ys c' p.left
  lefts_next_all c c' xs ys w h a i p k = case (get_cases es _ i p k)
    where
      case : (slice_get es i ≡ Some p) ⊎ (record { left = left.at; right = right.at } ≡ p) → CoversLeft ys c' p.left
      case (inl g) = left_old c c' xs ys left p.left w a (h i p g)
      case (inr g) = subst (λ (q : EndPoints). CoversLeft ys c' q.left) g (left_new c' xs ys left a)

  rights_next_all : (c c' : Cone) (xs ys : List EndAt) → ((x : Arrow) → IsInAngle c x → IsInAngle c' x) → ((i : ℕ) (p : EndPoints) → slice_get es i ≡ Some p → CoversRight xs c p.right) → IsTakenRight c' xs right ys
      → (i : ℕ) (p : EndPoints) → slice_get (with_ends es left right) i ≡ Some p → CoversRight ys c' p.right
  rights_next_all c c' xs ys w h a i p k = case (get_cases es _ i p k)
    where
      case : (slice_get es i ≡ Some p) ⊎ (record { left = left.at; right = right.at } ≡ p) → CoversRight ys c' p.right
      case (inl g) = right_old c c' xs ys right p.right w a (h i p g)
      case (inr g) = subst (λ (q : EndPoints). CoversRight ys c' q.right) g (right_new c' xs ys right a)

  -- one more portal
  pub hull_more : (ls rs ls' rs' : List EndAt) (cs cs' : List Cone) → left.code ≡ length es → length es < RIGHT_END → right.code ≡ length es + RIGHT_END
      → IsHullOf es ls rs cs → (t : IsTopCone ls' rs' cs') → IsTakenLeft t.0 ls left ls' → IsTakenRight t.0 rs right rs' → IsHullOf (with_ends es left right) ls' rs' cs'
  hull_more ls rs ls' rs' cs cs' lc few rc h t al ar =
      let w = cone_wider ls rs ls' rs' h.cone.0 t.0 h.cone.2 t.2 (λ e. among_left t.0 ls ls' left e al) (λ e. among_right t.0 rs rs' right e ar) in
      record {
        left_ends = lefts_added t.0 ls ls' lc few h.left_ends al;
        right_ends = rights_added t.0 rs rs' rc h.right_ends ar;
        cone = t;
        lefts_all = lefts_next_all h.cone.0 t.0 ls ls' w h.lefts_all al;
        rights_all = rights_next_all h.cone.0 t.0 rs rs' w h.rights_all ar;
      }

  -- pairs of ends of the portals and of one more
  pub hull_stuck : (ls rs : List EndAt) (pairs : List EndPair) → left.code ≡ length es → length es < RIGHT_END → right.code ≡ length es + RIGHT_END
      → AreLeftEnds es ls → AreRightEnds es rs → AreStuckAmong (ls ++ left ∷ []) (rs ++ right ∷ []) pairs → ShowsNoLine (with_ends es left right) pairs
  hull_stuck ls rs pairs lc few rc hl hr s = record {
    ends = λ k d l. pair (_) (s.ends k d l);
    balanced = s.balanced;
  }
    where
      pair : (p : EndPair) → IsPairAmong (ls ++ left ∷ []) (rs ++ right ∷ []) p → IsEndPairOf (with_ends es left right) p
      pair p m =
          let a = lefts_next ls lc few hl m.0.0 p.left m.0.1 in
          let b = rights_next rs rc hr m.1.0 p.right m.1.1 in
          record { left_code = a.code; right_code = b.code; left = a.end; right = b.end }

-- the first portal
pub hull_first : (left right : EndAt) (cs : List Cone) → left.code ≡ 0 → right.code ≡ RIGHT_END → IsTopCone (left ∷ []) (right ∷ []) cs → IsHullOf (with_ends [] left right) (left ∷ []) (right ∷ []) cs
hull_first left right cs lc rc t = record {
  left_ends = lefts_added [] left right t.0 [] (left ∷ []) lc (omega arith) (λ m e k. absurd (none m e k)) (inl refl);
  right_ends = rights_added [] left right t.0 [] (right ∷ []) (omega (arith, rc)) (λ m e k. absurd (none m e k)) (inl refl);
  lefts_all = lefts_next_all [] left right t.0 t.0 [] (left ∷ []) (λ x h. h) (λ i p k. absurd (no_portal i p k)) (inl refl);
  rights_all = rights_next_all [] left right t.0 t.0 [] (right ∷ []) (λ x h. h) (λ i p k. absurd (no_portal i p k)) (inl refl);
  cone = t;
}
  where
    none : (m : ℕ) (e : EndAt) → slice_get {X = EndAt} [] m ≡ Some e → ⊥
    none m e k = let b = slice_get_within [] m e k in omega (arith, b)

    no_portal : (i : ℕ) (p : EndPoints) → slice_get {X = EndPoints} [] i ≡ Some p → ⊥
    no_portal i p k = let b = slice_get_within [] i p k in omega (arith, b)

-- the cone of the ends is the cone of the portals
pub cone_of : (es : List EndPoints) (ls rs : List EndAt) (cs : List Cone) (c : Cone) → IsHullOf es ls rs cs → slice_get cs (length cs - 1) ≡ Some c → IsConeOf es c
cone_of es ls rs cs c h e = of_top (some_is_same h.cone.0 c (sym h.cone.1 ∙ e)) h.cone.2
  where
    pair : (p : EndPair) → IsPairAmong ls rs p → IsEndPairOf es p
    pair p m =
        let a = h.left_ends m.0.0 p.left m.0.1 in
        let b = h.right_ends m.1.0 p.right m.1.1 in
        record { left_code = a.code; right_code = b.code; left = a.end; right = b.end }

    angle : (p q : Pt) → IsInAngle h.cone.0 (difference p q) → IsInAngle c (difference p q)
    angle p q a = subst (λ (d : Cone). IsInAngle d (difference p q)) (some_is_same h.cone.0 c (sym h.cone.1 ∙ e)) a

    spans : IsConeOfEnds ls rs c → (i j : ℕ) (p q : EndPoints) → slice_get es i ≡ Some p → slice_get es j ≡ Some q → Spans c (difference p.left q.right)
    spans k i j p q hi hj =
        let l = h.lefts_all i p hi in
        let r = h.rights_all j q hj in
        right_covered_spans c p.left r.1.at q.right (angle r.1.at q.right r.3) (left_covered_spans c p.left l.1.at r.1.at (angle p.left l.1.at l.3) (k.spans l.1 r.1 (l.0, l.2) (r.0, r.2)))

    of_cone : IsConeOfEnds ls rs c → IsConeOf es c
    of_cone k = record { spans = spans k; pairs = record { first = pair (end_pair_of (first_extreme c)) k.ends.first; second = pair (end_pair_of (second_of c)) k.ends.second } }

    of_top : h.cone.0 ≡ c → IsConeOfEnds ls rs h.cone.0 → IsConeOf es c
    of_top g k = of_cone (subst (IsConeOfEnds ls rs) g k)
