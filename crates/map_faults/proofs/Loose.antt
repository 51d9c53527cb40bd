-- What ends at each point, record after record, and the points at which just one line ends.
use Rattle.std.proofs.Common.{◌≡◌, ◌≢◌, ℕ, ◌+◌, ◌<◌, ◌≤◌, ◌⊎◌, inl, inr, List, [], ◌∷◌, ◌++◌, Option, Some, None, length, take, set, Contains, refl, sym, ◌∙◌, ap, subst, arith, slice_get, get_or, option_and_then}
use Rattle.std.proofs.Math.Seq.{take-append_seam}
use Rattle.std.proofs.lemmas.List.{get_or-set_same, get_or-set_other, length-set, get_or_default}
use Rattle.std.proofs.lemmas.Option.{none-some, same_Some, slice_get_within}
use Rattle.math_base.proofs.Lists.{contains_none, contains_append, contains_left, contains_right, contains_one, contains_here}
use Rattle.math_base.proofs.Numbers.{below_or_last, same_or_not}
use Rattle.sight_names.specs.declared.plan.Line.{Line}
use Rattle.sight_names.specs.Plan.{PlanParts, IsPlan}
use Rattle.sight_names.specs.Order.{Ascends}
use Rattle.map_faults.specs.declared.loose_ends.Ends.{Ends}
use Rattle.map_faults.specs.declared.loose_ends.Ends.TheVariants.{Nowhere, One, More}
use Rattle.map_faults.specs.declared.loose_ends.LooseEnd.{LooseEnd}
use Rattle.map_faults.specs.LooseEnds.{EndsAt, IsLooseEnd, AreLooseEnds, IsEnds, AreEndsBelow, AreEnds, noted, NotesLine, NotesEntry, NotesRecord, AddsLoose}
use Rattle.map_faults.proofs.Ordered.{one_behind}

-- ---- one line noted

pub line_noted : (i : ℕ) (l : Line) (old : List Ends) (d0 d1 : Ends) → l.a < length old → l.b < length old → l.a ≢ l.b
    → NotesLine i l old (set (set old l.a (noted i (get_or old l.a d0))) l.b (noted i (get_or (set old l.a (noted i (get_or old l.a d0))) l.b d1)))
line_noted i l old d0 d1 ha hb differ = record {
  len = length-set middle l.b at_b ∙ length-set old l.a at_a;
  here = λ k d lt w. elim w as (λ _. get_or (set middle l.b at_b) k d ≡ noted i (get_or old k d)) [
    | inl e ↦ subst (λ (n : ℕ). get_or (set middle l.b at_b) n d ≡ noted i (get_or old n d)) e (get_or-set_other middle l.b l.a at_b d differ ∙ get_or-set_same old l.a at_a d ha ∙ ap (noted i) (get_or_default old l.a d0 d ha))
    | inr e ↦ subst (λ (n : ℕ). get_or (set middle l.b at_b) n d ≡ noted i (get_or old n d)) e (get_or-set_same middle l.b at_b d (let h = length-set old l.a at_a in omega arith) ∙ ap (noted i) (get_or-set_other old l.a l.b at_a d1 (λ e. differ (sym e)) ∙ get_or_default old l.b d1 d hb))
  ];
  others = λ k d na nb. get_or-set_other middle l.b k at_b d nb ∙ get_or-set_other old l.a k at_a d na;
}
  where
    at_a : Ends
    at_a = noted i (get_or old l.a d0)

    middle : List Ends
    middle = set old l.a at_a

    at_b : Ends
    at_b = noted i (get_or middle l.b d1)

-- ---- one record more

ends_more : (p : PlanParts) (n k : ℕ) (o : Ends) → EndsAt p n k → IsEnds p n k o → IsEnds p (n + 1) k (noted n o)
ends_more p n k Nowhere here h = (omega arith, here, λ j lt at. elim (below_or_last j n lt) as (λ _. j ≡ n) [ inl below ↦ absurd (h j below at) | inr same ↦ same ])
ends_more p n k (One i) here h = (i, n, (λ e. absurd (let lt = h.0 in omega arith)), h.1, here)
ends_more p n k More here h = h

ends_same : (p : PlanParts) (n k : ℕ) (o : Ends) → ¬ EndsAt p n k → IsEnds p n k o → IsEnds p (n + 1) k o
ends_same p n k Nowhere not h = λ i lt at. elim (below_or_last i n lt) as (λ _. ⊥) [ inl below ↦ h i below at | inr same ↦ not (subst (λ (x : ℕ). EndsAt p x k) same at) ]
ends_same p n k (One i) not h = (let lt = h.0 in omega arith, h.1, λ j lt at. elim (below_or_last j n lt) as (λ _. j ≡ i) [ inl below ↦ h.2 j below at | inr same ↦ absurd (not (subst (λ (x : ℕ). EndsAt p x k) same at)) ])
ends_same p n k More not h = h

line_of_entry : (ls : List (Option Line)) (n : ℕ) (l : Line) → option_and_then (λ l. l) (slice_get ls n) ≡ Some l → slice_get ls n ≡ Some (Some l)
line_of_entry ls n l e = go (slice_get ls n) refl e
  where
    go : (o : Option (Option Line)) → slice_get ls n ≡ o → option_and_then (λ l. l) o ≡ Some l → slice_get ls n ≡ Some (Some l)
    go None f g = absurd (none-some l g)
    go (Some o) f g = f ∙ ap (λ (x : Option Line). let y : Option (Option Line) = Some x in y) g

pub record_noted : (p : PlanParts) (n : ℕ) (old new : List Ends) → AreEndsBelow p n old → NotesRecord p n old new → AreEndsBelow p (n + 1) new
record_noted p n old new h notes = go (option_and_then (λ l. l) (slice_get p.lines n)) refl notes
  where
    go : (o : Option Line) → option_and_then (λ l. l) (slice_get p.lines n) ≡ o → NotesEntry n o old new → AreEndsBelow p (n + 1) new
    go None e f = subst (AreEndsBelow p (n + 1)) (sym f) (record { len = h.len; each = λ k d lt. ends_same p n k (get_or old k d) no_line (h.each k d lt) })
      where
        no_line : {k : ℕ} → ¬ EndsAt p n k
        no_line w = none-some w.0 (sym e ∙ ap (option_and_then (λ (l : Option Line). l)) w.1)
    go (Some l) e f = record { len = f.len ∙ h.len; each = λ k d lt. at k d lt (same_or_not l.a k) (same_or_not l.b k) }
      where
        there : slice_get p.lines n ≡ Some (Some l)
        there = line_of_entry p.lines n l e

        at : (k : ℕ) (d : Ends) → k < length p.points → (l.a ≡ k) ⊎ (l.a ≢ k) → (l.b ≡ k) ⊎ (l.b ≢ k) → IsEnds p (n + 1) k (get_or new k d)
        at k d lt (inl s) w = subst (IsEnds p (n + 1) k) (sym (f.here k d (let a = h.len in omega arith) (inl s))) (ends_more p n k (get_or old k d) (l, there, inl s) (h.each k d lt))
        at k d lt (inr m) (inl s) = subst (IsEnds p (n + 1) k) (sym (f.here k d (let a = h.len in omega arith) (inr s))) (ends_more p n k (get_or old k d) (l, there, inr s) (h.each k d lt))
        at k d lt (inr m) (inr o) = subst (IsEnds p (n + 1) k) (sym (f.others k d (λ s. m (sym s)) (λ s. o (sym s)))) (ends_same p n k (get_or old k d) not (h.each k d lt))
          where
            not : ¬ EndsAt p n k
            not w = let same : w.0 ≡ l = same_Some w.0 l (same_Some (Some w.0) (Some l) (sym w.1 ∙ there)) in
                elim w.2 as (λ _. ⊥) [ inl s ↦ m (subst (λ (x : Line). x.a ≡ k) same s) | inr s ↦ o (subst (λ (x : Line). x.b ≡ k) same s) ]

pub ends_all : (p : PlanParts) (n : ℕ) (es : List Ends) → length p.lines ≤ n → AreEndsBelow p n es → AreEnds p es
ends_all p n es past h = record { len = h.len; each = λ k d lt. shorter k (get_or es k d) (h.each k d lt) }
  where
    shorter : (k : ℕ) (o : Ends) → IsEnds p n k o → IsEnds p (length p.lines) k o
    shorter k Nowhere w = λ i lt. w i (omega arith)
    shorter k (One i) w = (slice_get_within p.lines i (Some w.1.0) w.1.1, w.1, λ j lt. w.2 j (omega arith))
    shorter k More w = w

pub put_back : (new rest : List Ends) (n : ℕ) → length new ≡ n → take n (new ++ rest) ≡ new
put_back new rest n e = subst (λ (k : ℕ). take k (new ++ rest) ≡ new) e (take-append_seam new rest)

-- ---- the loose ends among the first points

pub record AreLooseBelow (p : PlanParts) (n : ℕ) (es : List LooseEnd) : Type 0 where
  pub each : (e : LooseEnd) → Contains es e → IsLooseEnd p e × (e.point < n)
  pub all : (e : LooseEnd) → e.point < n → IsLooseEnd p e → Contains es e
  pub ascend : Ascends (λ (e f : LooseEnd). e.point < f.point) es

pub none_loose : (p : PlanParts) → AreLooseBelow p 0 []
none_loose p = record { each = λ e c. absurd (contains_none e c); all = λ e lt. absurd (omega arith); ascend = λ i j x y lt a b. absurd (none-some x a) }

at_point : (p : PlanParts) (n : ℕ) (old new : List LooseEnd) (o : Ends) → IsEnds p (length p.lines) n o → AddsLoose n o old new → AreLooseBelow p n old → AreLooseBelow p (n + 1) new
at_point p n old new Nowhere is e h = subst (AreLooseBelow p (n + 1)) (sym e) (record {
  each = λ x c. let w = h.each x c in (w.0, let lt = w.1 in omega arith);
  all = λ x lt w. elim (below_or_last x.point n lt) as (λ _. Contains old x) [
    | inl below ↦ h.all x below w
    | inr same ↦ absurd (is x.line (slice_get_within p.lines x.line (Some w.ends.0) w.ends.1) (subst (EndsAt p x.line) same w.ends))
  ];
  ascend = h.ascend;
})
at_point p n old new More is e h = subst (AreLooseBelow p (n + 1)) (sym e) (record {
  each = λ x c. let w = h.each x c in (w.0, let lt = w.1 in omega arith);
  all = λ x lt w. elim (below_or_last x.point n lt) as (λ _. Contains old x) [
    | inl below ↦ h.all x below w
    | inr same ↦ absurd (is.2 (w.only is.0 (subst (EndsAt p is.0) (sym same) is.3) ∙ sym (w.only is.1 (subst (EndsAt p is.1) (sym same) is.4))))
  ];
  ascend = h.ascend;
})
at_point p n old new (One i) is e h = subst (AreLooseBelow p (n + 1)) (sym e) (record {
  each = λ x c. elim (contains_append x old (one ∷ []) c) as (λ _. IsLooseEnd p x × (x.point < n + 1)) [
    | inl before ↦ let w = h.each x before in (w.0, let lt = w.1 in omega arith)
    | inr last ↦ subst (λ (y : LooseEnd). IsLooseEnd p y × (y.point < n + 1)) (contains_one x one last) (loose, omega arith)
  ];
  all = λ x lt w. elim (below_or_last x.point n lt) as (λ _. Contains (old ++ one ∷ []) x) [
    | inl below ↦ contains_left x old (one ∷ []) (h.all x below w)
    | inr same ↦ contains_right x old (one ∷ []) (subst (Contains (one ∷ [])) (joined n x.point i x.line (sym same) (w.only i (subst (EndsAt p i) (sym same) is.1))) (contains_here one []))
  ];
  ascend = one_behind (λ (e f : LooseEnd). e.point < f.point) old one h.ascend (λ x c. (h.each x c).1);
})
  where
    one : LooseEnd
    one = record { point = n; line = i }

    loose : IsLooseEnd p one
    loose = record { ends = is.1; only = λ j at. is.2 j (slice_get_within p.lines j (Some at.0) at.1) at }

    joined : (a b c d : ℕ) → a ≡ b → c ≡ d → ◌≡◌ {A = LooseEnd} (record { point = a; line = c }) (record { point = b; line = d })
    joined a b c d x y = cc

pub loose_more : (p : PlanParts) (n : ℕ) (es : List Ends) (d : Ends) (old new : List LooseEnd) → AreEnds p es → n < length es → AddsLoose n (get_or es n d) old new → AreLooseBelow p n old → AreLooseBelow p (n + 1) new
loose_more p n es d old new h lt adds w = at_point p n old new (get_or es n d) (h.each n d (let a = h.len in omega arith)) adds w

pub loose_all : (p : PlanParts) → IsPlan p → (n : ℕ) (es : List Ends) (loose : List LooseEnd) → AreEnds p es → length es ≤ n → AreLooseBelow p n loose → AreLooseEnds p loose
loose_all p is n es loose h past w = record {
  each = λ e c. (w.each e c).0;
  all = λ e x. w.all e (let lt = within e x.ends in let a = h.len in omega arith) x;
  ascend = w.ascend;
}
  where
    within : (e : LooseEnd) → EndsAt p e.line e.point → e.point < length p.points
    within e x = let f = is.each e.line x.0 x.1 in elim x.2 as (λ _. e.point < length p.points) [ inl s ↦ subst (λ (k : ℕ). k < length p.points) s f.first | inr s ↦ subst (λ (k : ℕ). k < length p.points) s f.second ]
