-- The chains of a incident.
use Rattle.std.proofs.Common.{◌≡◌, ◌≢◌, ℕ, ◌+◌, ◌<◌, ◌≤◌, ◌⊎◌, inl, inr, List, [], ◌∷◌, ◌++◌, length, get_or, set, Bool, true, false, ◌==◌, ◌||◌, cond, refl, sym, ap, ◌∙◌, subst, arith, eqb-true, eq-eqb}
use Rattle.std.proofs.lemmas.List.{get_or_default, get_or-set_same, get_or-set_other, get_or_append_left, get_or_at, length-set}
use Rattle.std.proofs.lemmas.Bool.{false≢true, cases_eq}
use Rattle.triangulate.specs.declared.incident_segments.segments.Segment.{Segment}
use Rattle.triangulate.specs.declared.incident_segments.incident.Links.{Links}
use Rattle.triangulate.specs.IncidentSegments.Incident.{has_end, other_end, IsLastAt, IsLinked, IsSegment, IncidentParts, AreIncident}
use Rattle.math_base.proofs.Bools.{true_by_second, true_by_first, by_value}
use Rattle.math_base.proofs.Lists.{length_pushed}
use Rattle.math_base.proofs.Numbers.{below_or_last}

-- ---- one more segment

pub old_at : (segs : List Segment) (s : Segment) (k : ℕ) (d : Segment) → k < length segs → get_or (segs ++ s ∷ []) k d ≡ get_or segs k d
old_at segs s k d h = get_or_append_left segs (s ∷ []) d k h

pub new_at : (segs : List Segment) (s : Segment) (d : Segment) (k : ℕ) → k ≡ length segs → get_or (segs ++ s ∷ []) k d ≡ s
new_at segs s d k e = get_or_at segs s [] d k (sym e)

-- what the chains say of the first segments stays
last_kept : (segs : List Segment) (s : Segment) (u i j : ℕ) → i ≤ length segs → IsLastAt segs u i j → IsLastAt (segs ++ s ∷ []) u i j
last_kept segs s u i j le h = record {
  within = h.within;
  none = λ k a b d. let w = h.within in ap (has_end u) (old_at segs s k d (omega arith)) ∙ h.none k a b d;
  here = λ k e d. let w = h.within in ap (has_end u) (old_at segs s k d (omega arith)) ∙ h.here k e d;
}

-- the new segment has the end u
last_new : (segs : List Segment) (s : Segment) (u n : ℕ) → n ≡ length segs + 1 → has_end u s ≡ true → IsLastAt (segs ++ s ∷ []) u n n
last_new segs s u n e h = record {
  within = omega arith;
  none = λ k a b d. absurd (omega arith);
  here = λ k f d. ap (has_end u) (new_at segs s d k (omega arith)) ∙ h;
}

-- or it doesn't
last_over : (segs : List Segment) (s : Segment) (u j n : ℕ) → n ≡ length segs + 1 → has_end u s ≡ false → IsLastAt segs u (length segs) j → IsLastAt (segs ++ s ∷ []) u n j
last_over segs s u j n e none h = record {
  within = let w = h.within in omega arith;
  none = λ k a b d. elim (below_or_last k (length segs) (omega arith)) [
    | inl lt ↦ ap (has_end u) (old_at segs s k d lt) ∙ h.none k lt b d
    | inr same ↦ ap (has_end u) (new_at segs s d k same) ∙ none
  ];
  here = λ k f d. let w = h.within in ap (has_end u) (old_at segs s k d (omega arith)) ∙ h.here k f d;
}

-- ---- ends

pub end_from : (s : Segment) → has_end s.from s ≡ true
end_from s = true_by_first (s.from == s.from) (s.to == s.from) (eq-eqb s.from s.from refl)

pub end_to : (s : Segment) → has_end s.to s ≡ true
end_to s = true_by_second (s.from == s.to) (s.to == s.to) (eq-eqb s.to s.to refl)

pub end_cases : (u : ℕ) (s : Segment) → has_end u s ≡ true → (s.from ≡ u) ⊎ (s.to ≡ u)
end_cases u s h = go (s.from == u) (s.to == u) (eqb-true s.from u) (eqb-true s.to u) h
  where
    go : (a b : Bool) → (a ≡ true → s.from ≡ u) → (b ≡ true → s.to ≡ u) → (a || b) ≡ true → (s.from ≡ u) ⊎ (s.to ≡ u)
    go true b f g h = inl (f refl)
    go false true f g h = inr (g refl)
    go false false f g h = absurd (false≢true h)

has_end_if_from : (u : ℕ) (s : Segment) → s.from ≡ u → has_end u s ≡ true
has_end_if_from u s e = subst (λ (v : ℕ). has_end v s ≡ true) e (end_from s)

has_end_if_to : (u : ℕ) (s : Segment) → s.to ≡ u → has_end u s ≡ true
has_end_if_to u s e = subst (λ (v : ℕ). has_end v s ≡ true) e (end_to s)

pub other_from : (u : ℕ) (s : Segment) → s.from ≡ u → other_end u s ≡ s.to
other_from u s e = go (s.from == u) (eq-eqb s.from u e)
  where
    go : (b : Bool) → b ≡ true → cond b s.to s.from ≡ s.to
    go true h = refl
    go false h = absurd (false≢true h)

pub other_to : (u : ℕ) (s : Segment) → s.from ≢ s.to → s.to ≡ u → other_end u s ≡ s.from
other_to u s differ e = go (s.from == u) (eqb-true s.from u)
  where
    go : (b : Bool) → (b ≡ true → s.from ≡ u) → cond b s.to s.from ≡ s.from
    go true h = absurd (differ (h refl ∙ sym e))
    go false h = refl

-- ---- two entries written

two_set : (xs : List ℕ) (a b x y : ℕ) → a < length xs → b < length xs → (u d : ℕ) → u < length xs
    → (P : ℕ → Type 0) → (b ≡ u → P y) → (a ≡ u → ¬ (b ≡ u) → P x) → (¬ (a ≡ u) → ¬ (b ≡ u) → P (get_or xs u d)) → P (get_or (set (set xs a x) b y) u d)
two_set xs a b x y la lb u d lu P at_b at_a other = elim (cases_eq b u) [
  | inl e ↦ subst P (sym (ap (λ (k : ℕ). get_or (set (set xs a x) b y) k d) (sym e) ∙ get_or-set_same (set xs a x) b y d (let l = length-set xs a x in omega arith))) (at_b e)
  | inr n ↦ subst P (sym (get_or-set_other (set xs a x) b u y d (λ e. n (sym e)))) (elim (cases_eq a u) [
    | inl f ↦ subst P (sym (ap (λ (k : ℕ). get_or (set xs a x) k d) (sym f) ∙ get_or-set_same xs a x d la)) (at_a f n)
    | inr m ↦ subst P (sym (get_or-set_other xs a u x d (λ e. m (sym e)))) (other m n)
  ])
]

-- ---- a push

pub push_web : (points : ℕ) (segs : List Segment) (last : List ℕ) (links : List Links) (s : Segment) → AreIncident points segs last links → IsSegment points s
    → (n : ℕ) → n ≡ length segs + 1
    → AreIncident points (segs ++ s ∷ []) (set (set last s.from n) s.to n) (links ++ record { from = get_or last s.from 0; to = get_or last s.to 0 } ∷ [])
push_web points segs last links s incident seg n e = record {
  each = λ k lt d. elim (below_or_last k (length segs) (let m = length_pushed segs s in omega arith)) [
    | inl less ↦ subst (IsSegment points) (sym (old_at segs s k d less)) (incident.each k less d)
    | inr same ↦ subst (IsSegment points) (sym (new_at segs s d k same)) seg
  ];
  each_point = let l1 = length-set (set last s.from n) s.to n in let l2 = length-set last s.from n in let l3 = incident.each_point in omega arith;
  each_segment = let m = length_pushed segs s in let o = length_pushed links (record { from = get_or last s.from 0; to = get_or last s.to 0 }) in let l = incident.each_segment in omega arith;
  last_at = λ u lu d. subst (λ (m : ℕ). IsLastAt (segs ++ s ∷ []) u m (get_or (set (set last s.from n) s.to n) u d)) (e ∙ sym (length_pushed segs s))
      (two_set last s.from s.to n n from_in to_in u d (let l = incident.each_point in omega arith) (λ j. IsLastAt (segs ++ s ∷ []) u n j)
      (λ f. last_new segs s u n e (has_end_if_to u s f))
      (λ f g. last_new segs s u n e (has_end_if_from u s f))
      (λ f g. last_over segs s u (get_or last u d) n e (no_end u f g) (incident.last_at u lu d)));
  linked = λ k lt d l. elim (below_or_last k (length segs) (let m = length_pushed segs s in omega arith)) [
    | inl less ↦ old_link k less d l
    | inr same ↦ new_link k same d l
  ];
}
  where
    from_in : s.from < length last
    from_in = let l = incident.each_point in let f = seg.from in omega arith

    to_in : s.to < length last
    to_in = let l = incident.each_point in let f = seg.to in omega arith

    no_end : (u : ℕ) → ¬ (s.from ≡ u) → ¬ (s.to ≡ u) → has_end u s ≡ false
    no_end u f g = by_value (has_end u s) (λ h. elim (end_cases u s h) [ inl e ↦ absurd (f e) | inr e ↦ absurd (g e) ]) (λ h. h)

    old_link : (k : ℕ) → k < length segs → (d : Segment) (l : Links) → IsLinked (segs ++ s ∷ []) k (get_or (segs ++ s ∷ []) k d) (get_or (links ++ record { from = get_or last s.from 0; to = get_or last s.to 0 } ∷ []) k l)
    old_link k less d l =
        let w = incident.linked k less d l in
        subst (λ (v : Segment). IsLinked (segs ++ s ∷ []) k v (get_or (links ++ record { from = get_or last s.from 0; to = get_or last s.to 0 } ∷ []) k l)) (sym (old_at segs s k d less))
        (subst (λ (v : Links). IsLinked (segs ++ s ∷ []) k (get_or segs k d) v) (sym (get_or_append_left links (record { from = get_or last s.from 0; to = get_or last s.to 0 } ∷ []) l k (let o = incident.each_segment in omega arith)))
        (record { from = last_kept segs s (get_or segs k d).from k (get_or links k l).from (omega arith) w.from; to = last_kept segs s (get_or segs k d).to k (get_or links k l).to (omega arith) w.to }))

    new_link : (k : ℕ) → k ≡ length segs → (d : Segment) (l : Links) → IsLinked (segs ++ s ∷ []) k (get_or (segs ++ s ∷ []) k d) (get_or (links ++ record { from = get_or last s.from 0; to = get_or last s.to 0 } ∷ []) k l)
    new_link k same d l =
        subst (λ (v : Segment). IsLinked (segs ++ s ∷ []) k v (get_or (links ++ record { from = get_or last s.from 0; to = get_or last s.to 0 } ∷ []) k l)) (sym (new_at segs s d k same))
        (subst (λ (v : Links). IsLinked (segs ++ s ∷ []) k s v) (sym (get_or_at links (record { from = get_or last s.from 0; to = get_or last s.to 0 }) [] l k (incident.each_segment ∙ sym same)))
        (record {
          from = last_kept segs s s.from k _ (omega arith) (subst (λ (m : ℕ). IsLastAt segs s.from m (get_or last s.from 0)) (sym same) (incident.last_at s.from seg.from 0));
          to = last_kept segs s s.to k _ (omega arith) (subst (λ (m : ℕ). IsLastAt segs s.to m (get_or last s.to 0)) (sym same) (incident.last_at s.to seg.to 0));
        }))

-- ---- the methods' own forms

pub push_made : (points : ℕ) (segs : List Segment) (last : List ℕ) (links : List Links) (from to n a b : ℕ) (segs' : List Segment) (links' : List Links) → AreIncident points segs last links → from < points → to < points → from ≢ to
    → segs' ≡ segs ++ (record { from = from; to = to }) ∷ [] → n ≡ length segs' → a ≡ get_or last from a → b ≡ get_or last to b → links' ≡ links ++ (record { from = a; to = b }) ∷ []
    → AreIncident points segs' (set (set last from n) to n) links'
push_made points segs last links from to n a b segs' links' incident lf lt differ es en ea eb el =
    subst (λ (v : List Segment). AreIncident points v (set (set last from n) to n) links') (sym es)
    (subst (λ (v : List Links). AreIncident points (segs ++ (record { from = from; to = to }) ∷ []) (set (set last from n) to n) v) (sym (el ∙ joined))
    (push_web points segs last links (record { from = from; to = to }) incident (record { from = lf; to = lt; differ = differ }) n
    (en ∙ ap length es ∙ length_pushed segs (record { from = from; to = to }))))
  where
    in_last : from < length last
    in_last = let l = incident.each_point in omega arith

    to_last : to < length last
    to_last = let l = incident.each_point in omega arith

    pair : {p q r s : ℕ} → p ≡ q → r ≡ s → ◌≡◌ {A = Links} (record { from = p; to = r }) (record { from = q; to = s })
    pair e f = cc

    joined : links ++ (record { from = a; to = b }) ∷ [] ≡ links ++ (record { from = get_or last from 0; to = get_or last to 0 }) ∷ []
    joined = ap (λ (l : Links). links ++ l ∷ []) (pair (ea ∙ get_or_default last from a 0 in_last) (eb ∙ get_or_default last to b 0 to_last))

pub earlier_from : (points : ℕ) (segs : List Segment) (last : List ℕ) (links : List Links) (k u : ℕ) (s : Segment) (l : Links) → AreIncident points segs last links → k < length segs → s ≡ get_or segs k s → l ≡ get_or links k l → s.from ≡ u → IsLastAt segs u k l.from
earlier_from points segs last links k u s l incident lt es el e =
    let w = incident.linked k lt s l in
    subst (λ (v : ℕ). IsLastAt segs v k l.from) e (subst (λ (v : Segment). IsLastAt segs v.from k l.from) (sym es) (subst (λ (v : Links). IsLastAt segs (get_or segs k s).from k v.from) (sym el) w.from))

pub earlier_to : (points : ℕ) (segs : List Segment) (last : List ℕ) (links : List Links) (k u : ℕ) (s : Segment) (l : Links) → AreIncident points segs last links → k < length segs → s ≡ get_or segs k s → l ≡ get_or links k l → ¬ (s.from ≡ u) → has_end u (get_or segs k s) ≡ true → IsLastAt segs u k l.to
earlier_to points segs last links k u s l incident lt es el not_from end =
    let w = incident.linked k lt s l in
    elim (end_cases u s (ap (has_end u) es ∙ end)) [
      | inl e ↦ absurd (not_from e)
      | inr e ↦ subst (λ (v : ℕ). IsLastAt segs v k l.to) e (subst (λ (v : Segment). IsLastAt segs v.to k l.to) (sym es) (subst (λ (v : Links). IsLastAt segs (get_or segs k s).to k v.to) (sym el) w.to))
    ]

pub seen_from : (points : ℕ) (segs : List Segment) (last : List ℕ) (links : List Links) (seen : IncidentParts) (k u : ℕ) (s : Segment) (l : Links) → record { points = points; segments = segs } ≡ seen → AreIncident points segs last links → k < length seen.segments → s ≡ get_or segs k s → l ≡ get_or links k l → s.from ≡ u
    → IsLastAt seen.segments u k l.from
seen_from points segs last links seen k u s l e incident lt es el at =
    let f : segs ≡ seen.segments = ap (λ (w : IncidentParts). w.segments) e in
    subst (λ (v : List Segment). IsLastAt v u k l.from) f (earlier_from points segs last links k u s l incident (subst (λ (v : List Segment). k < length v) (sym f) lt) es el at)

pub seen_to : (points : ℕ) (segs : List Segment) (last : List ℕ) (links : List Links) (seen : IncidentParts) (k u : ℕ) (s : Segment) (l : Links) → record { points = points; segments = segs } ≡ seen → AreIncident points segs last links → k < length seen.segments → s ≡ get_or segs k s → l ≡ get_or links k l → ¬ (s.from ≡ u)
    → ((d : Segment) → has_end u (get_or seen.segments k d) ≡ true) → IsLastAt seen.segments u k l.to
seen_to points segs last links seen k u s l e incident lt es el not_from end =
    let f : segs ≡ seen.segments = ap (λ (w : IncidentParts). w.segments) e in
    subst (λ (v : List Segment). IsLastAt v u k l.to) f (earlier_to points segs last links k u s l incident (subst (λ (v : List Segment). k < length v) (sym f) lt) es el not_from (subst (λ (v : List Segment). has_end u (get_or v k s) ≡ true) (sym f) (end s)))
