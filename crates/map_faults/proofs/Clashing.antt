-- Steps of the search for clashing lines, and that the first clash is the fault that an audit tells.
use Rattle.std.proofs.Common.{◌≡◌, ℕ, ◌+◌, ◌-◌, ◌*◌, ◌<◌, ◌≤◌, ◌⊎◌, inl, inr, List, [], ◌∷◌, ◌++◌, length, take, map, get_or, slice_get, option_and_then, Option, Some, None, Contains, refl, sym, ◌∙◌, ap, subst, subst₂, arith, min}
use Rattle.std.proofs.lemmas.List.{get_or_default, length-append, length-map, length-take}
use Rattle.std.proofs.lemmas.List.Elements.{All-get_or}
use Rattle.std.proofs.lemmas.Bool.{cases_lt}
use Rattle.std.proofs.lemmas.Int.{clamps}
use Rattle.std.proofs.lemmas.Option.{none-some}
use Rattle.math_base.proofs.Lists.{contains_none, contains_cons, contains_there, contains_append, contains_left, contains_right, contains_one, contains_here, contains_map, length_pushed}
use Rattle.math_base.proofs.Numbers.{below_or_not, below_or_last}
use Rattle.sight_names.specs.declared.plan.Line.{Line}
use Rattle.sight_names.specs.Plan.{PlanParts, IsPlan}
use Rattle.sight_names.specs.Map.{Map, looked_up, map_of}
use Rattle.sight_names.specs.Order.{Ascends}
use Rattle.sight_names.proofs.PlanMap.{line_of_plan}
use Rattle.mesh_base.proofs.SightLaws.Plans.{line_below}
use Rattle.geom_exact.specs.declared.line_spans.Span.{Span}
use Rattle.geom_exact.specs.LineSpans.Spans.{span_of, span_of_entry, span_at, IsSpanIn, AreSpans, IsSkip}
use Rattle.geom_exact.proofs.LineSpans.Sweep.{ends_within, of_each}
use Rattle.geom_exact.proofs.Meeting.{apart_meet}
use Rattle.map_audit.specs.Audit.{AreFine, FineAt}
use Rattle.map_audit.proofs.AuditLemmas.{lines_before, fine_without_first}
use Rattle.map_audit.proofs.SweepLemmas.{swapped}
use Rattle.map_faults.specs.declared.clashes.LinePair.{LinePair}
use Rattle.map_faults.specs.declared.clashes.TheConstants.{MOST_CLASHES}
use Rattle.map_faults.specs.Clashes.{clash_of_lines, IsClash, IsEarlierClash, AreFirstClashes, AreLaterClashes, AreClashesOf, AddsIfClash, AreNumbersInOrder}
use Rattle.map_faults.proofs.Ordered.{ascends_join, ascends_map, take_joined}

-- ---- the sweep of one line, from the last place back

-- records whose spans don't overlap have lines that are apart
numbered_fine : (p : PlanParts) → IsPlan p → (s t : Span) → IsSpanIn p s → IsSpanIn p t → s.greatest < t.least → FineAt (map_of p) s.line t.line
numbered_fine p h s t hs ht lt k l ek el =
    let one = line_of_plan p.points p.lines s.line k ek in
    let other = line_of_plan p.points p.lines t.line l el in
    let a = ends_within p s one.0 hs one.1 in
    let b = ends_within p t other.0 ht other.1 in
    subst₂ AreFine one.2 other.2 (apart_meet (looked_up p.points one.0).first (looked_up p.points one.0).second (looked_up p.points other.0).first (looked_up p.points other.0).second (lines_before p h one.0 other.0 (h.each s.line one.0 one.1) (h.each t.line other.0 other.1)
    (below one.0.a other.0.a a.first_to b.first_from, below one.0.a other.0.b a.first_to b.second_from, below one.0.b other.0.a a.second_to b.first_from, below one.0.b other.0.b a.second_to b.second_from)))
  where
    below : (x y : ℕ) → x ≤ s.greatest → t.least ≤ y → x < y
    below x y hx hy = omega arith

-- a later record is fine, or it was found
abbrev IsSettled : Map → ℕ → List ℕ → ℕ → Type 0
IsSettled m i js j = i < j → FineAt m i j ⊎ Contains js j

-- the places from k on are looked at: what was found clashes, and the other records are fine
pub record IsSearched (p : PlanParts) (s : Span) (ss : List Span) (k : ℕ) (js : List ℕ) : Type 0 where
  pub within : k ≤ length ss
  pub each : (j : ℕ) → Contains js j → IsClash (map_of p) (clash_of_lines s.line j)
  pub rest : (q : ℕ) → k ≤ q → q < length ss → (d : Span) → IsSettled (map_of p) s.line js (get_or ss q d).line
  pub few : length js + k ≤ length ss

pub searched_behind : (p : PlanParts) → IsPlan p → (s : Span) (ss : List Span) (k : ℕ) (js : List ℕ) → AreSpans p ss → IsSpanIn p s → js ≡ [] → k ≤ length ss
    → ((q : ℕ) (d : Span) → k ≤ q → q < length ss → s.greatest < (get_or ss q d).least) → IsSearched p s ss k js
searched_behind p h s ss k js hs hone none within behind = record {
  within = within;
  each = λ j c. absurd (contains_none j (subst (λ (xs : List ℕ). Contains xs j) none c));
  rest = λ q le hq d lt. inl (numbered_fine p h s (get_or ss q d) hone (All-get_or (IsSpanIn p) ss q d hq hs.each) (behind q d le hq));
  few = let e : length js ≡ 0 = ap (λ (xs : List ℕ). length xs) none in omega arith;
}

-- back over spans that end before the line
pub searched_skipped : (p : PlanParts) → IsPlan p → (s : Span) (ss : List Span) (k j : ℕ) (js : List ℕ) (e : Span) → AreSpans p ss → IsSpanIn p s → 0 < k → IsSearched p s ss k js
    → (get_or ss (k - 1) e).greatest < s.least → IsSkip ss (k - 1) j → IsSearched p s ss j js
searched_skipped p h s ss k j js e hs hone up w lt skip = record {
  within = let a = w.within in let b = skip.back in omega arith;
  each = w.each;
  rest = λ q le hq d lt. elim (cases_lt q k) as (λ _. FineAt (map_of p) s.line (get_or ss q d).line ⊎ Contains js (get_or ss q d).line) [
    | inl before ↦ inl (swapped (map_of p) (get_or ss q d).line s.line (numbered_fine p h (get_or ss q d) s (All-get_or (IsSpanIn p) ss q d hq hs.each) hone (ends_before q d le before (cases_lt q (k - 1)))))
    | inr from ↦ w.rest q from hq d lt
  ];
  few = let a = w.few in let b = skip.back in omega arith;
}
  where
    last : (d : Span) → (get_or ss (k - 1) d).greatest < s.least
    last d = subst (λ (t : Span). t.greatest < s.least) (get_or_default ss (k - 1) e d (let a = w.within in omega arith)) lt

    ends_before : (q : ℕ) (d : Span) → j ≤ q → q < k → (q < (k - 1)) ⊎ ((k - 1) ≤ q) → (get_or ss q d).greatest < s.least
    ends_before q d le before (inl less) = let a = skip.none q d le less in let b = last d in omega arith
    ends_before q d le before (inr from) = subst (λ (n : ℕ). (get_or ss n d).greatest < s.least) (let g : (k - 1) ≡ q = omega arith in g) (last d)

-- one place back
pub searched_more : (p : PlanParts) (s : Span) (ss : List Span) (k : ℕ) (old new : List ℕ) (e : Span) → 0 < k → IsSearched p s ss k old
    → AddsIfClash (map_of p) s.line (get_or ss (k - 1) e).line old new → IsSearched p s ss (k - 1) new
searched_more p s ss k old new e up w adds = go adds
  where
    inside : (k - 1) < length ss
    inside = let a = w.within in omega arith

    -- what holds of the record at the last place, and of all later ones
    all_from : (P : ℕ → Type 0) → P (get_or ss (k - 1) e).line → ((q : ℕ) → k ≤ q → q < length ss → (d : Span) → P (get_or ss q d).line) → (q : ℕ) → (k - 1) ≤ q → q < length ss → (d : Span) → P (get_or ss q d).line
    all_from P here later q le hq d = elim (cases_lt q k) as (λ _. P (get_or ss q d).line) [
      | inl before ↦ subst (λ (n : ℕ). P (get_or ss n d).line) (let g : (k - 1) ≡ q = omega arith in g) (subst (λ (t : Span). P t.line) (get_or_default ss (k - 1) e d inside) here)
      | inr from ↦ later q from hq d
    ]

    go : AddsIfClash (map_of p) s.line (get_or ss (k - 1) e).line old new → IsSearched p s ss (k - 1) new
    go (inl h) = let j = (get_or ss (k - 1) e).line in subst (IsSearched p s ss (k - 1)) (sym h.1) (record {
      within = let a = w.within in omega arith;
      each = λ n c. elim (contains_append n old (j ∷ []) c) as (λ _. IsClash (map_of p) (clash_of_lines s.line n)) [ inl before ↦ w.each n before | inr one ↦ subst (λ (x : ℕ). IsClash (map_of p) (clash_of_lines s.line x)) (contains_one n j one) h.0 ];
      rest = all_from (IsSettled (map_of p) s.line (old ++ j ∷ [])) (λ lt. inr (contains_right j old (j ∷ []) (contains_here j []))) (λ q le hq d lt. elim (w.rest q le hq d lt) as (λ _. FineAt (map_of p) s.line (get_or ss q d).line ⊎ Contains (old ++ j ∷ []) (get_or ss q d).line) [ inl fine ↦ inl fine | inr c ↦ inr (contains_left (get_or ss q d).line old (j ∷ []) c) ]);
      few = let a = w.few in let b = length_pushed old j in omega arith;
    })
    go (inr h) = subst (IsSearched p s ss (k - 1)) (sym h.1) (record {
      within = let a = w.within in omega arith;
      each = w.each;
      rest = all_from (IsSettled (map_of p) s.line old) (λ lt. inl (h.0 lt)) w.rest;
      few = let a = w.few in omega arith;
    })

-- no line stands behind the last record
fine_past : (p : PlanParts) (i j : ℕ) → length p.lines ≤ j → FineAt (map_of p) i j
fine_past p i j le k l ek el = absurd (let lt = line_below p j l el in omega arith)

pub searched_all : (p : PlanParts) (s : Span) (ss : List Span) (k : ℕ) (js : List ℕ) → AreSpans p ss → k ≤ 0 → IsSearched p s ss k js → AreLaterClashes (map_of p) s.line js
searched_all p s ss k js hs none w = record {
  each = w.each;
  rest = λ j. elim (below_or_not j (length p.lines)) as (λ _. IsSettled (map_of p) s.line js j) [
    | inl below ↦ of_each p ss hs (IsSettled (map_of p) s.line js) (λ q d hq. w.rest q (omega arith) hq d) j below
    | inr past ↦ λ lt. inl (fine_past p s.line j past)
  ];
}

-- a record without a line clashes with none
pub none_without : (p : PlanParts) (i : ℕ) (js : List ℕ) → js ≡ [] → option_and_then (λ l. l) (slice_get p.lines i) ≡ None → AreLaterClashes (map_of p) i js
none_without p i js none e = record {
  each = λ j c. absurd (contains_none j (subst (λ (xs : List ℕ). Contains xs j) none c));
  rest = λ j lt. inl (fine_without_first p i j e);
}

pub clashes_in_order : (m : Map) (i : ℕ) (all js : List ℕ) → AreLaterClashes m i all → AreNumbersInOrder all js → AreClashesOf m i js
clashes_in_order m i all js h order = record {
  later = record {
    each = λ j c. h.each j ((order.exactly j).0 c);
    rest = λ j lt. elim (h.rest j lt) as (λ _. FineAt m i j ⊎ Contains js j) [ inl fine ↦ inl fine | inr c ↦ inr ((order.exactly j).1 c) ];
  };
  ascend = order.ascend;
}

-- ---- record after record

-- just the pairs whose first number is below n, in order
pub record AreClashesBelow (m : Map) (n : ℕ) (ps : List LinePair) : Type 0 where
  pub each : (p : LinePair) → Contains ps p → IsClash m p × (p.i < n)
  pub rest : (i j : ℕ) → i < n → i < j → FineAt m i j ⊎ Contains ps (clash_of_lines i j)
  pub ascend : Ascends IsEarlierClash ps

no_clashes : (m : Map) → AreClashesBelow m 0 []
no_clashes m = record { each = λ p c. absurd (contains_none p c); rest = λ i j lt. absurd (omega arith); ascend = λ i j x y lt a b. absurd (none-some x a) }

-- the pairs of one record
record IsOneOf (i : ℕ) (js : List ℕ) (p : LinePair) : Type 0 where
  j : ℕ
  one : Contains js j
  is : p ≡ clash_of_lines i j

one_of : (i : ℕ) (js : List ℕ) (p : LinePair) → Contains (map (clash_of_lines i) js) p → IsOneOf i js p
one_of i [] p c = absurd (contains_none p c)
one_of i (j ∷ js) p c = go (contains_cons p (clash_of_lines i j) (map (clash_of_lines i) js) c) (one_of i js p)
  where
    go : (clash_of_lines i j ≡ p) ⊎ Contains (map (clash_of_lines i) js) p → (Contains (map (clash_of_lines i) js) p → IsOneOf i js p) → IsOneOf i (j ∷ js) p
    go (inl e) rest = record { j = j; one = contains_here j js; is = sym e }
    go (inr c) rest = let w = rest c in record { j = w.j; one = contains_there w.j j js w.one; is = w.is }

pub clashes_more : (m : Map) (n : ℕ) (ps : List LinePair) (js : List ℕ) → AreClashesBelow m n ps → AreClashesOf m n js → AreClashesBelow m (n + 1) (ps ++ map (clash_of_lines n) js)
clashes_more m n ps js w h = record {
  each = λ p c. elim (contains_append p ps (map (clash_of_lines n) js) c) as (λ _. IsClash m p × (p.i < n + 1)) [
    | inl before ↦ let v = w.each p before in let lt = v.1 in (v.0, omega arith)
    | inr here ↦ let one = one_of n js p here in subst (λ (q : LinePair). IsClash m q × (q.i < n + 1)) (sym one.is) (h.later.each one.j one.one, omega arith)
  ];
  rest = λ i j lt up. elim (below_or_last i n lt) as (λ _. FineAt m i j ⊎ Contains (ps ++ map (clash_of_lines n) js) (clash_of_lines i j)) [
    | inl below ↦ elim (w.rest i j below up) as (λ _. FineAt m i j ⊎ Contains (ps ++ map (clash_of_lines n) js) (clash_of_lines i j)) [ inl fine ↦ inl fine | inr c ↦ inr (contains_left (clash_of_lines i j) ps (map (clash_of_lines n) js) c) ]
    | inr last ↦ subst (λ (x : ℕ). FineAt m x j ⊎ Contains (ps ++ map (clash_of_lines n) js) (clash_of_lines x j)) (sym last) (at_last j (subst (λ (x : ℕ). x < j) last up))
  ];
  ascend = ascends_join IsEarlierClash ps (map (clash_of_lines n) js) w.ascend (ascends_map n js h.ascend) (λ p q c d. let a = (w.each p c).1 in let one = one_of n js q d in inl (subst (λ (x : LinePair). p.i < x.i) (sym one.is) a));
}
  where
    at_last : (j : ℕ) → n < j → FineAt m n j ⊎ Contains (ps ++ map (clash_of_lines n) js) (clash_of_lines n j)
    at_last j up = elim (h.later.rest j up) as (λ _. FineAt m n j ⊎ Contains (ps ++ map (clash_of_lines n) js) (clash_of_lines n j)) [ inl fine ↦ inl fine | inr c ↦ inr (contains_right (clash_of_lines n j) ps (map (clash_of_lines n) js) (contains_map (clash_of_lines n) js j c)) ]

-- the first of all pairs so far, and how many there are
pub record AreCounted (p : PlanParts) (n : ℕ) (first : List LinePair) (count : ℕ) : Type 0 where
  pub all : List LinePair
  pub are : AreClashesBelow (map_of p) n all
  pub first_of_all : first ≡ take MOST_CLASHES all
  pub count_of_all : count ≡ length all
  pub few : count ≤ n * 32768

pub none_counted : (p : PlanParts) → AreCounted p 0 [] 0
none_counted p = record { all = []; are = no_clashes (map_of p); first_of_all = refl; count_of_all = refl; few = omega arith }

pub counted_more : (p : PlanParts) (n : ℕ) (first new : List LinePair) (count : ℕ) (js : List ℕ) → AreCounted p n first count → AreClashesOf (map_of p) n js → length js ≤ 32768
    → new ≡ take MOST_CLASHES (first ++ map (clash_of_lines n) js) → AreCounted p (n + 1) new (count + length js)
counted_more p n first new count js w h le e = record {
  all = w.all ++ map (clash_of_lines n) js;
  are = clashes_more (map_of p) n w.all js w.are h;
  first_of_all = e ∙ ap (λ (xs : List LinePair). take MOST_CLASHES (xs ++ map (clash_of_lines n) js)) w.first_of_all ∙ take_joined MOST_CLASHES w.all (map (clash_of_lines n) js);
  count_of_all = let a = w.count_of_all in let b = both w.all js in omega arith;
  few = let a = w.few in omega arith;
}
  where
    both : (ps : List LinePair) (js : List ℕ) → length (ps ++ map (clash_of_lines n) js) ≡ length ps + length js
    both ps js = length-append ps (map (clash_of_lines n) js) ∙ ap (λ (k : ℕ). length ps + k) (length-map js (clash_of_lines n))

pub counted_all : (p : PlanParts) (n : ℕ) (first : List LinePair) (count : ℕ) → length p.lines ≤ n → AreCounted p n first count → AreFirstClashes (map_of p) first count
counted_all p n first count le w = record {
  all = w.all;
  are = record {
    each = λ q c. (w.are.each q c).0;
    rest = λ i j lt. elim (below_or_not i n) as (λ _. FineAt (map_of p) i j ⊎ Contains w.all (clash_of_lines i j)) [ inl below ↦ w.are.rest i j below lt | inr past ↦ inl (swapped (map_of p) j i (fine_past p j i (omega arith))) ];
    ascend = w.are.ascend;
  };
  first_of_all = w.first_of_all;
  count_of_all = w.count_of_all;
}

-- the span of a line that was looked up
pub span_is : (p : PlanParts) (i : ℕ) (l : Line) (s : Span) → i < length p.lines → option_and_then (λ l. l) (slice_get p.lines i) ≡ Some l → s ≡ span_of p.points l i → IsSpanIn p s
span_is p i l s lt there e =
    let line : s.line ≡ i = ap (λ (t : Span). t.line) e in
    (subst (λ (n : ℕ). n < length p.lines) (sym line) lt, e ∙ ap (λ (o : Option Line). span_of_entry p.points o i) (sym there) ∙ ap (λ (n : ℕ). span_at p n) (sym line))

pub clashes_of_span : (p : PlanParts) (i : ℕ) (l : Line) (s : Span) (js : List ℕ) → s ≡ span_of p.points l i → AreLaterClashes (map_of p) s.line js → AreLaterClashes (map_of p) i js
clashes_of_span p i l s js e h = subst (λ (n : ℕ). AreLaterClashes (map_of p) n js) (ap (λ (t : Span). t.line) e) h

pub few_kept : (p : PlanParts) (n : ℕ) (first : List LinePair) (count : ℕ) → AreCounted p n first count → length first ≤ MOST_CLASHES
few_kept p n first count w = let a = ap (λ (ps : List LinePair). length ps) w.first_of_all in let b = length-take MOST_CLASHES w.all in least (length first) (length w.all) (a ∙ b)
  where
    least : (x y : ℕ) → x ≡ min MOST_CLASHES y → x ≤ MOST_CLASHES
    least x y e = omega (arith, clamps)
