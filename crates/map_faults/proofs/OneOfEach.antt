-- What is told of a map's faults is told in one way: lists in order that have the same members are one list.
use Rattle.std.proofs.Common.{◌≡◌, ℕ, ◌<◌, ◌⊎◌, inl, inr, List, [], ◌∷◌, length, take, Contains, Option, Some, None, MatchOption, ℤ, pos, ◌+ℤ◌, ◌*ℤ◌, ◌≤ℤ◌, ◌<ℤ◌, refl, sym, ap, ap₂, ◌∙◌, subst, subst₂, arith}
use borrow.Author.Differences.{ints}
use Rattle.std.proofs.Math.IntN.{*ℤ_comm}
use Rattle.std.proofs.lemmas.Bool.{false≢true}
use Rattle.std.proofs.lemmas.Option.{none-some, same_Some}
use Rattle.math_base.proofs.Options.{one_value}
use Rattle.math_base.proofs.Signs.{le_or_lt, mul-le}
use Rattle.sight_names.specs.declared.faults.LineFault.{LineFault}
use Rattle.sight_names.specs.declared.names.Pt.{Pt}
use Rattle.sight_names.specs.declared.names.Side.{Side}
use Rattle.sight_names.specs.declared.names.Triangle.{Triangle}
use Rattle.sight_names.specs.Map.{Map, MapLine, line_at, map_of}
use Rattle.sight_names.specs.Plan.{PlanParts}
use Rattle.sight_names.specs.Point.{Point}
use Rattle.sight_names.specs.Points.{Edge}
use Rattle.sight_names.specs.Sound.{IsCommon, MeetAtEnds}
use Rattle.sight_names.proofs.Lists.{same_ascending}
use Rattle.sight_names.proofs.Records.{same_pt}
use Rattle.geom_exact.specs.declared.Relation.{Relation}
use Rattle.geom_exact.specs.declared.Relation.TheVariants.{Apart, Ends, Cross, Touch, Overlap}
use Rattle.geom_exact.specs.Formulas.{turn_of}
use Rattle.geom_exact.proofs.Meeting.{no_meet_cross, no_meet_overlap, no_meet_touch}
use Rattle.geom_exact.proofs.Uniqueness.{one_relation}
use Rattle.map_audit.specs.Audit.{AreRelated, FineAt, IsLineFaultOf, fault_by}
use Rattle.mesh_shape.specs.Faults.{IsSideBefore}
use Rattle.mesh_shape.specs.HalfEdges.Numbers.{edge}
use Rattle.map_faults.specs.declared.clashes.LinePair.{LinePair}
use Rattle.map_faults.specs.declared.clashes.TheConstants.{MOST_CLASHES}
use Rattle.map_faults.specs.declared.loose_ends.LooseEnd.{LooseEnd}
use Rattle.map_faults.specs.declared.tears.Tear.{Tear}
use Rattle.map_faults.specs.Clashes.{AreClashes, AreFirstClashes, AreNumbersInOrder, IsClash, IsEarlierClash}
use Rattle.map_faults.specs.Corners.{AreCornersOf, IsOneCornerOf, IsRoundedDown}
use Rattle.map_faults.specs.EdgeSides.{side_by}
use Rattle.map_faults.specs.LooseEnds.{AreLooseEnds}
use Rattle.map_faults.specs.OpenSides.{AreOpenSides}
use Rattle.map_faults.specs.Tears.{AreTearsBy, DoDiffer, IsBorder, IsTear, IsTearBefore, TurnsRound}

-- ---- numbers in order

not_itself : (x : ℕ) → x < x → ⊥
not_itself x h = omega arith

not_turned : (x y : ℕ) → x < y → y < x → ⊥
not_turned x y h k = omega arith

pub one_order : (all more ns os : List ℕ) → AreNumbersInOrder all ns → AreNumbersInOrder more os → ((n : ℕ) → Contains all n → Contains more n) → ((n : ℕ) → Contains more n → Contains all n) → ns ≡ os
one_order all more ns os f g there back =
    same_ascending (λ x y. x < y) not_itself not_turned ns os f.ascend g.ascend (λ n c. (g.exactly n).1 (there n ((f.exactly n).0 c))) (λ n c. (f.exactly n).1 (back n ((g.exactly n).0 c)))

-- ---- a pair of lines

pub not_fine : (m : Map) (i j : ℕ) (f : LineFault) → IsLineFaultOf m i j f → FineAt m i j → ⊥
not_fine m i j f h fine = go h.relation h.pair.related h.named (fine h.pair.one h.pair.other h.pair.is_one h.pair.is_other)
  where
    go : (r : Relation) → AreRelated h.pair.one h.pair.other r → fault_by i j r ≡ Some f → MeetAtEnds h.pair.one.first h.pair.one.second h.pair.other.first h.pair.other.second → ⊥
    go Apart related e meet = none-some f e
    go Ends related e meet = none-some f e
    go Cross related e meet = no_meet_cross h.pair.one.first h.pair.one.second h.pair.other.first h.pair.other.second related meet
    go Touch related e meet = no_meet_touch h.pair.one.first h.pair.one.second h.pair.other.first h.pair.other.second related meet
    go Overlap related e meet = no_meet_overlap h.pair.one.first h.pair.one.second h.pair.other.first h.pair.other.second related meet

pub one_fault_of : (m : Map) (i j : ℕ) (f g : LineFault) → IsLineFaultOf m i j f → IsLineFaultOf m i j g → f ≡ g
one_fault_of m i j f g h k = joined (sym h.named ∙ ap (fault_by i j) same ∙ k.named)
  where
    first : h.pair.one ≡ k.pair.one
    first = one_value (line_at m i) h.pair.one k.pair.one h.pair.is_one k.pair.is_one

    second : h.pair.other ≡ k.pair.other
    second = one_value (line_at m j) h.pair.other k.pair.other h.pair.is_other k.pair.is_other

    same : h.relation ≡ k.relation
    same = one_relation k.pair.one.first k.pair.one.second k.pair.other.first k.pair.other.second h.relation k.relation (subst₂ (λ (x y : MapLine). AreRelated x y h.relation) first second h.pair.related) k.pair.related

    joined : Some f ≡ Some g → f ≡ g
    joined e = cc

-- lines that clash have a point in common
common : (m : Map) (i j : ℕ) (f : LineFault) (h : IsLineFaultOf m i j f) → (z : Point) × IsCommon h.pair.one.first h.pair.one.second h.pair.other.first h.pair.other.second z
common m i j f h = go h.relation h.pair.related h.named
  where
    go : (r : Relation) → AreRelated h.pair.one h.pair.other r → fault_by i j r ≡ Some f → (z : Point) × IsCommon h.pair.one.first h.pair.one.second h.pair.other.first h.pair.other.second z
    go Apart related e = absurd (none-some f e)
    go Ends related e = absurd (none-some f e)
    go Cross related e = (related.0, related.1.common)
    go Touch related e = (related.0, related.1.common)
    go Overlap related e = (related.0, related.2)

not_below : (d : ℕ) (a b z : ℤ) → z <ℤ ((a +ℤ pos 1) *ℤ pos d) → (b *ℤ pos d) ≤ℤ z → a <ℤ b → ⊥
not_below d a b z above below lt = clash _ _ _ _ z above (*ℤ_comm (a +ℤ pos 1) (pos d)) (mul-le (pos d) (a +ℤ pos 1) b (natural d) (next a b lt)) (*ℤ_comm (pos d) b) below
  where
    natural : (d : ℕ) → pos 0 ≤ℤ pos d
    natural d = omega (arith, ints)

    next : (a b : ℤ) → a <ℤ b → (a +ℤ pos 1) ≤ℤ b
    next a b h = omega (arith, ints)

    clash : (u v w x z : ℤ) → z <ℤ u → u ≡ v → v ≤ℤ w → w ≡ x → x ≤ℤ z → ⊥
    clash u v w x z h e k f g = omega (arith, ints)

one_down : (d : ℕ) (a b z : ℤ) → (a *ℤ pos d) ≤ℤ z → z <ℤ ((a +ℤ pos 1) *ℤ pos d) → (b *ℤ pos d) ≤ℤ z → z <ℤ ((b +ℤ pos 1) *ℤ pos d) → a ≡ b
one_down d a b z from to from_too to_too = elim (le_or_lt a b) as (λ _. a ≡ b) [
  | inl le ↦ elim (le_or_lt b a) as (λ _. a ≡ b) [
    | inl ge ↦ equal a b le ge
    | inr lt ↦ absurd (not_below d a b z to from_too lt)
  ]
  | inr lt ↦ absurd (not_below d b a z to_too from lt)
]
  where
    equal : (a b : ℤ) → a ≤ℤ b → b ≤ℤ a → a ≡ b
    equal a b h k = omega (arith, ints)

one_rounded : (z : Point) (c e : Pt) → IsRoundedDown z c → IsRoundedDown z e → c ≡ e
one_rounded z c e h k = same_pt c e across up
  where
    across : c.x ≡ e.x
    across = one_down z.d c.x e.x z.x h.x_from h.x_to k.x_from k.x_to

    up : c.y ≡ e.y
    up = one_down z.d c.y e.y z.y h.y_from h.y_to k.y_from k.y_to

module _ (k l : MapLine) (z : Point) (at : IsCommon k.first k.second l.first l.second z) where
  abbrev IsMeeting : Option Pt → Type 0
  IsMeeting o = MatchOption o (turn_of k.first k.second l.first ≡ turn_of k.first k.second l.second) (IsOneCornerOf k.first k.second l.first l.second)

  one_meeting : (o u : Option Pt) → IsMeeting o → IsMeeting u → o ≡ u
  one_meeting None None a b = refl
  one_meeting None (Some c) a b = absurd (b.0 a)
  one_meeting (Some c) None a b = absurd (a.0 b)
  one_meeting (Some c) (Some e) a b = ap (λ (p : Pt). Some p) (one_rounded z c e (a.1 z at) (b.1 z at))

pub one_corner : (m : Map) (i j : ℕ) (f : LineFault) (o u : Option Pt) → IsLineFaultOf m i j f → AreCornersOf m i j o → AreCornersOf m i j u → o ≡ u
one_corner m i j f o u h g n =
    let z = common m i j f h in
    let k = h.pair.one in
    let l = h.pair.other in
    one_meeting k l z.0 z.1 o u (g k l h.pair.is_one h.pair.is_other) (n k l h.pair.is_one h.pair.is_other)

-- ---- all clashes

earlier_itself : (p : LinePair) → IsEarlierClash p p → ⊥
earlier_itself p (inl h) = omega arith
earlier_itself p (inr h) = let k = h.1 in omega arith

earlier_turned : (p q : LinePair) → IsEarlierClash p q → IsEarlierClash q p → ⊥
earlier_turned p q (inl h) (inl k) = omega arith
earlier_turned p q (inl h) (inr k) = let e = k.0 in omega arith
earlier_turned p q (inr h) (inl k) = let e = h.0 in omega arith
earlier_turned p q (inr h) (inr k) = let a = h.1 in let b = k.1 in omega arith

clash_there : (m : Map) (qs : List LinePair) → AreClashes m qs → (p : LinePair) → IsClash m p → Contains qs p
clash_there m qs k p c = elim (k.rest p.i p.j c.ordered) as (λ _. Contains qs p) [ inl fine ↦ absurd (not_fine m p.i p.j c.fault c.is fine) | inr there ↦ there ]

one_clashes : (m : Map) (ps qs : List LinePair) → AreClashes m ps → AreClashes m qs → ps ≡ qs
one_clashes m ps qs h k = same_ascending IsEarlierClash earlier_itself earlier_turned ps qs h.ascend k.ascend (λ p c. clash_there m qs k p (h.each p c)) (λ p c. clash_there m ps h p (k.each p c))

pub one_first : (m : Map) (ps qs : List LinePair) (c d : ℕ) → AreFirstClashes m ps c → AreFirstClashes m qs d → (ps ≡ qs) × (c ≡ d)
one_first m ps qs c d h k =
    let all = one_clashes m h.all k.all h.are k.are in
    (h.first_of_all ∙ ap (take MOST_CLASHES) all ∙ sym k.first_of_all, h.count_of_all ∙ ap length all ∙ sym k.count_of_all)

-- ---- open sides and loose ends

side_itself : (s : Side) → IsSideBefore s s → ⊥
side_itself s (inl h) = omega arith
side_itself s (inr h) = false≢true (sym h.1 ∙ h.2)

side_turned : (s t : Side) → IsSideBefore s t → IsSideBefore t s → ⊥
side_turned s t (inl h) (inl k) = omega arith
side_turned s t (inl h) (inr k) = let e = k.0 in omega arith
side_turned s t (inr h) (inl k) = let e = h.0 in omega arith
side_turned s t (inr h) (inr k) = false≢true (sym h.1 ∙ k.2)

pub one_open : (m : Map) (ss ts : List Side) → AreOpenSides m ss → AreOpenSides m ts → ss ≡ ts
one_open m ss ts h k = same_ascending IsSideBefore side_itself side_turned ss ts h.ascend k.ascend (λ s c. go s (h.each s c).1 (k.rest s tt)) (λ s c. go s (k.each s c).1 (h.rest s tt))
  where
    go : {P Q : Type 0} (s : Side) → ¬ P → P ⊎ Q → Q
    go s n (inl p) = absurd (n p)
    go s n (inr q) = q

abbrev LooseBefore : LooseEnd → LooseEnd → Type 0
LooseBefore e f = e.point < f.point

pub one_loose : (p : PlanParts) (es fs : List LooseEnd) → AreLooseEnds p es → AreLooseEnds p fs → es ≡ fs
one_loose p es fs h k = same_ascending LooseBefore (λ e. not_itself e.point) (λ e f. not_turned e.point f.point) es fs h.ascend k.ascend (λ e c. k.all e (h.each e c)) (λ e c. h.all e (k.each e c))

-- ---- torn corners, by the sides that the edges are

module _ (ts : List Triangle) (ss us : List (Option Side)) (same : (e : Edge) → side_by ts ss e ≡ side_by ts us e) where
  border_too : (e : Edge) → IsBorder ts ss e → IsBorder ts us e
  border_too e (inl h) = inl (h.0, sym (same e) ∙ h.1)
  border_too e (inr h) = inr h

  border_back : (e : Edge) → IsBorder ts us e → IsBorder ts ss e
  border_back e (inl h) = inl (h.0, same e ∙ h.1)
  border_back e (inr h) = inr h

  pub turn_too : (point x : ℕ) (ys : List ℕ) (w : ℕ) → TurnsRound ts ss point x ys w → TurnsRound ts us point x ys w
  turn_too point x [] w h = (h.0, border_too (edge point w) h.1)
  turn_too point x (y ∷ ys) w h = (h.0, (λ b. h.1 (border_back (edge point y) b)), turn_too point y ys w h.2)

  tear_too : (p : PlanParts) (t : Tear) → IsTear p ts ss t → IsTear p ts us t
  tear_too p t h = record {
    line = h.line;
    is = h.is;
    along = h.along;
    torn = record {
      way = h.torn.way;
      turn = (turn_too t.point t.from h.torn.way t.to h.torn.turn.0, h.torn.turn.1);
      differ = subst (λ (o : Option Side). DoDiffer (map_of p) (Some t.side) o) (same (edge t.point t.to)) h.torn.differ;
    };
  }

  corners_too : (p : PlanParts) (tears more : List Tear) → AreTearsBy p ts ss tears → AreTearsBy p ts us more → (t : Tear) → Contains tears t → Contains more t
  corners_too p tears more h k t c = k.all t tt (tear_too p t (h.each t c))

pub one_tears : (p : PlanParts) (ts : List Triangle) (ss us : List (Option Side)) → ((e : Edge) → side_by ts ss e ≡ side_by ts us e) → (tears more : List Tear) → AreTearsBy p ts ss tears → AreTearsBy p ts us more → tears ≡ more
one_tears p ts ss us same tears more h k =
    same_ascending IsTearBefore (λ t. side_itself t.side) (λ t u. side_turned t.side u.side) tears more h.ascend k.ascend
    (corners_too ts ss us same p tears more h k) (corners_too ts us ss (λ e. sym (same e)) p more tears k h)

-- the way of a turn
pub one_way : (ts : List Triangle) (ss : List (Option Side)) (point x : ℕ) (ys zs : List ℕ) (w : ℕ) → TurnsRound ts ss point x ys w → TurnsRound ts ss point x zs w → ys ≡ zs
one_way ts ss point x [] [] w h k = refl
one_way ts ss point x [] (z ∷ zs) w h k = absurd (k.1 (subst (λ (u : ℕ). IsBorder ts ss (edge point u)) (same_Some w z (sym h.0 ∙ k.0)) h.1))
one_way ts ss point x (y ∷ ys) [] w h k = absurd (h.1 (subst (λ (u : ℕ). IsBorder ts ss (edge point u)) (same_Some w y (sym k.0 ∙ h.0)) k.1))
one_way ts ss point x (y ∷ ys) (z ∷ zs) w h k =
    let e = same_Some z y (sym k.0 ∙ h.0) in
    ap₂ (λ (u : ℕ) (us : List ℕ). u ∷ us) (sym e) (one_way ts ss point y ys zs w h.2 (subst (λ (u : ℕ). TurnsRound ts ss point u zs w) e k.2))
