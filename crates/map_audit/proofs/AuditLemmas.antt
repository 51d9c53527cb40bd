-- Steps of the search for the first fault, and that there is one at most.
use Rattle.std.proofs.Common.{◌≡◌, ◌≢◌, ℕ, ◌<◌, ◌≤◌, inl, inr, List, length, slice_get, slice_index_or, Option, Some, None, refl, sym, ◌∙◌, ap, subst, subst₂, arith, option_and_then, ◌<ℤ◌, MatchOption, Result, Ok, Err, ◌↔◌}
use Rattle.std.proofs.lemmas.Option.{get_or_from_slice_get, none-some, slice_get-get_or, slice_get_read}
use Rattle.sight_names.specs.declared.names.Pt.{Pt}
use Rattle.sight_names.specs.declared.plan.Line.{Line}
use Rattle.sight_names.specs.declared.faults.LineFault.{LineFault}
use Rattle.sight_names.specs.declared.faults.LineFault.TheVariants.{Cross, Touch, Overlap}
use Rattle.sight_names.specs.Plan.{PlanParts, IsPlan, IsPlanLine, IsBefore}
use Rattle.sight_names.specs.Map.{Map, MapLine, map_of, line_at, looked_up, origin}
use Rattle.sight_names.specs.Sound.{LinesMeetAtEnds}
use Rattle.sight_names.proofs.PlanMap.{points_differ}
use Rattle.geom_exact.specs.declared.Relation.{Relation}
use Rattle.geom_exact.specs.declared.Relation.TheVariants.{Apart, Ends, Cross as Crossing, Touch as Touching, Overlap as Overlapping}
use Rattle.mesh_base.proofs.SightLaws.Plans.{line_there, no_line_there, line_below}
use Rattle.geom_exact.specs.Common.{IsRelation}
use Rattle.geom_exact.proofs.Uniqueness.{one_relation}
use Rattle.geom_exact.proofs.Meeting.{apart_meet, ends_meet, no_meet_overlap, no_meet_touch, no_meet_cross, meet_swapped, apart_swapped}
use Rattle.geom_exact.proofs.Filters.{apart_below, apart_before_all}
use Rattle.map_audit.specs.Audit.{AreFine, FineAt, FineBelow, FineBefore, AreRelated, AreLinesWith, IsFirstPair, IsLineFault, IsLineFaultOf, fault_by}
use Rattle.math_base.proofs.Numbers.{below_differs, below_or_above}
use Rattle.math_base.proofs.Options.{one_value}

-- ---- the two filters, and the ends of a line
pub lines_before : (p : PlanParts) → IsPlan p → (one other : Line) → IsPlanLine p.sectors (length p.points) one → IsPlanLine p.sectors (length p.points) other
    → (one.a < other.a) × (one.a < other.b) × (one.b < other.a) × (one.b < other.b) → AreRelated (looked_up p.points one) (looked_up p.points other) Apart
lines_before p h one other f g lt = apart_before_all (looked_up p.points one).first (looked_up p.points one).second (looked_up p.points other).first (looked_up p.points other).second (before one.a other.a lt.0 g.first, before one.a other.b lt.1 g.second, before one.b other.a lt.2 g.first, before one.b other.b lt.3 g.second)
  where
    before : (i j : ℕ) → i < j → j < length p.points → IsBefore (slice_index_or p.points i origin) (slice_index_or p.points j origin)
    before i j lt hj = h.ascend i j _ _ lt (slice_get-get_or p.points i origin (omega arith)) (slice_get-get_or p.points j origin hj)

pub lines_after : (p : PlanParts) → IsPlan p → (one other : Line) → IsPlanLine p.sectors (length p.points) one → IsPlanLine p.sectors (length p.points) other
    → (other.a < one.a) × (other.a < one.b) × (other.b < one.a) × (other.b < one.b) → AreRelated (looked_up p.points one) (looked_up p.points other) Apart
lines_after p h one other f g lt = apart_swapped (looked_up p.points other).first (looked_up p.points other).second (looked_up p.points one).first (looked_up p.points one).second (lines_before p h other one g f lt)

-- the ends of a line, read from a list that is the points
pub ends_read : (read points : List Pt) → read ≡ points → (sectors : ℕ) (l : Line) → IsPlanLine sectors (length points) l → (u v : Pt) → u ≡ slice_index_or read l.a u → v ≡ slice_index_or read l.b v
    → (slice_index_or points l.a origin ≡ u) × (slice_index_or points l.b origin ≡ v)
ends_read read points e sectors l f u v is_u is_v = (place_read l.a u f.first is_u, place_read l.b v f.second is_v)
  where
    place_read : (k : ℕ) (p : Pt) → k < length points → p ≡ slice_index_or read k p → slice_index_or points k origin ≡ p
    place_read k p within is = get_or_from_slice_get points k p origin (subst (λ (xs : List Pt). slice_get xs k ≡ Some p) e (slice_get_read read (length points) k p (sym (ap (λ (xs : List Pt). length xs) e)) within is))

pub ends_differ : (p : PlanParts) → IsPlan p → (l : Line) → IsPlanLine p.sectors (length p.points) l → (u v : Pt) → (slice_index_or p.points l.a origin ≡ u) × (slice_index_or p.points l.b origin ≡ v) → u ≢ v
ends_differ p h l f u v is = subst₂ (λ (x y : Pt). x ≢ y) is.0 is.1 (points_differ p h l.a l.b f.first f.second f.differ)

module _ (points : List Pt) (one other : Line) (p q r s : Pt) (is_one : (slice_index_or points one.a origin ≡ p) × (slice_index_or points one.b origin ≡ q)) (is_other : (slice_index_or points other.a origin ≡ r) × (slice_index_or points other.b origin ≡ s)) where
  -- what the points have in common the lines have
  pub lines_related : (relation : Relation) → IsRelation p q r s relation → AreRelated (looked_up points one) (looked_up points other) relation
  lines_related relation h =
      subst₂ (λ (x y : Pt). IsRelation x y (slice_index_or points other.a origin) (slice_index_or points other.b origin) relation) (sym is_one.0) (sym is_one.1)
      (subst₂ (λ (x y : Pt). IsRelation p q x y relation) (sym is_other.0) (sym is_other.1) h)

  pub lines_below : (p.y <ℤ r.y) × (p.y <ℤ s.y) × (q.y <ℤ r.y) × (q.y <ℤ s.y) → AreRelated (looked_up points one) (looked_up points other) Apart
  lines_below h = lines_related Apart (apart_below p q r s h)

  pub lines_above : (r.y <ℤ p.y) × (r.y <ℤ q.y) × (s.y <ℤ p.y) × (s.y <ℤ q.y) → AreRelated (looked_up points one) (looked_up points other) Apart
  lines_above h = lines_related Apart (apart_swapped r s p q (apart_below r s p q h))

-- ---- lines of the plan and of its map

-- ---- fine pairs
fine_of : (m : Map) (i j : ℕ) (a b : MapLine) → line_at m i ≡ Some a → line_at m j ≡ Some b → AreFine a b → FineAt m i j
fine_of m i j a b ea eb h k l ek el = subst₂ (λ (x y : MapLine). AreFine x y) (one_value (line_at m i) a k ea ek) (one_value (line_at m j) b l eb el) h

pub fine_without_first : (p : PlanParts) (i j : ℕ) → option_and_then (λ l. l) (slice_get p.lines i) ≡ None → FineAt (map_of p) i j
fine_without_first p i j e k l ek el = absurd (none-some k (sym (no_line_there p i (sym e)) ∙ ek))

fair : (i j : ℕ) (k l : MapLine) (relation : Relation) → fault_by i j relation ≡ None → AreRelated k l relation → AreFine k l
fair i j k l Apart e h = apart_meet k.first k.second l.first l.second h
fair i j k l Ends e h = ends_meet k.first k.second l.first l.second h
fair i j k l Touching e h = absurd (none-some _ (sym e))
fair i j k l Crossing e h = absurd (none-some _ (sym e))
fair i j k l Overlapping e h = absurd (none-some _ (sym e))

unfair : (i j : ℕ) (k l : MapLine) (relation : Relation) (f : LineFault) → fault_by i j relation ≡ Some f → AreRelated k l relation → ¬ AreFine k l
unfair i j k l Apart f e h = absurd (none-some f e)
unfair i j k l Ends f e h = absurd (none-some f e)
unfair i j k l Touching f e h = no_meet_touch k.first k.second l.first l.second h
unfair i j k l Crossing f e h = no_meet_cross k.first k.second l.first l.second h
unfair i j k l Overlapping f e h = no_meet_overlap k.first k.second l.first l.second h

pair_of : (p : PlanParts) (i j : ℕ) (one other : Line) (relation : Relation) → option_and_then (λ l. l) (slice_get p.lines i) ≡ Some one → option_and_then (λ l. l) (slice_get p.lines j) ≡ Some other
    → AreRelated (looked_up p.points one) (looked_up p.points other) relation → AreLinesWith (map_of p) i j relation
pair_of p i j one other relation e f h = record {
  one = looked_up p.points one;
  is_one = line_there p i one (sym e);
  other = looked_up p.points other;
  is_other = line_there p j other (sym f);
  related = h;
}

-- what a call on two lines answers
pub answered : (p : PlanParts) (i j : ℕ) (one other : Line) (relation : Relation) (answer : Option LineFault) → option_and_then (λ l. l) (slice_get p.lines i) ≡ Some one → option_and_then (λ l. l) (slice_get p.lines j) ≡ Some other
    → AreRelated (looked_up p.points one) (looked_up p.points other) relation → answer ≡ fault_by i j relation → MatchOption answer (FineAt (map_of p) i j) (λ f. IsLineFaultOf (map_of p) i j f)
answered p i j one other relation None e f h g = fine_of (map_of p) i j (looked_up p.points one) (looked_up p.points other) (line_there p i one (sym e)) (line_there p j other (sym f)) (fair i j (looked_up p.points one) (looked_up p.points other) relation (sym g) h)
answered p i j one other relation (Some fault) e f h g = record { relation = relation; pair = pair_of p i j one other relation e f h; named = sym g }

-- nothing is left behind the last record
pub all_later : (p : PlanParts) (i n : ℕ) → FineBelow (map_of p) i n → length p.lines ≤ n → (j : ℕ) → i < j → FineAt (map_of p) i j
all_later p i n h le j lt k l ek el = h j (let w = line_below p j l el in omega arith) lt k l ek el

-- ---- the first pair

-- the first pair of a fault
pub record Found (m : Map) (f : LineFault) : Type 0 where
  pub i : ℕ
  pub j : ℕ
  pub relation : Relation
  pub first : IsFirstPair m i j relation
  pub named : fault_by i j relation ≡ Some f

found : (m : Map) (f : LineFault) → IsLineFault m f → Found m f
found m (Cross i j) h = record { i = i; j = j; relation = Crossing; first = h; named = refl }
found m (Touch i j) h = record { i = i; j = j; relation = Touching; first = h; named = refl }
found m (Overlap i j) h = record { i = i; j = j; relation = Overlapping; first = h; named = refl }

not_fine : (m : Map) (f : LineFault) (h : Found m f) → ¬ FineAt m h.i h.j
not_fine m f h fine = search unfair

not_earlier : (m : Map) (f g : LineFault) (h : Found m f) (k : Found m g) → ¬ (h.i < k.i)
not_earlier m f g h k lt = not_fine m f h (k.first.earlier h.i lt h.j h.first.ordered)

not_between : (m : Map) (f g : LineFault) (h : Found m f) (k : Found m g) → h.i ≡ k.i → ¬ (h.j < k.j)
not_between m f g h k e lt = not_fine m f h (subst (λ (i : ℕ). FineAt m i h.j) (sym e) (k.first.between h.j lt (subst (λ (i : ℕ). i < h.j) e h.first.ordered)))

same_number : (a b : ℕ) → ¬ (a < b) → ¬ (b < a) → a ≡ b
same_number a b h k = grind arith

same_relation : (m : Map) (i j i' j' : ℕ) (r r' : Relation) → i ≡ i' → j ≡ j' → AreLinesWith m i j r → AreLinesWith m i' j' r' → r ≡ r'
same_relation m i j i' j' r r' ei ej p q =
    let a = one_value (line_at m i') p.one q.one (subst (λ (n : ℕ). line_at m n ≡ Some p.one) ei p.is_one) q.is_one in
    let b = one_value (line_at m j') p.other q.other (subst (λ (n : ℕ). line_at m n ≡ Some p.other) ej p.is_other) q.is_other in
    one_relation q.one.first q.one.second q.other.first q.other.second r r' (subst₂ (λ (x y : MapLine). AreRelated x y r) a b p.related) q.related

pub one_fault : (m : Map) (f g : LineFault) → IsLineFault m f → IsLineFault m g → f ≡ g
one_fault m f g hf hg =
    let h = found m f hf in
    let k = found m g hg in
    let ei = same_number h.i k.i (not_earlier m f g h k) (not_earlier m g f k h) in
    let ej = same_number h.j k.j (not_between m f g h k ei) (not_between m g f k h (sym ei)) in
    let er = same_relation m h.i h.j k.i k.j h.relation k.relation ei ej h.first.pair k.first.pair in
    joined (sym h.named ∙ ap (λ (i : ℕ). fault_by i h.j h.relation) ei ∙ ap (λ (j : ℕ). fault_by k.i j h.relation) ej ∙ ap (fault_by k.i k.j) er ∙ k.named)
  where
    joined : Some f ≡ Some g → f ≡ g
    joined e = cc

-- ---- a sound map
pub sound_of : (p : PlanParts) → FineBefore (map_of p) (length p.lines) → LinesMeetAtEnds (map_of p)
sound_of p h i j k l n ek el = elim (below_or_above i j n) as (λ _. AreFine k l) [
  | inl lt ↦ h i (line_below p i k ek) j lt k l ek el
  | inr lt ↦ meet_swapped l.first l.second k.first k.second (h j (line_below p j l el) i lt l k el ek)
]

pub not_sound : (m : Map) (f : LineFault) → IsLineFault m f → ¬ LinesMeetAtEnds m
not_sound m f hf s =
    let h = found m f hf in
    not_fine m f h (λ k l ek el. s h.i h.j k l (below_differs h.i h.j h.first.ordered) ek el)

-- the clauses of the audit
pub refused_fault : (m : Map) (fault f : LineFault) → IsLineFault m fault → (◌≡◌ {A = Result (Unit {0}) LineFault} (Err fault) (Err f)) ↔ IsLineFault m f
refused_fault m fault f h = grind (arith, one_fault)

pub accepted_fault : (m : Map) (f : LineFault) → LinesMeetAtEnds m → (◌≡◌ {A = Result (Unit {0}) LineFault} (Ok tt) (Err f)) ↔ IsLineFault m f
accepted_fault m f h = grind (arith, not_sound)
