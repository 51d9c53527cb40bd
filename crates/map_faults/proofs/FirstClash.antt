-- The first clash is the fault that an audit tells, and there is none exactly where the lines meet at ends alone.
use Rattle.std.proofs.Common.{◌≡◌, ℕ, ◌<◌, ◌≤◌, ◌⊎◌, inl, inr, ◌↔◌, List, [], ◌∷◌, length, slice_get, Some, Contains, refl, sym, ◌∙◌, ap, subst, arith}
use Rattle.std.proofs.lemmas.Option.{none-some, same_Some}
use Rattle.math_base.proofs.Lists.{contains_none, contains_here, get_take}
use Rattle.math_base.proofs.Numbers.{below_or_above, below_or_not, below_differs}
use Rattle.sight_names.specs.declared.faults.LineFault.{LineFault}
use Rattle.sight_names.specs.Map.{Map, MapLine}
use Rattle.sight_names.specs.Sound.{LinesMeetAtEnds}
use Rattle.sight_names.proofs.Lists.{get_of_contains}
use Rattle.geom_exact.specs.declared.Relation.{Relation}
use Rattle.geom_exact.specs.declared.Relation.TheVariants.{Apart, Ends, Cross as Crossing, Touch as Touching, Overlap as Overlapping}
use Rattle.geom_exact.proofs.Meeting.{meet_swapped, no_meet_overlap, no_meet_touch, no_meet_cross}
use Rattle.map_audit.specs.Audit.{AreFine, FineAt, AreRelated, IsFirstPair, IsLineFault, IsLineFaultOf, fault_by}
use Rattle.map_faults.specs.declared.clashes.LinePair.{LinePair}
use Rattle.map_faults.specs.declared.clashes.TheConstants.{MOST_CLASHES}
use Rattle.map_faults.specs.Clashes.{clash_of_lines, IsClash, IsEarlierClash, AreClashes, AreFirstClashes}

unfair : (i j : ℕ) (k l : MapLine) (relation : Relation) (f : LineFault) → fault_by i j relation ≡ Some f → AreRelated k l relation → ¬ AreFine k l
unfair i j k l Apart f e h = absurd (none-some f e)
unfair i j k l Ends f e h = absurd (none-some f e)
unfair i j k l Touching f e h = no_meet_touch k.first k.second l.first l.second h
unfair i j k l Crossing f e h = no_meet_cross k.first k.second l.first l.second h
unfair i j k l Overlapping f e h = no_meet_overlap k.first k.second l.first l.second h

pub clash_not_fine : (m : Map) (p : LinePair) → IsClash m p → ¬ FineAt m p.i p.j
clash_not_fine m p c fine = let w = c.is in unfair p.i p.j w.pair.one w.pair.other w.relation c.fault w.named w.pair.related (fine w.pair.one w.pair.other w.pair.is_one w.pair.is_other)

first_pair : (m : Map) (i j : ℕ) (relation : Relation) (f : LineFault) → fault_by i j relation ≡ Some f → IsFirstPair m i j relation → IsLineFault m f
first_pair m i j Apart f e h = absurd (none-some f e)
first_pair m i j Ends f e h = absurd (none-some f e)
first_pair m i j Touching f e h = subst (IsLineFault m) (same_Some _ f e) h
first_pair m i j Crossing f e h = subst (IsLineFault m) (same_Some _ f e) h
first_pair m i j Overlapping f e h = subst (IsLineFault m) (same_Some _ f e) h

-- no pair before the first is listed
not_before : (m : Map) (ps : List LinePair) (p q : LinePair) → AreClashes m ps → slice_get ps 0 ≡ Some p → IsEarlierClash q p → ¬ Contains ps q
not_before m ps p q h first early c = go (below_or_not 0 c.0)
  where
    at : slice_get ps c.0 ≡ Some q
    at = get_of_contains ps q c.0 c.1 c.2

    turned : (x y : LinePair) → IsEarlierClash x y → IsEarlierClash y x → ⊥
    turned x y (inl a) (inl b) = omega arith
    turned x y (inl a) (inr b) = let e = b.0 in omega arith
    turned x y (inr a) (inl b) = let e = a.0 in omega arith
    turned x y (inr a) (inr b) = let e = a.1 in let d = b.1 in omega arith

    itself : (x : LinePair) → IsEarlierClash x x → ⊥
    itself x e = turned x x e e

    go : (0 < c.0) ⊎ (c.0 ≤ 0) → ⊥
    go (inl lt) = turned p q (h.ascend 0 c.0 p q lt first at) early
    go (inr past) = itself p (subst (λ (x : LinePair). IsEarlierClash x p) (same_Some q p (sym at ∙ ap (slice_get ps) (let e : c.0 ≡ 0 = omega arith in e) ∙ first)) early)

first_of_list : (m : Map) (ps : List LinePair) (p : LinePair) (f : LineFault) → AreClashes m ps → slice_get ps 0 ≡ Some p → p.i < p.j → IsLineFaultOf m p.i p.j f → IsLineFault m f
first_of_list m ps p f h first lt w = first_pair m p.i p.j w.relation f w.named (record {
  ordered = lt;
  pair = w.pair;
  earlier = λ g below j up. fine g j up (inl below);
  between = λ j below up. fine p.i j up (inr (refl, below));
})
  where
    fine : (g j : ℕ) → g < j → IsEarlierClash (clash_of_lines g j) p → FineAt m g j
    fine g j up early = elim (h.rest g j up) as (λ _. FineAt m g j) [ inl x ↦ x | inr c ↦ absurd (not_before m ps p (clash_of_lines g j) h first early c) ]

head_contained : (ps : List LinePair) (p : LinePair) → slice_get ps 0 ≡ Some p → Contains ps p
head_contained [] p e = absurd (none-some p e)
head_contained (q ∷ ps) p e = subst (Contains (q ∷ ps)) (same_Some q p e) (contains_here q ps)

pub first_is_told : (m : Map) (first : List LinePair) (count : ℕ) → AreFirstClashes m first count → (p : LinePair) (f : LineFault) → slice_get first 0 ≡ Some p → IsLineFaultOf m p.i p.j f → IsLineFault m f
first_is_told m first count w p f at is =
    let here = (get_take MOST_CLASHES w.all 0 p (ap (λ (ps : List LinePair). slice_get ps 0) (sym w.first_of_all) ∙ at)).1 in
    first_of_list m w.all p f w.are here (w.are.each p (head_contained w.all p here)).ordered is

pub none_where_sound : (m : Map) (first : List LinePair) (count : ℕ) → AreFirstClashes m first count → (count ≡ 0) ↔ LinesMeetAtEnds m
none_where_sound m first count w = (sound w.all w.are w.count_of_all, λ s. w.count_of_all ∙ none w.all w.are s)
  where
    none : (ps : List LinePair) → AreClashes m ps → LinesMeetAtEnds m → length ps ≡ 0
    none [] h s = refl
    none (p ∷ ps) h s = let c = h.each p (contains_here p ps) in absurd (clash_not_fine m p c (λ k l ek el. s p.i p.j k l (below_differs p.i p.j c.ordered) ek el))

    sound : (ps : List LinePair) → AreClashes m ps → count ≡ length ps → count ≡ 0 → LinesMeetAtEnds m
    sound [] h e z i j k l n ek el = elim (below_or_above i j n) as (λ _. AreFine k l) [
      | inl lt ↦ elim (h.rest i j lt) as (λ _. AreFine k l) [ inl fine ↦ fine k l ek el | inr c ↦ absurd (contains_none (clash_of_lines i j) c) ]
      | inr lt ↦ meet_swapped l.first l.second k.first k.second (elim (h.rest j i lt) as (λ _. AreFine l k) [ inl fine ↦ fine l k el ek | inr c ↦ absurd (contains_none (clash_of_lines j i) c) ])
    ]
    sound (p ∷ ps) h e z i j k l n ek el = absurd (let a : length (p ∷ ps) ≡ 0 = sym e ∙ z in omega arith)
