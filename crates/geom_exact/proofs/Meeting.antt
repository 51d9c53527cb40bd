-- Two segments have at most one common point, an end of both, exactly where they are apart or have an end in common.
use Rattle.std.proofs.Common.{inl, inr}
use Rattle.sight_names.specs.declared.names.Pt.{Pt}
use Rattle.sight_names.specs.Sound.{MeetAtEnds}
use Rattle.geom_exact.specs.declared.Relation.TheVariants.{Apart, Overlap, Ends, Touch, Cross}
use Rattle.geom_exact.specs.Common.{IsRelation}
use Rattle.geom_exact.proofs.Uniqueness.{same_trans, end_same}
use Rattle.sight_names.proofs.Laws.{same_point_sym}

pub apart_meet : (p q r s : Pt) → IsRelation p q r s Apart → MeetAtEnds p q r s
apart_meet p q r s h = record { one = λ u v hu hv. absurd (h u hu); ends = λ u hu. absurd (h u hu) }

pub ends_meet : (p q r s : Pt) → IsRelation p q r s Ends → MeetAtEnds p q r s
ends_meet p q r s h = record {
  one = λ u v hu hv. same_trans u h.0 v (h.1.only u hu) (same_point_sym v h.0 (h.1.only v hv));
  ends = λ u hu. let e = same_point_sym u h.0 (h.1.only u hu) in (end_same p q h.0 u e h.2, end_same r s h.0 u e h.3);
}

pub no_meet_overlap : (p q r s : Pt) → IsRelation p q r s Overlap → ¬ MeetAtEnds p q r s
no_meet_overlap p q r s h m = h.4 (m.one h.0 h.1 h.2 h.3)

pub no_meet_touch : (p q r s : Pt) → IsRelation p q r s Touch → ¬ MeetAtEnds p q r s
no_meet_touch p q r s h m =
    let e = m.ends h.0 h.1.common in
    elim h.2 as (λ _. ⊥) [ inl g ↦ g.1 e.1 | inr g ↦ g.0 e.0 ]

pub no_meet_cross : (p q r s : Pt) → IsRelation p q r s Cross → ¬ MeetAtEnds p q r s
no_meet_cross p q r s h m = h.2 (m.ends h.0 h.1.common).0

-- the two segments exchanged
pub meet_swapped : (p q r s : Pt) → MeetAtEnds p q r s → MeetAtEnds r s p q
meet_swapped p q r s m = record {
  one = λ u v hu hv. m.one u v (hu.1, hu.0) (hv.1, hv.0);
  ends = λ u hu. let e = m.ends u (hu.1, hu.0) in (e.1, e.0);
}

pub apart_swapped : (p q r s : Pt) → IsRelation p q r s Apart → IsRelation r s p q Apart
apart_swapped p q r s h u c = h u (c.1, c.0)
