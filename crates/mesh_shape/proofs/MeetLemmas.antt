-- Two segments meet at ends alone exactly where they are apart or have an end of both in common.
use Rattle.sight_names.specs.declared.names.Pt.{Pt}
use Rattle.sight_names.specs.Sound.{MeetAtEnds}
use Rattle.geom_exact.specs.declared.Relation.TheVariants.{Overlap}
use Rattle.geom_exact.specs.Common.{IsRelation}

pub overlap_not : (p q r s : Pt) → IsRelation p q r s Overlap → MeetAtEnds p q r s → ⊥
overlap_not p q r s (u, v, c, d, differ) h = differ (h.one u v c d)
