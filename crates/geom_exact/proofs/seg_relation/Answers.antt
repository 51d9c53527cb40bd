use Rattle.std.proofs.Common.{arith, to_z-of_z}
use Rattle.std.proofs.lemmas.Int.{ints}
use Rattle.geom_exact.proofs.RelationLemmas.{apart_on_side, apart_on_other_side, meets}
use Rattle.geom_exact.proofs.seg_relation.Goals as goal

pub returns-then-same_side : goal.returns-then-same_side
returns-then-same_side c = apart_on_side c.args.p c.args.q c.args.r c.args.s (grind (arith, to_z-of_z))

pub returns-then-same_side-2 : goal.returns-then-same_side-2
returns-then-same_side-2 c = apart_on_other_side c.args.p c.args.q c.args.r c.args.s (grind (arith, to_z-of_z))

pub relation_of_meeting-requires-clause-meets : goal.relation_of_meeting-requires-clause-meets
relation_of_meeting-requires-clause-meets c = meets c.args.p c.args.q c.args.r c.args.s (λ h. omega (arith, ints, h.0, h.1, c.else-to_r-eq0.either)) (grind (arith, to_z-of_z)) (grind (arith, to_z-of_z))

pub relation_of_meeting-requires-clause-first_end : goal.relation_of_meeting-requires-clause-first_end
relation_of_meeting-requires-clause-first_end c = grind (arith, to_z-of_z)

pub relation_of_meeting-requires-clause-second_end : goal.relation_of_meeting-requires-clause-second_end
relation_of_meeting-requires-clause-second_end c = grind (arith, to_z-of_z)
