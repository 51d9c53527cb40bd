use Rattle.map_audit.proofs.AuditLemmas.{ends_differ, ends_read, lines_related}
use Rattle.map_faults.proofs.clashes.relation_of.Goals as goal

pub seg_relation-requires-clause-first : goal.seg_relation-requires-clause-first
seg_relation-requires-clause-first c =
    ends_differ c.args.plan.now c.points-points.ensures.plan c.args.one c.requires.one c.index-points-one.result c.index-points-one-2.result
    (ends_read c.points-points.result.now c.args.plan.now.points c.points-points.ensures.list c.args.plan.now.sectors c.args.one c.requires.one c.index-points-one.result c.index-points-one-2.result c.index-points-one.is c.index-points-one-2.is)

pub seg_relation-requires-clause-second : goal.seg_relation-requires-clause-second
seg_relation-requires-clause-second c =
    ends_differ c.args.plan.now c.points-points.ensures.plan c.args.other c.requires.other c.index-points-other.result c.index-points-other-2.result
    (ends_read c.points-points.result.now c.args.plan.now.points c.points-points.ensures.list c.args.plan.now.sectors c.args.other c.requires.other c.index-points-other.result c.index-points-other-2.result c.index-points-other.is c.index-points-other-2.is)

pub returns : goal.returns
returns c =
    let one = ends_read c.points-points.result.now c.args.plan.now.points c.points-points.ensures.list c.args.plan.now.sectors c.args.one c.requires.one c.index-points-one.result c.index-points-one-2.result c.index-points-one.is c.index-points-one-2.is in
    let other = ends_read c.points-points.result.now c.args.plan.now.points c.points-points.ensures.list c.args.plan.now.sectors c.args.other c.requires.other c.index-points-other.result c.index-points-other-2.result c.index-points-other.is c.index-points-other-2.is in
    lines_related c.args.plan.now.points c.args.one c.args.other c.index-points-one.result c.index-points-one-2.result c.index-points-other.result c.index-points-other-2.result one other c.seg_relation.result c.seg_relation.ensures
