use Rattle.map_audit.proofs.AuditLemmas.{lines_before, lines_after, lines_below, lines_above, lines_related, ends_differ, ends_read}
use Rattle.map_audit.proofs.relation.Goals as goal

pub returns-then-is_before : goal.returns-then-is_before
returns-then-is_before c = lines_before c.args.plan.now c.points-points.ensures.plan c.args.one c.args.other c.requires.one c.requires.other (c.is_before.ensures.0 c.if-is_before.true)

pub returns-then-is_before-2 : goal.returns-then-is_before-2
returns-then-is_before-2 c = lines_after c.args.plan.now c.points-points.ensures.plan c.args.one c.args.other c.requires.one c.requires.other (c.is_before-2.ensures.0 c.if-is_before-2.true)

pub returns-then-is_below : goal.returns-then-is_below
returns-then-is_below c =
    let one = ends_read c.points-points.result.now c.args.plan.now.points c.points-points.ensures.list c.args.plan.now.sectors c.args.one c.requires.one c.index-points-one.result c.index-points-one-2.result c.index-points-one.is c.index-points-one-2.is in
    let other = ends_read c.points-points.result.now c.args.plan.now.points c.points-points.ensures.list c.args.plan.now.sectors c.args.other c.requires.other c.index-points-other.result c.index-points-other-2.result c.index-points-other.is c.index-points-other-2.is in
    lines_below c.args.plan.now.points c.args.one c.args.other c.index-points-one.result c.index-points-one-2.result c.index-points-other.result c.index-points-other-2.result one other (c.is_below.ensures c.if-is_below.true)

pub returns-then-is_below-2 : goal.returns-then-is_below-2
returns-then-is_below-2 c =
    let one = ends_read c.points-points.result.now c.args.plan.now.points c.points-points.ensures.list c.args.plan.now.sectors c.args.one c.requires.one c.index-points-one.result c.index-points-one-2.result c.index-points-one.is c.index-points-one-2.is in
    let other = ends_read c.points-points.result.now c.args.plan.now.points c.points-points.ensures.list c.args.plan.now.sectors c.args.other c.requires.other c.index-points-other.result c.index-points-other-2.result c.index-points-other.is c.index-points-other-2.is in
    lines_above c.args.plan.now.points c.args.one c.args.other c.index-points-one.result c.index-points-one-2.result c.index-points-other.result c.index-points-other-2.result one other (c.is_below-2.ensures c.if-is_below-2.true)

pub seg_relation-requires-clause-first : goal.seg_relation-requires-clause-first
seg_relation-requires-clause-first c =
    ends_differ c.args.plan.now c.points-points.ensures.plan c.args.one c.requires.one c.index-points-one.result c.index-points-one-2.result
    (ends_read c.points-points.result.now c.args.plan.now.points c.points-points.ensures.list c.args.plan.now.sectors c.args.one c.requires.one c.index-points-one.result c.index-points-one-2.result c.index-points-one.is c.index-points-one-2.is)

pub seg_relation-requires-clause-second : goal.seg_relation-requires-clause-second
seg_relation-requires-clause-second c =
    ends_differ c.args.plan.now c.points-points.ensures.plan c.args.other c.requires.other c.index-points-other.result c.index-points-other-2.result
    (ends_read c.points-points.result.now c.args.plan.now.points c.points-points.ensures.list c.args.plan.now.sectors c.args.other c.requires.other c.index-points-other.result c.index-points-other-2.result c.index-points-other.is c.index-points-other-2.is)

pub returns : goal.returns
returns c =
    let one = ends_read c.points-points.result.now c.args.plan.now.points c.points-points.ensures.list c.args.plan.now.sectors c.args.one c.requires.one c.index-points-one.result c.index-points-one-2.result c.index-points-one.is c.index-points-one-2.is in
    let other = ends_read c.points-points.result.now c.args.plan.now.points c.points-points.ensures.list c.args.plan.now.sectors c.args.other c.requires.other c.index-points-other.result c.index-points-other-2.result c.index-points-other.is c.index-points-other-2.is in
    lines_related c.args.plan.now.points c.args.one c.args.other c.index-points-one.result c.index-points-one-2.result c.index-points-other.result c.index-points-other-2.result one other c.seg_relation.result c.seg_relation.ensures
