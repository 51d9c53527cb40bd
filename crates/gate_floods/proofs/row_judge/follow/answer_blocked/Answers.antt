use Rattle.std.proofs.Common.{refl, sym}
use Rattle.gate_floods.proofs.RowJudge.Following.{blocked, refused_ends}
use Rattle.gate_floods.specs.RowJudge.Masks.{rows_of}
use Rattle.gate_floods.proofs.row_judge.follow.answer_blocked.Goals as goal

pub returns-then-not-is_blocked-clause-refused : goal.returns-then-not-is_blocked-clause-refused
returns-then-not-is_blocked-clause-refused c = λ source first _ _.
    refused_ends c.args.terrain.now.edges.now (rows_of c.args.masks.now) source first c.args.terrain.now.roots.now.roots.items c.args.path.now c.args.rows.now c.args.waits.now.items c.args.follow.now c.put.new.path c.in-Some.place c.in-Some-get.edge.now c.args.evidence c.in-Some.is (sym c.in-Some-get.ensures) (c.if-not-put.ensures.put refl) c.if-not-is_blocked.ensures

pub returns-clause-answered : goal.returns-clause-answered
returns-clause-answered c = λ source first _.
    blocked c.args.terrain.now.edges.now (rows_of c.args.masks.now) source first c.args.terrain.now.roots.now.roots.items c.args.path.now c.args.rows.now c.args.waits.now.items c.args.follow.now c.put.new.path c.next_asked-follow.new.waits.items c.in-Some.place c.next_asked-follow.new.follow c.next_asked-follow.result c.in-Some-get.edge.now c.args.evidence c.in-Some.is (sym c.in-Some-get.ensures) (c.if-not-put.ensures.put refl) (c.if-not-is_blocked.ensures.0 refl) (c.next_asked-follow.ensures first c.put.new.path)
