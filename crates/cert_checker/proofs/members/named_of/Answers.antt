use Rattle.std.proofs.Common.{◌≡◌, ◌≤◌, length, ap, ◌∙◌, arith}
use Rattle.cert_checker.proofs.TreeJudge.Noting.{stored}
use Rattle.cert_checker.proofs.Sides.{marks_step, marks_all}
use Rattle.cert_checker.proofs.members.named_of.Goals as goal

pub loop-entry-preserved : goal.loop-entry-preserved
loop-entry-preserved c = rw (stored c.mark_sides.new.flags _ c.loop-entry.named.len (c.mark_sides.ensures.len ∙ c.deref_mut.ensures.len)) (marks_step c.args.plan.now c.loop-entry.entry-index c.lines-entry-items.result.now c.loop-entry.named.items c.deref_mut.result.now _ c.lines-entry-items.ensures.list c.loop-entry-test.true c.loop-entry.invariant c.deref_mut.ensures.value c.mark_sides.ensures)

pub returns : goal.returns
returns c = marks_all c.args.plan.now c.loop-entry.entry-index c.loop-entry.named.items (past (ap length c.lines-entry-items.ensures.list)) c.loop-entry.invariant
  where
    past : length c.lines-entry-items.result.now ≡ length c.args.plan.now.lines → length c.args.plan.now.lines ≤ c.loop-entry.entry-index
    past e = omega arith
