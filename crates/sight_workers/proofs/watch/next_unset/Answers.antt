use Rattle.std.proofs.Common.{◌∙◌}
use Rattle.sight_workers.proofs.Watches.{look_only_then, seen_more, seen_then}
use Rattle.sight_workers.proofs.watch.next_unset.Goals as goal

pub loop-b-preserved : goal.loop-b-preserved
loop-b-preserved c =
    let before = c.loop-b.invariant in
    let step = c.look_if_mate.ensures.seat in record {
      seat = step.0;
      only = look_only_then _ _ _ before.only step.1;
      worker = step.2 ∙ before.worker;
      seen = seen_more c.args.desk.now.sectors c.args.components.now c.args.a c.loop-b.b c.look_if_mate.result _ _ step.1 before.seen c.look_if_mate.ensures.turn c.if-not-look_if_mate.false;
    }

pub returns-then-not-look_if_mate-clause-seat : goal.returns-then-not-look_if_mate-clause-seat
returns-then-not-look_if_mate-clause-seat c = let before = c.loop-b.invariant in let step = c.look_if_mate.ensures.seat in (step.0, look_only_then _ _ _ before.only step.1, step.2 ∙ before.worker)

pub returns-then-not-look_if_mate-clause-seen : goal.returns-then-not-look_if_mate-clause-seen
returns-then-not-look_if_mate-clause-seen c = seen_then c.args.components.now c.args.a c.loop-b.b _ _ c.look_if_mate.ensures.seat.1 c.loop-b.invariant.seen
