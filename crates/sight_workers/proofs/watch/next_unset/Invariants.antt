use Rattle.std.proofs.Common.{◌≡◌}
use Rattle.sight_workers.specs.Board.{task_of}
use Rattle.sight_workers.specs.Seats.{IsSeatOf}
use Rattle.sight_workers.specs.Watches.{AreSeenBelow, IsLookOnly}
use Rattle.sight_workers.proofs.watch.next_unset.Given as goal

abbrev pub invariant-loop-b : goal.invariant-loop-b
invariant-loop-b l = record {
  seat : IsSeatOf l.desk.table.shared.table_id (task_of l.desk.table.shared.key) l.seat.seat;
  only : IsLookOnly l.initial.seat.seat.me.0 l.seat.seat.me.0;
  worker : l.seat.worker ≡ l.initial.seat.worker;
  seen : AreSeenBelow l.components l.a l.b l.seat.seat.me.0.seen;
}
