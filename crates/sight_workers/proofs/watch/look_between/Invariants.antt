use Rattle.std.proofs.Common.{◌≡◌}
use Rattle.sight_workers.specs.Board.{task_of}
use Rattle.sight_workers.specs.Seats.{IsSeatOf}
use Rattle.sight_workers.specs.Watches.{IsLookOnly, AreLooksDone}
use Rattle.sight_workers.proofs.watch.look_between.Given as goal

abbrev pub invariant-loop-b : goal.invariant-loop-b
invariant-loop-b l = record {
  seat : IsSeatOf l.desk.table.shared.table_id (task_of l.desk.table.shared.key) l.seat.seat;
  only : IsLookOnly l.initial.seat.seat.me.0 l.seat.seat.me.0;
  worker : l.seat.worker ≡ l.initial.seat.worker;
  round : AreLooksDone l.desk.sectors l.components l.a l.from l.b l.all l.initial.seat.seat.me.0 l.seat.seat.me.0;
}
