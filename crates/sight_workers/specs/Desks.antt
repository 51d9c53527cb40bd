-- Seats and desks as contracts see them.
use Rattle.std.specs.Prelude.{ℕ}
use Rattle.sight_workers.specs.declared.desk.BoardSeat.{BoardSeat}
use Rattle.sight_workers.specs.declared.desk.Desk.{Desk}
use Rattle.sight_workers.specs.declared.job.Job.{Job}
use Rattle.sight_workers.specs.declared.view.Task.{Task}
use Rattle.sight_workers.specs.declared.view.View.{View}
use Rattle.sight_workers.specs.Board.{task_of}
use Rattle.sight_workers.specs.Seats.{IsSeatOf}

-- ---- a seat

-- what the seat knows
abbrev pub view_of_seat : BoardSeat → View
view_of_seat s = s.seat.me.0

-- the number of its worker
abbrev pub worker_of_seat : BoardSeat → ℕ
worker_of_seat s = s.worker

-- the place of its view among those of all seats
abbrev pub place_of_seat : BoardSeat → ℕ
place_of_seat s = s.seat.id

-- ---- a desk

abbrev pub job_of_desk : Desk → Job
job_of_desk d = d.table.shared.key.job

-- the job as plain data, with the number of workers
abbrev pub task_of_desk : Desk → Task
task_of_desk d = task_of d.table.shared.key

abbrev pub sectors_of_desk : Desk → ℕ
sectors_of_desk d = d.sectors

-- the seat is one of the desk's
abbrev pub IsSeatOfDesk : Desk → BoardSeat → Type 0
IsSeatOfDesk d s = IsSeatOf d.table.shared.table_id (task_of_desk d) s.seat
