-- Boards, and the seats and hands of their workers, as contracts see them.
use Rattle.std.specs.Prelude.{◌≡◌, ℕ, Bool, false, List}
use Rattle.sight_workers.specs.declared.board.Board.{Board}
use Rattle.sight_workers.specs.declared.desk.BoardSeat.{BoardSeat}
use Rattle.sight_workers.specs.declared.desk.Desk.{Desk}
use Rattle.sight_workers.specs.declared.hand.Hand.{Hand}
use Rattle.sight_workers.specs.declared.job.Job.{Job}
use Rattle.sight_workers.specs.declared.view.Task.{Task}
use Rattle.sight_workers.specs.declared.view.View.{View}
use Rattle.sight_workers.specs.Desks.{IsSeatOfDesk, job_of_desk, task_of_desk, sectors_of_desk}
use Rattle.sight_workers.specs.Given.{AreNew}
use Rattle.sight_workers.specs.Teams.{AreFresh, AreHandsDone}

abbrev pub job_of_board : Board → Job
job_of_board b = job_of_desk b.desk

abbrev pub task_of_board : Board → Task
task_of_board b = task_of_desk b.desk

abbrev pub sectors_of_board : Board → ℕ
sectors_of_board b = sectors_of_desk b.desk

abbrev pub workers_of_board : Board → ℕ
workers_of_board b = b.desk.workers

-- the seats of its workers were given
abbrev pub has_given : Board → Bool
has_given b = b.given

-- what the board's own seat knows
abbrev pub keeper_view : Board → View
keeper_view b = b.keeper.me.0

-- it is made for this job and so many workers, and their seats are still to be given
abbrev pub IsNewBoard : Job → ℕ → Board → Type 0
IsNewBoard j workers b = (b.desk.table.shared.key ≡ record { job = j; workers = workers }) × (has_given b ≡ false) × (sectors_of_board b ≡ j.plan.now.sectors) × (workers_of_board b ≡ workers)

-- the same table, sectors and workers
abbrev pub IsSameBoard : Board → Board → Type 0
IsSameBoard old new = new.desk ≡ old.desk

-- the seat is one of the board's
abbrev pub IsSeatOfBoard : Board → BoardSeat → Type 0
IsSeatOfBoard b s = IsSeatOfDesk b.desk s

abbrev pub AreNewOfBoard : Board → ℕ → List BoardSeat → Type 0
AreNewOfBoard b workers seats = AreNew b.desk.table.shared.table_id (task_of_board b) workers seats

-- ---- hands

abbrev pub AreFreshOfDesk : Desk → ℕ → List Hand → Type 0
AreFreshOfDesk d workers hands = AreFresh d.table.shared.table_id (task_of_desk d) workers hands

abbrev pub AreDoneOfDesk : Desk → List ℕ → ℕ → List Hand → Type 0
AreDoneOfDesk d components workers hands = AreHandsDone d.table.shared.table_id (task_of_desk d) components workers hands

abbrev pub AreFreshOfBoard : Board → ℕ → List Hand → Type 0
AreFreshOfBoard b workers hands = AreFreshOfDesk b.desk workers hands

abbrev pub AreDoneOfBoard : Board → List ℕ → ℕ → List Hand → Type 0
AreDoneOfBoard b components workers hands = AreDoneOfDesk b.desk components workers hands
