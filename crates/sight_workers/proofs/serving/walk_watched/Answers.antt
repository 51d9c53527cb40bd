use Rattle.std.proofs.Common.{◌≡◌, ℕ, ◌<◌, subst, sym, ap, ◌∙◌}
use Rattle.std.specs.Prelude.{IfOk}
use Rattle.std.specs.List.{Contains}
use Rattle.pair_budget.specs.declared.results.SourceResult.{SourceResult}
use Rattle.pair_budget.specs.Notes.{ordered, EntriesGrow}
use Rattle.sight_workers.specs.declared.desk.BoardSeat.{BoardSeat}
use Rattle.sight_workers.specs.declared.job.Job.{Job}
use Rattle.sight_workers.specs.declared.watch.Place.{Place}
use Rattle.sight_workers.specs.Board.{task_for}
use Rattle.sight_workers.specs.Walks.{IsMarkedBy, IsSourceWalked}
use Rattle.sight_workers.proofs.Walks.{told_pair, ok_weaker, ok_walked}
use Rattle.sight_workers.proofs.serving.walk_watched.Goals as goal
use Rattle.sight_workers.proofs.serving.walk_watched.Goals.{After-seat-1}

-- what the watch left behind its reference is what the seat is after it
same : (c : After-seat-1) → c.seat-1.given.0 ≡ c.walk_source_over-result.new.notice.seat.now
same c = c.seat-1.given.1 (sym (ap (λ (p : Place). p.name) c.walk_source_over-result.ensures.tag))

pub walk_source_over-result-requires-clause-hears : goal.walk_source_over-result-requires-clause-hears
walk_source_over-result-requires-clause-hears c = λ b other below f.
    let desk = c.args.desk.now in
    told_pair c.args.job.now desk.table.shared.key.workers c.args.seat.now.seat.me.0.task (c.requires.seat.1 ∙ ap (λ (j : Job). task_for j desk.table.shared.key.workers) (sym c.requires.job))
    c.args.source b (subst (λ (n : ℕ). c.args.source < n) (sym desk.terms.0 ∙ ap (λ (j : Job). j.plan.now.sectors) (sym c.requires.job)) c.requires.components.1) other below f

pub returns-clause-seen : goal.returns-clause-seen
returns-clause-seen c = subst (λ (s : BoardSeat). EntriesGrow c.args.seat.now.seat.me.0.seen s.seat.me.0.seen) (sym (same c)) c.walk_source_over-result.ensures.seen

pub returns-clause-looks : goal.returns-clause-looks
returns-clause-looks c = subst (λ (s : BoardSeat). EntriesGrow c.args.seat.now.seat.me.0.looks s.seat.me.0.looks) (sym (same c)) c.walk_source_over-result.ensures.looks

pub returns-clause-kept : goal.returns-clause-kept
returns-clause-kept c = subst (λ (s : BoardSeat). EntriesGrow c.args.seat.now.seat.me.0.marks s.seat.me.0.marks) (sym (same c)) c.walk_source_over-result.ensures.kept

pub returns-clause-marks : goal.returns-clause-marks
returns-clause-marks c =
    ok_weaker c.walk_source_over-result.result _ _ (λ (r : SourceResult) m. subst (λ (s : BoardSeat). IsMarkedBy c.args.source r.found c.args.seat.now.seat.me.0.marks s.seat.me.0.marks) (sym (same c)) (c.walk_source_over-result.ensures.kept, m)) c.walk_source_over-result.ensures.marks

pub returns-clause-all : goal.returns-clause-all
returns-clause-all c =
    ok_weaker c.walk_source_over-result.result _ _ (λ (r : SourceResult) h all b m. subst (λ (s : BoardSeat). Contains s.seat.me.0.seen (ordered c.args.source b)) (sym (same c)) (h all b m)) c.walk_source_over-result.ensures.mates

pub returns-clause-walked : goal.returns-clause-walked
returns-clause-walked c =
    let e = c.walk_source_over-result.ensures in
    subst (λ (j : Job). IfOk c.walk_source_over-result.result (IsSourceWalked (task_for j c.args.desk.now.table.shared.key.workers) c.args.source)) c.requires.job
    (ok_walked (task_for c.args.job.now c.args.desk.now.table.shared.key.workers) c.args.source c.walk_source_over-result.result e.source e.found e.outcome e.shown e.exact e.rays)
