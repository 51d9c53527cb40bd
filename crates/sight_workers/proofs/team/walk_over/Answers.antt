use Rattle.std.proofs.Common.{ℕ, ◌≡◌, ◌++◌, List, length, take, drop, sym, ap, ◌∙◌, subst}
use Rattle.std.proofs.Math.Seq.{take-append_seam}
use Rattle.sight_workers.specs.declared.desk.Desk.{Desk}
use Rattle.sight_workers.specs.declared.hand.Hand.{Hand}
use Rattle.sight_workers.specs.declared.job.Terms.{Terms}
use Rattle.sight_workers.specs.declared.view.Task.{Task}
use Rattle.sight_workers.specs.Board.{task_of, task_for}
use Rattle.sight_workers.specs.Boards.{AreDoneOfBoard, AreDoneOfDesk, workers_of_board}
use Rattle.sight_workers.specs.Hands.{IsAllWorked}
use Rattle.sight_workers.proofs.Claimants.{all_named}
use Rattle.sight_workers.proofs.Hands.{is_whole}
use Rattle.sight_workers.proofs.team.walk_over.Goals as goal

pub returns-clause-whole : goal.returns-clause-whole
returns-clause-whole g c =
    let made = c.in_ok-board.ensures in
    let desk = c.in_ok-pool.ensures.board ∙ c.in_ok-hands.ensures.board in
    let key = ap (λ (d : Desk). d.table.shared.key) desk ∙ made.0 in
    let sectors = ap (λ (d : Desk). d.sectors) desk ∙ made.2 in
    let v = c.gather.new.board.keeper.me.0 in
    let task = c.gather.new.board.kept.0.1 ∙ ap task_of key in
    let n = c.args.job.plan.now.sectors in
    is_whole n c.args.components.now (task_for c.args.job c.args.workers) v c.in_ok-pool.pool.items (ap (λ (t : Task). t.plan.sectors) task)
    (subst (λ (m : ℕ). IsAllWorked m c.args.components.now (task_for c.args.job c.args.workers) v c.in_ok-pool.pool.items) sectors
    (subst (λ (k : Terms). IsAllWorked c.gather.new.board.desk.sectors c.args.components.now (task_of k) v c.in_ok-pool.pool.items) key c.in_ok-pool.ensures.ok.1))
    c.close.ensures

pub returns-clause-claimants : goal.returns-clause-claimants
returns-clause-claimants g c =
    let made = c.in_ok-board.ensures in
    let desk = c.in_ok-pool.ensures.board ∙ c.in_ok-hands.ensures.board in
    let key = ap (λ (d : Desk). d.table.shared.key) desk ∙ made.0 in
    let sectors = ap (λ (d : Desk). d.sectors) desk ∙ made.2 in
    all_named (task_for c.args.job c.args.workers) c.gather.new.board.desk.sectors c.gather.new.board.keeper.me.0 c.gather.new.claimed_by (c.gather.new.board.kept.0.1 ∙ ap task_of key) sectors
    c.in_ok-pool.ensures.ok.0 c.close.ensures c.in_ok-pool.ensures.claimants

-- what the workers wrote through the slice is the list
pub gather-requires-clause-done : goal.gather-requires-clause-done
gather-requires-clause-done g c =
    let new = c.set_to_work.new.hands in
    let held = new ++ drop (length new) c.in_ok-hands.hands.items in
    let back : take c.in_ok-hands.hands.len held ≡ new = subst (λ (k : ℕ). take k held ≡ new) (c.set_to_work.auto.hands ∙ c.as_mut_slice.ensures.len) (take-append_seam new _) in
    let workers : length c.as_mut_slice.result.now ≡ workers_of_board c.hands_of.new.board = ap (λ (hs : List Hand). length hs) c.as_mut_slice.ensures.value ∙ c.in_ok-hands.ensures.ok.0.0 in
    let done : AreDoneOfBoard c.hands_of.new.board c.args.components.now (workers_of_board c.hands_of.new.board) new = subst (λ (k : ℕ). AreDoneOfDesk c.hands_of.new.board.desk c.args.components.now k new) workers c.set_to_work.ensures.done in
    subst (λ (hs : List Hand). AreDoneOfBoard c.hands_of.new.board c.args.components.now (workers_of_board c.hands_of.new.board) hs) (sym back) done
