use Rattle.std.proofs.Common.{rules, IsTrue, inl, sym, ap, ◌∙◌, subst}
use Rattle.sight_workers.specs.declared.desk.Desk.{Desk}
use Rattle.sight_workers.specs.declared.job.Terms.{Terms}
use Rattle.sight_workers.specs.Board.{task_of, IsFindable}
use Rattle.walk_tests.proofs.boards.is_mark_seen.Goals as goal

pub is_seen-requires-clause-findable : goal.is_seen-requires-clause-findable
is_seen-requires-clause-findable c =
    let key = ap (λ (d : Desk). d.table.shared.key) c.two_seats.ensures.board ∙ c.in_ok-board.ensures.0 in
    let yes : IsTrue c.in_ok-finds_one.field-0 = search rules in
    subst (λ (k : Terms). IsFindable (task_of k) (0, 1)) (sym key) (inl (record { found = c.in_ok-finds_one.ensures yes }))
