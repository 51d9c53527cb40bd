use Rattle.std.proofs.Common.{◌∙◌}
use Rattle.row_trees.proofs.Doors.{none_noted, has_left, has_right, opened_first, same_point, other_point}
use Rattle.row_trees.proofs.path.Path.pass.Goals as goal

pub begin-requires-clause-first : goal.begin-requires-clause-first
begin-requires-clause-first c = none_noted c.self.inside.track.portals.items (c.self.view_is ∙ c.in-None.ensures)

pub returns-in_ok-begin-in-None : goal.returns-in_ok-begin-in-None
returns-in_ok-begin-in-None c = opened_first c.args.self.now _ (record { left = c.args.left; right = c.args.right }) c.in-None.ensures c.requires.proper c.in_ok-begin-in-None.ensures.ends

pub by_new_right-requires-clause-last : goal.by_new_right-requires-clause-last
by_new_right-requires-clause-last c = has_left c.args.self.now c.in-Some.last c.args.left c.in-Some.ensures (same_point c.in-Some.last c.args.left c.if-eq.ensures)

pub by_new_left-requires-clause-last : goal.by_new_left-requires-clause-last
by_new_left-requires-clause-last c = has_right c.args.self.now c.in-Some.last c.args.left c.args.right c.in-Some.ensures (other_point c.in-Some.last c.args.left c.if-eq.ensures) c.requires.joins
