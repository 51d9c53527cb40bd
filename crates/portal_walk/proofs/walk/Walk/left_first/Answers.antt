use Rattle.std.proofs.Common.{sym, ◌∙◌}
use Rattle.portal_walk.proofs.Steps.{left_tried, left_passed}
use Rattle.portal_walk.proofs.walk.Walk.left_first.Goals as goal

pub returns-in-Both-clause-tries : goal.returns-in-Both-clause-tries
returns-in-Both-clause-tries c = left_tried c.args.self.now c.args.top c.try_left.new.self c.try_left.result c.try_left.ensures.tries c.try_left.ensures.right

pub returns-in-RightOnly-clause-tries : goal.returns-in-RightOnly-clause-tries
returns-in-RightOnly-clause-tries c = left_passed c.args.self.now c.args.top c.requires.top c.requires.ready (λ e. let both = sym e ∙ c.in-RightOnly.is in absurd cc)

pub returns-in-Done-clause-tries : goal.returns-in-Done-clause-tries
returns-in-Done-clause-tries c = left_passed c.args.self.now c.args.top c.requires.top c.requires.ready (λ e. let both = sym e ∙ c.in-Done.is in absurd cc)
