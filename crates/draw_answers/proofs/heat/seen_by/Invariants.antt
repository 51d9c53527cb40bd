use Rattle.std.proofs.Common.{◌≡◌, take}
use Rattle.draw_answers.specs.Heat.{seen_by}
use Rattle.draw_answers.proofs.heat.seen_by.Given as goal

abbrev pub invariant-loop-group : goal.invariant-loop-group
invariant-loop-group l = l.counts.items ≡ seen_by l.table (take l.group-index l.groups)
