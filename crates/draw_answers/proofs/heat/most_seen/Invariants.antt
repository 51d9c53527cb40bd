use Rattle.std.proofs.Common.{◌≡◌, drop, max}
use Rattle.draw_answers.specs.Heat.{most_seen}
use Rattle.draw_answers.proofs.heat.most_seen.Given as goal

abbrev pub invariant-loop-a : goal.invariant-loop-a
invariant-loop-a l = max l.most (most_seen l.table (drop l.a-index l.names)) ≡ most_seen l.table l.names
