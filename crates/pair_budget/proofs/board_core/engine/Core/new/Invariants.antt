use Rattle.std.proofs.Common.{◌≡◌, replicate}
use Rattle.pair_budget.specs.BoardCore.Machine.{idle}
use Rattle.pair_budget.proofs.board_core.engine.Core.new.Given as goal

abbrev pub invariant-loop : goal.invariant-loop
invariant-loop l = l.logs.items ≡ replicate l.counter idle
