use Rattle.std.proofs.Common.{◌≡◌, ◌≤◌, ◌-◌}
use Rattle.any_judge.specs.ExactJudge.Trees.{Begun, many_begun, HasHeardRowTrees}
use Rattle.any_judge.proofs.exact_judge.trees.RowTrees.begin_to.Given as goal

abbrev pub invariant-loop : goal.invariant-loop
invariant-loop l = record {
  from : l.fn.self.begun ≤ l.counter;
  to : l.counter - l.fn.self.begun ≤ l.count - l.fn.self.begun;
  ground : l.self.ground ≡ l.fn.self.ground;
  heard : (b : Begun) → HasHeardRowTrees b l.fn.self → HasHeardRowTrees (many_begun (l.counter - l.fn.self.begun) b) l.self;
}
