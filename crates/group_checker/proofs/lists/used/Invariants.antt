use Rattle.std.proofs.Common.{◌≡◌, ◌<◌, ◌↔◌, ℕ, length}
use Rattle.cert_checker.specs.TreeJudge.Marks.{IsFlagSet}
use Rattle.group_checker.specs.Lists.{IsUsedBelow}
use Rattle.group_checker.proofs.lists.used.Given as goal

abbrev pub invariant-loop-label : goal.invariant-loop-label
invariant-loop-label l = record {
  len : length l.marks.items ≡ l.count;
  marks : (f : ℕ) → f < l.count → IsFlagSet l.marks.items f ↔ IsUsedBelow l.label-index l.labels f;
}
