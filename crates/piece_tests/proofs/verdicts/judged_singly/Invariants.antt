use Rattle.std.proofs.Common.{◌≡◌, ℕ, List, length}
use Rattle.any_judge.specs.Judge.{HasBeenFed}
use Rattle.piece_tests.proofs.verdicts.judged_singly.Given as goal

-- the judge was fed as many bytes as there were
abbrev pub invariant-loop-k : goal.invariant-loop-k
invariant-loop-k l = record {
  bytes : List ℕ;
  fed : HasBeenFed l.plan l.table bytes l.judge;
  count : length bytes ≡ l.k;
}
