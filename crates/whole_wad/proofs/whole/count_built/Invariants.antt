use Rattle.std.proofs.Common.{◌≡◌, ◌≤◌, length, take}
use Rattle.whole_wad.specs.Outcomes.{tables_of}
use Rattle.whole_wad.proofs.whole.count_built.Given as goal

abbrev pub invariant-loop-outcome : goal.invariant-loop-outcome
invariant-loop-outcome l = record {
  built : l.count ≡ length (tables_of (take l.outcome-index l.outcomes));
  few : l.count ≤ l.outcome-index;
}
