use Rattle.std.proofs.Common.{◌≡◌, ◌≤◌, take}
use Rattle.table_verdicts.specs.Tallies.{count_of, is_refused, is_right, is_short, is_wrong}
use Rattle.table_verdicts.proofs.tally.tally_up.Given as goal

abbrev pub invariant-loop-verdict : goal.invariant-loop-verdict
invariant-loop-verdict l = record {
  right : l.right ≡ count_of is_right (take l.verdict-index l.verdicts);
  wrong : l.wrong ≡ count_of is_wrong (take l.verdict-index l.verdicts);
  short : l.short ≡ count_of is_short (take l.verdict-index l.verdicts);
  refused : l.refused ≡ count_of is_refused (take l.verdict-index l.verdicts);
  few_right : l.right ≤ l.verdict-index;
  few_wrong : l.wrong ≤ l.verdict-index;
  few_short : l.short ≤ l.verdict-index;
  few_refused : l.refused ≤ l.verdict-index;
}
