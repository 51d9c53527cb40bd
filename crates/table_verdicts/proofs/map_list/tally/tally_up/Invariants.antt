use Rattle.std.proofs.Common.{◌≡◌, ◌≤◌, take}
use Rattle.table_verdicts.specs.MapList.Totals.{count_of_entries, is_entry_refused, is_entry_short, is_whole}
use Rattle.table_verdicts.proofs.map_list.tally.tally_up.Given as goal

abbrev pub invariant-loop-entry : goal.invariant-loop-entry
invariant-loop-entry l = record {
  whole : l.whole ≡ count_of_entries is_whole (take l.entry-index l.entries);
  short : l.short ≡ count_of_entries is_entry_short (take l.entry-index l.entries);
  refused : l.refused ≡ count_of_entries is_entry_refused (take l.entry-index l.entries);
  few_whole : l.whole ≤ l.entry-index;
  few_short : l.short ≤ l.entry-index;
  few_refused : l.refused ≤ l.entry-index;
}
