-- How many maps there are of each kind.
use Rattle.std.specs.Prelude.{ℕ, Bool, true, false, is_some, is_none, List, length, ◌++◌, codes}
use Rattle.std.specs.Fmt.{decimal}
use Rattle.std.specs.List.{count_by}
use Rattle.table_verdicts.specs.declared.map_list.tally.ListTally.{ListTally}
use Rattle.table_verdicts.specs.declared.map_list.entry.Said.{Said}
use Rattle.table_verdicts.specs.declared.map_list.entry.Said.TheVariants as said
use Rattle.table_verdicts.specs.declared.map_list.entry.MapEntry.{MapEntry}

-- its REJECT has all bytes of a table
abbrev pub is_whole : Said → Bool
is_whole (said.Read sizes) = is_some sizes.set
is_whole other = false

-- .. has fewer
abbrev pub is_entry_short : Said → Bool
is_entry_short (said.Read sizes) = is_none sizes.set
is_entry_short other = false

abbrev pub is_entry_refused : Said → Bool
is_entry_refused (said.Refused refusal) = true
is_entry_refused other = false

abbrev pub count_of_entries : (Said → Bool) → List MapEntry → ℕ
count_of_entries test entries = count_by (λ (e : MapEntry). test e.said) entries

abbrev pub list_tally_of : List MapEntry → ListTally
list_tally_of entries = record {
  maps = length entries;
  whole = count_of_entries is_whole entries;
  short = count_of_entries is_entry_short entries;
  refused = count_of_entries is_entry_refused entries;
}

abbrev pub list_line : ListTally → List ℕ
list_line t = codes "maps " ++ decimal t.maps ++ codes " whole " ++ decimal t.whole ++ codes " short " ++ decimal t.short ++ codes " refused " ++ decimal t.refused ++ codes "\n"
