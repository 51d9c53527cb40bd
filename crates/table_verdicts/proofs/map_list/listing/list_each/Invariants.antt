use Rattle.std.proofs.Common.{◌≡◌, string_bytes, take}
use Rattle.wad_dir.specs.Wad.{file_of}
use Rattle.table_verdicts.specs.MapList.Entry.{entries_of}
use Rattle.table_verdicts.specs.MapList.Lines.{lines_of_maps}
use Rattle.table_verdicts.proofs.map_list.listing.list_each.Given as goal

abbrev pub invariant-loop-name : goal.invariant-loop-name
invariant-loop-name g l = record {
  entries : l.entries.items ≡ entries_of (file_of l.bytes l.wad) l.large (take l.name-index l.names);
  report : string_bytes l.report ≡ lines_of_maps l.spelling (entries_of (file_of l.bytes l.wad) l.large (take l.name-index l.names));
}
