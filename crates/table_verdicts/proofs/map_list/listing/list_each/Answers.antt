use Rattle.std.proofs.Common.{◌++◌, ℕ, List, ap, ◌∙◌, string_bytes}
use Rattle.wad_dir.specs.Wad.{file_of}
use Rattle.table_verdicts.proofs.MapList.Listing.{entries_more, lines_more}
use Rattle.table_verdicts.specs.MapList.Entry.{entry_named}
use Rattle.table_verdicts.specs.MapList.Lines.{entry_row}
use Rattle.table_verdicts.proofs.map_list.listing.list_each.Goals as goal

pub loop-name-preserved : goal.loop-name-preserved
loop-name-preserved g c =
    let named = entry_named (file_of c.args.bytes.now c.args.wad.now) c.args.large in
    let written = c.in_ok-push_str.ensures.bytes ∙ ap (λ (xs : List ℕ). string_bytes c.loop-name.report ++ xs) c.deref-in-loop-name.ensures in
    record {
      entries = entries_more named c.args.names.now c.loop-name.name-index _ c.loop-name-test.true c.loop-name.entries.items c.push.new.self.items c.in_ok-entry.entry c.loop-name.invariant.entries c.in_ok-entry.ensures.is c.in_ok-push.ensures.items;
      report = lines_more named c.args.names.now c.loop-name.name-index _ c.loop-name-test.true (entry_row c.args.spelling) (string_bytes c.loop-name.report) (string_bytes c.in_ok-row.row) (string_bytes c.push_str.new.self) c.in_ok-entry.entry c.loop-name.invariant.report c.in_ok-entry.ensures.is c.in_ok-row.ensures written;
    }
