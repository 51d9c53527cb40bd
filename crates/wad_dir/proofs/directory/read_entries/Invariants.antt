use Rattle.std.proofs.Common.{◌≡◌, vec_len, map}
use Rattle.wad_dir.specs.Wad.{entry_of, slots_at}
use Rattle.wad_dir.proofs.directory.read_entries.Given as goal

abbrev pub invariant-loop-i : goal.invariant-loop-i
invariant-loop-i l = record { items : l.entries.items ≡ map entry_of (slots_at l.bytes l.at l.i); len : vec_len l.entries ≡ l.i }
