use Rattle.std.proofs.Common.{◌≡◌, ◌++◌, drop, string_bytes}
use Rattle.std.specs.List.{flat_map}
use Rattle.map_answers.specs.Trace.{plus_word}
use Rattle.map_answers.proofs.trace.push_others.Given as goal

abbrev pub invariant-loop-sector : goal.invariant-loop-sector
invariant-loop-sector l = string_bytes l.line ++ flat_map plus_word (drop l.sector-index l.sectors) ≡ string_bytes l.fn.line ++ flat_map plus_word l.sectors
