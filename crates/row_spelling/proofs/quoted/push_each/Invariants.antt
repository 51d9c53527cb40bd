use Rattle.std.proofs.Common.{◌≡◌, ◌++◌, string_bytes, take}
use Rattle.std.specs.List.{flat_map}
use Rattle.row_spelling.specs.Quoted.{escaped_code}
use Rattle.row_spelling.proofs.quoted.push_each.Given as goal

abbrev pub invariant-loop-c : goal.invariant-loop-c
invariant-loop-c l = string_bytes l.line ≡ string_bytes l.fn.line ++ flat_map escaped_code (take l.c-index l.text)
